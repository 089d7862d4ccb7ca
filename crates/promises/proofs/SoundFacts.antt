-- What soundness says, in the terms of the invariant.
-- Assumes nothing.
use mathlib.Core.Path.{◌≡◌, refl, sym, ap, ◌∙◌}
use mathlib.Core.Bool.{Bool, true, false, not, ◌&&◌}
use Prim.Native.Nat.{ℕ, suc, ◌+◌, ◌-◌, ◌^◌, ◌≤◌, ◌<◌, min}
use mathlib.Core.List.{List, [], ◌∷◌, map}
use native.Mathlib.Omega.{arith}
use lib.ListN.{length, drop, length-take, length-drop, length-map}
use lib.Seq.{length-take-le}
use lib.Dec.{eqb, ltb}
use borrow.Author.Tests.{ltb-true, not-true}
use Rattle.promises.specs.declared.State.{State}
use Rattle.promises.specs.declared.Dirty.{Dirty}
use Rattle.promises.specs.Areas.{page_at}
use Rattle.promises.specs.Updates.{Update}
use Rattle.promises.specs.DirtyPages.{keep_from_of}
use Rattle.promises.specs.Contents.{unless, dirty_from, dirty_of, groups_of, grouped, queue_of, list_of, waiting, total}
use Rattle.promises.specs.Sums.{first_groups, smallest, dirty_count, held_slots, waiting_blocks, reserved_updates, owed_blocks}
use Rattle.promises.specs.Sound.{dirty_numbers, member, distinct, all_below, of_oldest, sound}
use Rattle.promises.proofs.Soundness.{Sound, sound-of}
use Rattle.promises.proofs.Changes.{held-is}
use Rattle.promises.proofs.Table.{look_up-none}
use Rattle.promises.proofs.History.WalkStart.{Distinct}
use Rattle.promises.proofs.History.Tally.{Pages}

pub and_left : {a : Bool} (b : Bool) → (a && b) ≡ true → a ≡ true
and_left {a = true} b e = refl
and_left {a = false} b e = cc

pub and_right : (a : Bool) {b : Bool} → (a && b) ≡ true → b ≡ true
and_right true e = e
and_right false e = cc

-- ---- the table of frames, and its lists
pub length-dirty : (frames : List ℕ) (f : ℕ) (ds : List Dirty) → length (dirty_from frames f ds) ≡ length (first_groups ds)
unfolding dirty_from first_groups
length-dirty frames f [] = refl
length-dirty frames f (d ∷ ds) = go (eqb d.first 0) (length-dirty frames (suc f) ds)
  where
    go : (b : Bool) → length (dirty_from frames (suc f) ds) ≡ length (first_groups ds)
        → length (unless b (record { page = d.page; first = d.first; bytes = page_at frames f }) (dirty_from frames (suc f) ds)) ≡ length (unless b d.first (first_groups ds))
    go true e = e
    go false e = ap suc e

pub keep_from-dirty : (n : ℕ) (frames : List ℕ) (f : ℕ) (ds : List Dirty) → keep_from_of n (dirty_from frames f ds) ≡ smallest n (first_groups ds)
unfolding dirty_from first_groups keep_from_of
keep_from-dirty n frames f [] = refl
keep_from-dirty n frames f (d ∷ ds) = go (eqb d.first 0) (keep_from-dirty n frames (suc f) ds)
  where
    go : (b : Bool) → keep_from_of n (dirty_from frames (suc f) ds) ≡ smallest n (first_groups ds)
        → keep_from_of n (unless b (record { page = d.page; first = d.first; bytes = page_at frames f }) (dirty_from frames (suc f) ds)) ≡ smallest n (unless b d.first (first_groups ds))
    go true e = e
    go false e = ap (min d.first) e

pub pages-dirty : (P : ℕ) (frames : List ℕ) (f : ℕ) (ds : List Dirty) → all_below P (dirty_numbers ds) ≡ true → Pages P (dirty_from frames f ds)
unfolding dirty_from dirty_numbers
pages-dirty P frames f [] h = tt
pages-dirty P frames f (d ∷ ds) h = go (pages-dirty P frames (suc f) ds) (eqb d.first 0) h
  where
    go : (all_below P (dirty_numbers ds) ≡ true → Pages P (dirty_from frames (suc f) ds)) → (b : Bool) → all_below P (unless b d.page (dirty_numbers ds)) ≡ true
        → Pages P (unless b (record { page = d.page; first = d.first; bytes = page_at frames f }) (dirty_from frames (suc f) ds))
    go ih true h = ih h
    go ih false h = (ltb-true _ _ (and_left (all_below P (dirty_numbers ds)) h), ih (and_right (ltb d.page P) h))

pub distinct-dirty : (frames : List ℕ) (f : ℕ) (ds : List Dirty) → distinct (dirty_numbers ds) ≡ true → Distinct (dirty_from frames f ds)
unfolding dirty_from dirty_numbers
distinct-dirty frames f [] h = tt
distinct-dirty frames f (d ∷ ds) h = go (distinct-dirty frames (suc f) ds) (eqb d.first 0) h
  where
    go : (distinct (dirty_numbers ds) ≡ true → Distinct (dirty_from frames (suc f) ds)) → (b : Bool) → distinct (unless b d.page (dirty_numbers ds)) ≡ true
        → Distinct (unless b (record { page = d.page; first = d.first; bytes = page_at frames f }) (dirty_from frames (suc f) ds))
    go ih true h = ih h
    go ih false h = (look_up-none d.page frames (suc f) ds (not-true _ (and_left (distinct (dirty_numbers ds)) h)), ih (and_right (not (member d.page (dirty_numbers ds))) h))

-- ---- the facts
pub record Facts (s : State) (frames : List ℕ) : Type 0 where
  pub distinct : Distinct (dirty_of s frames)
  pub pages : Pages s.pages (dirty_of s frames)
  pub ticket : s.ticket < s.next - s.stored
  pub queued : s.queued ≤ length s.groups
  pub staged : total (groups_of s) + s.described ≤ length s.staged
  pub half : of_oldest s.stored (groups_of s) ≡ true
  pub reserved : s.reserved ≤ 16
  pub described : s.described ≤ s.reserved
  pub slots : s.next - keep_from_of (s.next - s.stored) (dirty_of s frames) + waiting_blocks s + length (dirty_of s frames) + total (groups_of s) + reserved_updates s + owed_blocks s ≤ s.slots
  pub room : length (dirty_of s frames) + total (groups_of s) + reserved_updates s ≤ s.frames
  pub sequences : s.next + waiting_blocks s + owed_blocks s ≤ 2 ^ 48

pub facts : (s : State) (frames : List ℕ) → sound s ≡ true → Facts s frames
facts s frames h =
    let f : Sound s = sound-of s h in
    let hs : held_slots s ≡ s.next - keep_from_of (s.next - s.stored) (dirty_of s frames) = ap (λ (n : ℕ). s.next - n) (held-is s ∙ sym (keep_from-dirty (s.next - s.stored) frames 0 s.dirty)) in
    let ld : length (dirty_of s frames) ≡ dirty_count s = length-dirty frames 0 s.dirty in
    record {
      distinct = distinct-dirty frames 0 s.dirty f.distinct_pages;
      pages = pages-dirty s.pages frames 0 s.dirty f.pages_below;
      ticket = f.ticket;
      queued = f.queued;
      staged = f.staged;
      half = f.stored;
      reserved = f.reserved;
      described = f.described;
      slots = rw (ld, ← hs) f.slot_sum;
      room = rw ld f.frame_sum;
      sequences = f.sequence_sum;
    }

-- ---- the lists that a state says, by its counts
pub length-list : (s : State) (staging : List ℕ) → total (groups_of s) + s.described ≤ length s.staged → length (list_of s staging) ≡ s.described
length-list s staging h = simp (length-take, length-drop, length-map) (omega arith)

length-grouped : (ns : List ℕ) (us : List Update) → length (grouped ns us) ≡ length ns
unfolding grouped
length-grouped [] us = refl
length-grouped (n ∷ ns) us = ap suc (length-grouped ns (drop n us))

pub length-queue : (s : State) (staging : List ℕ) → s.queued ≤ length s.groups → length (queue_of s staging) ≡ s.queued
length-queue s staging h = length-grouped (groups_of s) (map (waiting staging) s.staged) ∙ length-take-le s.queued s.groups h
