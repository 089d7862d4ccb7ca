-- Log step's refusal, test by test, and what an accepted Log step leans on.
-- Assumes nothing.
use mathlib.Core.Path.{◌≡◌, ap, ◌∙◌, subst}
use mathlib.Core.Bool.{Bool, true, cond, ◌&&◌}
use mathlib.Core.List.{List, [], ◌∷◌}
use Prim.Native.Nat.{ℕ, zero, suc, ◌+◌, ◌-◌, ◌^◌, ◌≤◌, ◌<◌}
use native.Mathlib.Omega.{arith}
use lib.Dec.{eqb, leb, ltb}
use lib.ListN.{length, get_or}
use lib.Seq.{get_or-take, length-take-le}
use borrow.Author.Tests.{eqb-false, leb-true, ltb-true}
use Rattle.area.proofs.Laws.{and_both}
use Rattle.block.specs.Legal.{legal_place}
use Rattle.block.proofs.Tests.{tests}
use Rattle.promises.specs.declared.State.{State}
use Rattle.promises.specs.declared.Staged.{Staged}
use Rattle.promises.specs.Areas.{log_length, home_length, frames_length, staging_length, pages_in}
use Rattle.promises.specs.Contents.{groups_of, total}
use Rattle.promises.specs.Sums.{block_count, first_groups, group_start, smallest}
use Rattle.promises.specs.Sound.{sound, staged_of, areas_of, all_below, all_legal, sizes_legal, of_oldest}
use Rattle.promises.specs.LogStep.{areas_fit, log_refusal}
use Rattle.promises.proofs.Soundness.{Sound, sound-of}
use Rattle.promises.proofs.Changes.{pick-zero, pick_other, held-is, smallest-le}
use Rattle.soundness.specs.declared.sums.Sums.{Sums}
use Rattle.soundness.specs.Summed.{Summed}
use Rattle.promises.specs.States.{free}
use Rattle.table.proofs.Entries.{first_below}
use Rattle.queue.specs.Queue.{commit_done}
use Rattle.queue.proofs.Leaving.{groups-left}
use Rattle.logging.specs.Logging.{no_staged, size_of, staged_at, Placed, Lent, Ready}

module _ (s : State) (log home frames staging : ℕ) where
  abbrev lengths : Bool
  lengths = areas_fit s log home frames && eqb staging (staging_length s.frames)

  -- the three tests make the refusal
  pub by_tests : (a b c : Bool) → a ≡ sound s → b ≡ lengths → c ≡ eqb s.queued 0 → cond a (cond b (cond c 10 0) 1) 2 ≡ log_refusal s log home frames staging
  unfolding log_refusal
  by_tests a b c d e f =
      ap (λ (x : Bool). cond x (cond b (cond c 10 0) 1) 2) d
      ∙ ap (λ (x : Bool). cond (sound s) (cond x (cond c 10 0) 1) 2) e
      ∙ ap (λ (x : Bool). cond (sound s) (cond lengths (cond x 10 0) 1) 2) f

  -- the tests that an accepted call passed
  pub record Accepted : Type 0 where
    pub is_sound : sound s ≡ true
    pub fit : lengths ≡ true
    pub some : s.queued ≡ 0 → ⊥

  pub accepted : log_refusal s log home frames staging ≡ 0 → Accepted
  unfolding log_refusal
  accepted e =
      let a = pick-zero (sound s) _ 2 (omega arith) e in
      let b = pick-zero lengths _ 1 (omega arith) a.1 in
      let c = pick_other (eqb s.queued 0) 0 10 (omega arith) b.1 in
      record { is_sound = a.0; fit = b.0; some = eqb-false _ _ c.0 }

-- ---- one staged update of those that wait

legal-at : (pages : ℕ) (xs : List Staged) (i : ℕ) → i < length xs → all_legal pages xs ≡ true
    → legal_place pages (get_or xs i no_staged).page (get_or xs i no_staged).offset (get_or xs i no_staged).length ≡ true
legal-at pages [] i h e = absurd (omega arith)
legal-at pages (x ∷ xs) zero h e = (and_both (legal_place pages x.page x.offset x.length) (all_legal pages xs) e).0
legal-at pages (x ∷ xs) (suc i) h e = legal-at pages xs i (omega arith) (and_both (legal_place pages x.page x.offset x.length) (all_legal pages xs) e).1

area-at : (frames : ℕ) (xs : List Staged) (i : ℕ) → i < length xs → all_below frames (areas_of xs) ≡ true → (get_or xs i no_staged).area < frames
area-at frames [] i h e = absurd (omega arith)
area-at frames (x ∷ xs) zero h e = ltb-true _ _ (and_both (ltb x.area frames) (all_below frames (areas_of xs)) e).0
area-at frames (x ∷ xs) (suc i) h e = area-at frames xs i (omega arith) (and_both (ltb x.area frames) (all_below frames (areas_of xs)) e).1

placed_by : (pages frames : ℕ) (x : Staged) → legal_place pages x.page x.offset x.length ≡ true → x.area < frames → Placed pages frames x
placed_by pages frames x h a = let g = simp tests at h in record { page = omega arith; some = omega arith; length = omega arith; end = omega arith; area = a }

-- a sound state with a queued group
module _ (s : State) (f : Sound s) (some : 1 ≤ s.queued) where
  pub size-and-rest : groups_of s ≡ size_of s ∷ groups_of (commit_done s s.dirty (size_of s))
  size-and-rest = groups-left s s.dirty f some

  pub size-legal : (1 ≤ size_of s) × (size_of s ≤ 16)
  size-legal =
      let rest : List ℕ = groups_of (commit_done s s.dirty (size_of s)) in
      let a = and_both (leb 1 (size_of s) && leb (size_of s) 16) (sizes_legal rest) (subst (λ (ns : List ℕ). sizes_legal ns ≡ true) size-and-rest f.groups) in
      let b = and_both (leb 1 (size_of s)) (leb (size_of s) 16) a.0 in
      (leb-true _ _ b.0, leb-true _ _ b.1)

  pub half-legal : s.stored ≤ size_of s
  half-legal = leb-true _ _ (subst (λ (ns : List ℕ). of_oldest s.stored ns ≡ true) size-and-rest f.stored)

  placed_at : (i : ℕ) → i < size_of s → Placed s.pages s.frames (staged_at s i)
  placed_at i h =
      let n : ℕ = total (groups_of s) + s.described in
      let l : i < n = omega (arith, ap total size-and-rest) in
      let k : length (staged_of s) ≡ n = length-take-le n s.staged f.staged in
      let e : get_or (staged_of s) i no_staged ≡ staged_at s i = get_or-take n s.staged i no_staged l in
      subst (Placed s.pages s.frames) e
      (placed_by s.pages s.frames (get_or (staged_of s) i no_staged) (legal-at s.pages (staged_of s) i (omega arith) f.places)
      (area-at s.frames (staged_of s) i (omega arith) f.areas_below))

  -- the block's sequence is below 2^48: the group's commit is among those counted
  next-below : s.next < 2 ^ 48
  next-below = omega (arith, f.sequence_sum, ap block_count size-and-rest, half-legal)

  pub ready_by : (log home frames staging : ℕ) → log ≡ log_length s.slots → home ≡ home_length s.pages → frames ≡ frames_length s.frames
      → staging ≡ staging_length s.frames → Ready s log home frames staging
  ready_by log home frames staging a b c d = record {
    slots = (omega (arith, f.slots.0), f.slots.1);
    pages = f.pages.1;
    frame_count = f.frames.1;
    log_long = a;
    home_long = b;
    frames_long = c;
    staging_long = d;
    next = next-below;
    ticket = f.ticket;
    queued = some;
    size = size-legal.1;
    half = half-legal;
    firsts = λ i. let h : (get_or s.dirty i free).first < s.next = first_below s.next s.dirty i (omega (arith, f.ticket)) f.firsts_below in omega (arith, next-below);
    placed = placed_at;
  }

-- what an accepted call leans on
pub ready : (s : State) (log home frames staging : ℕ) → log_refusal s log home frames staging ≡ 0 → Ready s log home frames staging
ready s log home frames staging e =
    let a : Accepted s log home frames staging = accepted s log home frames staging e in
    let q : s.queued ≡ 0 → ⊥ = a.some in
    let g = simp tests at a.fit in
    ready_by s (sound-of s a.is_sound) (omega (arith, q)) log home frames staging (omega arith) (omega arith) (omega arith) (omega arith)

-- what the commit's group is applied with
module _ (s : State) (log home frames staging : ℕ) (r : Ready s log home frames staging) where
  pages-are : pages_in home ≡ s.pages
  pages-are = omega (arith, r.home_long)

  -- the lengths, and the group's number
  pub lent_by : (seats : ℕ) → seats ≡ s.frames → Lent seats home frames staging (group_start s)
  lent_by seats e = record {
    few = omega (arith, r.frame_count);
    pages = omega (arith, pages-are, r.pages);
    frames_long = omega (arith, r.frames_long);
    staging_long = omega (arith, r.staging_long);
    started = omega (arith, r.ticket);
    below = omega (arith, r.next);
  }

  -- each update of the group fits its page, and its bytes are in staging
  pub placed-by-ready : (seats size : ℕ) → seats ≡ s.frames → size ≡ size_of s → (i : ℕ) → i < size → Placed (pages_in home) seats (staged_at s i)
  placed-by-ready seats size e n i h =
      let p : Placed s.pages s.frames (staged_at s i) = r.placed i (omega arith) in
      record { page = omega (arith, pages-are, p.page); some = p.some; length = p.length; end = p.end; area = omega (arith, p.area) }

-- the next update's store leans on the log and on staging alone
pub ready-alone : (s : State) (log home frames staging : ℕ) → Ready s log home frames staging → Ready s log (home_length s.pages) (frames_length s.frames) staging
ready-alone s log home frames staging r =
    subst (λ (n : ℕ). Ready s log (home_length s.pages) n staging) r.frames_long (subst (λ (n : ℕ). Ready s log n frames staging) r.home_long r)

-- keep-from is H below the next sequence
pub held-within : (s : State) (sums : Sums) → Summed s sums → sums.held ≤ s.next
held-within s sums h = omega (arith, h.held)

pub kept_from_lem : (s : State) (sums : Sums) → Summed s sums → s.next - sums.held ≡ smallest (group_start s) (first_groups s.dirty)
kept_from_lem s sums h = omega (arith, h.held, held-is s, smallest-le (group_start s) (first_groups s.dirty))
