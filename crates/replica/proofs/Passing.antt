-- An update or a commit that is fed and taken: what the half group and the frames are then.
-- Assumes nothing.
use mathlib.Core.Path.{◌≡◌, refl, sym, ap, ◌∙◌, subst}
use mathlib.Core.Logic.{⊎_elim}
use mathlib.Core.Bool.{true}
use mathlib.Core.List.{List, [], ◌∷◌}
use Prim.Native.Nat.{ℕ, ◌+◌, ◌^◌, ◌≤◌, ◌<◌}
use native.Mathlib.Omega.{arith}
use lib.ListN.{length, get_or, length-append}
use borrow.Author.Tests.{eq-eqb, ne_eqb, leb-true}
use Rattle.block.specs.Legal.{slot_of}
use Rattle.promises.specs.declared.State.{State}
use Rattle.promises.specs.declared.Dirty.{Dirty}
use Rattle.promises.specs.declared.Outcome.{Outcome}
use Rattle.promises.specs.declared.Fed.{Fed}
use Rattle.promises.specs.declared.Stop.{Stop}
use Rattle.promises.specs.Areas.{page_at, with_slot}
use Rattle.promises.specs.Updates.{Update}
use Rattle.promises.specs.Blocks.{Kind, update, commit, LogBlock, slots_of}
use Rattle.promises.specs.DirtyPages.{DirtyPage, apply_all}
use Rattle.promises.specs.Contents.{dirty_of}
use Rattle.promises.specs.Sums.{group_start}
use Rattle.promises.specs.States.{free}
use Rattle.promises.specs.Walk.{Walk, walk_block, in_order, framed}
use Rattle.promises.specs.Feed.{standing, takes, feeding, after, FramesAfter, Feeds}
use Rattle.promises.proofs.Soundness.{SoundAs}
use Rattle.promises.proofs.Passed.{Passed, update-order}
use Rattle.table.specs.Table.{Holds}
use Rattle.table.proofs.Entries.{first_below, used-below}
use Rattle.table.proofs.Holding.{sound-holds-as}
use Rattle.stepping.specs.Tables.{table_with, table_of}
use Rattle.recovery.specs.Log.{updates_from}
use Rattle.replica.specs.Taking.{taken_with, Closing, Closes}
use Rattle.replica.proofs.Taking.{tests, sound₁, next-below, log-long, home-long, frames-long, Grouped, grouped, feeds-by}

-- the walk over an update: its group has as many updates as its index says
abbrev Updated : ℕ → List DirtyPage → ℕ → Walk → Type 0
Updated ticket entries index v = (v.ticket ≡ ticket) × (v.dirty_pages ≡ entries) × (length v.group ≡ index)

walk-update : (home : ℕ → List ℕ) (n i : ℕ) (u : Update) (t : ℕ) (v : Walk) → in_order (update i u) t v ≡ true → Updated v.ticket v.dirty_pages i (walk_block home n (update i u) v)
unfolding walk_block
walk-update home n i u t v o = ⊎_elim
    (λ (q : i ≡ 1). rw (eq-eqb i 1 q) (refl, refl, sym q))
    (λ (q : (0 < length v.group) × (i ≡ length v.group + 1)). rw (ne_eqb i 1 (omega (arith, q.0, q.1))) (refl, refl, length-append v.group (u ∷ []) ∙ sym q.1))
    (update-order i u t v o).0

module _ (s : State) (log home frames bytes : List ℕ) (x : LogBlock) (e : feeding s log home frames bytes ≡ takes x) where
  abbrev from : Walk
  from = standing s (slots_of s.slots s.pages log) frames

  passes : Passed s log home frames bytes x (takes x)
  passes = tests s log home frames bytes x e

  sound₂ : SoundAs true s
  sound₂ = sound₁ s log home frames bytes x e

  small : s.next < 2 ^ 48
  small = next-below s log home frames bytes x e

  held : Holds (table_of s) frames (dirty_of s frames)
  held = sound-holds-as true s frames passes.is_sound

  pub ticket-small : s.ticket < 2 ^ 48
  ticket-small = omega (arith, sound₂.ticket, small)

  -- AN UPDATE
  pub feeds-update : (i : ℕ) (u : Update) → x.kind ≡ update i u → (r : Outcome Fed Stop) (log' : List ℕ) → r ≡ taken_with s s.ticket s.dirty i
      → log' ≡ with_slot log (slot_of s.slots s.next) bytes → Feeds s log home frames bytes r log' home frames
  feeds-update i u k r log' j l =
      let w : Updated s.ticket (dirty_of s frames) i (after s log home frames x) =
      subst (λ (c : Kind). Updated s.ticket (dirty_of s frames) i (walk_block (page_at home) s.next c from)) (sym k)
      (walk-update (page_at home) s.next i u x.ticket from (subst (λ (c : Kind). in_order c x.ticket from ≡ true) k passes.order)) in
      feeds-by s log home frames bytes x e s.dirty frames
      (subst (λ (es : List DirtyPage). Holds (table_of s) frames es) (sym w.1) held) r log'
      (j ∙ ap (λ (n : ℕ). taken_with s n s.dirty i) (sym w.0) ∙ ap (λ (n : ℕ). taken_with s (after s log home frames x).ticket s.dirty n) (sym w.2)) l
      (subst (λ (c : Kind). FramesAfter c s.dirty frames s.dirty frames) (sym k) (refl, refl))

  -- A COMMIT
  module _ (n : ℕ) (k : x.kind ≡ commit n) where
    group_at : (0 < s.stored) × Grouped s log home frames bytes x e
    group_at = grouped s log home frames bytes x e n k

    pub closing : Closing s log (length home) (length frames)
    closing = record {
      slots = (omega (arith, sound₂.slots.0), sound₂.slots.1);
      pages = sound₂.pages.1;
      frame_count = sound₂.frames.1;
      log_long = log-long s log home frames bytes x e;
      home_long = home-long s log home frames bytes x e;
      frames_long = frames-long s log home frames bytes x e;
      stored = omega (arith, sound₂.ticket);
      next = omega (arith, small);
      some = omega (arith, group_at.0);
      firsts = λ i. let h : (get_or s.dirty i free).first < s.next = first_below s.next s.dirty i (omega (arith, sound₂.ticket)) sound₂.firsts_below in omega (arith, small);
      placed = group_at.1.placed;
    }

    abbrev dirty-then : List DirtyPage
    dirty-then = apply_all (group_start s) (page_at home) (updates_from log (group_start s) s.stored) (dirty_of s frames)

    walk-commit : after s log home frames x ≡ record { group = []; start = 0; ticket = s.ticket + 1; dirty_pages = dirty-then }
    unfolding walk_block
    walk-commit =
        ap (λ (c : Kind). walk_block (page_at home) s.next c from) k
        ∙ ap (λ (m : ℕ). record { group = []; start = 0; ticket = s.ticket + 1; dirty_pages = apply_all m (page_at home) from.group (dirty_of s frames) }) group_at.1.start
        ∙ ap (λ (us : List Update). record { group = []; start = 0; ticket = s.ticket + 1; dirty_pages = apply_all (group_start s) (page_at home) us (dirty_of s frames) }) group_at.1.group

    few-commit : length dirty-then ≤ s.frames
    unfolding framed
    few-commit =
        subst (λ (us : List Update). length (apply_all (group_start s) (page_at home) us (dirty_of s frames)) ≤ s.frames) group_at.1.group
        (subst (λ (m : ℕ). length (apply_all m (page_at home) from.group (dirty_of s frames)) ≤ s.frames) group_at.1.start
        (leb-true (length (apply_all from.start (page_at home) from.group (dirty_of s frames))) s.frames
        (subst (λ (c : Kind). framed s.frames (page_at home) c from ≡ true) k passes.few)))

    pub feeds-commit : length s.dirty ≡ 32 → (dirty : List Dirty) (frames' : List ℕ) → Closes s log home frames dirty frames' → (r : Outcome Fed Stop) (log' : List ℕ)
        → r ≡ taken_with s (s.ticket + 1) dirty 0 → log' ≡ with_slot log (slot_of s.slots s.next) bytes → Feeds s log home frames bytes r log' home frames'
    feeds-commit long dirty frames' closed r log' j l =
        feeds-by s log home frames bytes x e dirty frames'
        (subst (λ (v : Walk). Holds (table_with s dirty) frames' v.dirty_pages) (sym walk-commit) (closed.holds held few-commit)) r log'
        (j ∙ ap (λ (v : Walk). taken_with s v.ticket dirty (length v.group)) (sym walk-commit)) l
        (subst (λ (c : Kind). FramesAfter c s.dirty frames dirty frames') (sym k)
        (closed.fills long (λ f u. used-below s.frames s.dirty f sound₂.frames_below u), closed.frames_long))
