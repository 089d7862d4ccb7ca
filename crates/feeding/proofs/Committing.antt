-- The pages that are dirty once the half group is committed, from the headers in the copy's own log.
-- Assumes nothing.
use mathlib.Core.Path.{◌≡◌, sym, ap, ◌∙◌}
use mathlib.Core.Bool.{Bool, true, ◌&&◌}
use mathlib.Core.List.{List, []}
use Prim.Native.Nat.{ℕ, ◌+◌, ◌*◌, ◌<◌}
use native.Mathlib.Omega.{arith}
use lib.ListN.{length}
use borrow.Author.Tests.{ne_eqb}
use Rattle.promises.specs.declared.State.{State}
use Rattle.promises.specs.Blocks.{LogBlock, commit}
use Rattle.promises.specs.Contents.{dirty_of}
use Rattle.promises.specs.Sums.{group_start}
use Rattle.promises.specs.Sound.{copy_sound}
use Rattle.promises.specs.Walk.{in_order, walk_block}
use Rattle.promises.specs.Feed.{keep_right, span_fits}
use Rattle.promises.proofs.Passed.{commit-order}
use Rattle.recovery.specs.Log as recovered
use Rattle.outline.specs.declared.Mark.{Mark}
use Rattle.outline.specs.Marks.{marks_of, pages_of, marked_all}
use Rattle.feeding.specs.Tests.{start_of, lacking_in}
use Rattle.feeding.proofs.Testing.{Numbers, numbers_of}
use Rattle.feeding.proofs.OwnLog.{own-updates}
use Rattle.feeding.proofs.Turning.{fits_over, commit-fits-is, stands, stored_is}

module _ (s : State) (log : List ℕ) (so : copy_sound s ≡ true) (long : length log ≡ s.slots * 512) where
  -- a commit in order closes a half group
  pub closes : (updates ticket : ℕ) → in_order (commit updates) ticket (stands s log []) ≡ true → (0 < s.stored) × (updates ≡ s.stored)
  closes updates ticket e = let o = commit-order updates ticket (stands s log []) e in (omega (arith, stored_is s log [], o.0), omega (arith, stored_is s log [], o.1))

  module _ (some : 0 < s.stored) (lack : lacking_in s log ≡ 0) where
    pub start_is_lem : start_of s ≡ group_start s
    start_is_lem = simp (ne_eqb s.stored 0 (omega arith))

    pub group-is : (frames : List ℕ) → (stands s log frames).group ≡ recovered.updates_from log (group_start s) s.stored
    group-is frames =
        let n : Numbers s = numbers_of s so in
        (own-updates s.slots s.pages log (omega (arith, n.slots.0)) (omega (arith, n.slots.0)) s.stored (group_start s) 1 (omega (arith, n.stored)) lack).0

    pub marks-are : (frames : List ℕ) (start : ℕ) (pages : List ℕ) (ms marks : List Mark) → start ≡ start_of s → pages ≡ pages_of (recovered.updates_from log start s.stored)
        → ms ≡ marks_of (dirty_of s frames) → marks ≡ marked_all start pages ms
        → marks ≡ marked_all (stands s log frames).start (pages_of (stands s log frames).group) (marks_of (stands s log frames).dirty_pages)
    marks-are frames start pages ms marks e f g h =
        let pages-are : pages ≡ pages_of (stands s log frames).group = f ∙ ap (λ (n : ℕ). pages_of (recovered.updates_from log n s.stored)) (e ∙ start_is_lem) ∙ ap pages_of (sym (group-is frames)) in
        h ∙ ap (λ (n : ℕ). marked_all n pages ms) e ∙ ap (λ (ps : List ℕ). marked_all (start_of s) ps ms) pages-are ∙ ap (marked_all (start_of s) (pages_of (stands s log frames).group)) g

  -- a commit that is in order, tested over the pages dirty then, wherever home and frames have what
  module _ (lack : lacking_in s log ≡ 0) (updates keep ticket : ℕ) (order : (frames : List ℕ) → in_order (commit updates) ticket (stands s log frames) ≡ true)
      (start : ℕ) (pages : List ℕ) (ms marks : List Mark) (e : start ≡ start_of s) (f : pages ≡ pages_of (recovered.updates_from log start s.stored))
      (g : (frames : List ℕ) → ms ≡ marks_of (dirty_of s frames)) (h : marks ≡ marked_all start pages ms) where
    pub marks-then : (frames : List ℕ) → marks ≡ marked_all (stands s log frames).start (pages_of (stands s log frames).group) (marks_of (stands s log frames).dirty_pages)
    marks-then frames = marks-are (closes updates ticket (order [])).0 lack frames start pages ms marks e f (g frames) h

    -- the test of keep-from and of the span
    pub fits-then : (fit : Bool) → fit ≡ fits_over s.slots s.next keep start (s.next + 1) marks → (home : ℕ → List ℕ) (frames : List ℕ)
        → let x : LogBlock = record { kind = commit updates; keep_from = keep; ticket = ticket } in
        fit ≡ (keep_right home s.next x (stands s log frames) && span_fits s.slots (s.next + 1) (walk_block home s.next (commit updates) (stands s log frames)))
    fits-then fit is home frames =
        is
        ∙ ap (λ (n : ℕ). fits_over s.slots s.next keep n (s.next + 1) marks) e
        ∙ commit-fits-is s home (stands s log frames) keep ticket updates marks (marks-then frames)
