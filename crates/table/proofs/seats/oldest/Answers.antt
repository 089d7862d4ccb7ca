-- `table::seats::oldest` meets its contract: the lowest so far, and the first groups from the seat's index on.
-- Assumes nothing.
use Prim.Native.Nat.{ℕ, ◌+◌}
use mathlib.Core.Path.{ap, ◌∙◌}
use lib.ListN.{drop}
use Rattle.promises.specs.Sums.{first_groups, smallest}
use Rattle.table.specs.Seats.{dirty_in}
use Rattle.table.proofs.Seating.{lower-seat, same-seat, smallest-over}
use native.Mathlib.Omega.{arith}
use Rattle.table.proofs.seats.oldest.Goals as goal
use Rattle.table.proofs.seats.oldest.Goals.{then-first-ne0, else-first-ne0}

pub loop-seat-preserved : goal.loop-seat-preserved
loop-seat-preserved c =
    let a = c.args in
    let l = c.loop-seat in
    let low' : ℕ → ℕ = λ x. smallest x (first_groups (drop (l.seat-index + 1) (dirty_in a.seats.now))) in
    elim c.if-first-ne0.branch [
      | then-first-ne0 w ↦ (omega (arith, w.min-low.ensures), ap low' (w.low-is ∙ w.min-low.ensures) ∙ lower-seat a.seats.now l.seat-index (omega arith) l.low w.if-first-ne0.true ∙ l.invariant.1)
      | else-first-ne0 w ↦ (omega arith, ap low' w.low-is ∙ same-seat a.seats.now l.seat-index (omega arith) l.low w.if-first-ne0.false ∙ l.invariant.1)
    ]

pub returns : goal.returns
returns c =
    let a = c.args in
    let l = c.loop-seat in
    (smallest-over l.low a.seats.now l.seat-index (omega arith) ∙ l.invariant.1, omega arith)
