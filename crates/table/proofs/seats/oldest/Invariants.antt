-- `table::seats::oldest` meets its contract: the lowest so far, and the first groups from the seat's index on.
use Prim.Native.Nat.{◌≤◌}
use mathlib.Core.Path.{◌≡◌}
use lib.ListN.{drop}
use Rattle.promises.specs.Sums.{first_groups, smallest}
use Rattle.table.specs.Seats.{dirty_in}
use Rattle.table.proofs.seats.oldest.Given as goal

abbrev pub invariant-loop-seat : goal.invariant-loop-seat
invariant-loop-seat l = (l.low ≤ l.own) × (smallest l.low (first_groups (drop l.seat-index (dirty_in l.seats))) ≡ smallest l.own (first_groups (dirty_in l.seats)))
