-- `table::seats::entries` meets its contract: the seats from index i on are left to set.
use Rattle.table.proofs.Seating.{Filled}
use Rattle.table.proofs.seats.entries.Given as goal

abbrev pub invariant-loop-i : goal.invariant-loop-i
invariant-loop-i l = Filled l.seats l.i l.dirty
