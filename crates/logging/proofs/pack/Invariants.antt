-- `logging::pack` meets its contract: the seats below index i are the entries.
use mathlib.Core.Path.{◌≡◌}
use mathlib.Core.List.{map}
use lib.ListN.{take}
use Rattle.table.specs.Seats.{entry_in, cleared}
use Rattle.logging.proofs.pack.Given as goal

abbrev pub invariant-loop-i : goal.invariant-loop-i
invariant-loop-i l = map entry_in (take l.i l.seats) ≡ map cleared (take l.i l.dirty)
