-- `recovery::apply_group` meets its contract: what is left to apply from the update at index i on. The slot goes round beside the sequence.
use Prim.Native.Nat.{◌-◌, ◌+◌}
use mathlib.Core.Path.{◌≡◌}
use mathlib.Core.Bool.{false}
use lib.ListN.{length}
use Rattle.block.specs.Legal.{slot_of}
use Rattle.promises.specs.Areas.{slots_in}
use Rattle.table.specs.Seats.{seated}
use Rattle.recovery.specs.Log.{updates_from}
use Rattle.recovery.proofs.Groups.{LeftTo}
use Rattle.recovery.proofs.apply_group.Given as goal

abbrev pub invariant-loop-i : goal.invariant-loop-i
invariant-loop-i l =
    (l.slot ≡ slot_of (slots_in (length l.log)) (l.start + l.i))
    × LeftTo (seated false l.initial.seats) l.home l.initial.frames (updates_from l.log l.start l.count) l.start (seated false l.seats) l.frames (updates_from l.log (l.start + l.i) (l.count - l.i))
