-- `recovery::walk_on` meets its contract: what the walk leads to stays the same, turn by turn. The slot goes round beside the sequence.
use Prim.Native.Nat.{◌≤◌, ◌+◌}
use Rattle.std.specs.Prelude.{Ok}
use mathlib.Core.Path.{◌≡◌}
use lib.ListN.{length}
use Rattle.block.specs.Legal.{slot_of}
use Rattle.promises.specs.Areas.{slots_in}
use Rattle.recovery.specs.Walking.{walk_of, Ready}
use Rattle.recovery.proofs.Leading.{Leading}
use Rattle.recovery.proofs.walk_on.Given as goal

abbrev pub invariant-loop-s : goal.invariant-loop-s
invariant-loop-s l =
    (l.slot ≡ slot_of (slots_in (length l.log)) l.s) × Ready l.log l.home l.s (walk_of (Ok l.stage) l.seats) × (l.s ≤ l.last + 1)
    × Leading l.log l.home l.first l.last (walk_of (Ok l.initial.stage) l.initial.seats) l.initial.frames l.s (walk_of (Ok l.stage) l.seats) l.frames
