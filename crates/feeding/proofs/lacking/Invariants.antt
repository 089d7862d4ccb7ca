-- `feeding::lacking` meets its contract: what is left to see of the half group from an index on.
use mathlib.Core.Path.{◌≡◌}
use Prim.Native.Nat.{◌+◌, ◌-◌}
use lib.ListN.{length}
use Rattle.promises.specs.Areas.{slots_in}
use Rattle.promises.specs.Blocks.{slots_of}
use Rattle.promises.specs.Feed.{lacking}
use Rattle.feeding.proofs.lacking.Given as goal

abbrev pub invariant-loop-i : goal.invariant-loop-i
invariant-loop-i l =
    lacking (slots_in (length l.log)) (slots_of (slots_in (length l.log)) l.pages l.log) l.count l.start 1 ≡ lacking (slots_in (length l.log)) (slots_of (slots_in (length l.log)) l.pages l.log) (l.count - l.i) (l.start + l.i) (l.i + 1)
