-- `clean_all` meets its contract: the loop's invariant is what its calls made, and the stores that are left get fewer.
use mathlib.Core.Path.{◌≡◌}
use mathlib.Core.List.{List}
use Prim.Native.Nat.{ℕ}
use lib.ListN.{length}
use Rattle.promises.specs.Events.{clean_step}
use Rattle.promises.proofs.CleanTurns.{stores_left}
use Rattle.waiting.specs.Waiting.{world_of}
use Rattle.waiting.proofs.Chain.{Turns}
use Rattle.waiting.proofs.clean_all.Given as goal

abbrev pub invariant-steps : goal.invariant-steps
invariant-steps l =
    (length l.log ≡ length l.initial.log) × (length l.home ≡ length l.initial.home)
    × ((staging : List ℕ) → Turns clean_step stores_left l.count (world_of l.fn.state l.initial.log l.initial.home l.frames staging) (world_of l.state l.log l.home l.frames staging))

abbrev pub decreases-steps : goal.decreases-steps
decreases-steps l = stores_left l.state
