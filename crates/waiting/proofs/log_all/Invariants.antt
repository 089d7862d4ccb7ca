-- `log_all` meets its contract: the loop's invariant is what its calls made, and the blocks that wait get fewer.
use mathlib.Core.Path.{◌≡◌}
use lib.ListN.{length}
use Rattle.promises.specs.Sums.{waiting_blocks}
use Rattle.promises.specs.Events.{log_step}
use Rattle.waiting.specs.Waiting.{world_of}
use Rattle.waiting.proofs.Chain.{Turns}
use Rattle.waiting.proofs.log_all.Given as goal

abbrev pub invariant-steps : goal.invariant-steps
invariant-steps l =
    (length l.log ≡ length l.initial.log) × (length l.frames ≡ length l.initial.frames)
    × Turns log_step waiting_blocks l.count (world_of l.fn.state l.initial.log l.home l.initial.frames l.staging) (world_of l.state l.log l.home l.frames l.staging)

abbrev pub decreases-steps : goal.decreases-steps
decreases-steps l = waiting_blocks l.state
