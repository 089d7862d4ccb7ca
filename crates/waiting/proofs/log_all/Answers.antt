-- `log_all` meets its contract: the loop's invariant is what its calls made, and the blocks that wait get fewer.
-- Assumes nothing.
use native.Mathlib.Omega.{arith}
use Rattle.promises.specs.Sums.{waiting_blocks}
use Rattle.promises.specs.Events.{log_step}
use Rattle.waiting.proofs.Chain.{few-calls, log-next, log-less, log-over}
use Rattle.waiting.proofs.log_all.Goals as goal

pub returns-in-Err : goal.returns-in-Err
returns-in-Err c = log-over _ _ _ _ _ _ _ _ c.log_step-outcome.ensures _ c.in-Err.is _ _ _ c.steps.count c.steps.invariant.2

pub overflow_add-count : goal.overflow_add-count
overflow_add-count c = omega (arith, few-calls log_step waiting_blocks c.steps.count _ _ c.steps.invariant.2)

pub steps-smaller : goal.steps-smaller
steps-smaller c = log-less _ _ _ _ _ _ _ _ c.log_step-outcome.ensures _ c.in_default.is

pub steps-preserved : goal.steps-preserved
steps-preserved c = (
  omega (arith, c.steps.invariant, c.log_step-outcome.auto),
  omega (arith, c.steps.invariant, c.log_step-outcome.auto),
  log-next _ _ _ _ _ _ _ _ c.log_step-outcome.ensures _ c.in_default.is _ _ _ c.steps.count c.steps.invariant.2,
)
