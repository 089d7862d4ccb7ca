-- `clean_all` meets its contract: the loop's invariant is what its calls made, and the stores that are left get fewer.
-- Assumes nothing.
use mathlib.Core.List.{[]}
use native.Mathlib.Omega.{arith}
use Rattle.promises.specs.Events.{clean_step}
use Rattle.promises.proofs.CleanTurns.{stores_left}
use Rattle.waiting.proofs.Chain.{few-calls, clean-next, clean-less, clean-over}
use Rattle.waiting.proofs.clean_all.Goals as goal

pub returns-in-Err : goal.returns-in-Err
returns-in-Err c staging = clean-over _ _ _ _ staging _ _ _ c.clean_step-outcome.ensures _ c.in-Err.is _ _ _ c.steps.count (c.steps.invariant.2 staging)

pub overflow_add-count : goal.overflow_add-count
overflow_add-count c = omega (arith, few-calls clean_step stores_left c.steps.count _ _ (c.steps.invariant.2 []))

pub steps-smaller : goal.steps-smaller
steps-smaller c = clean-less _ _ _ _ [] _ _ _ c.clean_step-outcome.ensures _ c.in_default.is

pub steps-preserved : goal.steps-preserved
steps-preserved c = (
  omega (arith, c.steps.invariant, c.clean_step-outcome.auto),
  omega (arith, c.steps.invariant, c.clean_step-outcome.auto),
  λ staging. clean-next _ _ _ _ staging _ _ _ c.clean_step-outcome.ensures _ c.in_default.is _ _ _ c.steps.count (c.steps.invariant.2 staging),
)
