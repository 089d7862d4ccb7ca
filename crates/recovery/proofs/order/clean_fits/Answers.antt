-- `recovery::order::clean_fits` meets its contract: the code's test is the promises' rule.
-- Assumes nothing.
use Rattle.promises.specs.Walk.{in_order}
use Rattle.recovery.proofs.order.clean_fits.Goals as goal

pub returns : goal.returns
unfolding in_order
returns c = λ walk page last. rw last
