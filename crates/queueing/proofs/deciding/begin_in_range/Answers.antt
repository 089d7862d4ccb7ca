-- `deciding::begin_in_range` meets its contract.
-- Assumes nothing.
use Rattle.queueing.proofs.Refusals.{out_of_range}
use Rattle.queueing.proofs.deciding.begin_in_range.Goals as goal

pub returns-then-u-gt16 : goal.returns-then-u-gt16
returns-then-u-gt16 c = out_of_range c.args.state c.args.u c.if-u-gt16.true
