-- `deciding::sequences_left` meets its contract.
-- Assumes nothing.
use Rattle.queueing.proofs.Refusals.{sequences-law}
use Rattle.queueing.proofs.deciding.sequences_left.Goals as goal

pub returns : goal.returns
returns c = let args = c.args in sequences-law args.state args.sums args.u c.requires.0
