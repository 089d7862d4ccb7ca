-- `deciding::begin_has_room` meets its contract.
-- Assumes nothing.
use Rattle.queueing.proofs.Refusals.{room-law}
use Rattle.queueing.proofs.deciding.begin_has_room.Goals as goal

pub returns : goal.returns
returns c = let args = c.args in room-law args.state args.sums args.u c.requires.0
