-- `recovery::header` meets its contract: the header of the slot's part.
-- Assumes nothing.
use Rattle.recovery.proofs.Scanning.{header_is}
use Rattle.recovery.proofs.header.Goals as goal

pub returns : goal.returns
returns c = header_is c.args.log.now c.args.s _ _ c.slot_bytes.ensures.0 c.header.ensures
