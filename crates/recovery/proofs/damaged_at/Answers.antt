-- `recovery::damaged_at` meets its contract: the bytes are those of the slot that the sequence goes to.
-- Assumes nothing.
use Rattle.recovery.proofs.Scanning.{slot-damaged}
use Rattle.recovery.proofs.damaged_at.Goals as goal

pub returns : goal.returns
returns c = slot-damaged _ _ _ c.args.log.now _ _ c.slot_bytes.ensures.0 c.slot_damaged.ensures
