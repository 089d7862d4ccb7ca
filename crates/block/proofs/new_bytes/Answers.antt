-- `new_bytes` meets its contract: a part from its start to its end.
-- Assumes nothing.
use Rattle.area.proofs.Parts.{from-to}
use Rattle.block.specs.Sizes.{header_size}
use Rattle.block.proofs.new_bytes.Goals as goal

pub returns : goal.returns
returns c = from-to c.args.slot.now header_size c.args.count
