-- `number::get_pair` meets its contract: the law of two bytes.
-- Assumes nothing.
use Rattle.std.proofs.Common.{◌∙◌}
use Rattle.block.proofs.Stores.{pair-law}
use Rattle.block.proofs.number.get_pair.Goals as goal

pub returns : goal.returns
returns c = c.from_le_bytes.ensures ∙ pair-law c.args.slot.now c.args.place c.requires
