-- `number::get_long` meets its contract: the law of eight bytes.
-- Assumes nothing.
use Rattle.std.proofs.Common.{ap, ◌∙◌}
use Rattle.std.specs.Int.{w64, from_le_bytes}
use Rattle.area.proofs.Parts.{from-to}
use Rattle.block.proofs.Stores.{long-law}
use Rattle.block.proofs.number.get_long.Goals as goal

pub returns : goal.returns
returns c =
    let slot = c.args.slot.now in
    let place = c.args.place in
    c.from_le_bytes.ensures
    ∙ ap (from_le_bytes w64) (c.copy_from_slice.ensures.after ∙ from-to slot place 8)
    ∙ long-law slot place c.requires
