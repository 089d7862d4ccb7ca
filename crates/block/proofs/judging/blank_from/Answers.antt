-- `judging::blank_from` meets its contract.
-- Assumes nothing.
use Rattle.block.proofs.Zeros.{numbers-zero}
use Rattle.block.proofs.judging.blank_from.Goals as goal

pub returns : goal.returns
returns c =
    numbers-zero c.args.bytes.now c.args.place c.get_long.result c.get_long-2.result
    c.get_long-3.result c.get_long-4.result c.get_long.ensures c.get_long-2.ensures
    c.get_long-3.ensures c.get_long-4.ensures
