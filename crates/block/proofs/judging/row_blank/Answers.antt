-- `judging::row_blank` meets its contract.
-- Assumes nothing.
use Rattle.block.proofs.Zeros.{quarters-zero}
use Rattle.block.proofs.judging.row_blank.Goals as goal

pub returns : goal.returns
returns c =
    quarters-zero c.args.bytes.now c.blank_from.result c.blank_from-2.result
    c.blank_from-3.result c.blank_from-4.result c.requires c.blank_from.ensures
    c.blank_from-2.ensures c.blank_from-3.ensures c.blank_from-4.ensures
