-- `judging::block_at` meets its contract, field by field.
-- Assumes nothing.
use Rattle.block.specs.Slot.{block_at}
use Rattle.block.proofs.judging.block_at.Goals as goal

pub returns : goal.returns
unfolding block_at
returns c = cc
