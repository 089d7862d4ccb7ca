-- `judging::legal_block` meets its contract.
-- Assumes nothing.
use Rattle.block.specs.Legal.{legal}
use Rattle.block.proofs.judging.legal_block.Goals as goal

pub returns : goal.returns
unfolding legal
returns c = cc
