-- `judging::fields_at` meets its contract, field by field.
-- Assumes nothing.
use Rattle.std.proofs.Common.{arith}
use Rattle.block.specs.Slot.{fields_at}
use Rattle.block.proofs.Stores.{one-law}
use Rattle.block.proofs.judging.fields_at.Goals as goal

pub returns : goal.returns
unfolding fields_at
returns c = let kind = one-law c.args.slot.now 16 (omega arith) in cc
