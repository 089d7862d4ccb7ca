-- `check::lower` meets its contract.
-- Assumes nothing.
use Rattle.std.proofs.Common.{refl}
use Rattle.block.specs.Lanes.{lower_of}
use Rattle.block.proofs.check.lower.Goals as goal

pub returns : goal.returns
unfolding lower_of
returns c = refl
