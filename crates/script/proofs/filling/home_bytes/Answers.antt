-- `home_bytes` meets its contract: the first i bytes are as they should be.
-- Assumes nothing.
use mathlib.Core.Path.{refl}
use native.Mathlib.Omega.{arith}
use Rattle.script.specs.Fills.{home_byte, listed}
use Rattle.script.proofs.Filled.{fill-turn}
use Rattle.script.proofs.filling.home_bytes.Goals as goal

pub loop-i-init : goal.loop-i-init
unfolding listed
loop-i-init c = refl

pub loop-i-preserved : goal.loop-i-preserved
loop-i-preserved c = let l = c.loop-i in fill-turn home_byte l.home l.i _ (omega arith) l.invariant refl
