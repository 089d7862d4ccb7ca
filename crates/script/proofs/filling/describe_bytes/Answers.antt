-- `describe_bytes` meets its contract: the bytes before the index are as they should be, and value is the next.
-- Assumes nothing.
use mathlib.Core.Path.{refl}
use native.Mathlib.Omega.{arith}
use Rattle.script.specs.Fills.{described_byte, listed}
use Rattle.script.proofs.Filled.{fill-turn, described-next}
use Rattle.script.proofs.filling.describe_bytes.Goals as goal

pub loop-byte-init : goal.loop-byte-init
unfolding listed
loop-byte-init c = (refl, omega arith)

pub loop-byte-preserved : goal.loop-byte-preserved
loop-byte-preserved c =
    let l = c.loop-byte in
    let seed = c.args.seed in (
      fill-turn (described_byte seed) l.bytes l.byte-index l.value (omega arith) l.invariant.0 l.invariant.1,
      described-next seed l.byte-index l.value l.invariant.1,
    )
