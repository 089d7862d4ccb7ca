-- The bytes before the index are as they should be, and value is the next.
use mathlib.Core.Path.{◌≡◌}
use lib.ListN.{take}
use Rattle.script.specs.Fills.{described_byte, listed}
use Rattle.script.proofs.filling.describe_bytes.Given as goal

abbrev pub invariant-loop-byte : goal.invariant-loop-byte
invariant-loop-byte l = (take l.byte-index l.bytes ≡ listed (described_byte l.seed) 0 l.byte-index) × (l.value ≡ described_byte l.seed l.byte-index)
