-- The digest of all bytes is that of the bytes to come from h on.
use mathlib.Core.Path.{◌≡◌}
use Prim.Native.Nat.{◌<◌}
use lib.ListN.{drop}
use Rattle.script.specs.Digest.{digest_from, digest_of}
use Rattle.script.proofs.digest.Given as goal

abbrev pub invariant-loop-byte : goal.invariant-loop-byte
invariant-loop-byte l = (l.h < 4294967291) × (digest_from l.h (drop l.byte-index l.bytes) ≡ digest_of l.bytes)
