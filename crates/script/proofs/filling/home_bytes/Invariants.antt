-- The first i bytes are as they should be.
use mathlib.Core.Path.{◌≡◌}
use lib.ListN.{take}
use Rattle.script.specs.Fills.{home_byte, listed}
use Rattle.script.proofs.filling.home_bytes.Given as goal

abbrev pub invariant-loop-i : goal.invariant-loop-i
invariant-loop-i l = take l.i l.home ≡ listed home_byte 0 l.i
