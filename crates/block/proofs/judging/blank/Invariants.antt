-- `judging::blank` meets its contract. The loop's invariant: all bytes are zero if those left are.
use Rattle.std.proofs.Common.{◌≡◌, drop}
use Rattle.block.specs.Slot.{all_zero}
use Rattle.block.proofs.judging.blank.Given as goal

abbrev pub invariant-loop-i : goal.invariant-loop-i
invariant-loop-i l = all_zero l.bytes ≡ all_zero (drop l.i l.bytes)
