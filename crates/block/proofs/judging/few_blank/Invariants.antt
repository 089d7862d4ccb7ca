-- `judging::few_blank` meets its contract. The loop's invariant: all bytes are zero if the largest of those read is and those left are.
use Rattle.std.proofs.Common.{◌≡◌, ◌&&◌, eqb, drop}
use Rattle.block.specs.Slot.{all_zero}
use Rattle.block.proofs.judging.few_blank.Given as goal

abbrev pub invariant-loop-byte : goal.invariant-loop-byte
invariant-loop-byte l = all_zero l.bytes ≡ (eqb l.most 0 && all_zero (drop l.byte-index l.bytes))
