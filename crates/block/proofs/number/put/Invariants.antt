-- `number::put` meets its contract. The loop's invariant: what is to be stored is what the bytes of left will make of the block as it is.
use Rattle.std.proofs.Common.{◌≡◌, ◌+◌, ◌-◌}
use lib.Seq.{sets}
use Rattle.block.specs.Number.{to_bytes}
use Rattle.block.proofs.number.put.Given as goal

abbrev pub invariant-loop-i : goal.invariant-loop-i
invariant-loop-i l = sets l.initial.block l.place (to_bytes l.width l.value) ≡ sets l.block (l.place + l.i) (to_bytes (l.width - l.i) l.left)
