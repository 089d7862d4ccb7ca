-- `check::rows` meets its contract. The loop's invariant: the lanes tell the bytes of the rows passed, and none is too great.
use Rattle.std.proofs.Common.{◌+◌, ◌*◌, ◌++◌, take}
use Rattle.std.specs.List.{concat}
use Rattle.block.proofs.Lanes.{Read}
use Rattle.block.proofs.check.rows.Given as goal

abbrev pub invariant-loop-bytes : goal.invariant-loop-bytes
invariant-loop-bytes l = Read l.lanes (l.first ++ concat (take l.bytes-index l.more)) (32 * l.bytes-index + 32)
