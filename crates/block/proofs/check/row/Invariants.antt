-- `check::row` meets its contract. The loop's invariant: the lanes passed have taken in their pair, the others are as they were.
use Rattle.std.proofs.Common.{◌≡◌, ◌+◌, ◌*◌, ◌%◌, length, get_or}
use Rattle.block.proofs.Lanes.{SetBelow}
use Rattle.block.proofs.check.row.Given as goal

abbrev pub invariant-loop-lane : goal.invariant-loop-lane
invariant-loop-lane now =
    (length now.lanes.pairs ≡ 16)
    × (length now.lanes.uppers ≡ 16)
    × (length now.lanes.pairtotals ≡ 16)
    × (length now.lanes.uppertotals ≡ 16)
    × SetBelow now.lane now.initial.lanes.pairs (λ l. (get_or now.initial.lanes.pairs l 0 + (get_or now.bytes (2 * l) 0 + 256 * get_or now.bytes (2 * l + 1) 0)) % 65536) now.lanes.pairs
    × SetBelow now.lane now.initial.lanes.uppers (λ l. get_or now.initial.lanes.uppers l 0 + get_or now.bytes (2 * l + 1) 0) now.lanes.uppers
    × SetBelow now.lane now.initial.lanes.pairtotals (λ l. (get_or now.initial.lanes.pairtotals l 0 + get_or now.initial.lanes.pairs l 0) % 65536) now.lanes.pairtotals
    × SetBelow now.lane now.initial.lanes.uppertotals (λ l. get_or now.initial.lanes.uppertotals l 0 + get_or now.initial.lanes.uppers l 0) now.lanes.uppertotals
