-- `check::joined` meets its contract. The loop's invariant: the two sums are those of the lanes passed, and neither is too great.
use Rattle.std.proofs.Common.{◌≡◌, ◌+◌, ◌-◌, ◌*◌, ◌≤◌, get_or}
use Rattle.block.specs.Lanes.{sum_below, lane_sum, lane_total}
use Rattle.block.proofs.check.joined.Given as goal

abbrev pub invariant-loop-lane : goal.invariant-loop-lane
invariant-loop-lane now =
    (now.a ≤ 8160 * now.lane)
    × (now.b ≤ 4455360 * now.lane)
    × (now.a ≡ sum_below now.lane (lane_sum now.lanes))
    × (now.b + sum_below now.lane (λ l. get_or now.lanes.uppers l 0) ≡ sum_below now.lane (λ l. 32 * lane_total now.lanes l + (32 - 2 * l) * lane_sum now.lanes l))
