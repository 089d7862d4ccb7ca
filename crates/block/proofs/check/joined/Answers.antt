-- `check::joined` meets its contract. The loop's invariant: the two sums are those of the lanes passed, and neither is too great.
-- Assumes nothing.
use Rattle.std.proofs.Common.{◌≡◌, ℕ, ◌+◌, ◌-◌, ◌*◌, ◌≤◌, get_or, refl, ap₂, mul-le-mul, arith}
use Rattle.block.specs.Lanes.{sum_below, lane_sum, lane_total, plain_of, weighted_of, uppers_of}
use Rattle.block.proofs.Indexed.{sum-next}
use Rattle.block.proofs.check.joined.Goals as goal

pub loop-lane-init : goal.loop-lane-init
unfolding sum_below
loop-lane-init c = (omega arith, omega arith, refl, refl)

pub loop-lane-preserved : goal.loop-lane-preserved
loop-lane-preserved c =
    let at = c.loop-lane in
    let l = at.lane in
    let lanes = c.args.lanes in
    let weight = c.weight.result in
    -- the lane's sum is small: the remainder leaves it as it is
    let few : lane_sum lanes l ≤ 8160 = c.requires l c.loop-lane-test.true in
    let both : c.from-both.result ≡ lane_sum lanes l = omega (arith, c.from-both.ensures, c.lower.ensures, few) in
    -- with its weight it is small too, and no less than without
    let most : weight * c.from-both.result ≤ 32 * 8160 =
    mul-le-mul {n₁ = weight} {m₁ = c.from-both.result} {n₂ = 32} {m₂ = 8160} c.weight.ensures.2 (omega (arith, both, few)) in
    let least : 1 * c.from-both.result ≤ weight * c.from-both.result =
    mul-le-mul {n₁ = 1} {m₁ = c.from-both.result} {n₂ = weight} {m₂ = c.from-both.result} c.weight.ensures.1 (omega arith) in
    let counted : weight * c.from-both.result ≡ (32 - 2 * l) * lane_sum lanes l = ap₂ (λ (n m : ℕ). n * m) c.weight.ensures.0 both in
    let total : c.from.result + c.from-in-loop-lane.result ≡ lane_total lanes l =
    omega (arith, c.from.ensures, c.from-in-loop-lane.ensures, c.lower-lowertotal.ensures) in
    let enough : c.from-in-loop-lane-2.result ≤ 32 * (c.from.result + c.from-in-loop-lane.result) + weight * c.from-both.result =
    omega (arith, least, both, c.from-in-loop-lane-2.ensures) in (
      omega (arith, both, few),
      omega (arith, most, c.from.ensures, c.from-in-loop-lane.ensures),
      omega (arith, both, sum-next l (lane_sum lanes), at.invariant.2),
      omega (
        arith,
        counted,
        total,
        enough,
        c.from-in-loop-lane-2.ensures,
        at.invariant.3,
        sum-next l (λ k. get_or lanes.uppers k 0),
        sum-next l (λ k. 32 * lane_total lanes k + (32 - 2 * k) * lane_sum lanes k),
      ),
    )

pub returns : goal.returns
unfolding plain_of weighted_of uppers_of
returns c =
    let at = c.loop-lane in
    let e : at.lane ≡ 16 = omega arith in
    (rw e at at.invariant.2, rw e at at.invariant.3)
