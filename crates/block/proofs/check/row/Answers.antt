-- `check::row` meets its contract. The loop's invariant: the lanes passed have taken in their pair, the others are as they were.
-- Assumes nothing.
use Rattle.std.proofs.Common.{◌≡◌, ◌+◌, ◌*◌, ◌/◌, ◌%◌, get_or, refl, arith, rules}
use Rattle.block.proofs.Stores.{pair-law}
use Rattle.block.proofs.Lanes.{lane-set}
use Rattle.block.proofs.check.row.Goals as goal

pub loop-lane-preserved : goal.loop-lane-preserved
loop-lane-preserved c =
    let at = c.loop-lane in
    let l = at.lane in
    let bytes = c.args.bytes.now in
    let before = c.args.lanes.now in
    let p : get_or at.lanes.pairs l 0 ≡ get_or before.pairs l 0 = at.invariant.4.left l (omega arith) in
    let u : get_or at.lanes.uppers l 0 ≡ get_or before.uppers l 0 = at.invariant.5.left l (omega arith) in
    let pt : get_or at.lanes.pairtotals l 0 ≡ get_or before.pairtotals l 0 = at.invariant.6.left l (omega arith) in
    let ut : get_or at.lanes.uppertotals l 0 ≡ get_or before.uppertotals l 0 = at.invariant.7.left l (omega arith) in
    let number = c.get_pair-number in
    let law = pair-law bytes (2 * l) (omega arith) in
    let whole : number.result ≡ get_or bytes (2 * l) 0 + 256 * get_or bytes (2 * l + 1) 0 = omega (arith, law, number.ensures) in
    let upper : number.result / 256 ≡ get_or bytes (2 * l + 1) 0 = omega (arith, whole, c.fits-bytes (2 * l)) in (
      search rules,
      search rules,
      search rules,
      search rules,
      lane-set l before.pairs (λ k. (get_or before.pairs k 0 + (get_or bytes (2 * k) 0 + 256 * get_or bytes (2 * k + 1) 0)) % 65536) at.lanes.pairs
          ((get_or at.lanes.pairs l 0 + number.result) % 65536) (omega arith) (rw (p, whole) refl) at.invariant.4,
      lane-set l before.uppers (λ k. get_or before.uppers k 0 + get_or bytes (2 * k + 1) 0) at.lanes.uppers
          (get_or at.lanes.uppers l 0 + number.result / 256) (omega arith) (rw (u, upper) refl) at.invariant.5,
      lane-set l before.pairtotals (λ k. (get_or before.pairtotals k 0 + get_or before.pairs k 0) % 65536) at.lanes.pairtotals
          ((get_or at.lanes.pairtotals l 0 + get_or at.lanes.pairs l 0) % 65536) (omega arith) (rw (pt, p) refl) at.invariant.6,
      lane-set l before.uppertotals (λ k. get_or before.uppertotals k 0 + get_or before.uppers k 0) at.lanes.uppertotals
          (get_or at.lanes.uppertotals l 0 + get_or at.lanes.uppers l 0) (omega arith) (rw (ut, u) refl) at.invariant.7,
    )
