-- `outline::test_on` meets its contract: within the slots, or beyond them.
-- Assumes nothing.
use native.Mathlib.Omega.{arith}
use Rattle.outline.proofs.Turning.{ends-within, ends-beyond}
use Rattle.outline.proofs.test_on.Goals as goal

pub returns-then-slots-course : goal.returns-then-slots-course
returns-then-slots-course c =
    let a = c.args in
    ends-beyond a.course a.slots c.earliest-low.result c.earliest-low.ensures.is _ (omega (arith, c.if-slots-course.true)) c.out_of_order.ensures

pub returns : goal.returns
returns c =
    let a = c.args in
    ends-within a.course a.slots c.earliest-low.result c.earliest-low.ensures.is (omega (arith, c.if-slots-course.false))
