-- `listing::walk_blocks` meets its contract: what is left of the blocks from sequence s on.
-- Assumes nothing.
use mathlib.Core.Path.{◌≡◌, sym, ap, subst, ◌∙◌}
use Prim.Native.Nat.{◌-◌, ◌+◌}
use native.Mathlib.Omega.{arith}
use Rattle.std.specs.Prelude.{Ok}
use Rattle.std.proofs.lemmas.Result.{err_from_is_err_and}
use Rattle.block.specs.declared.Block.{Block}
use Rattle.outline.specs.declared.Course.{Course}
use Rattle.outline.specs.Outline.{step, steps, started, sketch_in, Bounded}
use Rattle.listing.specs.Listing.{headers_from}
use Rattle.listing.proofs.Finding.{steps_next, steps-end, steps-refused}
use Rattle.listing.proofs.walk_blocks.Goals as goal
use Rattle.listing.proofs.walk_blocks.Goals.{else-loop-s-test, then-loop-s-test+in_ok-course+else-s-last}

pub returns-in_err-course : goal.returns-in_err-course
returns-in_err-course c =
    let a = c.args in
    let l = c.loop-s in
    let p = err_from_is_err_and c.from_residual.result c.from_residual.ensures.1 in
    let turned = c.in_err-course.ensures.0 ∙ ap (λ (b : Block). step 32 b (sketch_in (Ok l.course))) c.header.ensures in
    rw (p.1, p.2) (steps-refused a.log.now l.s a.last (sketch_in (Ok l.course)) _ _ (omega arith) turned ∙ l.invariant.3, tt)

pub loop-s-preserved : goal.loop-s-preserved
loop-s-preserved c =
    let a = c.args in
    let l = c.loop-s in
    let t = c.in_ok-course in (
      omega arith,
      t.ensures.1.0,
      omega (arith, t.ensures.1.1, l.invariant.2),
      steps_next a.log.now l.s a.last (sketch_in (Ok l.course)) (sketch_in (Ok t.course)) (omega arith)
          (t.ensures.0 ∙ ap (λ (b : Block). step 32 b (sketch_in (Ok l.course))) c.header.ensures) ∙ l.invariant.3,
    )

pub returns : goal.returns
returns c =
    let a = c.args in
    let l = c.loop-s in
    let Walked : Course → Type 0 = λ x. (sketch_in (Ok x) ≡ steps 32 (headers_from a.log.now a.first (a.last + 1 - a.first)) (started a.first a.ticket)) × (Bounded x × (x.next ≡ a.last + 1)) in
    elim c.loop-s-test.branch [
      | else-loop-s-test w ↦ subst Walked (sym w.course-is) (
        sym (steps-end a.log.now l.s a.last (sketch_in (Ok l.course)) (omega arith)) ∙ l.invariant.3,
        (l.invariant.1, omega (arith, l.invariant.2, l.invariant.0)),
      )
      | then-loop-s-test+in_ok-course+else-s-last w ↦
          let t = w.in_ok-course in
          subst Walked (sym w.course-is) (
            sym (steps-end a.log.now (l.s + 1) a.last (sketch_in (Ok t.course)) (omega arith))
                ∙ steps_next a.log.now l.s a.last (sketch_in (Ok l.course)) (sketch_in (Ok t.course)) (omega arith)
                (t.ensures.0 ∙ ap (λ (b : Block). step 32 b (sketch_in (Ok l.course))) w.header.ensures) ∙ l.invariant.3,
            (t.ensures.1.0, omega (arith, t.ensures.1.1, l.invariant.2, l.invariant.0)),
          )
    ]
