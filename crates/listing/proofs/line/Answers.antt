-- `listing::line` meets its contract: the line of a refusal, the first line, or the line of a block.
-- Assumes nothing.
use mathlib.Core.Path.{refl, ap, subst, ◌∙◌}
use Prim.Native.Nat.{ℕ}
use native.Mathlib.Omega.{arith}
use lib.ListN.{length}
use Rattle.lines.specs.Text.{block_line, refused_line}
use Rattle.listing.specs.Listing.{Examines}
use Rattle.listing.proofs.Showing.{count-accepted, refused-shown, first-shown, block-shown, shown-range, shows-as}
use Rattle.listing.proofs.line.Goals as goal

pub returns-in-Err : goal.returns-in-Err
returns-in-Err c =
    let a = c.args in
    let p = c.requires in
    let x = subst (Examines a.log.now) c.in-Err.is p.0 in
    shows-as _ _ _ _ _ (ap (λ (n : ℕ). refused_line n c.in-Err.stop.place) c.number.ensures ∙ refused-shown a.log.now _ _ x a.index p.1) c.refused_line.ensures

pub returns-then-index-eq0 : goal.returns-then-index-eq0
returns-then-index-eq0 c =
    let a = c.args in
    let x = subst (Examines a.log.now) c.in-Ok.is c.requires.0 in
    shows-as _ _ _ _ _ (first-shown a.log.now c.in-Ok.shown x.1 a.index c.if-index-eq0.true) c.first_line.ensures

pub overflow_add-shown : goal.overflow_add-shown
overflow_add-shown c =
    let a = c.args in
    let p = c.requires in
    let x = (subst (Examines a.log.now) c.in-Ok.is p.0).1 in
    omega (arith, p.1, count-accepted a.log.now c.in-Ok.shown x, x.blocks_few, x.keep_most, x.newest_below)

pub returns : goal.returns
returns c =
    let a = c.args in
    let p = c.requires in
    let x = subst (Examines a.log.now) c.in-Ok.is p.0 in
    shows-as _ _ _ _ _
    (ap block_line c.header-block.ensures ∙ block-shown a.log.now c.in-Ok.shown x.1 (omega (arith, shown-range (length a.log.now) x.0)) a.index p.1 c.if-index-eq0.false _ refl)
    c.block_line.ensures
