-- `outline::unmark_page` meets its contract: the pages kept, and those from an index on.
-- Assumes nothing.
use mathlib.Core.Path.{sym, ap, ◌∙◌}
use native.Mathlib.Omega.{arith}
use lib.ListN.{length}
use Rattle.outline.specs.Lists.{MarkList}
use Rattle.outline.specs.Marks.{unmarked}
use Rattle.outline.proofs.Marking.{unmarked-keep, unmarked-drop, unmarked-end}
use Rattle.outline.proofs.unmark_page.Goals as goal
use Rattle.outline.proofs.unmark_page.Goals.{then-page-mark, else-page-mark}

pub loop-mark-preserved : goal.loop-mark-preserved
loop-mark-preserved c =
    let page = c.args.page in
    let l = c.loop-mark in
    let marks = c.as_slice-mark-items.result.now in
    let kept = c.if-page-mark.kept.items in
    elim c.if-page-mark.branch [
      | then-page-mark w ↦
          let items = ap (λ (v : MarkList). v.items) w.kept-is ∙ w.push.ensures.items in
          (omega (arith, ap (λ (v : MarkList). length v.items) w.kept-is, w.push.ensures.len, l.invariant.0), unmarked-keep page marks l.mark-index l.kept.items kept (omega arith) items w.if-page-mark.true ∙ l.invariant.1)
      | else-page-mark w ↦
          let items = ap (λ (v : MarkList). v.items) w.kept-is in
          (omega (arith, ap length items, l.invariant.0), unmarked-drop page marks l.mark-index l.kept.items kept (omega arith) items w.if-page-mark.false ∙ l.invariant.1)
    ]

pub returns-clause-is : goal.returns-clause-is
returns-clause-is c =
    let page = c.args.page in
    let l = c.loop-mark in
    let slice = c.as_slice-mark-items in
    sym (unmarked-end page slice.result.now l.mark-index l.kept.items (omega arith)) ∙ l.invariant.1 ∙ ap (unmarked page) slice.ensures.value
