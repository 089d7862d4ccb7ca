-- `outline::mark_group` meets its contract: what is left of the group's pages from an index on.
-- Assumes nothing.
use mathlib.Core.Path.{sym, ap, ◌∙◌}
use native.Mathlib.Omega.{arith}
use Prim.Native.Nat.{ℕ}
use mathlib.Core.List.{List}
use Rattle.outline.specs.Marks.{marked_all}
use Rattle.outline.proofs.Marking.{group-next, group-end}
use Rattle.outline.proofs.mark_group.Goals as goal

pub loop-page-preserved : goal.loop-page-preserved
loop-page-preserved c =
    let l = c.loop-page in
    (omega (arith, c.mark_page.ensures.few), group-next c.args.group.now.start c.as_slice-page-items.result.now l.page-index l.marks.items _ (omega arith) c.mark_page.ensures.is ∙ l.invariant.1)

pub returns-clause-is : goal.returns-clause-is
returns-clause-is c =
    let l = c.loop-page in
    let start = c.args.group.now.start in
    sym (group-end start c.as_slice-page-items.result.now l.page-index l.marks.items (omega arith)) ∙ l.invariant.1
    ∙ ap (λ (ps : List ℕ). marked_all start ps c.args.marks.now.items) c.as_slice-page-items.ensures.value
