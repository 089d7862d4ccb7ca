-- `outline::mark_page` meets its contract, by whether the page is there.
-- Assumes nothing.
use mathlib.Core.Path.{◌≡◌, sym, ◌∙◌}
use lib.Dec.{eqb}
use Rattle.std.proofs.Common.{rules, tests}
use Rattle.std.specs.List.{list_any}
use Rattle.std.proofs.lemmas.Iterator.{YieldsList-from_slice}
use Rattle.std.proofs.lemmas.Iterator.Search.{any_from_yields_List}
use Rattle.outline.proofs.Marking.{marked-held, marked-new}
use Rattle.outline.proofs.mark_page.Goals as goal

pub returns-then-not-any-clause-is : goal.returns-then-not-any-clause-is
returns-then-not-any-clause-is c =
    let a = c.args in
    let answer : c.any.result ≡ list_any (λ m. eqb a.page m.page) a.marks.now.items = any_from_yields_List _ _ _ _ c.any.ensures.ran (YieldsList-from_slice a.marks.now.items cc) (λ x b q k. search (rules, tests)) in
    c.push.ensures.items ∙ sym (marked-new a.group a.page a.marks.now.items (sym answer ∙ c.if-not-any.true))

pub returns-else-not-any-clause-is : goal.returns-else-not-any-clause-is
returns-else-not-any-clause-is c =
    let a = c.args in
    let answer : c.any.result ≡ list_any (λ m. eqb a.page m.page) a.marks.now.items = any_from_yields_List _ _ _ _ c.any.ensures.ran (YieldsList-from_slice a.marks.now.items cc) (λ x b q k. search (rules, tests)) in
    sym (marked-held a.group a.page a.marks.now.items (sym answer ∙ c.if-not-any.false))
