-- `dirty::named` meets its contract.
-- Assumes nothing.
use mathlib.Core.Path.{◌≡◌, ◌∙◌}
use lib.Dec.{eqb}
use native.Mathlib.Omega.{arith}
use Rattle.std.proofs.lemmas.Iterator.{YieldsList-from_slice}
use Rattle.std.proofs.lemmas.Iterator.Search.{any_from_yields_List}
use Rattle.promises.specs.Sound.{member}
use Rattle.soundness.proofs.Members.{any-member}
use borrow.Author.Rules.{rules}
use borrow.Author.Tests.{tests}
use Rattle.soundness.proofs.dirty.named.Goals as goal

pub returns-in-First : goal.returns-in-First
returns-in-First c =
    let page = c.in-First.page in
    let pages = c.args.pages.now in
    let h : c.any.result ≡ member page pages =
    any_from_yields_List (λ dirty. eqb page dirty) _ _ _ c.any.ensures.ran (YieldsList-from_slice pages cc) (λ x b q k. search (rules, tests)) ∙ any-member page pages in
    grind (arith, h, c.in-First.is)
