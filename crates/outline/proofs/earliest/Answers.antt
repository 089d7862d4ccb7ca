-- `outline::earliest` meets its contract: a fold.
-- Assumes nothing.
use mathlib.Core.Path.{◌∙◌}
use Prim.Native.Nat.{min}
use native.Mathlib.Omega.{arith}
use Rattle.std.proofs.Common.{rules, tests}
use Rattle.std.proofs.lemmas.Iterator.{YieldsList-from_slice}
use Rattle.std.proofs.lemmas.Iterator.Consumers.{fold_from_yields_List}
use Rattle.outline.proofs.Marking.{earliest-fold, earliest-most}
use Rattle.outline.proofs.earliest.Goals as goal

pub returns-clause-is : goal.returns-clause-is
returns-clause-is c =
    let a = c.args in
    fold_from_yields_List _ (λ low m. min low m.first) _ _ c.fold.ensures.ran (YieldsList-from_slice a.marks.now.items cc) (λ low x b q k. search (rules, tests)) ∙ earliest-fold a.own a.marks.now.items

pub returns-clause-most : goal.returns-clause-most
returns-clause-most c =
    let a = c.args in
    let is = fold_from_yields_List _ (λ low m. min low m.first) _ _ c.fold.ensures.ran (YieldsList-from_slice a.marks.now.items cc) (λ low x b q k. search (rules, tests)) ∙ earliest-fold a.own a.marks.now.items in
    omega (arith, is, earliest-most a.own a.marks.now.items)
