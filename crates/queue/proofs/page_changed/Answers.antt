-- `queue::page_changed` meets its contract.
-- Assumes nothing.
use mathlib.Core.Path.{◌∙◌}
use lib.Dec.{eqb}
use lib.ListN.{take}
use Rattle.std.proofs.lemmas.Iterator.{YieldsList-from_slice}
use Rattle.std.proofs.lemmas.Iterator.Search.{any_from_yields_List}
use Rattle.queue.proofs.Shifts.{any-changes}
use borrow.Author.Rules.{rules}
use borrow.Author.Tests.{tests}
use Rattle.queue.proofs.page_changed.Goals as goal

pub returns : goal.returns
returns c =
    let page = c.args.page in
    let group = take c.args.count c.args.state.staged in
    any_from_yields_List (λ update. eqb page update.page) _ _ _ c.any.ensures.ran (YieldsList-from_slice group cc) (λ x b q k. search (rules, tests)) ∙ any-changes page group
