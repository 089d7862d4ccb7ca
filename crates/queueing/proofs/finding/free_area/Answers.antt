-- `finding::free_area` meets its contract. The loop's invariant: fewer held areas are left from here on than areas.
-- Assumes nothing.
use mathlib.Core.Path.{◌≡◌, sym, ◌∙◌}
use mathlib.Core.Bool.{true}
use lib.Dec.{eqb}
use lib.ListN.{length, take}
use lib.Seq.{length-take-le}
use Rattle.std.proofs.lemmas.Iterator.{YieldsList-from_slice}
use Rattle.std.proofs.lemmas.Iterator.Search.{any_from_yields_List}
use Rattle.promises.specs.Sound.{member, areas_of}
use Rattle.soundness.proofs.Scans.{length-mapped}
use Rattle.queueing.proofs.Areas.{above-length, above-held, any-held, areas-length}
use borrow.Author.Rules.{rules}
use borrow.Author.Tests.{tests}
use native.Mathlib.Omega.{arith}
use Rattle.queueing.proofs.finding.free_area.Goals as goal
use Rattle.queueing.proofs.finding.free_area.Goals.{After-any}

pub loop-area-init : goal.loop-area-init
loop-area-init c =
    let waiting = take c.args.count c.args.staged in
    let long : length c.args.staged ≡ 32 = search (rules, length-mapped) in
    omega (arith, above-length 0 (areas_of waiting), areas-length waiting, length-take-le c.args.count c.args.staged (omega arith))

-- whether an area is held, as the search of the updates tells it
told : (c : After-any) → c.any.result ≡ member c.loop-area.area-counter (areas_of (take c.args.count c.args.staged))
told c =
    let area = c.loop-area.area-counter in
    let waiting = take c.args.count c.args.staged in
    any_from_yields_List (λ update. eqb area update.area) _ _ _ c.any.ensures.ran (YieldsList-from_slice waiting cc) (λ x b q k. search (rules, tests)) ∙ any-held area waiting

pub returns-then-not-any : goal.returns-then-not-any
returns-then-not-any c = (omega arith, sym (told (goal.at.returns-then-not-any c).After-any) ∙ c.if-not-any.true)

pub loop-area-preserved : goal.loop-area-preserved
loop-area-preserved c =
    let area = c.loop-area.area-counter in
    let held : member area (areas_of (take c.args.count c.args.staged)) ≡ true = sym (told (goal.at.loop-area-preserved c).After-any) ∙ c.if-not-any.false in
    omega (arith, above-held area (areas_of (take c.args.count c.args.staged)) held)
