-- `recovery::walk_update` meets its contract, by its two tests.
-- Assumes nothing.
use mathlib.Core.Path.{◌≡◌, refl, sym, ◌∙◌}
use mathlib.Core.Bool.{Bool}
use mathlib.Core.List.{List}
use Prim.Native.Nat.{ℕ}
use Rattle.std.specs.Prelude.{Ok}
use borrow.Author.Tests.{eq-eqb, ne_eqb}
use lib.ListN.{length}
use Rattle.promises.specs.Updates.{Update}
use Rattle.promises.specs.Walk.{Walk, in_order}
use Rattle.promises.specs.Blocks.{update}
use Rattle.promises.specs.LogStep.{no_update}
use Rattle.recovery.specs.declared.Stage.{Stage}
use Rattle.recovery.specs.Order.{counted}
use Rattle.recovery.specs.Walking.{walk_of, walk_fits}
use Rattle.recovery.proofs.Ordering.{count-is}
use Rattle.recovery.proofs.Changing.{updated-wrong, updated-first, updated-next}
use Rattle.recovery.proofs.walk_update.Goals as goal

-- the order of the update
in-order : (stage : Stage) (seats : List ℕ) (index ticket : ℕ) (fits : Bool)
    → ((walk : Walk) (change : Update) → stage.count ≡ length walk.group → stage.ticket ≡ walk.ticket → fits ≡ in_order (update index change) ticket walk)
    → fits ≡ walk_fits (walk_of (Ok stage) seats) (update index no_update) ticket
in-order stage seats index ticket fits told = told (counted stage.count stage.ticket) no_update (count-is stage.count stage.ticket) refl

pub returns-then-not-update_fits : goal.returns-then-not-update_fits
returns-then-not-update_fits c =
    let a = c.args in
    λ seats. rw c.out_of_order.ensures (updated-wrong (walk_of (Ok a.stage) seats) a.sequence a.index a.ticket
    (sym (in-order a.stage seats a.index a.ticket _ c.update_fits.ensures) ∙ c.if-not-update_fits.true))

pub returns-then-index-eq1 : goal.returns-then-index-eq1
returns-then-index-eq1 c =
    let a = c.args in
    λ seats. updated-first (walk_of (Ok a.stage) seats) a.sequence a.index a.ticket
    (sym (in-order a.stage seats a.index a.ticket _ c.update_fits.ensures) ∙ c.if-not-update_fits.false) (eq-eqb _ _ c.if-index-eq1.true)

pub returns : goal.returns
returns c =
    let a = c.args in
    λ seats. updated-next (walk_of (Ok a.stage) seats) a.sequence a.index a.ticket
    (sym (in-order a.stage seats a.index a.ticket _ c.update_fits.ensures) ∙ c.if-not-update_fits.false) (ne_eqb _ _ c.if-index-eq1.false)
