-- `deciding::settled_refusal` meets its contract.
-- Assumes nothing.
use mathlib.Core.Path.{◌≡◌, sym, ◌∙◌}
use Rattle.promises.specs.Settled.{settled_refusal}
use Rattle.promises.proofs.Replies.{refused-with}
use Rattle.soundness.proofs.Verdicts.{told_ok, told_err}
use Rattle.queueing.proofs.Refusals.{tickets-fit}
use lib.ListN.{length}
use borrow.Author.Rules.{rules}
use native.Mathlib.Omega.{arith}
use Rattle.queueing.proofs.deciding.settled_refusal.Goals as goal

pub returns-in_err-ok_or-clause-refusal : goal.returns-in_err-ok_or-clause-refusal
unfolding settled_refusal
returns-in_err-ok_or-clause-refusal c =
    let unsound = told_err c.args.verdict _ c.requires (sym c.ok_or.ensures.value ∙ c.in_err-ok_or.was) in
    refused-with _ _ c.from_residual.ensures.1 ∙ unsound.1 ∙ simp (unsound.0)

pub overflow_add-last : goal.overflow_add-last
overflow_add-last c =
    let long : length c.args.state.groups ≡ 32 = search rules in
    omega (arith, tickets-fit _ c.args.state long (told_ok c.args.verdict _ c.requires (sym c.ok_or.ensures.value ∙ c.in_ok-ok_or.was)))

pub returns-then-ticket-last-clause-refusal : goal.returns-then-ticket-last-clause-refusal
unfolding settled_refusal
returns-then-ticket-last-clause-refusal c = simp (told_ok c.args.verdict _ c.requires (sym c.ok_or.ensures.value ∙ c.in_ok-ok_or.was), c.if-ticket-last.true)

pub returns-clause-refusal : goal.returns-clause-refusal
unfolding settled_refusal
returns-clause-refusal c = simp (told_ok c.args.verdict _ c.requires (sym c.ok_or.ensures.value ∙ c.in_ok-ok_or.was), c.if-ticket-last.false)
