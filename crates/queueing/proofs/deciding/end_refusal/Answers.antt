-- `deciding::end_refusal` meets its contract.
-- Assumes nothing.
use mathlib.Core.Path.{sym, ◌∙◌}
use mathlib.Core.Bool.{false}
use borrow.Author.Tests.{eq-eqb, ne_eqb}
use Rattle.promises.specs.End.{end_refusal}
use Rattle.promises.proofs.Replies.{refused-with}
use Rattle.soundness.proofs.Verdicts.{told_ok, told_err}
use Rattle.queueing.proofs.deciding.end_refusal.Goals as goal

pub returns-in_err-ok_or-clause-refusal : goal.returns-in_err-ok_or-clause-refusal
unfolding end_refusal
returns-in_err-ok_or-clause-refusal c =
    let unsound = told_err c.args.verdict _ c.requires (sym c.ok_or.ensures.value ∙ c.in_err-ok_or.was) in
    refused-with _ _ c.from_residual.ensures.1 ∙ unsound.1 ∙ simp (unsound.0)

pub returns-then-state-eq0-clause-refusal : goal.returns-then-state-eq0-clause-refusal
unfolding end_refusal
returns-then-state-eq0-clause-refusal c = simp (told_ok c.args.verdict _ c.requires (sym c.ok_or.ensures.value ∙ c.in_ok-ok_or.was), eq-eqb _ _ c.if-state-eq0.true)

pub returns-then-state-eq0-2-clause-refusal : goal.returns-then-state-eq0-2-clause-refusal
unfolding end_refusal
returns-then-state-eq0-2-clause-refusal c = simp (told_ok c.args.verdict _ c.requires (sym c.ok_or.ensures.value ∙ c.in_ok-ok_or.was), ne_eqb _ _ c.if-state-eq0.false, eq-eqb _ _ c.if-state-eq0-2.true)

pub returns-clause-refusal : goal.returns-clause-refusal
unfolding end_refusal
returns-clause-refusal c = simp (told_ok c.args.verdict _ c.requires (sym c.ok_or.ensures.value ∙ c.in_ok-ok_or.was), ne_eqb _ _ c.if-state-eq0.false, ne_eqb _ _ c.if-state-eq0-2.false)
