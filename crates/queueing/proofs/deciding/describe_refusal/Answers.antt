-- `deciding::describe_refusal` meets its contract.
-- Assumes nothing.
use mathlib.Core.Path.{sym, ◌∙◌}
use mathlib.Core.Bool.{false}
use borrow.Author.Tests.{eq-eqb, ne_eqb, lt-ltb, le-ltb}
use Rattle.promises.specs.Describe.{describe_refusal}
use Rattle.promises.proofs.Replies.{refused-with}
use Rattle.promises.proofs.Soundness.{sound-of}
use Rattle.soundness.proofs.Verdicts.{told_ok, told_err}
use native.Mathlib.Omega.{arith}
use Rattle.queueing.proofs.deciding.describe_refusal.Goals as goal

pub returns-in_err-sums-clause-refusal : goal.returns-in_err-sums-clause-refusal
unfolding describe_refusal
returns-in_err-sums-clause-refusal c =
    let unsound = told_err c.args.verdict _ c.requires (sym c.ok_or.ensures.value ∙ c.in_err-sums.was) in
    refused-with _ _ c.from_residual.ensures.1 ∙ unsound.1 ∙ simp (unsound.0)

pub overflow_mul-state : goal.overflow_mul-state
overflow_mul-state c = omega (arith, (sound-of c.args.state (told_ok c.args.verdict _ c.requires (sym c.ok_or.ensures.value ∙ c.in_ok-sums.was))).frames.1)

pub returns-then-staging-state-clause-refusal : goal.returns-then-staging-state-clause-refusal
unfolding describe_refusal
returns-then-staging-state-clause-refusal c = simp (told_ok c.args.verdict _ c.requires (sym c.ok_or.ensures.value ∙ c.in_ok-sums.was), ne_eqb _ _ c.if-staging-state.true)

pub returns-then-state-eq0-clause-refusal : goal.returns-then-state-eq0-clause-refusal
unfolding describe_refusal
returns-then-state-eq0-clause-refusal c = simp (told_ok c.args.verdict _ c.requires (sym c.ok_or.ensures.value ∙ c.in_ok-sums.was), eq-eqb _ _ c.if-staging-state.false, eq-eqb _ _ c.if-state-eq0.true)

pub returns-then-not-legal_place-clause-refusal : goal.returns-then-not-legal_place-clause-refusal
unfolding describe_refusal
returns-then-not-legal_place-clause-refusal c =
    simp (told_ok c.args.verdict _ c.requires (sym c.ok_or.ensures.value ∙ c.in_ok-sums.was), eq-eqb _ _ c.if-staging-state.false, ne_eqb _ _ c.if-state-eq0.false, sym c.legal_place.ensures ∙ c.if-not-legal_place.true)

pub returns-then-state-clause-refusal : goal.returns-then-state-clause-refusal
unfolding describe_refusal
returns-then-state-clause-refusal c =
    simp (told_ok c.args.verdict _ c.requires (sym c.ok_or.ensures.value ∙ c.in_ok-sums.was), eq-eqb _ _ c.if-staging-state.false, ne_eqb _ _ c.if-state-eq0.false, sym c.legal_place.ensures ∙ c.if-not-legal_place.false, lt-ltb _ _ c.if-state.true)

pub returns-clause-refusal : goal.returns-clause-refusal
unfolding describe_refusal
returns-clause-refusal c =
    simp (told_ok c.args.verdict _ c.requires (sym c.ok_or.ensures.value ∙ c.in_ok-sums.was), eq-eqb _ _ c.if-staging-state.false, ne_eqb _ _ c.if-state-eq0.false, sym c.legal_place.ensures ∙ c.if-not-legal_place.false, le-ltb _ _ c.if-state.false)
