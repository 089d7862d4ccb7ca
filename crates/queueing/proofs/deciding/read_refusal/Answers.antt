-- `deciding::read_refusal` meets its contract.
-- Assumes nothing.
use mathlib.Core.Path.{sym, ◌∙◌}
use borrow.Author.Tests.{lt-ltb, le-ltb}
use Rattle.promises.specs.Read.{read_refusal}
use Rattle.promises.proofs.Replies.{refused-with}
use Rattle.promises.proofs.Soundness.{sound-as-of}
use Rattle.soundness.proofs.Verdicts.{told_ok, told_err}
use native.Mathlib.Omega.{arith}
use Rattle.queueing.proofs.deciding.read_refusal.Goals as goal

pub returns-in_err-ok_or-clause-refusal : goal.returns-in_err-ok_or-clause-refusal
unfolding read_refusal
returns-in_err-ok_or-clause-refusal c =
    let unsound = told_err c.args.verdict _ c.requires (sym c.ok_or.ensures.value ∙ c.in_err-ok_or.was) in
    refused-with _ _ c.from_residual.ensures.1 ∙ unsound.1 ∙ simp (unsound.0)

pub overflow_mul-right : goal.overflow_mul-right
overflow_mul-right c = omega (arith, (sound-as-of _ c.args.state (told_ok c.args.verdict _ c.requires (sym c.ok_or.ensures.value ∙ c.in_ok-ok_or.was))).pages)

pub overflow_mul-right-2 : goal.overflow_mul-right-2
overflow_mul-right-2 c = omega (arith, (sound-as-of _ c.args.state (told_ok c.args.verdict _ c.requires (sym c.ok_or.ensures.value ∙ c.in_ok-ok_or.was))).frames)

pub returns-then-not-right-clause-refusal : goal.returns-then-not-right-clause-refusal
unfolding read_refusal
returns-then-not-right-clause-refusal c = simp (told_ok c.args.verdict _ c.requires (sym c.ok_or.ensures.value ∙ c.in_ok-ok_or.was), c.if-not-right.true)

pub returns-then-page-state-clause-refusal : goal.returns-then-page-state-clause-refusal
unfolding read_refusal
returns-then-page-state-clause-refusal c = simp (told_ok c.args.verdict _ c.requires (sym c.ok_or.ensures.value ∙ c.in_ok-ok_or.was), c.if-not-right.false, lt-ltb _ _ c.if-page-state.true)

pub returns-clause-refusal : goal.returns-clause-refusal
unfolding read_refusal
returns-clause-refusal c = simp (told_ok c.args.verdict _ c.requires (sym c.ok_or.ensures.value ∙ c.in_ok-ok_or.was), c.if-not-right.false, le-ltb _ _ c.if-page-state.false)
