-- `cleaning::clean_refusal` meets its contract: each test is that of `clean_refusal`, in its order.
-- Assumes nothing.
use mathlib.Core.Path.{refl, sym, ap, ◌∙◌}
use mathlib.Core.Bool.{true, false}
use borrow.Author.Tests.{eq-eqb, ne_eqb}
use Rattle.promises.specs.Answers.{refusal_in}
use Rattle.promises.proofs.Replies.{refused-with}
use Rattle.promises.proofs.Soundness.{Sound, sound-of}
use Rattle.soundness.proofs.Verdicts.{judged_ok, judged_err}
use Rattle.cleaning.proofs.Decision.{by_tests}
use Rattle.cleaning.proofs.clean_refusal.Goals as goal

pub returns-in_err-sums-clause-refusal : goal.returns-in_err-sums-clause-refusal
returns-in_err-sums-clause-refusal c =
    let a = c.args in
    let unsound = judged_err false a.state a.verdict _ c.requires (sym c.ok_or.ensures.value ∙ c.in_err-sums.was) in
    refused-with _ _ c.from_residual.ensures.1 ∙ unsound.1 ∙ by_tests a.state a.log a.home a.frames false _ _ _ (sym unsound.0) refl refl refl

pub areas_fit-requires : goal.areas_fit-requires
areas_fit-requires c =
    let f : Sound c.args.state = sound-of _ (judged_ok false c.args.state c.args.verdict _ c.requires (sym c.ok_or.ensures.value ∙ c.in_ok-sums.was)).0 in
    (f.slots.1, f.pages.1, f.frames.1)

pub returns-then-not-areas_fit-clause-refusal : goal.returns-then-not-areas_fit-clause-refusal
returns-then-not-areas_fit-clause-refusal c =
    let a = c.args in
    by_tests a.state a.log a.home a.frames true false _ _ (sym (judged_ok false c.args.state c.args.verdict _ c.requires (sym c.ok_or.ensures.value ∙ c.in_ok-sums.was)).0) (sym c.if-not-areas_fit.true ∙ c.areas_fit.ensures) refl refl

pub returns-then-sums-eq0-clause-refusal : goal.returns-then-sums-eq0-clause-refusal
returns-then-sums-eq0-clause-refusal c =
    let a = c.args in
    let sums = (judged_ok false c.args.state c.args.verdict _ c.requires (sym c.ok_or.ensures.value ∙ c.in_ok-sums.was)) in
    by_tests a.state a.log a.home a.frames true true true _ (sym sums.0) (sym c.if-not-areas_fit.false ∙ c.areas_fit.ensures)
    (sym (eq-eqb _ _ (sym sums.1.dirty ∙ c.if-sums-eq0.true))) refl

pub returns-in_err-third_refusal-clause-refusal : goal.returns-in_err-third_refusal-clause-refusal
returns-in_err-third_refusal-clause-refusal c =
    let a = c.args in
    let sums = (judged_ok false c.args.state c.args.verdict _ c.requires (sym c.ok_or.ensures.value ∙ c.in_ok-sums.was)) in
    refused-with _ _ c.from_residual-in_err-third_refusal.ensures.1
    ∙ by_tests a.state a.log a.home a.frames true true false _ (sym sums.0) (sym c.if-not-areas_fit.false ∙ c.areas_fit.ensures)
    (sym (ne_eqb _ _ (λ e. c.if-sums-eq0.false (sums.1.dirty ∙ e)))) (sym (ap refusal_in c.in_err-third_refusal.was) ∙ c.third_refusal.ensures.refusal)

pub returns-clause-refusal : goal.returns-clause-refusal
returns-clause-refusal c =
    let a = c.args in
    let sums = (judged_ok false c.args.state c.args.verdict _ c.requires (sym c.ok_or.ensures.value ∙ c.in_ok-sums.was)) in
    by_tests a.state a.log a.home a.frames true true false _ (sym sums.0) (sym c.if-not-areas_fit.false ∙ c.areas_fit.ensures)
    (sym (ne_eqb _ _ (λ e. c.if-sums-eq0.false (sums.1.dirty ∙ e)))) (sym (ap refusal_in c.in_ok-third_refusal.was) ∙ c.third_refusal.ensures.refusal)
