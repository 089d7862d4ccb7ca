-- `logging::log_refusal` meets its contract: each test is that of `log_refusal`, in its order.
-- Assumes nothing.
use mathlib.Core.Path.{refl, sym, ap, ◌∙◌}
use mathlib.Core.Bool.{Bool, true, false, ◌&&◌}
use Prim.Native.Nat.{◌*◌}
use lib.Dec.{eqb}
use borrow.Author.Tests.{eq-eqb, ne_eqb}
use Rattle.promises.proofs.Replies.{refused-with}
use Rattle.promises.proofs.Soundness.{Sound, sound-of}
use Rattle.soundness.proofs.Verdicts.{told_ok, told_err}
use Rattle.logging.proofs.Decision.{by_tests}
use native.Mathlib.Omega.{arith}
use Rattle.logging.proofs.log_refusal.Goals as goal

pub returns-in_err-sums-clause-refusal : goal.returns-in_err-sums-clause-refusal
returns-in_err-sums-clause-refusal c =
    let a = c.args in
    let unsound = told_err a.verdict _ c.requires (sym c.ok_or.ensures.value ∙ c.in_err-sums.was) in
    refused-with _ _ c.from_residual.ensures.1 ∙ unsound.1 ∙ by_tests a.state a.log a.home a.frames a.staging false _ _ (sym unsound.0) refl refl

pub areas_fit-fit-requires : goal.areas_fit-fit-requires
areas_fit-fit-requires c =
    let f : Sound c.args.state = sound-of _ (told_ok c.args.verdict _ c.requires (sym c.ok_or.ensures.value ∙ c.in_ok-sums.was)) in
    (f.slots.1, f.pages.1, f.frames.1)

pub overflow_mul-state : goal.overflow_mul-state
overflow_mul-state c =
    let f : Sound c.args.state = sound-of _ (told_ok c.args.verdict _ c.requires (sym c.ok_or.ensures.value ∙ c.in_ok-sums.was)) in
    let h = f.frames.1 in
    omega arith

pub returns-then-not-fit-staging-clause-refusal : goal.returns-then-not-fit-staging-clause-refusal
returns-then-not-fit-staging-clause-refusal c =
    let a = c.args in
    by_tests a.state a.log a.home a.frames a.staging true false _ (sym (told_ok c.args.verdict _ c.requires (sym c.ok_or.ensures.value ∙ c.in_ok-sums.was)))
    (sym c.if-not-fit-staging.true ∙ ap (λ (x : Bool). x && eqb a.staging (a.state.frames * 472)) c.areas_fit-fit.ensures) refl

pub returns-then-state-eq0-clause-refusal : goal.returns-then-state-eq0-clause-refusal
returns-then-state-eq0-clause-refusal c =
    let a = c.args in
    by_tests a.state a.log a.home a.frames a.staging true true true (sym (told_ok c.args.verdict _ c.requires (sym c.ok_or.ensures.value ∙ c.in_ok-sums.was)))
    (sym c.if-not-fit-staging.false ∙ ap (λ (x : Bool). x && eqb a.staging (a.state.frames * 472)) c.areas_fit-fit.ensures)
    (sym (eq-eqb _ _ c.if-state-eq0.true))

pub returns-clause-refusal : goal.returns-clause-refusal
returns-clause-refusal c =
    let a = c.args in
    by_tests a.state a.log a.home a.frames a.staging true true false (sym (told_ok c.args.verdict _ c.requires (sym c.ok_or.ensures.value ∙ c.in_ok-sums.was)))
    (sym c.if-not-fit-staging.false ∙ ap (λ (x : Bool). x && eqb a.staging (a.state.frames * 472)) c.areas_fit-fit.ensures)
    (sym (ne_eqb _ _ c.if-state-eq0.false))
