-- `reserve` meets its contract.
-- Assumes nothing.
use mathlib.Core.Path.{refl, sym, ap, ◌∙◌}
use mathlib.Core.Logic.{inl, inr}
use Rattle.std.specs.Prelude.{Ok}
use Rattle.promises.specs.Answers.{refusal_in}
use Rattle.queueing.proofs.Refusals.{begin-by}
use Rattle.store.proofs.Handed.{same-number, not-zero}
use Rattle.store.proofs.reserve.Goals as goal

pub returns-in_err-begin_refusal : goal.returns-in_err-begin_refusal
returns-in_err-begin_refusal c =
    let test = c.begin_refusal in
    begin-by _ c.args.state.now c.args.u _ (same-number test.result _ _ c.in_err-begin_refusal.was c.from_residual.ensures.1 ∙ test.ensures.refusal)
    (inr (not-zero test.result _ _ c.in_err-begin_refusal.was c.from_residual.ensures.1, refl))

pub returns : goal.returns
returns c =
    begin-by (Ok tt) c.args.state.now c.args.u _ (sym (ap refusal_in c.in_ok-begin_refusal.was) ∙ c.begin_refusal.ensures.refusal) (inl (refl, refl))
