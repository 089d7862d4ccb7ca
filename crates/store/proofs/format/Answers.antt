-- `format` meets its contract.
-- Assumes nothing.
use mathlib.Core.Path.{refl, sym, ap, ◌∙◌}
use mathlib.Core.Logic.{inl, inr}
use Rattle.std.specs.Prelude.{Ok}
use Rattle.promises.specs.Answers.{refusal_in}
use Rattle.queueing.proofs.Refusals.{format-by}
use Rattle.store.proofs.Handed.{same-number, not-zero}
use Rattle.store.proofs.format.Goals as goal

pub returns-in_err-format_refusal : goal.returns-in_err-format_refusal
returns-in_err-format_refusal c =
    let test = c.format_refusal in
    format-by _ c.args.log.now _ (same-number test.result _ _ c.in_err-format_refusal.was c.from_residual.ensures.1 ∙ test.ensures.refusal)
    (inr (not-zero test.result _ _ c.in_err-format_refusal.was c.from_residual.ensures.1, refl))

pub returns : goal.returns
returns c =
    format-by (Ok tt) c.args.log.now _ (sym (ap refusal_in c.in_ok-format_refusal.was) ∙ c.format_refusal.ensures.refusal) (inl (refl, c.clear.ensures))
