-- `settled` meets its contract.
-- Assumes nothing.
use mathlib.Core.Path.{sym, ap, ◌∙◌, subst}
use Rattle.std.specs.Prelude.{Result, Bool}
use Rattle.promises.specs.declared.Refusal.{Refusal}
use Rattle.promises.specs.Answers.{refusal_in}
use Rattle.promises.specs.Settled.{Settles}
use Rattle.promises.proofs.Replies.{replied-accepted, passed-on}
use Rattle.queueing.proofs.Refusals.{settled-refused}
use Rattle.store.proofs.settled.Goals as goal

pub returns-in_err-settled_refusal : goal.returns-in_err-settled_refusal
returns-in_err-settled_refusal c =
    let a = c.args in
    let refusal = c.in_err-settled_refusal.field-0.0 in
    subst (λ (r : Result Bool Refusal). Settles a.state a.ticket r) (sym (passed-on _ refusal c.from_residual.ensures.1))
    (settled-refused refusal a.state a.ticket (sym (ap refusal_in c.in_err-settled_refusal.was) ∙ c.settled_refusal.ensures.refusal))

pub returns : goal.returns
returns c = record { answer_is = sym (replied-accepted _ _ (sym c.settled_refusal.ensures.refusal ∙ ap refusal_in c.in_ok-settled_refusal.was)) }
