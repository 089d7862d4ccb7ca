-- `cleaning::third_refusal` meets its contract: only the third store can be refused here.
-- Assumes nothing.
use mathlib.Core.Path.{sym, ap, ◌∙◌}
use Rattle.promises.specs.CleanStep.{third_refusal}
use Rattle.cleaning.proofs.third_refusal.Goals as goal

pub returns-in-Third-clause-refusal : goal.returns-in-Third-clause-refusal
returns-in-Third-clause-refusal c = c.block_refusal.ensures.refusal ∙ sym (ap (third_refusal c.args.state) c.in-Third.is)
