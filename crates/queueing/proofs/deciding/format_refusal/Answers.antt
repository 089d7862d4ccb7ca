-- `deciding::format_refusal` meets its contract.
-- Assumes nothing.
use mathlib.Core.Path.{sym, ap, ◌∙◌}
use mathlib.Core.Bool.{Bool, cond}
use Prim.Native.Nat.{ℕ}
use Rattle.queueing.proofs.Refusals.{log-fits}
use Rattle.queueing.proofs.deciding.format_refusal.Goals as goal

pub returns-then-slots-length-clause-refusal : goal.returns-then-slots-length-clause-refusal
returns-then-slots-length-clause-refusal c = sym (ap (λ (b : Bool). cond {A = ℕ} b 0 1) (sym (log-fits c.args.length) ∙ c.if-slots-length.true))

pub returns-clause-refusal : goal.returns-clause-refusal
returns-clause-refusal c = sym (ap (λ (b : Bool). cond {A = ℕ} b 0 1) (sym (log-fits c.args.length) ∙ c.if-slots-length.false))
