-- `judging::kind_of` meets its contract, arm by arm.
-- Assumes nothing.
use Rattle.std.proofs.Common.{arith}
use Rattle.block.proofs.Rules.{kind-update, kind-commit, kind-clean}
use Rattle.block.proofs.judging.kind_of.Goals as goal

pub returns-in-1 : goal.returns-in-1
returns-in-1 c = kind-update c.args.fields c.in-1.is

pub returns-in-2 : goal.returns-in-2
returns-in-2 c = kind-commit c.args.fields (λ e. omega (arith, e, c.in-2.is)) c.in-2.is

pub returns-in_default : goal.returns-in_default
returns-in_default c = kind-clean c.args.fields (λ e. omega arith) (λ e. omega arith)
