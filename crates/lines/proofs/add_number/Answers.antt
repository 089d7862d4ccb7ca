-- `lines::add_number` meets its contract: the kit's digits are the number in decimal.
-- Assumes nothing.
use mathlib.Core.Path.{ap, ◌∙◌}
use mathlib.Core.List.{List, ◌++◌}
use Prim.Native.Nat.{ℕ}
use native.Mathlib.Omega.{arith}
use Rattle.lines.proofs.Decimal.{spelled}
use Rattle.lines.proofs.add_number.Goals as goal

pub returns-clause-is : goal.returns-clause-is
returns-clause-is c =
    c.push_str.ensures.bytes ∙ ap (λ (l : List ℕ). c.args.line.now.bytes ++ l) (c.format.ensures.text ∙ spelled 19 c.args.number (omega arith) (omega arith))
