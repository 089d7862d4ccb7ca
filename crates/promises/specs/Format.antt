-- What Format promises. Format (log): 1. It zeroes the log, gives no state, and is not lent home.
-- Assumes nothing.
use Rattle.std.specs.Prelude.{ℕ, ◌≡◌, cond, List, length, replicate}
use Rattle.std.specs.Prelude.{Result}
use Rattle.promises.specs.declared.Refusal.{Refusal}
use Rattle.promises.specs.Areas.{log_fits}
use Rattle.promises.specs.Answers.{done, replied, answered}

-- of the log's length
abbrev pub format_refusal : ℕ → ℕ
format_refusal log = cond (log_fits log) 0 1

pub record Formats (log : List ℕ) (answer : Result (Unit {0}) Refusal) (log' : List ℕ) : Type 0 where
  pub answer_is : answered answer ≡ replied (format_refusal (length log)) done
  pub refused : (format_refusal (length log) ≡ 0 → ⊥) → log' ≡ log
  pub accepted : format_refusal (length log) ≡ 0 → log' ≡ replicate (length log) 0
