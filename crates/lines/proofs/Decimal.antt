-- The text of a number, as `itoa` writes it, is the number in decimal.
-- Assumes nothing.
use Rattle.std.proofs.Common.{◌≡◌, ℕ, zero, suc, ◌+◌, ◌/◌, ◌%◌, ◌^◌, ◌<◌, List, [], ◌∷◌, ◌++◌, ap, ◌∙◌, arith}
use native.Mathlib.Nat.{pow-suc}
use borrow.Author.Tests.{lt-ltb, le-ltb}
use Rattle.std.specs.Fmt.{decimal}
use Rattle.std.proofs.lemmas.Fmt.{decimal_digit, decimal_step}
use Rattle.area.proofs.Laws.{either}
use Rattle.lines.specs.Text.{digits_within}

-- std's digits are those of the definition
pub spelled : (more number : ℕ) → number < 10 ^ suc more → number < 2 ^ 64 → decimal number ≡ digits_within more number
unfolding digits_within
spelled zero number h small =
    let same : number % 10 ≡ number = omega (arith, pow-suc 10 0) in
    rw same (decimal_digit number (omega arith))
spelled (suc more) number h small =
    either number 10
    (λ few. rw (lt-ltb number 10 few) (decimal_digit number few))
    (λ large. rw (le-ltb number 10 large)
    (decimal_step number large small
    ∙ ap (λ (l : List ℕ). l ++ ((48 + number % 10) ∷ [])) (spelled more (number / 10) (omega (arith, pow-suc 10 (suc more))) (omega arith))))
