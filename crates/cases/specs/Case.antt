-- A worked case, numbered as in 01, "Checked by hand": what the definitions give, and what the rules say.
-- Assumes nothing.
use Rattle.std.specs.Prelude.{ℕ, ◌≡◌, List, [], ◌∷◌}

-- a case: its number, what the definitions give, what the rules say
pub record Case : Type 0 where
  pub number : ℕ
  pub found : List ℕ
  pub expected : List ℕ

-- every case of a list is as the rules say
abbrev pub Right : List Case → Type 0
Right [] = Unit {0}
Right (case ∷ cases) = (case.found ≡ case.expected) × Right cases
