-- A whole line read byte by byte: by what `turn` and `command_of` promise, it comes to the line's command.
-- Assumes nothing.
use mathlib.Core.Path.{◌≡◌, refl, ◌∙◌}
use mathlib.Core.List.{List, [], ◌∷◌}
use Prim.Native.Nat.{ℕ}
use Rattle.script.specs.declared.Reading.{Reading}
use Rattle.script.specs.declared.Reading.TheVariants.{Nothing}
use Rattle.script.specs.Lines.{command_of}
use Rattle.script.specs.Meant.{meant}

-- a line read by a way of taking one byte more
pub read_by : (Reading → ℕ → Reading) → Reading → List ℕ → Reading
read_by turn reading [] = reading
read_by turn reading (byte ∷ rest) = read_by turn (turn reading byte) rest

module _ (turn : Reading → ℕ → Reading)
    (promise : (reading : Reading) (byte : ℕ) (rest : List ℕ) → meant (turn reading byte) rest ≡ meant reading (byte ∷ rest))
  where
    read-on : (reading : Reading) (rest : List ℕ) → meant (read_by turn reading rest) [] ≡ meant reading rest
    unfolding read_by
    read-on reading [] = refl
    read-on reading (byte ∷ rest) = read-on (turn reading byte) rest ∙ promise reading byte rest

    pub whole-line : (line : List ℕ) → meant (read_by turn Nothing line) [] ≡ command_of line
    unfolding meant
    whole-line line = read-on Nothing line
