-- What a line that is read in part comes to, whatever its other bytes are.
-- Assumes nothing.
use Rattle.std.specs.Prelude.{ℕ, zero, suc, ◌-◌, Bool, ◌&&◌, Option, None, List, [], ◌∷◌, ◌++◌, map, drop}
use Rattle.script.specs.declared.Command.{Command}
use Rattle.script.specs.declared.Line.{Line}
use Rattle.script.specs.declared.Reading.{Reading}
use Rattle.script.specs.declared.Reading.TheVariants.{Nothing, Partly, Wrong}
use Rattle.script.specs.Commands.{command_for, pick_command}
use Rattle.script.specs.Lines.{Words, words_of, spelled, spelled_from, is_empty, is_number_from, all_numbers, command_of}

-- the whole numbers before the newest
abbrev pub whole_numbers : ℕ → ℕ → ℕ → ℕ → List ℕ
whole_numbers count first second third = drop (4 - count) (first ∷ second ∷ third ∷ [])

-- the letter alone, or the newest number behind whole ones, goes on in the first of the words to come
abbrev pub goes_on : ℕ → ℕ → List ℕ → Bool → ℕ → Words → Option Command
goes_on zero letter whole digits last words =
    pick_command (is_empty words.head && all_numbers words.tail) (command_for letter (map spelled words.tail)) None
goes_on (suc count) letter whole digits last words =
    pick_command (is_number_from last digits words.head && all_numbers words.tail)
    (command_for letter (whole ++ (spelled_from last words.head ∷ map spelled words.tail)))
    None

unfoldable pub line_meant : Line → List ℕ → Option Command
line_meant line rest =
    goes_on line.count line.letter (whole_numbers line.count line.first line.second line.third) line.digits line.last
    (words_of rest)

-- the command of a line of which so much is read, and the rest of which is given
unfoldable pub meant : Reading → List ℕ → Option Command
meant Nothing rest = command_of rest
meant (Partly line) rest = line_meant line rest
meant Wrong rest = None
