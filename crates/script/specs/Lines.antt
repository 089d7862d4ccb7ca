-- The command of a line, given without its newline: one letter, then decimal numbers below 2^64, one space before each.
-- Assumes nothing.
use Rattle.std.specs.Prelude.{ℕ, ◌+◌, ◌*◌, ◌-◌, ◌^◌, Bool, true, false, not, ◌&&◌, ◌||◌, Option, None, List, [], ◌∷◌, map, eqb, leb, ltb}
use Rattle.script.specs.declared.Command.{Command}
use Rattle.script.specs.Commands.{command_for, pick_command}

-- the words of a line are what its spaces part: one more than there are spaces, some perhaps empty. The first, and those after it
pub record Words : Type 0 where
  pub head : List ℕ
  pub tail : List (List ℕ)

abbrev pub words_with : Bool → ℕ → Words → Words
words_with true byte words = record { head = []; tail = words.head ∷ words.tail }
words_with false byte words = record { head = byte ∷ words.head; tail = words.tail }

unfoldable pub words_of : List ℕ → Words
words_of [] = record { head = []; tail = [] }
words_of (byte ∷ rest) = words_with (eqb byte 32) byte (words_of rest)

-- ---- decimal numbers

abbrev pub is_digit : ℕ → Bool
is_digit byte = leb 48 byte && leb byte 57

unfoldable pub all_digits : List ℕ → Bool
all_digits [] = true
all_digits (byte ∷ word) = is_digit byte && all_digits word

abbrev pub is_empty : List ℕ → Bool
is_empty [] = true
is_empty (byte ∷ word) = false

-- the number that digits spell behind those that spell a value
unfoldable pub spelled_from : ℕ → List ℕ → ℕ
spelled_from value [] = value
spelled_from value (digit ∷ digits) = spelled_from (value * 10 + (digit - 48)) digits

abbrev pub spelled : List ℕ → ℕ
spelled word = spelled_from 0 word

-- digits that go on from a value make a number below 2^64, and there are some, or there were some before
unfoldable pub is_number_from : ℕ → Bool → List ℕ → Bool
is_number_from value before word = (before || not (is_empty word)) && all_digits word && ltb (spelled_from value word) (2 ^ 64)

abbrev pub is_number : List ℕ → Bool
is_number word = is_number_from 0 false word

unfoldable pub all_numbers : List (List ℕ) → Bool
all_numbers [] = true
all_numbers (word ∷ words) = is_number word && all_numbers words

-- ---- the command

-- a first word that is one byte, the letter, and numbers
unfoldable pub command_in : List ℕ → List (List ℕ) → Option Command
command_in [] words = None
command_in (letter ∷ []) words = pick_command (all_numbers words) (command_for letter (map spelled words)) None
command_in (letter ∷ byte ∷ more) words = None

abbrev pub command_of : List ℕ → Option Command
command_of line = command_in (words_of line).head (words_of line).tail
