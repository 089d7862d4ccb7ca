-- What a letter with its numbers asks for: the script language's table, by how many numbers there are. None: no command, or a number is out of
-- the range that the language gives it.
-- Assumes nothing.
use Rattle.std.specs.Prelude.{ℕ, Bool, true, false, ◌&&◌, Option, Some, None, List, [], ◌∷◌, eqb, leb, ltb}
use Rattle.script.specs.declared.Command.{Command}
use Rattle.script.specs.declared.Command.TheVariants.{
  Areas,
  Format,
  Begin,
  Describe,
  Open,
  End,
  LogStep,
  CleanStep,
  Read,
  Settled,
  Cut,
  Lend,
  Poke,
  Next,
  Digests,
}

abbrev pub pick_command : Bool → Option Command → Option Command → Option Command
pick_command true a b = a
pick_command false a b = b

-- f Format, o Open, e End, l Log step, c Clean step, x a cut, g the digests
unfoldable pub alone : ℕ → Option Command
alone letter =
    pick_command (eqb letter 102) (Some Format)
    (pick_command (eqb letter 111) (Some Open)
    (pick_command (eqb letter 101) (Some End)
    (pick_command (eqb letter 108) (Some LogStep)
    (pick_command (eqb letter 99) (Some CleanStep)
    (pick_command (eqb letter 120) (Some Cut)
    (pick_command (eqb letter 103) (Some Digests) None))))))

-- b U Begin, r PAGE Read, s T Settled, t S the state's next becomes S
unfoldable pub with_one : ℕ → ℕ → Option Command
with_one letter number =
    pick_command (eqb letter 98) (Some (Begin number))
    (pick_command (eqb letter 114) (Some (Read number))
    (pick_command (eqb letter 115) (Some (Settled number))
    (pick_command (eqb letter 116) (Some (Next number)) None)))

-- p I V log byte I becomes V, a byte
unfoldable pub with_two : ℕ → ℕ → ℕ → Option Command
with_two letter place value = pick_command (eqb letter 112 && ltb value 256) (Some (Poke place value)) None

-- a N P F areas of 8 to 64 slots, 1 to 16 pages and 1 to 8 frames
unfoldable pub with_three : ℕ → ℕ → ℕ → ℕ → Option Command
with_three letter slots pages frames =
    pick_command
    (eqb letter 97
    && (leb 8 slots && leb slots 64 && leb 1 pages && leb pages 16 && leb 1 frames && leb frames 8))
    (Some (Areas slots pages frames))
    None

-- n L H F S what is lent; d PAGE OFFSET LENGTH SEED Describe of up to 512 bytes
unfoldable pub with_four : ℕ → ℕ → ℕ → ℕ → ℕ → Option Command
with_four letter a b c d =
    pick_command (eqb letter 110) (Some (Lend a b c d)) (pick_command (eqb letter 100 && leb c 512) (Some (Describe a b c d)) None)

unfoldable pub command_for : ℕ → List ℕ → Option Command
command_for letter [] = alone letter
command_for letter (a ∷ []) = with_one letter a
command_for letter (a ∷ b ∷ []) = with_two letter a b
command_for letter (a ∷ b ∷ c ∷ []) = with_three letter a b c
command_for letter (a ∷ b ∷ c ∷ d ∷ []) = with_four letter a b c d
command_for letter (a ∷ b ∷ c ∷ d ∷ e ∷ more) = None
