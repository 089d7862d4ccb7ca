-- Lines and digests worked by hand, as a check of the definitions.
-- Assumes nothing.
use mathlib.Core.Path.{◌≡◌, refl}
use mathlib.Core.List.{[], ◌∷◌}
use Rattle.std.specs.Prelude.{Some, None}
use Rattle.script.specs.declared.Command.TheVariants.{Begin, Poke, Cut}
use Rattle.script.specs.Digest.{digest_from, digest_of}
use Rattle.script.specs.Fills.{listed, home_byte, described_of}
use Rattle.script.specs.Commands.{command_for, alone, with_one, with_two}
use Rattle.script.specs.Lines.{words_of, all_digits, spelled_from, is_number_from, all_numbers, command_in, command_of}

-- `x`
cut : command_of (120 ∷ []) ≡ Some Cut
unfolding words_of all_numbers command_in command_for alone
cut = refl

-- `b 007`
begin-seven : command_of (98 ∷ 32 ∷ 48 ∷ 48 ∷ 55 ∷ []) ≡ Some (Begin 7)
unfolding words_of all_digits spelled_from is_number_from all_numbers command_in command_for with_one
begin-seven = refl

-- `b 18446744073709551615`, and one more
begin-largest : command_of (98 ∷ 32 ∷ 49 ∷ 56 ∷ 52 ∷ 52 ∷ 54 ∷ 55 ∷ 52 ∷ 52 ∷ 48 ∷ 55 ∷ 51 ∷ 55 ∷ 48 ∷ 57 ∷ 53 ∷ 53 ∷ 49 ∷ 54 ∷ 49 ∷ 53 ∷ [])
    ≡ Some (Begin 18446744073709551615)
unfolding words_of all_digits spelled_from is_number_from all_numbers command_in command_for with_one
begin-largest = refl

begin-too-large : command_of (98 ∷ 32 ∷ 49 ∷ 56 ∷ 52 ∷ 52 ∷ 54 ∷ 55 ∷ 52 ∷ 52 ∷ 48 ∷ 55 ∷ 51 ∷ 55 ∷ 48 ∷ 57 ∷ 53 ∷ 53 ∷ 49 ∷ 54 ∷ 49 ∷ 54 ∷ []) ≡ None
unfolding words_of all_digits spelled_from is_number_from all_numbers command_in
begin-too-large = refl

-- `p 3 255` and `p 3 256`
poke : command_of (112 ∷ 32 ∷ 51 ∷ 32 ∷ 50 ∷ 53 ∷ 53 ∷ []) ≡ Some (Poke 3 255)
unfolding words_of all_digits spelled_from is_number_from all_numbers command_in command_for with_two
poke = refl

poke-no-byte : command_of (112 ∷ 32 ∷ 51 ∷ 32 ∷ 50 ∷ 53 ∷ 54 ∷ []) ≡ None
unfolding words_of all_digits spelled_from is_number_from all_numbers command_in command_for with_two
poke-no-byte = refl

-- no byte; a space alone; ` x`; `x `; `xx`; `b  7`; `b +7`; `b`
empty : command_of [] ≡ None
unfolding words_of command_in
empty = refl

space-alone : command_of (32 ∷ []) ≡ None
unfolding words_of command_in
space-alone = refl

space-before : command_of (32 ∷ 120 ∷ []) ≡ None
unfolding words_of command_in
space-before = refl

space-behind : command_of (120 ∷ 32 ∷ []) ≡ None
unfolding words_of all_digits spelled_from is_number_from all_numbers command_in
space-behind = refl

two-letters : command_of (120 ∷ 120 ∷ []) ≡ None
unfolding words_of command_in
two-letters = refl

two-spaces : command_of (98 ∷ 32 ∷ 32 ∷ 55 ∷ []) ≡ None
unfolding words_of all_digits spelled_from is_number_from all_numbers command_in
two-spaces = refl

signed : command_of (98 ∷ 32 ∷ 43 ∷ 55 ∷ []) ≡ None
unfolding words_of all_digits spelled_from is_number_from all_numbers command_in
signed = refl

number-missing : command_of (98 ∷ []) ≡ None
unfolding words_of all_numbers command_in command_for alone
number-missing = refl

-- the digest of 0, 1, 2: ((1 * 257 + 2) * 257 + 3)
digest-three : digest_of (0 ∷ 1 ∷ 2 ∷ []) ≡ 66566
unfolding digest_from
digest-three = refl

-- 250 + 13 * 2 is 276, which is 20 modulo 256
described-three : described_of 250 3 ≡ 250 ∷ 7 ∷ 20 ∷ []
unfolding listed
described-three = refl

-- the first byte of home's second page: 1024 + 31 modulo 251
home-second-page : home_byte 1024 ≡ 51
home-second-page = refl
