-- The bytes that the script language gives by their index.
-- Assumes nothing.
use Rattle.std.specs.Prelude.{ℕ, zero, suc, ◌+◌, ◌*◌, ◌/◌, ◌%◌, List, [], ◌∷◌}
use Rattle.block.specs.Sizes.{page_size}

-- the values of a rule at so many indexes from one on
unfoldable pub listed : (ℕ → ℕ) → ℕ → ℕ → List ℕ
listed rule index zero = []
listed rule index (suc count) = rule index ∷ listed rule (suc index) count

-- home's byte i is (i + 31 * (i / 1024)) % 251
abbrev pub home_byte : ℕ → ℕ
home_byte i = (i + 31 * (i / page_size)) % 251

abbrev pub home_of : ℕ → List ℕ
home_of length = listed home_byte 0 length

-- Describe's byte j is (seed + 13 * j) % 256
abbrev pub described_byte : ℕ → ℕ → ℕ
described_byte seed j = (seed + 13 * j) % 256

abbrev pub described_of : ℕ → ℕ → List ℕ
described_of seed length = listed (described_byte seed) 0 length
