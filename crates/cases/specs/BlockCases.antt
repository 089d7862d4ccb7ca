-- Cases 1 to 4, 8 and 9 of 01, "Checked by hand": those that need the block format only. 8 slots, 4 pages.
-- Assumes nothing.
use Rattle.std.specs.Prelude.{ℕ, Bool, true, false, List, [], ◌∷◌, replicate}
use Rattle.area.specs.Part.{part}
use Rattle.cases.specs.Case.{Case}
use Rattle.block.specs.Sizes.{block_size, body_size}
use Rattle.block.specs.Kind.{update_block, commit_block, clean_block}
use Rattle.block.specs.Layout.{check, layout}
use Rattle.block.specs.Legal.{legal, slot_of}
use Rattle.block.specs.Slot.{judged}
use Rattle.block.specs.declared.Block.{Block}
use Rattle.block.specs.declared.Judged.{Judged}
use Rattle.block.specs.declared.Judged.TheVariants.{Unused, Damaged, Valid}

-- ---- answers as numbers

-- 0 unused, 1 valid, 2 damaged
abbrev pub judged_number : Judged → ℕ
judged_number Unused = 0
judged_number (Valid block) = 1
judged_number Damaged = 2

-- 0 no, 1 yes
abbrev pub test_number : Bool → ℕ
test_number false = 0
test_number true = 1

-- ---- the log and the home of the cases

abbrev slots : ℕ
slots = 8

abbrev pages : ℕ
pages = 4

-- bytes 508 to 511 of a block
abbrev check_bytes : Block → List ℕ → List ℕ
check_bytes block new = part (layout block new) body_size 4

-- what the slot of a block holds once the block is written there
abbrev written : Block → List ℕ → List ℕ
written block new = judged_number (judged slots pages (slot_of slots block.sequence) (layout block new)) ∷ []

-- case 2: update, sequence 1, keep-from 1, index 1, page 0, offset 0, length 1, ticket 0, byte 42
abbrev pub first_block : Block
first_block = update_block 1 1 1 0 0 1 0

abbrev pub first_bytes : List ℕ
first_bytes = 42 ∷ []

-- case 3: commit, sequence 2, keep-from 1, index 1, ticket 1
abbrev pub second_block : Block
second_block = commit_block 2 1 1 1

-- case 4: clean of page 0, sequence 3, keep-from 3, ticket 1
abbrev pub third_block : Block
third_block = clean_block 3 3 0 1

-- case 8: an update of 472 bytes at an offset
abbrev long_update : ℕ → Block
long_update offset = update_block 1 1 1 0 offset 472 0

-- the cases that need the block format only; the slots of cases 2 to 4 are valid, as cases 5 to 7 take them to be
unfoldable pub block_cases : List Case
block_cases =
    record { number = 1; found = check (replicate body_size 0); expected = 0x00 ∷ 0x00 ∷ 0x00 ∷ 0x00 ∷ [] }
    ∷ record { number = 1; found = judged_number (judged slots pages 0 (replicate block_size 0)) ∷ []; expected = 0 ∷ [] }
    ∷ record { number = 2; found = check_bytes first_block first_bytes; expected = 0x2F ∷ 0x00 ∷ 0x1A ∷ 0x57 ∷ [] }
    ∷ record { number = 2; found = written first_block first_bytes; expected = 1 ∷ [] }
    ∷ record { number = 3; found = check_bytes second_block []; expected = 0x07 ∷ 0x00 ∷ 0x8E ∷ 0x0D ∷ [] }
    ∷ record { number = 3; found = written second_block []; expected = 1 ∷ [] }
    ∷ record { number = 4; found = check_bytes third_block []; expected = 0x0A ∷ 0x00 ∷ 0x74 ∷ 0x13 ∷ [] }
    ∷ record { number = 4; found = written third_block []; expected = 1 ∷ [] }
    ∷ record { number = 8; found = test_number (legal slots pages (long_update 552)) ∷ []; expected = 1 ∷ [] }
    ∷ record { number = 8; found = test_number (legal slots pages (long_update 553)) ∷ []; expected = 0 ∷ [] }
    ∷ record { number = 9; found = slot_of slots 8 ∷ []; expected = 0 ∷ [] }
    ∷ []
