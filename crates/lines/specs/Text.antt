-- The text of a listing: numbers in decimal, and the lines of `logshow`. A text is the list of its ASCII codes.
-- Assumes nothing.
use Rattle.std.specs.Prelude.{ℕ, zero, suc, ◌+◌, ◌/◌, ◌%◌, ◌≤◌, ◌≡◌, cond, List, [], ◌∷◌, ◌++◌, length, drop, ltb}
use Rattle.area.specs.Part.{splice}
use Rattle.block.specs.declared.Block.{Block}
use Rattle.block.specs.declared.Kind.{Kind}
use Rattle.block.specs.declared.Kind.TheVariants.{Update, Commit, Clean}
use Rattle.promises.specs.Blocks.{LogBlock, fields_of}

-- the decimal digits of a number, `0` to `9` being 48 to 57, if one digit and so many more are enough for it
unfoldable pub digits_within : ℕ → ℕ → List ℕ
digits_within zero number = (48 + number % 10) ∷ []
digits_within (suc more) number =
    cond (ltb number 10) ((48 + number) ∷ []) (digits_within more (number / 10) ++ ((48 + number % 10) ∷ []))

-- a number of 64 bits in decimal: 20 digits are enough
abbrev pub decimal : ℕ → List ℕ
decimal number = digits_within 19 number

-- ---- the words, with the spaces around them

-- `blocks `
abbrev pub blocks_word : List ℕ
blocks_word = 98 ∷ 108 ∷ 111 ∷ 99 ∷ 107 ∷ 115 ∷ 32 ∷ []

-- ` newest `
abbrev pub newest_word : List ℕ
newest_word = 32 ∷ 110 ∷ 101 ∷ 119 ∷ 101 ∷ 115 ∷ 116 ∷ 32 ∷ []

-- ` keep `
abbrev pub keep_word : List ℕ
keep_word = 32 ∷ 107 ∷ 101 ∷ 101 ∷ 112 ∷ 32 ∷ []

-- ` ticket `
abbrev pub ticket_word : List ℕ
ticket_word = 32 ∷ 116 ∷ 105 ∷ 99 ∷ 107 ∷ 101 ∷ 116 ∷ 32 ∷ []

-- ` update page `
abbrev pub update_page_word : List ℕ
update_page_word = 32 ∷ 117 ∷ 112 ∷ 100 ∷ 97 ∷ 116 ∷ 101 ∷ 32 ∷ 112 ∷ 97 ∷ 103 ∷ 101 ∷ 32 ∷ []

-- ` offset `
abbrev pub offset_word : List ℕ
offset_word = 32 ∷ 111 ∷ 102 ∷ 102 ∷ 115 ∷ 101 ∷ 116 ∷ 32 ∷ []

-- ` length `
abbrev pub length_word : List ℕ
length_word = 32 ∷ 108 ∷ 101 ∷ 110 ∷ 103 ∷ 116 ∷ 104 ∷ 32 ∷ []

-- ` commit updates `
abbrev pub commit_updates_word : List ℕ
commit_updates_word = 32 ∷ 99 ∷ 111 ∷ 109 ∷ 109 ∷ 105 ∷ 116 ∷ 32 ∷ 117 ∷ 112 ∷ 100 ∷ 97 ∷ 116 ∷ 101 ∷ 115 ∷ 32 ∷ []

-- ` clean page `
abbrev pub clean_page_word : List ℕ
clean_page_word = 32 ∷ 99 ∷ 108 ∷ 101 ∷ 97 ∷ 110 ∷ 32 ∷ 112 ∷ 97 ∷ 103 ∷ 101 ∷ 32 ∷ []

-- `refused `
abbrev pub refused_word : List ℕ
refused_word = 114 ∷ 101 ∷ 102 ∷ 117 ∷ 115 ∷ 101 ∷ 100 ∷ 32 ∷ []

-- ` `
abbrev pub space_word : List ℕ
space_word = 32 ∷ []

-- `\n`
abbrev pub newline : List ℕ
newline = 10 ∷ []

-- a word and a number
abbrev pub field : List ℕ → ℕ → List ℕ
field word number = word ++ decimal number

-- ---- the lines

-- the most bytes of a line
abbrev pub line_most : ℕ
line_most = 160

-- the first line: N, M, k and the last committed ticket
unfoldable pub first_line : ℕ → ℕ → ℕ → ℕ → List ℕ
first_line slots newest keep ticket =
    field blocks_word slots ++ field newest_word newest ++ field keep_word keep ++ field ticket_word ticket ++ newline

-- what a block's line says of its kind
unfoldable pub kind_text : Kind → List ℕ
kind_text (Update index page offset length) = field update_page_word page ++ field offset_word offset ++ field length_word length
kind_text (Commit updates) = field commit_updates_word updates
kind_text (Clean page) = field clean_page_word page

-- the line of a block, sequence first
unfoldable pub block_line : Block → List ℕ
block_line block = decimal block.sequence ++ kind_text block.kind ++ field ticket_word block.ticket ++ newline

-- the line of a block as the store sees it
abbrev pub line_of : ℕ → LogBlock → List ℕ
line_of sequence block = block_line (fields_of sequence block.keep_from block.ticket block.kind)

-- a refusal and its place
unfoldable pub refused_line : ℕ → ℕ → List ℕ
refused_line refusal place = field refused_word refusal ++ field space_word place ++ newline

-- ---- what the functions that write a line promise

-- a text stands in an area from place at on and ends at end; every other byte is as it was
pub record Adds (area : List ℕ) (at : ℕ) (text area' : List ℕ) (end : ℕ) : Type 0 where
  pub end_is : end ≡ at + length text
  pub within : end ≤ length area
  pub area_is : area' ≡ splice area at (length text) text

-- an area begins with a text, which ends at end; every byte behind it is as it was
pub record Shows (text area area' : List ℕ) (end : ℕ) : Type 0 where
  pub end_is : end ≡ length text
  pub within : end ≤ length area
  pub area_is : area' ≡ text ++ drop end area
