-- What `logshow` lists: the lines of a log, by what Open finds in it with P 4,096 and F 32.
-- Assumes nothing.
use Rattle.std.specs.Prelude.{ℕ, zero, suc, ◌+◌, ◌-◌, ◌*◌, ◌≤◌, ◌<◌, ◌≡◌, Bool, true, cond, ◌&&◌, length, eqb, leb, Result, Ok, Err}
use mathlib.Core.List.{List, [], ◌∷◌, flatten}
use Rattle.block.specs.Sizes.{block_size, sequence_end}
use Rattle.block.specs.Legal.{legal}
use Rattle.block.specs.declared.Block.{Block}
use Rattle.promises.specs.declared.Stop.{Stop}
use Rattle.promises.specs.Answers.{number_of}
use Rattle.promises.specs.Areas.{whole, slots_in}
use Rattle.promises.specs.Blocks.{LogBlock, slots_of}
use Rattle.promises.specs.Newest.{Gathered, missing, blocks, keep_of, gathered}
use Rattle.promises.specs.Walk.{Walk, Finding, stops, stands, finding}
use Rattle.recovery.specs.Log.{header_of, blocks_from}
use Rattle.lines.specs.Text.{line_most, first_line, line_of, refused_line}
use Rattle.listing.specs.declared.Examined.{Examined}

-- P and F of the store as which `logshow` answers
abbrev pub pages_shown : ℕ
pages_shown = 4096

abbrev pub frames_shown : ℕ
frames_shown = 32

-- a log that is shown has 8 to 128 whole slots
abbrev pub shown_length : ℕ → Bool
shown_length log = whole block_size log && (leb 8 (slots_in log) && leb (slots_in log) 128)

-- what is found: refusal 1, or what Open finds. Home is not needed: see proofs/AsOpen.antt
unfoldable pub found : List ℕ → Finding
found log = cond (shown_length (length log)) (finding (slots_in (length log)) pages_shown frames_shown log []) (stops 1 0)

-- k of a log, 0 where no slot is valid
abbrev pub keep_shown : List ℕ → ℕ
keep_shown log = keep_of (slots_in (length log)) (slots_of (slots_in (length log)) pages_shown log)

-- the blocks k to M
abbrev pub gathered_in : List ℕ → Gathered
gathered_in log = gathered (slots_in (length log)) (slots_of (slots_in (length log)) pages_shown log)

-- ---- the lines

-- a line for each block, from a sequence on
unfoldable pub lines_from : ℕ → List LogBlock → List (List ℕ)
lines_from sequence [] = []
lines_from sequence (block ∷ list) = line_of sequence block ∷ lines_from (suc sequence) list

abbrev pub block_lines : ℕ → Gathered → List (List ℕ)
block_lines keep (missing sequence) = []
block_lines keep (blocks list) = lines_from keep list

-- a refusal is one line; otherwise the first line, then each block k to M
abbrev pub lines_in : List ℕ → Finding → List (List ℕ)
lines_in log (stops refusal place) = refused_line refusal place ∷ []
lines_in log (stands next walk) =
    first_line (slots_in (length log)) (next - 1) (keep_shown log) walk.ticket ∷ block_lines (keep_shown log) (gathered_in log)

-- THE LINES OF A LOG
unfoldable pub lines_of : List ℕ → List (List ℕ)
lines_of log = lines_in log (found log)

-- THE TEXT OF A LOG: its lines, one behind the other
abbrev pub text_of : List ℕ → List ℕ
text_of log = flatten (lines_of log)

-- the most bytes of a text: the first line and 128 blocks
abbrev pub text_most : ℕ
text_most = 129 * line_most

-- ---- what an examination tells

-- the fields of so many blocks from a sequence on
unfoldable pub headers_from : List ℕ → ℕ → ℕ → List Block
headers_from log sequence zero = []
headers_from log sequence (suc more) = header_of log sequence ∷ headers_from log (suc sequence) more

-- how many blocks are shown
abbrev pub blocks_shown : Examined → ℕ
blocks_shown examined = cond (eqb examined.newest 0) 0 (examined.newest + 1 - examined.keep)

-- an accepted log: next - 1, k and the last committed ticket, and the blocks k to M, each legal in its slot
pub record Accepts (log : List ℕ) (examined : Examined) : Type 0 where
  pub walk : Walk
  pub found_is : found log ≡ stands (examined.newest + 1) walk
  pub keep_is : examined.keep ≡ keep_shown log
  pub ticket_is : examined.ticket ≡ walk.ticket
  pub blocks_are : gathered_in log ≡ blocks (blocks_from log examined.keep (blocks_shown examined))
  pub keep_most : examined.keep ≤ examined.newest
  pub newest_below : examined.newest < sequence_end
  pub blocks_few : blocks_shown examined ≤ 128
  pub legal_are : (i : ℕ) → i < blocks_shown examined
      → (legal (slots_in (length log)) pages_shown (header_of log (examined.keep + i)) ≡ true) × ((header_of log (examined.keep + i)).sequence ≡ examined.keep + i)

-- an examined log is accepted, or refused with the refusal and the place that are found
abbrev pub Examines : List ℕ → Result Examined Stop → Type 0
Examines log (Ok examined) = (shown_length (length log) ≡ true) × Accepts log examined
Examines log (Err stop) = found log ≡ stops (number_of stop.refusal) stop.place
