-- What the scan of a log's slots and the search for a missing block tell.
-- Assumes nothing.
use Rattle.std.specs.Prelude.{ℕ, ◌+◌, ◌≤◌, ◌<◌, ◌≡◌, Bool, true, false, List, length, get_or}
use Rattle.block.specs.Legal.{slot_of}
use Rattle.block.specs.declared.Judged.{Judged}
use Rattle.block.specs.declared.Judged.TheVariants.{Unused, Damaged, Valid}
use Rattle.promises.specs.Blocks.{slot_at, slots_of}
use Rattle.promises.specs.Newest.{sequence_in, newest, all_unused}
use Rattle.recovery.specs.declared.Scan.{Scan}

-- the sequence of a valid slot, else 0
abbrev pub sequence_of : Judged → ℕ
sequence_of Unused = 0
sequence_of Damaged = 0
sequence_of (Valid block) = block.sequence

abbrev pub is_empty : Judged → Bool
is_empty Unused = true
is_empty Damaged = false
is_empty (Valid block) = false

-- each slot's sequence, for a log of so many slots and a home of so many pages
abbrev pub Sequences : ℕ → ℕ → List ℕ → List ℕ → Type 0
Sequences slots pages log sequences = (i : ℕ) → i < slots → get_or sequences i 0 ≡ sequence_in (slot_at slots pages log i)

-- the newest valid sequence, whether all slots are unused, and each slot's sequence
pub record Scanned (slots pages : ℕ) (log : List ℕ) (scan : Scan) (sequences : List ℕ) : Type 0 where
  pub newest_is : scan.newest ≡ newest (slots_of slots pages log)
  pub unused_is : scan.unused ≡ all_unused (slots_of slots pages log)
  pub sequences_are : Sequences slots pages log sequences

-- the sequence that stands in the slot of another
abbrev pub standing : List ℕ → ℕ → ℕ
standing sequences sequence = get_or sequences (slot_of (length sequences) sequence) 0

-- the lowest sequence from first to last that is not in its slot; one more than last where all are
pub record Lowest (sequences : List ℕ) (first last lowest : ℕ) : Type 0 where
  pub least : first ≤ lowest
  pub most : lowest ≤ last + 1
  pub stand : (sequence : ℕ) → first ≤ sequence → sequence < lowest → standing sequences sequence ≡ sequence
  pub lacks : lowest ≤ last → standing sequences lowest ≡ lowest → ⊥
