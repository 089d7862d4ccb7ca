-- How Open finds the log's blocks: the newest sequence M, its keep-from k, and the blocks k to M, or the lowest missing one, or M + 1
-- where the slot after the newest is damaged.
-- Assumes nothing.
use Rattle.std.specs.Prelude.{ℕ, zero, suc, ◌+◌, ◌-◌, max, Bool, true, false, cond, ◌&&◌, List, [], ◌∷◌, get_or, eqb}
use Rattle.block.specs.Legal.{slot_of}
use Rattle.promises.specs.Blocks.{LogBlock, Slot, unused, damaged, valid}

abbrev pub sequence_in : Slot → ℕ
sequence_in unused = 0
sequence_in damaged = 0
sequence_in (valid sequence block) = sequence

-- M: the largest valid sequence, 0 where no slot is valid
unfoldable pub newest : List Slot → ℕ
newest [] = 0
newest (slot ∷ slots) = max (sequence_in slot) (newest slots)

abbrev pub keep_in : Slot → ℕ
keep_in unused = 0
keep_in damaged = 0
keep_in (valid sequence block) = block.keep_from

-- k: keep-from of the newest of so many slots
abbrev pub keep_of : ℕ → List Slot → ℕ
keep_of count slots = keep_in (get_or slots (slot_of count (newest slots)) unused)

-- consecutive blocks, or the lowest missing sequence
pub data Gathered : Type 0 where
  missing : ℕ → Gathered
  blocks : List LogBlock → Gathered

abbrev pub with_block : LogBlock → Gathered → Gathered
with_block block (missing sequence) = missing sequence
with_block block (blocks rest) = blocks (block ∷ rest)

-- this sequence is valid in its slot, or else it is missing
abbrev pub block_in : ℕ → Slot → Gathered → Gathered
block_in sequence unused rest = missing sequence
block_in sequence damaged rest = missing sequence
block_in sequence (valid found block) rest = cond (eqb found sequence) (with_block block rest) (missing sequence)

-- how many blocks from a sequence on, each in its slot among count
unfoldable pub gather : ℕ → List Slot → ℕ → ℕ → Gathered
gather count slots zero sequence = blocks []
gather count slots (suc more) sequence = block_in sequence (get_or slots (slot_of count sequence) unused) (gather count slots more (suc sequence))

abbrev pub is_unused : Slot → Bool
is_unused unused = true
is_unused damaged = false
is_unused (valid sequence block) = false

unfoldable pub all_unused : List Slot → Bool
all_unused [] = true
all_unused (slot ∷ slots) = is_unused slot && all_unused slots

abbrev pub is_damaged : Slot → Bool
is_damaged unused = false
is_damaged damaged = true
is_damaged (valid sequence block) = false

-- the slot after the newest, of so many, is damaged
abbrev pub end_damaged : ℕ → List Slot → Bool
end_damaged count slots = is_damaged (get_or slots (slot_of count (newest slots + 1)) unused)

-- a damaged end is no end: where k to M are all there, M + 1 is missing if the slot after M is damaged
abbrev pub end_tested : ℕ → List Slot → Gathered → Gathered
end_tested count slots (missing sequence) = missing sequence
end_tested count slots (blocks list) = cond (end_damaged count slots) (missing (newest slots + 1)) (blocks list)

-- all slots unused: no block; no valid slot but a damaged one: missing at place 0; otherwise the blocks k to M, and an end that is not
-- damaged
unfoldable pub gathered : ℕ → List Slot → Gathered
gathered count slots =
    cond (all_unused slots) (blocks [])
    (cond (eqb (newest slots) 0) (missing 0)
    (end_tested count slots (gather count slots (newest slots + 1 - keep_of count slots) (keep_of count slots))))
