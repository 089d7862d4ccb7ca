-- The sums D, H, W, V and R over a state. In words: docs/CALLS.md.
-- Assumes nothing.
use Rattle.std.specs.Prelude.{ℕ, ◌+◌, ◌-◌, min, cond, List, [], ◌∷◌, ◌++◌, length, eqb}
use Rattle.promises.specs.declared.State.{State}
use Rattle.promises.specs.declared.Dirty.{Dirty}
use Rattle.promises.specs.Contents.{unless, total, groups_of}

-- ---- the lists that the sums go over
-- the first groups of the dirty pages
unfoldable pub first_groups : List Dirty → List ℕ
first_groups [] = []
first_groups (entry ∷ entries) = unless (eqb entry.first 0) entry.first (first_groups entries)

-- where the oldest queued group starts: at its first stored block, or else at next
abbrev pub group_start : State → ℕ
group_start state = state.next - state.stored

-- a half-stored group's start, if there is one
abbrev pub half_starts : State → List ℕ
half_starts state = cond (eqb state.stored 0) [] (group_start state ∷ [])

-- what each open transaction reserved: none is open, or one
abbrev pub open_ones : State → List ℕ
open_ones state = cond (eqb state.reserved 0) [] (state.reserved ∷ [])

-- the smallest of a number and of a list
abbrev pub smallest : ℕ → List ℕ → ℕ
smallest n [] = n
smallest n (x ∷ xs) = min x (smallest n xs)

-- the blocks of groups with so many updates each: the updates and a commit
abbrev pub block_count : List ℕ → ℕ
block_count [] = 0
block_count (n ∷ ns) = n + 1 + block_count ns

-- ---- D: the count of dirty pages
abbrev pub dirty_count : State → ℕ
dirty_count state = length (first_groups state.dirty)

-- H: next minus the oldest of the first groups and of a half-stored group's start; 0 if there is neither
abbrev pub held_slots : State → ℕ
held_slots state = state.next - smallest state.next (half_starts state ++ first_groups state.dirty)

-- W: the count of queued blocks not stored yet
abbrev pub waiting_blocks : State → ℕ
waiting_blocks state = block_count (groups_of state) - state.stored

-- V: the count of updates in queued transactions whose commit isn't stored
abbrev pub queued_updates : State → ℕ
queued_updates state = total (groups_of state)

-- R: the count reserved by the open transactions
abbrev pub reserved_updates : State → ℕ
reserved_updates state = total (open_ones state)

-- each open transaction owes R + 1 blocks
abbrev pub owed_blocks : State → ℕ
owed_blocks state = block_count (open_ones state)

-- H + W + D + V
abbrev pub slots_taken : State → ℕ
slots_taken state = held_slots state + waiting_blocks state + dirty_count state + queued_updates state

-- D + V
abbrev pub frames_taken : State → ℕ
frames_taken state = dirty_count state + queued_updates state

-- next + W + (R + 1 if open)
abbrev pub sequences_taken : State → ℕ
sequences_taken state = state.next + waiting_blocks state + owed_blocks state

-- the last ended ticket is the committed one plus the queued groups
abbrev pub last_ended : State → ℕ
last_ended state = state.ticket + state.queued
