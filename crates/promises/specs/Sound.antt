-- When a state is SOUND, a desk's or a copy's, clause by clause. In words: docs/CALLS.md.
-- Assumes nothing.
use Rattle.std.specs.Prelude.{ℕ, ◌+◌, Bool, true, false, not, ◌&&◌, ◌||◌, List, [], ◌∷◌, length, take, drop, eqb, leb, ltb}
use Rattle.block.specs.Sizes.{sequence_end, group_most}
use Rattle.block.specs.Legal.{legal_place}
use Rattle.promises.specs.declared.State.{State}
use Rattle.promises.specs.declared.Dirty.{Dirty}
use Rattle.promises.specs.declared.Staged.{Staged}
use Rattle.promises.specs.declared.Cleaning.{Cleaning}
use Rattle.promises.specs.declared.Cleaning.TheVariants.{Idle, First, Second, Third}
use Rattle.promises.specs.Areas.{slots_in_range, pages_in_range, frames_in_range}
use Rattle.promises.specs.Contents.{unless, total, groups_of}
use Rattle.promises.specs.Sums.{first_groups, group_start, slots_taken, frames_taken, sequences_taken, reserved_updates, owed_blocks}

-- ---- lists of numbers
abbrev pub member : ℕ → List ℕ → Bool
member n [] = false
member n (x ∷ xs) = eqb n x || member n xs

abbrev pub distinct : List ℕ → Bool
distinct [] = true
distinct (x ∷ xs) = not (member x xs) && distinct xs

abbrev pub all_below : ℕ → List ℕ → Bool
all_below end [] = true
all_below end (x ∷ xs) = ltb x end && all_below end xs

-- ---- what the clauses speak of
-- the numbers of the dirty pages
unfoldable pub dirty_numbers : List Dirty → List ℕ
dirty_numbers [] = []
dirty_numbers (entry ∷ entries) = unless (eqb entry.first 0) entry.page (dirty_numbers entries)

-- the updates that wait: those of the queue, then the open transaction's
abbrev pub staged_of : State → List Staged
staged_of state = take (total (groups_of state) + state.described) state.staged

abbrev pub areas_of : List Staged → List ℕ
areas_of [] = []
areas_of (staged ∷ rest) = staged.area ∷ areas_of rest

abbrev pub all_legal : ℕ → List Staged → Bool
all_legal pages [] = true
all_legal pages (staged ∷ rest) = legal_place pages staged.page staged.offset staged.length && all_legal pages rest

abbrev pub sizes_legal : List ℕ → Bool
sizes_legal [] = true
sizes_legal (size ∷ sizes) = leb 1 size && leb size group_most && sizes_legal sizes

abbrev pub of_oldest : ℕ → List ℕ → Bool
of_oldest stored [] = eqb stored 0
of_oldest stored (size ∷ sizes) = leb stored size

abbrev pub names : Cleaning → List ℕ → Bool
names Idle pages = true
names (First page) pages = member page pages
names (Second page) pages = member page pages
names (Third page) pages = member page pages

-- ---- the clauses
-- sizes are in range
abbrev pub sizes_sound : State → Bool
sizes_sound state = slots_in_range state.slots && pages_in_range state.pages && frames_in_range state.frames

-- dirty pages are distinct and below P
abbrev pub dirty_pages_sound : State → Bool
dirty_pages_sound state = distinct (dirty_numbers state.dirty) && all_below state.pages (dirty_numbers state.dirty)

-- and in distinct frames below F: an entry's place is its frame, and from F on no frame holds one
abbrev pub dirty_frames_sound : State → Bool
dirty_frames_sound state = eqb (length (first_groups (drop state.frames state.dirty))) 0

-- first groups are from 1 to next - 1: 0 is a free frame
abbrev pub first_groups_sound : State → Bool
first_groups_sound state = all_below state.next (first_groups state.dirty)

-- ticket is below next and below a half-stored group's start
abbrev pub ticket_sound : State → Bool
ticket_sound state = ltb state.ticket (group_start state)

-- staged areas are distinct and below F
abbrev pub staged_areas_sound : State → Bool
staged_areas_sound state = distinct (areas_of (staged_of state)) && all_below state.frames (areas_of (staged_of state))

-- and staged places legal
abbrev pub staged_places_sound : State → Bool
staged_places_sound state = all_legal state.pages (staged_of state)

-- each queued group has 1 to 16 updates; what is queued and described has its place in the state
abbrev pub groups_sound : State → Bool
groups_sound state =
    sizes_legal (groups_of state) && leb state.queued (length state.groups)
    && leb (total (groups_of state) + state.described) (length state.staged)

-- R is at most 16 and not below the updates described
abbrev pub reservation_sound : State → Bool
reservation_sound state = leb state.reserved group_most && leb state.described state.reserved

-- a desk's half-stored group is the oldest queued one. A copy's needs no queued one, and nothing is open or queued there. That the stored
-- updates end at next - 1 is how `group_start` counts
abbrev pub half_group_sound : Bool → State → Bool
half_group_sound false state = of_oldest state.stored (groups_of state)
half_group_sound true state = eqb state.queued 0 && eqb state.reserved 0

-- a cleaning names a dirty page
abbrev pub cleaning_sound : State → Bool
cleaning_sound state = names state.cleaning (dirty_numbers state.dirty)

-- H + W + D + V + (2R + 1 if open) is at most N
abbrev pub slot_sum_sound : State → Bool
slot_sum_sound state = leb (slots_taken state + reserved_updates state + owed_blocks state) state.slots

-- D + V + R is at most F
abbrev pub frame_sum_sound : State → Bool
frame_sum_sound state = leb (frames_taken state + reserved_updates state) state.frames

-- next + W + (R + 1 if open) is at most 2^48
abbrev pub sequence_sum_sound : State → Bool
sequence_sum_sound state = leb (sequences_taken state) sequence_end

-- it is a copy's, or a desk's
abbrev pub mark_sound : Bool → State → Bool
mark_sound false state = not state.copy
mark_sound true state = state.copy

-- as a desk's (false) or as a copy's (true). That the last ended ticket is the committed one plus the queued groups is how `last_ended` counts
unfoldable pub sound_as : Bool → State → Bool
sound_as copy state =
    sizes_sound state && dirty_pages_sound state && dirty_frames_sound state && first_groups_sound state && ticket_sound state
    && staged_areas_sound state && staged_places_sound state && groups_sound state && reservation_sound state && half_group_sound copy state
    && cleaning_sound state && slot_sum_sound state && frame_sum_sound state && sequence_sum_sound state && mark_sound copy state

-- to the desk's calls
abbrev pub sound : State → Bool
sound state = sound_as false state

-- to the feed
abbrev pub copy_sound : State → Bool
copy_sound state = sound_as true state

-- to Read and Settled, which are a desk's calls and a copy's
abbrev pub readable : State → Bool
readable state = sound_as state.copy state
