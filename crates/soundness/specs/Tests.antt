-- Soundness in the order in which the code tests it: single numbers first, then the sums, then the arrays entry by entry.
-- That these tests together are `sound` is proved in proofs/.
-- Assumes nothing.
use Rattle.std.specs.Prelude.{ℕ, suc, Bool, true, ◌&&◌, ◌||◌, List, [], ◌∷◌, eqb, leb, ltb}
use Rattle.block.specs.Sizes.{sequence_end, group_most}
use Rattle.block.specs.Legal.{legal_place}
use Rattle.promises.specs.declared.State.{State}
use Rattle.promises.specs.declared.Dirty.{Dirty}
use Rattle.promises.specs.declared.Staged.{Staged}
use Rattle.promises.specs.Contents.{groups_of}
use Rattle.promises.specs.Sound.{distinct, dirty_numbers, areas_of, cleaning_sound, sizes_legal, half_group_sound, mark_sound, ticket_sound, slot_sum_sound, frame_sum_sound, sequence_sum_sound}

-- single numbers in range
abbrev pub in_range : State → Bool
in_range state =
    leb 8 state.slots && leb state.slots 1024 && leb 1 state.pages && leb state.pages 4096 && leb 1 state.frames && leb state.frames 32
    && leb state.queued 32 && leb state.reserved group_most && leb state.described state.reserved && leb state.next sequence_end
    && ltb state.stored state.next

-- the sums within the sizes
abbrev pub fitting : State → Bool
fitting state = ticket_sound state && slot_sum_sound state && frame_sum_sound state && sequence_sum_sound state

-- a half-stored group as in a copy's state or in a desk's, and a state of that kind
abbrev pub kind_legal : Bool → State → Bool
kind_legal copy state = half_group_sound copy state && mark_sound copy state

-- all but the entries of the arrays
unfoldable pub counts_legal : Bool → State → Bool
counts_legal copy state = in_range state && (sizes_legal (groups_of state) && kind_legal copy state) && fitting state

-- a frame is free, or below F with a page below P and a first group below next
abbrev pub entry_legal : ℕ → ℕ → ℕ → ℕ → Dirty → Bool
entry_legal pages frames next frame entry = eqb entry.first 0 || (ltb frame frames && ltb entry.page pages && ltb entry.first next)

unfoldable pub entries_legal : ℕ → ℕ → ℕ → ℕ → List Dirty → Bool
entries_legal pages frames next frame [] = true
entries_legal pages frames next frame (entry ∷ later) = entry_legal pages frames next frame entry && entries_legal pages frames next (suc frame) later

-- the frames, their pages distinct, and the page that a cleaning names
abbrev pub pages_legal : State → Bool
pages_legal state =
    entries_legal state.pages state.frames state.next 0 state.dirty && distinct (dirty_numbers state.dirty) && cleaning_sound state

abbrev pub no_staged : Staged
no_staged = record { page = 0; offset = 0; length = 0; area = 0 }

-- an update that waits is in an area below F, and its place is legal
abbrev pub staged_legal : ℕ → ℕ → Staged → Bool
staged_legal pages frames staged = ltb staged.area frames && legal_place pages staged.page staged.offset staged.length

unfoldable pub updates_legal : ℕ → ℕ → List Staged → Bool
updates_legal pages frames [] = true
updates_legal pages frames (staged ∷ later) = staged_legal pages frames staged && updates_legal pages frames later

-- updates that wait, in distinct areas
abbrev pub waiting_legal : ℕ → ℕ → List Staged → Bool
waiting_legal pages frames updates = updates_legal pages frames updates && distinct (areas_of updates)
