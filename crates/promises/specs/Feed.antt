-- What a copy's feed promises. Feed (block), lent log, home and frames: 2; 1; 13; 14; then, of the block of sequence next, 7 at a commit; 8; 9.
-- A fed block is one more turn of Open's walk, over where the copy stands. In words: docs/CALLS.md.
-- Assumes nothing.
use Rattle.std.specs.Prelude.{ℕ, zero, suc, ◌+◌, ◌-◌, ◌≡◌, Bool, true, false, cond, ◌&&◌, List, [], ◌∷◌, length, get_or, eqb, leb, ltb}
use Rattle.block.specs.Sizes.{block_size}
use Rattle.block.specs.Legal.{slot_of}
use Rattle.block.specs.Slot.{judged, block_at}
use Rattle.promises.specs.declared.Outcome.{Outcome}
use Rattle.promises.specs.declared.Stop.{Stop}
use Rattle.promises.specs.declared.Fed.{Fed}
use Rattle.promises.specs.declared.State.{State}
use Rattle.promises.specs.declared.Dirty.{Dirty}
use Rattle.promises.specs.declared.Cleaning.{Cleaning}
use Rattle.promises.specs.declared.Cleaning.TheVariants.{Idle, First, Second, Third}
use Rattle.promises.specs.Areas.{page_at, first_half, second_half, with_first_half, with_second_half, with_slot}
use Rattle.promises.specs.Updates.{Update}
use Rattle.promises.specs.Blocks.{Kind, update, commit, clean, LogBlock, Slot, unused, damaged, valid, slot_in, slots_of}
use Rattle.promises.specs.DirtyPages.{DirtyPage, Found, absent, at, look_up, keep_from_of}
use Rattle.promises.specs.Walk.{Walk, walk_block, in_order, framed}
use Rattle.promises.specs.Contents.{dirty_of}
use Rattle.promises.specs.States.{set_block, set_dirty, set_stored, set_cleaning, freed, Fills}
use Rattle.promises.specs.Sums.{group_start}
use Rattle.promises.specs.Sound.{copy_sound}
use Rattle.promises.specs.Answers.{refuses, had as had_reply, not_yet, taken as taken_reply, fed_answered, fed_place_in}
use Rattle.promises.specs.LogStep.{no_update, areas_fit}

-- ---- where a copy stands, as a walk; a half group's updates are those of the copy's own log

abbrev pub change_of : Kind → Update
change_of (update index change) = change
change_of (commit updates) = no_update
change_of (clean page) = no_update

abbrev pub change_in : Slot → Update
change_in unused = no_update
change_in damaged = no_update
change_in (valid sequence block) = change_of block.kind

-- so many updates from a sequence on, in a log of so many slots
unfoldable pub updates_from : ℕ → List Slot → ℕ → ℕ → List Update
updates_from count slots zero sequence = []
updates_from count slots (suc more) sequence = change_in (get_or slots (slot_of count sequence) unused) ∷ updates_from count slots more (suc sequence)

abbrev pub standing : State → List Slot → List ℕ → Walk
standing state slots frames = record {
  group = updates_from state.slots slots state.stored (group_start state);
  start = cond (eqb state.stored 0) 0 (group_start state);
  ticket = state.ticket;
  dirty_pages = dirty_of state frames;
}

-- ---- 7: the lowest update of the half group that is not valid in its slot with its sequence and index; 0 where none is lacking

abbrev pub has_index : ℕ → Kind → Bool
has_index index (update own change) = eqb own index
has_index index (commit updates) = false
has_index index (clean page) = false

abbrev pub is_update : ℕ → ℕ → Slot → Bool
is_update sequence index unused = false
is_update sequence index damaged = false
is_update sequence index (valid found block) = eqb found sequence && has_index index block.kind

unfoldable pub lacking : ℕ → List Slot → ℕ → ℕ → ℕ → ℕ
lacking count slots zero sequence index = 0
lacking count slots (suc more) sequence index =
    cond (is_update sequence index (get_or slots (slot_of count sequence) unused)) (lacking count slots more (suc sequence) (suc index)) sequence

abbrev pub lacking_at : State → List Slot → Kind → ℕ
lacking_at state slots (update index change) = 0
lacking_at state slots (commit updates) = lacking state.slots slots state.stored (group_start state) 1
lacking_at state slots (clean page) = 0

-- ---- 8: Open's walk, keep-from, H + D

-- what an update or commit counts beside the dirty pages: its own group's start; a clean its own sequence
abbrev pub own_start : ℕ → Kind → Walk → ℕ
own_start sequence (update index change) walk = cond (eqb index 1) sequence walk.start
own_start sequence (commit updates) walk = walk.start
own_start sequence (clean page) walk = sequence

-- keep-from is the one that the layout's rule gives, over the pages dirty once the block is stored
abbrev pub keep_right : (ℕ → List ℕ) → ℕ → LogBlock → Walk → Bool
keep_right home sequence block walk =
    eqb block.keep_from (keep_from_of (own_start sequence block.kind walk) (walk_block home sequence block.kind walk).dirty_pages)

-- H + D is at most N, a half group's start counted
abbrev pub half_start : ℕ → List Update → ℕ → ℕ
half_start next [] start = next
half_start next (change ∷ changes) start = start

abbrev pub span_fits : ℕ → ℕ → Walk → Bool
span_fits slots next walk =
    leb (next - keep_from_of (half_start next walk.group walk.start) walk.dirty_pages + length walk.dirty_pages) slots

-- ---- what comes of a fed block

pub data Feeding : Type 0 where
  -- a refusal and its place
  stops : ℕ → ℕ → Feeding
  -- already had
  had : Feeding
  -- the first or the second half of this dirty page goes home: not yet taken
  first : ℕ → DirtyPage → Feeding
  second : ℕ → DirtyPage → Feeding
  -- taken
  takes : LogBlock → Feeding

-- a clean block of a dirty page, by the cleaning: another page's is idle first
abbrev pub clean_stage : Cleaning → ℕ → DirtyPage → LogBlock → Feeding
clean_stage Idle page entry block = first page entry
clean_stage (First named) page entry block = first page entry
clean_stage (Second named) page entry block = cond (eqb named page) (second page entry) (first page entry)
clean_stage (Third named) page entry block = cond (eqb named page) (takes block) (first page entry)

abbrev pub clean_found : Cleaning → ℕ → Found → LogBlock → Feeding
clean_found cleaning page absent block = takes block
clean_found cleaning page (at entry) block = clean_stage cleaning page entry block

abbrev pub store_of : State → List ℕ → Kind → LogBlock → Feeding
store_of state frames (update index change) block = takes block
store_of state frames (commit updates) block = takes block
store_of state frames (clean page) block = clean_found state.cleaning page (look_up page (dirty_of state frames)) block

-- the block of sequence next: 8, then 9
unfoldable pub turned : State → (ℕ → List ℕ) → List ℕ → Walk → LogBlock → Feeding
turned state home frames walk block =
    cond (in_order block.kind block.ticket walk && keep_right home state.next block walk
    && span_fits state.slots (state.next + 1) (walk_block home state.next block.kind walk))
    (cond (framed state.frames home block.kind walk) (store_of state frames block.kind block) (stops 9 state.next))
    (stops 8 state.next)

abbrev pub of_next : State → (ℕ → List ℕ) → List ℕ → List Slot → LogBlock → Feeding
of_next state home frames slots block =
    cond (eqb (lacking_at state slots block.kind) 0) (turned state home frames (standing state slots frames) block)
    (stops 7 (lacking_at state slots block.kind))

-- by the block's sequence; a block that breaks the layout is 13
abbrev pub by_sequence : State → (ℕ → List ℕ) → List ℕ → List Slot → Slot → Feeding
by_sequence state home frames slots unused = stops 13 0
by_sequence state home frames slots damaged = stops 13 0
by_sequence state home frames slots (valid sequence block) =
    cond (ltb state.next sequence) (stops 14 0) (cond (ltb sequence state.next) had (of_next state home frames slots block))

-- what fed bytes are in a log of so many slots: judged in the slot that they name
abbrev pub fed_slot : ℕ → ℕ → List ℕ → Slot
fed_slot slots pages bytes = slot_in (judged slots pages (slot_of slots (block_at bytes).sequence) bytes) bytes

unfoldable pub feeding : State → List ℕ → List ℕ → List ℕ → List ℕ → Feeding
feeding state log home frames bytes =
    cond (copy_sound state)
    (cond (areas_fit state (length log) (length home) (length frames) && eqb (length bytes) block_size)
    (by_sequence state (page_at home) frames (slots_of state.slots state.pages log) (fed_slot state.slots state.pages bytes))
    (stops 1 0)) (stops 2 0)

-- ---- what it leaves

-- where the walk is once the block is taken
abbrev pub after : State → List ℕ → List ℕ → List ℕ → LogBlock → Walk
after state log home frames block =
    walk_block (page_at home) state.next block.kind (standing state (slots_of state.slots state.pages log) frames)

-- the copy stands there, with these entries of the frames
abbrev pub taken_state : State → Walk → List Dirty → State
taken_state state walk dirty =
    set_cleaning (set_stored (set_dirty (set_block state (state.next + 1) walk.ticket) dirty) (length walk.group)) Idle

-- the frames and their entries: a commit changes both, a clean frees its page's frame. LEFT TO THE PROGRAM, at a commit: the frame that a
-- page gets which was not dirty, and the bytes of the frames that hold none
abbrev pub FramesAfter : Kind → List Dirty → List ℕ → List Dirty → List ℕ → Type 0
FramesAfter (update index change) dirty frames dirty' frames' = (dirty' ≡ dirty) × (frames' ≡ frames)
FramesAfter (commit updates) dirty frames dirty' frames' = Fills dirty dirty' × (length frames' ≡ length frames)
FramesAfter (clean page) dirty frames dirty' frames' = (dirty' ≡ freed page dirty) × (frames' ≡ frames)

-- a block of this kind is taken: its bytes are in its slot, and the copy stands where the walk is
pub record Takes (state : State) (log home frames bytes : List ℕ) (kind : Kind) (walk : Walk) (result : Outcome Fed Stop) (log' home' frames' : List ℕ)
    : Type 0 where
  pub answer_is : fed_answered result.answer ≡ taken_reply
  pub log_is : log' ≡ with_slot log (slot_of state.slots state.next) bytes
  pub home_is : home' ≡ home
  pub frames_are : FramesAfter kind state.dirty frames result.state.dirty frames'
  pub state_is : result.state ≡ taken_state state walk result.state.dirty
  pub stays_sound : copy_sound result.state ≡ true
  pub dirty_are : (page : ℕ) → look_up page (dirty_of result.state frames') ≡ look_up page walk.dirty_pages

-- half a page is stored, and home is this: log and frames stay, and of the state all but the cleaning
pub record Halves (state : State) (log frames : List ℕ) (cleaning : Cleaning) (stored : List ℕ) (result : Outcome Fed Stop) (log' home' frames' : List ℕ)
    : Type 0 where
  pub answer_is : fed_answered result.answer ≡ not_yet
  pub log_is : log' ≡ log
  pub home_is : home' ≡ stored
  pub frames_are : frames' ≡ frames
  pub state_is : result.state ≡ set_cleaning state cleaning
  pub stays_sound : copy_sound result.state ≡ true

-- nothing changes
pub record Same (state : State) (log home frames : List ℕ) (result : Outcome Fed Stop) (log' home' frames' : List ℕ) : Type 0 where
  pub state_is : result.state ≡ state
  pub log_is : log' ≡ log
  pub home_is : home' ≡ home
  pub frames_are : frames' ≡ frames

pub record Feeds (state : State) (log home frames bytes : List ℕ) (result : Outcome Fed Stop) (log' home' frames' : List ℕ) : Type 0 where
  pub refused : (refusal place : ℕ) → feeding state log home frames bytes ≡ stops refusal place
      → (fed_answered result.answer ≡ refuses refusal) × (fed_place_in result.answer ≡ place) × Same state log home frames result log' home' frames'
  pub already_had : feeding state log home frames bytes ≡ had
      → (fed_answered result.answer ≡ had_reply) × Same state log home frames result log' home' frames'
  pub first_halved : (page : ℕ) (entry : DirtyPage) → feeding state log home frames bytes ≡ first page entry
      → Halves state log frames (Second page) (with_first_half home page (first_half entry.bytes)) result log' home' frames'
  pub second_halved : (page : ℕ) (entry : DirtyPage) → feeding state log home frames bytes ≡ second page entry
      → Halves state log frames (Third page) (with_second_half home page (second_half entry.bytes)) result log' home' frames'
  pub taken : (block : LogBlock) → feeding state log home frames bytes ≡ takes block
      → Takes state log home frames bytes block.kind (after state log home frames block) result log' home' frames'
