-- The whole state as a value: the all-zero state, and a state with some fields changed. Each call names the fields that it changes; every
-- other field, and every entry that is not in use, is as it was.
-- Assumes nothing.
use Rattle.std.specs.Prelude.{ℕ, ◌≡◌, Bool, false, cond, not, ◌&&◌, List, [], ◌∷◌, length, get_or, replicate, eqb}
use Rattle.promises.specs.declared.State.{State}
use Rattle.promises.specs.declared.Dirty.{Dirty}
use Rattle.promises.specs.declared.Staged.{Staged}
use Rattle.promises.specs.declared.Cleaning.{Cleaning}
use Rattle.promises.specs.declared.Cleaning.TheVariants.{Idle}

-- the entry of a frame that holds no page
abbrev pub free : Dirty
free = record { page = 0; first = 0 }

-- an entry in use, for this page
abbrev pub is_of : ℕ → Dirty → Bool
is_of page entry = not (eqb entry.first 0) && eqb page entry.page

-- a copy's state or a desk's, of these sizes, all else zero: nothing is dirty, queued or open, and no cleaning is under way
abbrev pub empty_state : Bool → ℕ → ℕ → ℕ → State
empty_state copy pages slots frames = record {
  pages = pages;
  slots = slots;
  frames = frames;
  next = 0;
  ticket = 0;
  dirty = replicate 32 free;
  staged = replicate 32 (record { page = 0; offset = 0; length = 0; area = 0 });
  groups = replicate 32 0;
  queued = 0;
  stored = 0;
  reserved = 0;
  described = 0;
  cleaning = Idle;
  copy = copy;
}

-- the all-zero state
abbrev pub all_zero_state : State
all_zero_state = empty_state false 0 0 0

-- a state with these values, of the same sizes, a desk's or a copy's as before: the setters below are made of it
abbrev pub state_with : State → ℕ → ℕ → List Dirty → List Staged → List ℕ → ℕ → ℕ → ℕ → ℕ → Cleaning → State
state_with state next ticket dirty staged groups queued stored reserved described cleaning = record {
  pages = state.pages;
  slots = state.slots;
  frames = state.frames;
  next = next;
  ticket = ticket;
  dirty = dirty;
  staged = staged;
  groups = groups;
  queued = queued;
  stored = stored;
  reserved = reserved;
  described = described;
  cleaning = cleaning;
  copy = state.copy;
}

-- with this next sequence and this last committed ticket
abbrev pub set_block : State → ℕ → ℕ → State
set_block s next ticket = state_with s next ticket s.dirty s.staged s.groups s.queued s.stored s.reserved s.described s.cleaning

-- with these entries of the frames
abbrev pub set_dirty : State → List Dirty → State
set_dirty s dirty = state_with s s.next s.ticket dirty s.staged s.groups s.queued s.stored s.reserved s.described s.cleaning

-- with these staged updates
abbrev pub set_staged : State → List Staged → State
set_staged s staged = state_with s s.next s.ticket s.dirty staged s.groups s.queued s.stored s.reserved s.described s.cleaning

-- with these sizes of groups, so many of them queued
abbrev pub set_groups : State → List ℕ → ℕ → State
set_groups s groups queued = state_with s s.next s.ticket s.dirty s.staged groups queued s.stored s.reserved s.described s.cleaning

-- with so many updates of the oldest queued group stored
abbrev pub set_stored : State → ℕ → State
set_stored s stored = state_with s s.next s.ticket s.dirty s.staged s.groups s.queued stored s.reserved s.described s.cleaning

-- with an open transaction that reserved and has described so many updates; 0 and 0 where none is open
abbrev pub set_open : State → ℕ → ℕ → State
set_open s reserved described =
    state_with s s.next s.ticket s.dirty s.staged s.groups s.queued s.stored reserved described s.cleaning

-- with this cleaning
abbrev pub set_cleaning : State → Cleaning → State
set_cleaning s cleaning =
    state_with s s.next s.ticket s.dirty s.staged s.groups s.queued s.stored s.reserved s.described cleaning

-- ---- the frames' entries

-- once a page is clean: its frame is free
unfoldable pub freed : ℕ → List Dirty → List Dirty
freed page [] = []
freed page (entry ∷ entries) = cond (is_of page entry) free entry ∷ freed page entries

-- LEFT TO THE PROGRAM: the frame that a page newly gets. There are as many entries as before, one in use stays, and a free one is zero
pub record Fills (before after : List Dirty) : Type 0 where
  pub count : length after ≡ length before
  pub kept : (frame : ℕ) → ((get_or before frame free).first ≡ 0 → ⊥) → get_or after frame free ≡ get_or before frame free
  pub free_zero : (frame : ℕ) → (get_or after frame free).first ≡ 0 → get_or after frame free ≡ free
