-- What a state says, with the bytes in frames and staging: dirty pages, queue and open transaction.
-- Assumes nothing.
use Rattle.std.specs.Prelude.{ℕ, suc, ◌+◌, Bool, true, false, List, [], ◌∷◌, map, take, drop, eqb}
use Rattle.promises.specs.declared.State.{State}
use Rattle.promises.specs.declared.Dirty.{Dirty}
use Rattle.promises.specs.declared.Staged.{Staged}
use Rattle.promises.specs.declared.Cleaning.{Cleaning}
use Rattle.promises.specs.Areas.{page_at, staged_bytes}
use Rattle.promises.specs.Updates.{Update}
use Rattle.promises.specs.DirtyPages.{DirtyPage}

-- a list with one more element, unless the test holds
abbrev pub unless : {A : Type 0} → Bool → A → List A → List A
unless true x xs = xs
unless false x xs = x ∷ xs

-- ---- dirty pages: frame by frame from a frame on, with the frame's bytes; a first group 0 is a free frame
unfoldable pub dirty_from : List ℕ → ℕ → List Dirty → List DirtyPage
dirty_from frames frame [] = []
dirty_from frames frame (entry ∷ entries) =
    unless (eqb entry.first 0) (record { page = entry.page; first = entry.first; bytes = page_at frames frame })
    (dirty_from frames (suc frame) entries)

abbrev pub dirty_of : State → List ℕ → List DirtyPage
dirty_of state frames = dirty_from frames 0 state.dirty

-- ---- the queue, a list of lists of updates, and the open transaction's list
abbrev pub waiting : List ℕ → Staged → Update
waiting staging staged = record { page = staged.page; offset = staged.offset; bytes = staged_bytes staging staged.area staged.length }

abbrev pub total : List ℕ → ℕ
total [] = 0
total (n ∷ ns) = n + total ns

-- updates, cut into groups of these sizes
unfoldable pub grouped : List ℕ → List Update → List (List Update)
grouped [] updates = []
grouped (size ∷ sizes) updates = take size updates ∷ grouped sizes (drop size updates)

-- the sizes of the queued groups, oldest first
abbrev pub groups_of : State → List ℕ
groups_of state = take state.queued state.groups

abbrev pub queue_of : State → List ℕ → List (List Update)
queue_of state staging = grouped (groups_of state) (map (waiting staging) state.staged)

abbrev pub list_of : State → List ℕ → List Update
list_of state staging = take state.described (drop (total (groups_of state)) (map (waiting staging) state.staged))

-- ---- all that a state says, but for the dirty pages
pub record Contents : Type 0 where
  pub pages : ℕ
  pub slots : ℕ
  pub frames : ℕ
  pub next : ℕ
  pub ticket : ℕ
  pub queue : List (List Update)
  pub stored : ℕ
  pub reserved : ℕ
  pub list : List Update
  pub cleaning : Cleaning

abbrev pub contents_of : State → List ℕ → Contents
contents_of state staging = record {
  pages = state.pages;
  slots = state.slots;
  frames = state.frames;
  next = state.next;
  ticket = state.ticket;
  queue = queue_of state staging;
  stored = state.stored;
  reserved = state.reserved;
  list = list_of state staging;
  cleaning = state.cleaning;
}

-- contents with these values, of the same sizes: the setters below are made of it, and say what a call changes
abbrev pub contents_with : Contents → ℕ → ℕ → List (List Update) → ℕ → ℕ → List Update → Cleaning → Contents
contents_with contents next ticket queue stored reserved list cleaning = record {
  pages = contents.pages;
  slots = contents.slots;
  frames = contents.frames;
  next = next;
  ticket = ticket;
  queue = queue;
  stored = stored;
  reserved = reserved;
  list = list;
  cleaning = cleaning;
}

-- with one block more in the log, and this ticket
abbrev pub with_block : Contents → ℕ → Contents
with_block c ticket = contents_with c (c.next + 1) ticket c.queue c.stored c.reserved c.list c.cleaning

-- with this queue, and so many updates of its oldest group stored
abbrev pub with_queue : Contents → List (List Update) → ℕ → Contents
with_queue c queue stored = contents_with c c.next c.ticket queue stored c.reserved c.list c.cleaning

-- with an open transaction that reserved so many updates and has this list; 0 and none where nothing is open
abbrev pub with_open : Contents → ℕ → List Update → Contents
with_open c reserved list = contents_with c c.next c.ticket c.queue c.stored reserved list c.cleaning

-- with this cleaning
abbrev pub with_cleaning : Contents → Cleaning → Contents
with_cleaning c cleaning = contents_with c c.next c.ticket c.queue c.stored c.reserved c.list cleaning
