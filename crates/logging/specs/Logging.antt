-- The parts of Log step: what an accepted one leans on, the two blocks, and what the commit leaves.
-- Assumes nothing.
use Rattle.std.specs.Prelude.{ℕ, ◌+◌, ◌≤◌, ◌<◌, ◌≡◌, List, map, length, take, get_or}
use Rattle.block.specs.Sizes.{new_bytes_most, page_size, sequence_end}
use Rattle.promises.specs.declared.State.{State}
use Rattle.promises.specs.declared.Staged.{Staged}
use Rattle.promises.specs.declared.Dirty.{Dirty}
use Rattle.promises.specs.Areas.{page_at, log_length, home_length, frames_length, staging_length, pages_in}
use Rattle.promises.specs.Updates.{Update}
use Rattle.promises.specs.Blocks.{LogBlock, update, commit, stored}
use Rattle.promises.specs.DirtyPages.{apply_all}
use Rattle.promises.specs.Contents.{waiting, dirty_of}
use Rattle.promises.specs.Sums.{group_start}
use Rattle.promises.specs.States.{free, Fills}
use Rattle.table.specs.Table.{Holds}
use Rattle.stepping.specs.Tables.{table_with}

abbrev pub no_staged : Staged
no_staged = record { page = 0; offset = 0; length = 0; area = 0 }

-- how many updates the oldest queued group has
abbrev pub size_of : State → ℕ
size_of state = get_or state.groups 0 0

-- the staged update of an index
abbrev pub staged_at : State → ℕ → Staged
staged_at state i = get_or state.staged i no_staged

-- the group of the first size staged updates
abbrev pub group_of : List Staged → ℕ → List ℕ → List Update
group_of staged size staging = take size (map (waiting staging) staged)

-- the oldest group
abbrev pub oldest_group : State → List ℕ → List Update
oldest_group state staging = group_of state.staged (size_of state) staging

-- a staged update lies within home and within its staging area
pub record Placed (pages frames : ℕ) (staged : Staged) : Type 0 where
  pub page : staged.page < pages
  pub some : 1 ≤ staged.length
  pub length : staged.length ≤ new_bytes_most
  pub end : staged.offset + staged.length ≤ page_size
  pub area : staged.area < frames

-- the lengths that the commit's group is applied with, and the group's number
pub record Lent (seats home frames staging group : ℕ) : Type 0 where
  pub few : seats ≤ 32
  pub pages : pages_in home ≤ 4096
  pub frames_long : frames ≡ frames_length seats
  pub staging_long : staging ≡ staging_length seats
  pub started : 1 ≤ group
  pub below : group < sequence_end

-- what an accepted Log step leans on, with the lengths of the areas
pub record Ready (state : State) (log home frames staging : ℕ) : Type 0 where
  pub slots : (1 ≤ state.slots) × (state.slots ≤ 1024)
  pub pages : state.pages ≤ 4096
  pub frame_count : state.frames ≤ 32
  pub log_long : log ≡ log_length state.slots
  pub home_long : home ≡ home_length state.pages
  pub frames_long : frames ≡ frames_length state.frames
  pub staging_long : staging ≡ staging_length state.frames
  pub next : state.next < sequence_end
  pub ticket : state.ticket < group_start state
  pub queued : 1 ≤ state.queued
  pub size : size_of state ≤ 16
  pub half : state.stored ≤ size_of state
  pub firsts : (i : ℕ) → (get_or state.dirty i free).first < sequence_end
  pub placed : (i : ℕ) → i < size_of state → Placed state.pages state.frames (staged_at state i)

-- ---- the blocks, with this keep-from

abbrev pub update_at : State → List ℕ → ℕ → LogBlock
update_at state staging keep_from = record {
  kind = update (state.stored + 1) (waiting staging (staged_at state state.stored));
  keep_from = keep_from;
  ticket = state.ticket;
}

abbrev pub commit_at : State → ℕ → LogBlock
commit_at state keep_from = record { kind = commit (size_of state); keep_from = keep_from; ticket = state.ticket + 1 }

-- ---- what the commit leaves: its block in the log, the group's updates in the frames, and these dirty pages
pub record Commits (state : State) (log home frames staging : List ℕ) (keep_from : ℕ) (dirty : List Dirty) (log' frames' : List ℕ) : Type 0 where
  pub log_is : log' ≡ stored state.slots log state.next (commit_at state keep_from)
  pub frames_long : length frames' ≡ length frames
  pub fills : length state.dirty ≡ 32 → ((frame : ℕ) → ((get_or state.dirty frame free).first ≡ 0 → ⊥) → frame < state.frames)
      → Fills state.dirty dirty
  pub holds : Holds (table_with state state.dirty) frames (dirty_of state frames)
      → length (dirty_of state frames) + size_of state ≤ state.frames
      → Holds (table_with state dirty) frames' (apply_all (group_start state) (page_at home) (oldest_group state staging) (dirty_of state frames))
