-- What the parts of a copy's feed leave.
-- Assumes nothing.
use Rattle.std.specs.Prelude.{Ok, ℕ, ◌+◌, ◌≤◌, ◌<◌, ◌≡◌, cond, List, length, get_or, eqb}
use Rattle.block.specs.Sizes.{sequence_end}
use Rattle.promises.specs.declared.State.{State}
use Rattle.promises.specs.declared.Dirty.{Dirty}
use Rattle.promises.specs.declared.Cleaning.{Cleaning}
use Rattle.promises.specs.declared.Cleaning.TheVariants.{Idle, First, Second, Third}
use Rattle.promises.specs.declared.Fed.TheVariants.{Taken}
use Rattle.promises.specs.declared.Outcome.{Outcome}
use Rattle.promises.specs.declared.Fed.{Fed}
use Rattle.promises.specs.declared.Stop.{Stop}
use Rattle.promises.specs.Areas.{page_at, log_length, home_length, frames_length}
use Rattle.promises.specs.DirtyPages.{apply_all}
use Rattle.promises.specs.Contents.{dirty_of}
use Rattle.promises.specs.Sums.{group_start}
use Rattle.promises.specs.States.{free, set_block, set_dirty, set_stored, set_cleaning, Fills}
use Rattle.table.specs.Table.{Holds}
use Rattle.stepping.specs.Tables.{table_with, table_of}
use Rattle.recovery.specs.Log.{header_of, updates_from, Placed}

-- so many stores, if the cleaning names this page
abbrev pub names_page : ℕ → ℕ → ℕ → ℕ
names_page named page stores = cond (eqb named page) stores 0

-- how many stores of this page a cleaning has made
abbrev pub made_of : Cleaning → ℕ → ℕ
made_of Idle page = 0
made_of (First named) page = 0
made_of (Second named) page = names_page named page 1
made_of (Third named) page = names_page named page 2

-- the block is taken
abbrev pub taken_with : State → ℕ → List Dirty → ℕ → Outcome Fed Stop
taken_with state ticket dirty stored = record {
  state = set_cleaning (set_stored (set_dirty (set_block state (state.next + 1) ticket) dirty) stored) Idle;
  answer = Ok Taken;
}

-- what the commit of the half group leans on: the copy's sizes, and a group whose updates are in its log
pub record Closing (state : State) (log : List ℕ) (home frames : ℕ) : Type 0 where
  pub slots : (1 ≤ state.slots) × (state.slots ≤ 1024)
  pub pages : state.pages ≤ 4096
  pub frame_count : state.frames ≤ 32
  pub log_long : length log ≡ log_length state.slots
  pub home_long : home ≡ home_length state.pages
  pub frames_long : frames ≡ frames_length state.frames
  pub stored : state.stored < state.next
  pub next : state.next ≤ sequence_end
  pub some : 1 ≤ state.stored
  pub firsts : (i : ℕ) → (get_or state.dirty i free).first < sequence_end
  pub placed : (i : ℕ) → i < state.stored → Placed state.pages (header_of log (group_start state + i)).kind

-- the half group takes effect: these are the entries of the frames then
pub record Closes (state : State) (log home frames : List ℕ) (dirty : List Dirty) (frames' : List ℕ) : Type 0 where
  pub frames_long : length frames' ≡ length frames
  pub fills : length state.dirty ≡ 32 → ((frame : ℕ) → ((get_or state.dirty frame free).first ≡ 0 → ⊥) → frame < state.frames)
      → Fills state.dirty dirty
  pub holds : Holds (table_of state) frames (dirty_of state frames)
      → length (apply_all (group_start state) (page_at home) (updates_from log (group_start state) state.stored) (dirty_of state frames)) ≤ state.frames
      → Holds (table_with state dirty) frames' (apply_all (group_start state) (page_at home) (updates_from log (group_start state) state.stored) (dirty_of state frames))
