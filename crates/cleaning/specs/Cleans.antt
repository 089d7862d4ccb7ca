-- The parts of Clean step: the frame of the page that is cleaned, and the log and the state once its clean block is stored.
-- Assumes nothing.
use Rattle.std.specs.Prelude.{ℕ, ◌+◌, ◌-◌, ◌*◌, ◌^◌, ◌≤◌, ◌<◌, ◌≡◌, cond, List, eqb, length, get_or, set}
use Rattle.promises.specs.declared.State.{State}
use Rattle.promises.specs.declared.Dirty.{Dirty}
use Rattle.promises.specs.declared.Cleaning.{Cleaning}
use Rattle.promises.specs.declared.Cleaning.TheVariants.{Idle, First, Second, Third}
use Rattle.cleaning.specs.declared.Next.{Next}
use Rattle.cleaning.specs.declared.Next.TheVariants.{FirstHalf, SecondHalf, Block}
use Rattle.promises.specs.Blocks.{clean, stored}
use Rattle.promises.specs.Sums.{first_groups, smallest}
use Rattle.block.specs.Sizes.{page_size}
use Rattle.promises.specs.States.{free, set_block, set_dirty, set_cleaning}

-- the entry of a frame
abbrev pub entry_at : State → ℕ → Dirty
entry_at state frame = get_or state.dirty frame free

-- an entry's place in the order of cleaning: the named page first, then by first group and by page; a free frame comes last
abbrev pub rank_in : ℕ → Dirty → ℕ
rank_in named entry = cond (eqb entry.first 0) (2 ^ 64 - 1) (cond (eqb named entry.page) 0 (entry.first * 65536 + entry.page))

-- the page that a cleaning names; 65,536, which is no page's number, where it names none
abbrev pub named_in : Cleaning → ℕ
named_in Idle = 65536
named_in (First page) = page
named_in (Second page) = page
named_in (Third page) = page

-- a named page is in its frame; an idle cleaning takes the frame that comes first
abbrev pub TakesFrame : Cleaning → State → ℕ → Type 0
TakesFrame Idle state frame = (other : ℕ) → other < length state.dirty → rank_in (named_in Idle) (entry_at state frame) ≤ rank_in (named_in Idle) (entry_at state other)
TakesFrame (First page) state frame = page ≡ (entry_at state frame).page
TakesFrame (Second page) state frame = page ≡ (entry_at state frame).page
TakesFrame (Third page) state frame = page ≡ (entry_at state frame).page

-- the frame that holds a page
pub record Named (state : State) (page frame : ℕ) : Type 0 where
  pub below : frame < state.frames
  pub used : (entry_at state frame).first ≡ 0 → ⊥
  pub page_is : page ≡ (entry_at state frame).page

-- the frame of the page that is cleaned
pub record Chosen (state : State) (frame : ℕ) : Type 0 where
  pub below : frame < state.frames
  pub used : (entry_at state frame).first ≡ 0 → ⊥
  pub takes : TakesFrame state.cleaning state frame

-- how many stores of its page a cleaning has made
abbrev pub stores_made : Cleaning → ℕ
stores_made Idle = 0
stores_made (First page) = 0
stores_made (Second page) = 1
stores_made (Third page) = 2

-- how many stores of a cleaning's page come before each
abbrev pub made_before : Next → ℕ
made_before FirstHalf = 0
made_before SecondHalf = 1
made_before Block = 2

-- what a half's store leans on: the page at home and the frame lie within the areas
pub record Fitting (home frames page frame : ℕ) : Type 0 where
  pub frame_few : frame < 32
  pub page_few : page < 4096
  pub page_within : page * page_size + page_size ≤ home
  pub frame_within : frame * page_size + page_size ≤ frames

-- the log with the clean block of a frame's page: its keep-from goes over the pages that stay dirty
abbrev pub cleaned_log : State → List ℕ → ℕ → List ℕ
cleaned_log state log frame = stored state.slots log state.next (record {
  kind = clean (entry_at state frame).page;
  keep_from = smallest state.next (first_groups (set state.dirty frame free));
  ticket = state.ticket;
})

-- the state once a page's clean block is stored and these pages are dirty
abbrev pub clean_done : State → List Dirty → State
clean_done state dirty = set_cleaning (set_block (set_dirty state dirty) (state.next + 1) state.ticket) Idle
