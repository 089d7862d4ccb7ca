-- The code's walk beside the promised one (`Walk` of promises, here `PaperWalk`): what one block makes of it, what it stands for, and what
-- comes of all.
-- Assumes nothing.
use Rattle.std.specs.Prelude.{ℕ, suc, ◌+◌, ◌-◌, ◌≤◌, ◌<◌, ◌≡◌, Bool, true, false, cond, List, length, eqb, leb, Result, Ok, Err}
use Rattle.promises.specs.declared.Refusal.TheVariants.{LogOutOfOrder}
use Rattle.promises.specs.declared.Stop.{Stop}
use Rattle.promises.specs.Answers.{number_of}
use Rattle.promises.specs.Areas.{page_at, pages_in}
use Rattle.promises.specs.Blocks.{Kind, update, commit, clean}
use Rattle.promises.specs.LogStep.{no_update}
use Rattle.promises.specs.Sums.{first_groups, smallest}
use Rattle.promises.specs.Walk.{Walk as PaperWalk, walk_block, in_order, framed, Finding, stops, walk_from}
use Rattle.table.specs.declared.Table.{Table}
use Rattle.table.specs.Table.{Holds, Each, AppliesAll, Drops}
use Rattle.table.specs.Seats.{seated}
use Rattle.recovery.specs.declared.Stage.{Stage}
use Rattle.recovery.specs.Log.{header_of, updates_from, blocks_from, Placed}
use Rattle.recovery.specs.Order.{in_order_after}

-- ---- where the code's walk stands

-- the number of its refusal, 0 for none, and the place; the stage; the dirty pages
pub record Walk : Type 0 where
  pub refusal : ℕ
  pub place : ℕ
  pub stage : Stage
  pub table : Table

-- no half group, and no ticket: of a refused walk nothing is left but its refusal and the dirty pages
abbrev pub no_stage : Stage
no_stage = record { ticket = 0; start = 0; count = 0 }

-- a stage, or the stop of a refused walk, with the seats: a page found no frame where the refusal is 9
abbrev pub walk_of : Result Stage Stop → List ℕ → Walk
walk_of (Ok stage) seats = record { refusal = 0; place = 0; stage = stage; table = seated false seats }
walk_of (Err stop) seats = record {
  refusal = number_of stop.refusal;
  place = stop.place;
  stage = no_stage;
  table = seated (eqb (number_of stop.refusal) 9) seats;
}

-- refusal 8 at a place
abbrev pub out_of_order_at : ℕ → Stop
out_of_order_at place = record { refusal = LogOutOfOrder; place = place }

-- refused at a place
abbrev pub refused_at : Walk → ℕ → ℕ → Walk
refused_at walk refusal place = record { refusal = refusal; place = place; stage = no_stage; table = walk.table }

-- with a half group of so many updates
abbrev pub half_at : Walk → ℕ → ℕ → Walk
half_at walk start count = record {
  refusal = walk.refusal;
  place = walk.place;
  stage = record { ticket = walk.stage.ticket; start = start; count = count };
  table = walk.table;
}

-- without a half group, with this ticket and these dirty pages
abbrev pub closed_with : Walk → ℕ → Table → Walk
closed_with walk ticket table = record {
  refusal = walk.refusal;
  place = walk.place;
  stage = record { ticket = ticket; start = 0; count = 0 };
  table = table;
}

-- ---- the code's turns

-- a block is in order
abbrev pub walk_fits : Walk → Kind → ℕ → Bool
walk_fits walk kind ticket = in_order_after kind ticket walk.stage.count walk.stage.ticket

-- an update is walked over
unfoldable pub updated : Walk → ℕ → ℕ → ℕ → Walk
updated walk sequence index ticket =
    cond (walk_fits walk (update index no_update) ticket)
    (cond (eqb index 1) (half_at walk sequence 1) (half_at walk walk.stage.start index))
    (refused_at walk 8 sequence)

-- a clean is walked over
pub record Cleans (walk : Walk) (sequence page ticket : ℕ) (result : Walk) : Type 0 where
  pub wrong : walk_fits walk (clean page) ticket ≡ false → result ≡ refused_at walk 8 sequence
  pub right : walk_fits walk (clean page) ticket ≡ true
      → (table : Table) × Drops walk.table page table × (result ≡ closed_with walk walk.stage.ticket table)

-- a commit is walked over: its group takes effect; where a page found no frame, this is 9
pub record Commits (log home : List ℕ) (walk : Walk) (frames : List ℕ) (sequence updates ticket : ℕ) (result : Walk) (frames' : List ℕ) : Type 0 where
  pub wrong : walk_fits walk (commit updates) ticket ≡ false → result ≡ refused_at walk 8 sequence
  pub right : walk_fits walk (commit updates) ticket ≡ true
      → (table : Table) × AppliesAll walk.table home frames (updates_from log walk.stage.start walk.stage.count) walk.stage.start table frames'
      × (result ≡ cond table.full (refused_at (closed_with walk ticket table) 9 sequence) (closed_with walk ticket table))

-- what the last block's number and the table tell, with an own number beside the first groups: H + D is at most N
abbrev pub span_fits : Table → ℕ → ℕ → ℕ → Bool
span_fits table slots next own = leb (next - smallest own (first_groups table.dirty) + length (first_groups table.dirty)) slots

-- ---- beside the promised walk

-- the walk may meet the block of this sequence: its half group ends before it, with updates that fit home, and its ticket is below it and
-- below the half group's start
pub record Ready (log home : List ℕ) (sequence : ℕ) (walk : Walk) : Type 0 where
  pub half : 0 < walk.stage.count → walk.stage.start + walk.stage.count ≡ sequence
  pub begins : 0 < walk.stage.count → 1 ≤ walk.stage.start
  pub few : walk.stage.count ≤ sequence
  pub ticket_below : walk.stage.ticket < sequence
  pub ticket_early : 0 < walk.stage.count → walk.stage.ticket < walk.stage.start
  pub placed : (i : ℕ) → i < walk.stage.count → Placed (pages_in (length home)) (header_of log (walk.stage.start + i)).kind

-- a dirty page is below P, and its first group is from 1 to before this sequence
abbrev pub Early : ℕ → ℕ → ℕ → ℕ → Type 0
Early pages sequence page first = (page < pages) × (1 ≤ first) × (first < sequence)

-- the walk, before the block of this sequence, and the frames' bytes stand for the promised walk
pub record Stands (log home : List ℕ) (sequence : ℕ) (walk : Walk) (frames : List ℕ) (paper : PaperWalk) : Type 0 where
  pub going : walk.refusal ≡ 0
  pub not_full : walk.table.full ≡ false
  pub ticket_is : walk.stage.ticket ≡ paper.ticket
  pub start_is : walk.stage.start ≡ paper.start
  pub group_is : updates_from log walk.stage.start walk.stage.count ≡ paper.group
  pub holds : Holds walk.table frames paper.dirty_pages
  pub early : Each (Early (pages_in (length home)) sequence) paper.dirty_pages

-- the walk ended with this refusal at this place
pub record Refused (walk : Walk) (refusal place : ℕ) : Type 0 where
  pub refusal_is : walk.refusal ≡ refusal
  pub place_is : walk.place ≡ place

-- what the block of a sequence makes of a walk: nothing once refused; 8, then 9, then the promised walk's turn
pub record Turns (log home : List ℕ) (sequence : ℕ) (kind : Kind) (ticket : ℕ) (walk : Walk) (frames : List ℕ) (result : Walk) (frames' : List ℕ) : Type 0 where
  pub count_is : result.table.count ≡ walk.table.count
  pub stays : (walk.refusal ≡ 0 → ⊥) → result ≡ walk
  pub ready : result.refusal ≡ 0 → Ready log home (suc sequence) result
  pub out_of_order : (paper : PaperWalk) → Stands log home sequence walk frames paper → in_order kind ticket paper ≡ false → Refused result 8 sequence
  pub too_few : (paper : PaperWalk) → Stands log home sequence walk frames paper → in_order kind ticket paper ≡ true
      → framed walk.table.count (page_at home) kind paper ≡ false → Refused result 9 sequence
  pub goes_on : (paper : PaperWalk) → Stands log home sequence walk frames paper → in_order kind ticket paper ≡ true
      → framed walk.table.count (page_at home) kind paper ≡ true
      → Stands log home (suc sequence) result frames' (walk_block (page_at home) sequence kind paper)

-- what a walk leads to, with so many blocks left from a sequence on: refused, it is that; otherwise what the promised walk over them finds
pub record Leads (log home : List ℕ) (slots next sequence more : ℕ) (walk : Walk) (frames : List ℕ) (found : Finding) : Type 0 where
  pub refused : (walk.refusal ≡ 0 → ⊥) → found ≡ stops walk.refusal walk.place
  pub goes : walk.refusal ≡ 0
      → (paper : PaperWalk) × Stands log home sequence walk frames paper
      × (walk_from slots walk.table.count (page_at home) next sequence (blocks_from log sequence more) paper ≡ found)

-- what all blocks from first to last make of a walk: it leads to the same
pub record Walks (log home : List ℕ) (first last : ℕ) (walk : Walk) (frames : List ℕ) (result : Walk) (frames' : List ℕ) : Type 0 where
  pub count_is : result.table.count ≡ walk.table.count
  pub ready : result.refusal ≡ 0 → Ready log home (last + 1) result
  pub leads : (slots next : ℕ) (found : Finding) → Leads log home slots next first (last + 1 - first) walk frames found
      → Leads log home slots next (last + 1) 0 result frames' found
