-- What the code finds in a log, beside the promised finding.
-- Assumes nothing.
use Rattle.std.specs.Prelude.{ℕ, ◌+◌, ◌<◌, ◌≡◌, true, cond, List, length, eqb, Result, Ok, Err}
use Rattle.block.specs.Sizes.{sequence_end}
use Rattle.promises.specs.declared.Dirty.{Dirty}
use Rattle.promises.specs.declared.Outcome.{Outcome}
use Rattle.promises.specs.declared.Refusal.TheVariants.{LogDamaged}
use Rattle.promises.specs.declared.Stop.{Stop}
use Rattle.promises.specs.Areas.{slots_in}
use Rattle.promises.specs.States.{all_zero_state}
use Rattle.promises.specs.Walk.{Walk as PaperWalk, Finding, stops, stands}
use Rattle.promises.specs.Open.{opened_state}
use Rattle.promises.specs.CopyOpen.{kept_ending}
use Rattle.table.specs.Table.{empty_table}
use Rattle.recovery.specs.declared.Stage.{Stage}
use Rattle.recovery.specs.Walking.{Walk, walk_of, refused_at, span_fits, Ready, Stands}
use Rattle.opening.specs.declared.Found.{Found}

-- the newest sequence, and where the walk ended
pub record FoundWalk : Type 0 where
  pub newest : ℕ
  pub walk : Walk

-- what was found, with the seats; of a refused walk no newest sequence is told
abbrev pub found_of : Result Found Stop → List ℕ → FoundWalk
found_of (Ok found) seats = record { newest = found.newest; walk = walk_of (Ok found.stage) seats }
found_of (Err stop) seats = record { newest = 0; walk = walk_of (Err stop) seats }

-- where a walk starts, with the ticket that is believed, and with so many frames
abbrev pub stage_start : ℕ → Stage
stage_start ticket = record { ticket = ticket; start = 0; count = 0 }

abbrev pub start_of : ℕ → ℕ → Walk
start_of count ticket = record { refusal = 0; place = 0; stage = stage_start ticket; table = empty_table count }

-- a block is missing at this place
abbrev pub missing_at : ℕ → Stop
missing_at place = record { refusal = LogDamaged; place = place }

abbrev pub stopped_at : ℕ → ℕ → FoundWalk
stopped_at count place = record { newest = 0; walk = refused_at (start_of count 0) 7 place }

-- what is answered: a refusal with the all-zero state, or a desk's state with these entries
abbrev pub outcome_refused : Stop → Outcome ℕ Stop
outcome_refused stop = record { state = all_zero_state; answer = Err stop }

abbrev pub outcome_found : ℕ → ℕ → ℕ → Found → List Dirty → Outcome ℕ Stop
outcome_found pages slots frames found dirty = record {
  state = opened_state pages slots frames (found.newest + 1) found.stage.ticket dirty;
  answer = Ok found.stage.ticket;
}

-- the walk ended where the promised one does, and what soundness asks for holds of it
pub record Accepts (log home : List ℕ) (found : Finding) (result : FoundWalk) (frames' : List ℕ) : Type 0 where
  pub paper : PaperWalk
  pub found_is : found ≡ stands (result.newest + 1) paper
  pub stands_for : Stands log home (result.newest + 1) result.walk frames' paper
  pub ready : Ready log home (result.newest + 1) result.walk
  pub span_within : span_fits result.walk.table (slots_in (length log)) (result.newest + 1) (result.newest + 1) ≡ true
  pub newest_below : result.newest < sequence_end

-- a refusal is the promised one, with its place; otherwise the walk stands
pub record Finds (log home : List ℕ) (count : ℕ) (found : Finding) (result : FoundWalk) (frames' : List ℕ) : Type 0 where
  pub count_is : result.walk.table.count ≡ count
  pub refused : (result.walk.refusal ≡ 0 → ⊥) → found ≡ stops result.walk.refusal result.walk.place
  pub accepted : result.walk.refusal ≡ 0 → Accepts log home found result frames'

-- ---- a copy: a half group is kept

-- what counts beside the dirty pages' first groups: a half group's start, else next
abbrev pub kept_from : Stage → ℕ → ℕ
kept_from stage next = cond (eqb stage.count 0) next stage.start

-- as Accepts, and the promised walk stands with its half group
pub record AcceptsHalf (log home : List ℕ) (found : Finding) (result : FoundWalk) (frames' : List ℕ) : Type 0 where
  pub accepts : Accepts log home found result frames'
  pub kept_is : kept_ending (slots_in (length log)) found ≡ stands (result.newest + 1) accepts.paper
  pub half_within : span_fits result.walk.table (slots_in (length log)) (result.newest + 1) (kept_from result.walk.stage (result.newest + 1))
      ≡ true

-- as Finds, over what a log's finding is for a copy
pub record Keeps (log home : List ℕ) (count : ℕ) (found : Finding) (result : FoundWalk) (frames' : List ℕ) : Type 0 where
  pub count_is : result.walk.table.count ≡ count
  pub refused : (result.walk.refusal ≡ 0 → ⊥)
      → kept_ending (slots_in (length log)) found ≡ stops result.walk.refusal result.walk.place
  pub accepted : result.walk.refusal ≡ 0 → AcceptsHalf log home found result frames'
