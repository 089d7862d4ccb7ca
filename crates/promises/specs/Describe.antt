-- What Describe promises. Describe (page, offset, bytes), lent staging: 2; 1; 4; 3; 5.
-- Assumes nothing.
use Rattle.std.specs.Prelude.{ℕ, ◌+◌, ◌<◌, ◌≡◌, false, cond, List, [], ◌∷◌, ◌++◌, length, set, eqb, ltb}
use Rattle.block.specs.Legal.{legal_place}
use Rattle.promises.specs.declared.Outcome.{Outcome}
use Rattle.promises.specs.declared.Refusal.{Refusal}
use Rattle.promises.specs.declared.State.{State}
use Rattle.promises.specs.declared.Staged.{Staged}
use Rattle.promises.specs.Areas.{staging_length, with_staged}
use Rattle.promises.specs.Updates.{Update}
use Rattle.promises.specs.Contents.{Contents, contents_of, with_open}
use Rattle.promises.specs.States.{set_staged, set_open}
use Rattle.promises.specs.Sums.{queued_updates}
use Rattle.promises.specs.Sound.{sound, member, areas_of, staged_of}
use Rattle.promises.specs.Answers.{done, replied, answered}
use Rattle.promises.specs.Leaves.{Leaves}

-- of the lengths of staging and of the bytes
unfoldable pub describe_refusal : State → ℕ → ℕ → ℕ → ℕ → ℕ
describe_refusal state staging page offset count =
    cond (sound state)
    (cond (eqb staging (staging_length state.frames))
    (cond (eqb state.reserved 0) 4
    (cond (legal_place state.pages page offset count)
    (cond (ltb state.described state.reserved) 0 5) 3)) 1) 2

-- the update goes to the end of the open transaction's list
abbrev pub described : Contents → Update → Contents
described contents update = with_open contents contents.reserved (contents.list ++ (update ∷ []))

-- and to the place after the updates that wait, with the staging area that it gets
abbrev pub described_state : State → Staged → State
described_state state staged =
    set_open (set_staged state (set state.staged (queued_updates state + state.described) staged)) state.reserved (state.described + 1)

abbrev pub staged_in : Update → ℕ → Staged
staged_in update area = record { page = update.page; offset = update.offset; length = length update.bytes; area = area }

-- left to the program: the staging area that the update gets, below F and held by no waiting update. Its first bytes become the new
-- bytes; no other byte of staging changes
pub record DescribeStep (state : State) (update : Update) (staging : List ℕ) (result : Outcome (Unit {0}) Refusal) (staging' : List ℕ) : Type 0 where
  pub area : ℕ
  pub area_below : area < state.frames
  pub area_free : member area (areas_of (staged_of state)) ≡ false
  pub staging_is : staging' ≡ with_staged staging area (length update.bytes) update.bytes
  pub state_is : result.state ≡ described_state state (staged_in update area)
  pub leaves : Leaves state result.state staging' (described (contents_of state staging) update)

pub record Describes (state : State) (update : Update) (staging : List ℕ) (result : Outcome (Unit {0}) Refusal) (staging' : List ℕ) : Type 0 where
  pub answer_is : answered result.answer ≡ replied (describe_refusal state (length staging) update.page update.offset (length update.bytes)) done
  pub refused : (describe_refusal state (length staging) update.page update.offset (length update.bytes) ≡ 0 → ⊥)
      → (result.state ≡ state) × (staging' ≡ staging)
  pub accepted : describe_refusal state (length staging) update.page update.offset (length update.bytes) ≡ 0
      → DescribeStep state update staging result staging'
