-- What End promises. End: 2; 4; 10.
-- Assumes nothing.
use Rattle.std.specs.Prelude.{ℕ, ◌+◌, ◌≡◌, cond, List, [], ◌∷◌, ◌++◌, set, eqb}
use Rattle.promises.specs.declared.Outcome.{Outcome}
use Rattle.promises.specs.declared.Refusal.{Refusal}
use Rattle.promises.specs.declared.State.{State}
use Rattle.promises.specs.Contents.{Contents, contents_of, with_queue, with_open}
use Rattle.promises.specs.States.{set_groups, set_open}
use Rattle.promises.specs.Sums.{last_ended}
use Rattle.promises.specs.Sound.{sound}
use Rattle.promises.specs.Answers.{gives, replied, end_answered}
use Rattle.promises.specs.Leaves.{Leaves}

unfoldable pub end_refusal : State → ℕ
end_refusal state = cond (sound state) (cond (eqb state.reserved 0) 4 (cond (eqb state.described 0) 10 0)) 2

-- the list joins the queue as a group, and what wasn't used of u is free
abbrev pub ended : Contents → Contents
ended contents = with_open (with_queue contents (contents.queue ++ (contents.list ∷ [])) contents.stored) 0 []

abbrev pub ended_state : State → State
ended_state state = set_open (set_groups state (set state.groups state.queued state.described) (state.queued + 1)) 0 0

-- the answer gives the next ticket
pub record Ends (state : State) (result : Outcome ℕ Refusal) : Type 0 where
  pub answer_is : end_answered result.answer ≡ replied (end_refusal state) (gives (last_ended state + 1))
  pub refused : (end_refusal state ≡ 0 → ⊥) → result.state ≡ state
  pub state_is : end_refusal state ≡ 0 → result.state ≡ ended_state state
  pub leaves : end_refusal state ≡ 0 → (staging : List ℕ) → Leaves state result.state staging (ended (contents_of state staging))
