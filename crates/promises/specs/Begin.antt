-- What Begin promises. Begin (u): 2; 3; 4; 6; 5.
-- Assumes nothing.
use Rattle.std.specs.Prelude.{ℕ, ◌+◌, ◌*◌, ◌≡◌, Bool, cond, ◌&&◌, List, [], eqb, leb}
use Rattle.block.specs.Sizes.{sequence_end, group_most}
use Rattle.promises.specs.declared.Outcome.{Outcome}
use Rattle.promises.specs.declared.Refusal.{Refusal}
use Rattle.promises.specs.declared.State.{State}
use Rattle.promises.specs.Contents.{Contents, contents_of, with_open}
use Rattle.promises.specs.States.{set_open}
use Rattle.promises.specs.Sums.{slots_taken, frames_taken, waiting_blocks}
use Rattle.promises.specs.Sound.{sound}
use Rattle.promises.specs.Answers.{done, replied, answered}
use Rattle.promises.specs.Leaves.{Leaves}

-- not 3: u is not 0, not above 16, not above F, and 2u + 1 is not above N
abbrev pub begin_in_range : State → ℕ → Bool
begin_in_range state u = leb 1 u && leb u group_most && leb u state.frames && leb (2 * u + 1) state.slots

-- not 5: H + W + D + V + 2u + 1 is at most N and D + V + u at most F
abbrev pub begin_has_room : State → ℕ → Bool
begin_has_room state u = leb (slots_taken state + 2 * u + 1) state.slots && leb (frames_taken state + u) state.frames

unfoldable pub begin_refusal : State → ℕ → ℕ
begin_refusal state u =
    cond (sound state)
    (cond (begin_in_range state u)
    (cond (eqb state.reserved 0)
    (cond (leb (state.next + waiting_blocks state + u + 1) sequence_end)
    (cond (begin_has_room state u) 0 5) 6) 4) 3) 2

-- an open transaction that reserves u and has described nothing
abbrev pub begun : Contents → ℕ → Contents
begun contents u = with_open contents u []

abbrev pub begun_state : State → ℕ → State
begun_state state u = set_open state u 0

pub record Begins (state : State) (u : ℕ) (result : Outcome (Unit {0}) Refusal) : Type 0 where
  pub answer_is : answered result.answer ≡ replied (begin_refusal state u) done
  pub refused : (begin_refusal state u ≡ 0 → ⊥) → result.state ≡ state
  pub state_is : begin_refusal state u ≡ 0 → result.state ≡ begun_state state u
  pub leaves : begin_refusal state u ≡ 0 → (staging : List ℕ) → Leaves state result.state staging (begun (contents_of state staging) u)
