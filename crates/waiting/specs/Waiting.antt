-- What a Begin that waits does: Begin; if it is refused as full, Log steps until one is refused, Clean steps until one is refused, and Begin
-- again.
-- Assumes nothing.
use Rattle.std.specs.Prelude.{ℕ, zero, suc, ◌+◌, ◌*◌, ◌≤◌, ◌≡◌, true, List, [], Ok}
use Rattle.block.specs.Sizes.{sequence_end}
use Rattle.promises.specs.declared.State.{State}
use Rattle.promises.specs.Answers.{Reply, refuses, accepts, number_of, answered}
use Rattle.promises.specs.Sums.{open_ones, waiting_blocks}
use Rattle.promises.specs.Begin.{begin_refusal}
use Rattle.promises.specs.Events.{World, Call, begin, log_step, clean_step}
use Rattle.promises.specs.Claim.{Steps, promised}
use Rattle.promises.specs.Waiting.{Fitting}
use Rattle.waiting.specs.declared.Stopped.{Stopped}
use Rattle.waiting.specs.declared.Waited.{Waited}

abbrev pub world_of : State → List ℕ → List ℕ → List ℕ → List ℕ → World
world_of state log home frames staging = record { state = state; log = log; home = home; frames = frames; staging = staging }

-- a call again and again until it is refused: how many were accepted, and the refusal
pub data Until (by : Steps) (call : Call) : ℕ → World → ℕ → World → Type 0 where
  refused : {world world' : World} {refusal : ℕ} → by.steps call world (refuses refusal) world' → Until by call zero world refusal world'
  accepted : {count : ℕ} {world world' world'' : World} {refusal : ℕ} (reply : Reply) → by.steps call world reply world' → accepts reply ≡ true
      → Until by call count world' refusal world'' → Until by call (suc count) world refusal world''

-- logged and cleaned count the Log steps and Clean steps that were accepted
pub data Tries (by : Steps) (u : ℕ) (world : World) : ℕ → ℕ → Reply → World → Type 0 where
  -- Begin is accepted, or refused with another number than 5
  at_once : {reply : Reply} {world' : World} → by.steps (begin u) world reply world' → (reply ≡ refuses 5 → ⊥) → Tries by u world zero zero reply world'
  -- a Log step is refused, and not because nothing is queued: its refusal is the answer
  stops_logging : {full world' : World} {logged refusal : ℕ} → by.steps (begin u) world (refuses 5) full → Until by log_step logged full refusal world'
      → (refusal ≡ 10 → ⊥) → Tries by u world logged zero (refuses refusal) world'
  -- a Clean step is refused, and not because none is dirty: its refusal is the answer
  stops_cleaning : {full drained world' : World} {logged cleaned refusal : ℕ} → by.steps (begin u) world (refuses 5) full → Until by log_step logged full 10 drained
      → Until by clean_step cleaned drained refusal world' → (refusal ≡ 10 → ⊥) → Tries by u world logged cleaned (refuses refusal) world'
  -- nothing is queued and none is dirty: Begin again
  again : {full drained clean world' : World} {logged cleaned : ℕ} {reply : Reply} → by.steps (begin u) world (refuses 5) full → Until by log_step logged full 10 drained
      → Until by clean_step cleaned drained 10 clean → by.steps (begin u) clean reply world' → Tries by u world logged cleaned reply world'

-- what `WaitBound` says of it, where it speaks: Begin is accepted in the end, after W Log steps and at most 3 F Clean steps
pub record KeepsBound (world : World) (result : Waited) : Type 0 where
  pub answer_is : result.answer ≡ Ok tt
  pub logged_is : result.logged ≡ waiting_blocks world.state
  pub cleaned_most : result.cleaned ≤ 3 * world.state.frames

-- what a Begin that waits promises, in every state and with any areas; the bound where all lengths are right, nothing is open, next is at most
-- 2^48 - 4,096 and Begin is refused as full
pub record BeginsWaiting (world : World) (u : ℕ) (result : Waited) (world' : World) : Type 0 where
  pub tries : Tries promised u world result.logged result.cleaned (answered result.answer) world'
  pub bound : Fitting world → open_ones world.state ≡ [] → world.state.next + 4096 ≤ sequence_end → begin_refusal world.state u ≡ 5 → KeepsBound world result

-- Log steps until one is refused
abbrev pub LogsAll : State → List ℕ → List ℕ → List ℕ → List ℕ → Stopped → List ℕ → List ℕ → Type 0
LogsAll state log home frames staging result log' frames' =
    Until promised log_step result.count (world_of state log home frames staging) (number_of result.refusal) (world_of result.state log' home frames' staging)

-- Clean steps until one is refused; they are lent no staging, so any will do
abbrev pub CleansAll : State → List ℕ → List ℕ → List ℕ → Stopped → List ℕ → List ℕ → Type 0
CleansAll state log home frames result log' home' =
    (staging : List ℕ)
    → Until promised clean_step result.count (world_of state log home frames staging) (number_of result.refusal) (world_of result.state log' home' frames staging)
