-- The events of the crash theorem: calls, each by its own promise, and cuts.
-- Assumes nothing.
use Rattle.std.specs.Borrow.{Bor}
use Rattle.std.specs.Prelude.{◌≡◌, ℕ, Bool, cond, List, length}
use Rattle.std.specs.Prelude.{Result}
use Rattle.promises.specs.declared.Outcome.{Outcome}
use Rattle.promises.specs.declared.Refusal.{Refusal}
use Rattle.promises.specs.declared.Stop.{Stop}
use Rattle.promises.specs.declared.Logged.{Logged}
use Rattle.promises.specs.declared.State.{State}
use Rattle.promises.specs.Areas.{frames_length, staging_length}
use Rattle.promises.specs.Updates.{Update}
use Rattle.promises.specs.States.{all_zero_state}
use Rattle.promises.specs.Answers.{Reply, answered, end_answered, log_answered, open_answered, standing_answered, read_answered}
use Rattle.promises.specs.Open.{Opens}
use Rattle.promises.specs.Begin.{Begins}
use Rattle.promises.specs.Describe.{Describes}
use Rattle.promises.specs.End.{Ends}
use Rattle.promises.specs.LogStep.{LogSteps}
use Rattle.promises.specs.CleanStep.{CleanSteps}
use Rattle.promises.specs.Read.{Reads}
use Rattle.promises.specs.Settled.{Settles}

-- N, P and F
pub record Sizes : Type 0 where
  pub slots : ℕ
  pub pages : ℕ
  pub frames : ℕ

-- the state and the four areas
pub record World : Type 0 where
  pub state : State
  pub log : List ℕ
  pub home : List ℕ
  pub frames : List ℕ
  pub staging : List ℕ

-- a world with another state, and with other areas
abbrev pub with_state : World → State → World
with_state world state = record { state = state; log = world.log; home = world.home; frames = world.frames; staging = world.staging }

abbrev pub with_areas : World → List ℕ → List ℕ → List ℕ → List ℕ → World
with_areas world log home frames staging = record { state = world.state; log = log; home = home; frames = frames; staging = staging }

-- a call with its arguments; Open may be lent any frames and staging, the other calls get the areas that the last one left
pub data Call : Type 0 where
  opening : List ℕ → List ℕ → Call
  begin : ℕ → Call
  describe : Update → Call
  ending : Call
  log_step : Call
  clean_step : Call
  reading : ℕ → Call
  settling : ℕ → Call

-- ---- each call's step is its promise

pub record Opening (world : World) (frames staging : List ℕ) (reply : Reply) (world' : World) : Type 0 where
  pub result : Outcome ℕ Stop
  pub frames' : List ℕ
  pub promise : Opens world.log world.home frames staging result frames'
  pub reply_is : reply ≡ open_answered result.answer
  pub after : world' ≡ with_state (with_areas world world.log world.home frames' staging) result.state

pub record Beginning (world : World) (u : ℕ) (reply : Reply) (world' : World) : Type 0 where
  pub result : Outcome (Unit {0}) Refusal
  pub promise : Begins world.state u result
  pub reply_is : reply ≡ answered result.answer
  pub after : world' ≡ with_state world result.state

pub record Describing (world : World) (update : Update) (reply : Reply) (world' : World) : Type 0 where
  pub result : Outcome (Unit {0}) Refusal
  pub staging' : List ℕ
  pub promise : Describes world.state update world.staging result staging'
  pub reply_is : reply ≡ answered result.answer
  pub after : world' ≡ with_state (with_areas world world.log world.home world.frames staging') result.state

pub record Ending (world : World) (reply : Reply) (world' : World) : Type 0 where
  pub result : Outcome ℕ Refusal
  pub promise : Ends world.state result
  pub reply_is : reply ≡ end_answered result.answer
  pub after : world' ≡ with_state world result.state

pub record Logging (world : World) (reply : Reply) (world' : World) : Type 0 where
  pub result : Outcome Logged Refusal
  pub log' : List ℕ
  pub frames' : List ℕ
  pub promise : LogSteps world.state world.log world.home world.frames world.staging result log' frames'
  pub reply_is : reply ≡ log_answered result.answer
  pub after : world' ≡ with_state (with_areas world log' world.home frames' world.staging) result.state

pub record Cleaning (world : World) (reply : Reply) (world' : World) : Type 0 where
  pub result : Outcome (Unit {0}) Refusal
  pub log' : List ℕ
  pub home' : List ℕ
  pub promise : CleanSteps world.state world.log world.home world.frames result log' home'
  pub reply_is : reply ≡ answered result.answer
  pub after : world' ≡ with_state (with_areas world log' home' world.frames world.staging) result.state

pub record Reading (world : World) (page : ℕ) (reply : Reply) (world' : World) : Type 0 where
  pub home : Bor (List ℕ)
  pub frames : Bor (List ℕ)
  pub home_is : home.now ≡ world.home
  pub frames_are : frames.now ≡ world.frames
  pub number : ℕ
  pub result : Bor (List ℕ)
  pub promise : Reads world.state home frames page number result
  pub reply_is : reply ≡ read_answered number result.now
  pub after : world' ≡ world

pub record Settling (world : World) (ticket : ℕ) (reply : Reply) (world' : World) : Type 0 where
  pub result : Result Bool Refusal
  pub promise : Settles world.state ticket result
  pub reply_is : reply ≡ standing_answered result
  pub after : world' ≡ world

abbrev pub Step : Call → World → Reply → World → Type 0
Step (opening frames staging) world reply world' = Opening world frames staging reply world'
Step (begin u) world reply world' = Beginning world u reply world'
Step (describe update) world reply world' = Describing world update reply world'
Step ending world reply world' = Ending world reply world'
Step log_step world reply world' = Logging world reply world'
Step clean_step world reply world' = Cleaning world reply world'
Step (reading page) world reply world' = Reading world page reply world'
Step (settling ticket) world reply world' = Settling world ticket reply world'

-- Open is lent areas of the store's sizes
abbrev pub Lent : Sizes → Call → Type 0
Lent sizes (opening frames staging) = (length frames ≡ frames_length sizes.frames) × (length staging ≡ staging_length sizes.frames)
Lent sizes (begin u) = Unit {0}
Lent sizes (describe update) = Unit {0}
Lent sizes ending = Unit {0}
Lent sizes log_step = Unit {0}
Lent sizes clean_step = Unit {0}
Lent sizes (reading page) = Unit {0}
Lent sizes (settling ticket) = Unit {0}

-- what a cut at a call leaves of log and home: as before the call, or as after it
abbrev pub left_by : Bool → World → World → World
left_by stored before after = cond stored after before

-- after a cut: log and home are left, the state is all-zero, frames and staging hold anything
abbrev pub fallen : World → List ℕ → List ℕ → World
fallen world frames staging = with_state (with_areas world world.log world.home frames staging) all_zero_state
