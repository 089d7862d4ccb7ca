-- A call of the store as a step: what a caller learns of it from its contract. `Learnt` is what the toolchain makes of an entry's
-- `ensures`: the lifetimes, the arguments at entry, the result, and the arguments at exit.
-- Assumes nothing.
use contract.Lifetimes.{Lfts}
use Rattle.std.specs.Prelude.{Result, Bool}
use Rattle.promises.specs.declared.Outcome.{Outcome}
use Rattle.promises.specs.declared.Page.{Page}
use Rattle.promises.specs.declared.Refusal.{Refusal}
use Rattle.promises.specs.declared.Stop.{Stop}
use Rattle.promises.specs.declared.Logged.{Logged as LogAnswer}
use Rattle.std.specs.Borrow.{Bor, MutBor}
use Rattle.std.specs.Prelude.{◌≡◌, ℕ, List}
use Rattle.promises.specs.Updates.{Update}
use Rattle.promises.specs.Events.{World, with_state, with_areas, Call, opening, begin, describe, ending, log_step, clean_step, reading, settling}
use Rattle.promises.specs.Answers.{Reply, answered, end_answered, log_answered, open_answered, standing_answered, read_answered, refusal_in}
use Rattle.store.proofs.format.Reads as format-entry
use Rattle.store.proofs.open.Reads as open-entry
use Rattle.store.proofs.begin.Reads as begin-entry
use Rattle.store.proofs.describe.Reads as describe-entry
use Rattle.store.proofs.end.Reads as end-entry
use Rattle.store.proofs.log_step.Reads as log-step-entry
use Rattle.store.proofs.clean_step.Reads as clean-step-entry
use Rattle.store.proofs.read.Reads as read-entry
use Rattle.store.proofs.settled.Reads as settled-entry

pub record Formatted (log : List ℕ) (answer : Result (Unit {0}) Refusal) (log' : List ℕ) : Type 0 where
  pub κs : Lfts 1
  pub lent : MutBor (List ℕ)
  pub left : MutBor (List ℕ)
  pub lent_is : lent.now ≡ log
  pub left_is : left.now ≡ log'
  pub learnt : format-entry.Learnt κs (lent, tt) answer (left, tt)

pub record Opened (world : World) (frames staging : List ℕ) (reply : Reply) (world' : World) : Type 0 where
  pub κs : Lfts 4
  pub log : Bor (List ℕ)
  pub home : Bor (List ℕ)
  pub lent_frames : MutBor (List ℕ)
  pub left_frames : MutBor (List ℕ)
  pub lent_staging : Bor (List ℕ)
  pub result : Outcome ℕ Stop
  pub log_is : log.now ≡ world.log
  pub home_is : home.now ≡ world.home
  pub frames_are : lent_frames.now ≡ frames
  pub staging_is : lent_staging.now ≡ staging
  pub learnt : open-entry.Learnt κs (log, (home, (lent_frames, (lent_staging, tt)))) result (log, (home, (left_frames, (lent_staging, tt))))
  pub reply_is : reply ≡ open_answered result.answer
  pub after : world' ≡ with_state (with_areas world world.log world.home left_frames.now staging) result.state

pub record Begun (world : World) (u : ℕ) (reply : Reply) (world' : World) : Type 0 where
  pub κs : Lfts 0
  pub result : Outcome (Unit {0}) Refusal
  pub learnt : begin-entry.Learnt κs (world.state, (u, tt)) result (world.state, (u, tt))
  pub reply_is : reply ≡ answered result.answer
  pub after : world' ≡ with_state world result.state

pub record Described (world : World) (update : Update) (reply : Reply) (world' : World) : Type 0 where
  pub κs : Lfts 2
  pub staging : MutBor (List ℕ)
  pub staging' : MutBor (List ℕ)
  pub bytes : Bor (List ℕ)
  pub result : Outcome (Unit {0}) Refusal
  pub staging_is : staging.now ≡ world.staging
  pub bytes_are : bytes.now ≡ update.bytes
  pub learnt : describe-entry.Learnt κs (world.state, (staging, (update.page, (update.offset, (bytes, tt))))) result
      (world.state, (staging', (update.page, (update.offset, (bytes, tt)))))
  pub reply_is : reply ≡ answered result.answer
  pub after : world' ≡ with_state (with_areas world world.log world.home world.frames staging'.now) result.state

pub record Ended (world : World) (reply : Reply) (world' : World) : Type 0 where
  pub κs : Lfts 0
  pub result : Outcome ℕ Refusal
  pub learnt : end-entry.Learnt κs (world.state, tt) result (world.state, tt)
  pub reply_is : reply ≡ end_answered result.answer
  pub after : world' ≡ with_state world result.state

pub record Logged (world : World) (reply : Reply) (world' : World) : Type 0 where
  pub κs : Lfts 4
  pub log : MutBor (List ℕ)
  pub log' : MutBor (List ℕ)
  pub home : Bor (List ℕ)
  pub frames : MutBor (List ℕ)
  pub frames' : MutBor (List ℕ)
  pub staging : Bor (List ℕ)
  pub result : Outcome LogAnswer Refusal
  pub log_is : log.now ≡ world.log
  pub home_is : home.now ≡ world.home
  pub frames_are : frames.now ≡ world.frames
  pub staging_is : staging.now ≡ world.staging
  pub learnt : log-step-entry.Learnt κs (world.state, (log, (home, (frames, (staging, tt))))) result (world.state, (log', (home, (frames', (staging, tt)))))
  pub reply_is : reply ≡ log_answered result.answer
  pub after : world' ≡ with_state (with_areas world log'.now world.home frames'.now world.staging) result.state

pub record Cleaned (world : World) (reply : Reply) (world' : World) : Type 0 where
  pub κs : Lfts 3
  pub log : MutBor (List ℕ)
  pub log' : MutBor (List ℕ)
  pub home : MutBor (List ℕ)
  pub home' : MutBor (List ℕ)
  pub frames : Bor (List ℕ)
  pub result : Outcome (Unit {0}) Refusal
  pub log_is : log.now ≡ world.log
  pub home_is : home.now ≡ world.home
  pub frames_are : frames.now ≡ world.frames
  pub learnt : clean-step-entry.Learnt κs (world.state, (log, (home, (frames, tt)))) result (world.state, (log', (home', (frames, tt))))
  pub reply_is : reply ≡ answered result.answer
  pub after : world' ≡ with_state (with_areas world log'.now home'.now world.frames world.staging) result.state

pub record Shown (world : World) (page : ℕ) (reply : Reply) (world' : World) : Type 0 where
  pub κs : Lfts 1
  pub home : Bor (List ℕ)
  pub frames : Bor (List ℕ)
  pub result : Page
  pub home_is : home.now ≡ world.home
  pub frames_are : frames.now ≡ world.frames
  pub learnt : read-entry.Learnt κs (world.state, (home, (frames, (page, tt)))) result (world.state, (home, (frames, (page, tt))))
  pub reply_is : reply ≡ read_answered (refusal_in result.answer) result.bytes.now
  pub after : world' ≡ world

pub record Told (world : World) (ticket : ℕ) (reply : Reply) (world' : World) : Type 0 where
  pub κs : Lfts 0
  pub result : Result Bool Refusal
  pub learnt : settled-entry.Learnt κs (world.state, (ticket, tt)) result (world.state, (ticket, tt))
  pub reply_is : reply ≡ standing_answered result
  pub after : world' ≡ world

-- a step of each call
abbrev pub Taken : Call → World → Reply → World → Type 0
Taken (opening frames staging) world reply world' = Opened world frames staging reply world'
Taken (begin u) world reply world' = Begun world u reply world'
Taken (describe update) world reply world' = Described world update reply world'
Taken ending world reply world' = Ended world reply world'
Taken log_step world reply world' = Logged world reply world'
Taken clean_step world reply world' = Cleaned world reply world'
Taken (reading page) world reply world' = Shown world page reply world'
Taken (settling ticket) world reply world' = Told world ticket reply world'
