-- A call of a broker's copy as a step: what a caller learns of it from its contract, as in Called. Read and Settled are the desk's own.
-- Assumes nothing.
use contract.Lifetimes.{Lfts}
use Rattle.promises.specs.declared.Outcome.{Outcome}
use Rattle.promises.specs.declared.Stop.{Stop}
use Rattle.promises.specs.declared.Fed.{Fed as FeedAnswer}
use Rattle.std.specs.Borrow.{Bor, MutBor}
use Rattle.std.specs.Prelude.{◌≡◌, ℕ, List, []}
use Rattle.promises.specs.Events.{World}
use Rattle.promises.specs.Answers.{Reply, open_answered, fed_answered}
use Rattle.promises.specs.Copy.{CopyCall, opens, feeds, reads, asks}
use Rattle.replica.proofs.open.Reads as open-entry
use Rattle.replica.proofs.feed.Reads as feed-entry
use Rattle.durability.specs.Called.{Shown, Told}

pub record CopyOpened (world : World) (frames : List ℕ) (reply : Reply) (world' : World) : Type 0 where
  pub κs : Lfts 3
  pub log : Bor (List ℕ)
  pub home : Bor (List ℕ)
  pub lent_frames : MutBor (List ℕ)
  pub left_frames : MutBor (List ℕ)
  pub result : Outcome ℕ Stop
  pub log_is : log.now ≡ world.log
  pub home_is : home.now ≡ world.home
  pub frames_are : lent_frames.now ≡ frames
  pub learnt : open-entry.Learnt κs (log, (home, (lent_frames, tt))) result (log, (home, (left_frames, tt)))
  pub reply_is : reply ≡ open_answered result.answer
  pub after : world' ≡ record { state = result.state; log = world.log; home = world.home; frames = left_frames.now; staging = [] }

pub record Fed (world : World) (bytes : List ℕ) (reply : Reply) (world' : World) : Type 0 where
  pub κs : Lfts 4
  pub log : MutBor (List ℕ)
  pub log' : MutBor (List ℕ)
  pub home : MutBor (List ℕ)
  pub home' : MutBor (List ℕ)
  pub frames : MutBor (List ℕ)
  pub frames' : MutBor (List ℕ)
  pub block : Bor (List ℕ)
  pub result : Outcome FeedAnswer Stop
  pub log_is : log.now ≡ world.log
  pub home_is : home.now ≡ world.home
  pub frames_are : frames.now ≡ world.frames
  pub block_is : block.now ≡ bytes
  pub learnt : feed-entry.Learnt κs (world.state, (log, (home, (frames, (block, tt))))) result (world.state, (log', (home', (frames', (block, tt)))))
  pub reply_is : reply ≡ fed_answered result.answer
  pub after : world' ≡ record { state = result.state; log = log'.now; home = home'.now; frames = frames'.now; staging = [] }

-- a step of each call
abbrev pub CopyTaken : CopyCall → World → Reply → World → Type 0
CopyTaken (opens frames) world reply world' = CopyOpened world frames reply world'
CopyTaken (feeds bytes) world reply world' = Fed world bytes reply world'
CopyTaken (reads page) world reply world' = Shown world page reply world'
CopyTaken (asks ticket) world reply world' = Told world ticket reply world'
