-- The cut rule of a broker's copy, its agreement with the desk and that it keeps up, of the code as shipped. In words: docs/GUARANTEE.md.
-- Assumes nothing.
use mathlib.Core.Path.{subst}
use mathlib.Core.List.{List}
use Prim.Native.Nat.{ℕ}
use Rattle.promises.specs.CopyOpen.{OpensCopy}
use Rattle.promises.specs.Feed.{Feeds}
use Rattle.promises.specs.Events.{World, reading, settling}
use Rattle.promises.specs.Answers.{Reply}
use Rattle.promises.specs.Copy.{CopyCall, opens, feeds, reads, asks, CopyStep}
use Rattle.promises.proofs.CopyRefines.{CopyRefines, copy-demand-by, agrees-by, keeps-up-by, in-our-log-by}
use Rattle.durability.specs.CopyCalled.{CopyTaken}
use Rattle.durability.specs.Durable.{shipped}
use Rattle.durability.specs.CopyDurable.{copy_shipped, CopyDurable, CopyAgrees, CopyKeepsUp, BlocksInOurLog}
use Rattle.durability.proofs.Durable.{step-promised, keeps-promises}

-- a step of the code is one that the promises allow; Read and Settled are the desk's own
copy-step-promised : (call : CopyCall) (world : World) (reply : Reply) (world' : World) → CopyTaken call world reply world' → CopyStep call world reply world'
copy-step-promised (opens frames) w a w' t = record {
  result = t.result;
  frames' = t.left_frames.now;
  promise =
      subst (λ (x : List ℕ). OpensCopy x w.home frames t.result t.left_frames.now) t.log_is
      (subst (λ (x : List ℕ). OpensCopy t.log.now x frames t.result t.left_frames.now) t.home_is
      (subst (λ (x : List ℕ). OpensCopy t.log.now t.home.now x t.result t.left_frames.now) t.frames_are t.learnt));
  reply_is = t.reply_is;
  after = t.after;
}
copy-step-promised (feeds bytes) w a w' t = record {
  result = t.result;
  log' = t.log'.now;
  home' = t.home'.now;
  frames' = t.frames'.now;
  promise =
      subst (λ (x : List ℕ). Feeds w.state x w.home w.frames bytes t.result t.log'.now t.home'.now t.frames'.now) t.log_is
      (subst (λ (x : List ℕ). Feeds w.state t.log.now x w.frames bytes t.result t.log'.now t.home'.now t.frames'.now) t.home_is
      (subst (λ (x : List ℕ). Feeds w.state t.log.now t.home.now x bytes t.result t.log'.now t.home'.now t.frames'.now) t.frames_are
      (subst (λ (x : List ℕ). Feeds w.state t.log.now t.home.now t.frames.now x t.result t.log'.now t.home'.now t.frames'.now) t.block_is t.learnt)));
  reply_is = t.reply_is;
  after = t.after;
}
copy-step-promised (reads page) w a w' t = step-promised (reading page) w a w' t
copy-step-promised (asks ticket) w a w' t = step-promised (settling ticket) w a w' t

copy-keeps-promises : CopyRefines copy_shipped
copy-keeps-promises = record { steps = copy-step-promised }

-- the cut rule of a copy, whatever was fed
pub copy-durable : CopyDurable
copy-durable = copy-demand-by shipped keeps-promises copy_shipped copy-keeps-promises

-- copy and desk with the same newest block show the same pages
pub copy-agrees : CopyAgrees
copy-agrees = agrees-by shipped keeps-promises copy_shipped copy-keeps-promises

-- a copy takes our blocks, each in at most three calls
pub copy-keeps-up : CopyKeepsUp
copy-keeps-up = keeps-up-by shipped keeps-promises copy_shipped copy-keeps-promises

-- and our log has them
pub blocks-in-our-log : BlocksInOurLog
blocks-in-our-log = in-our-log-by shipped keeps-promises
