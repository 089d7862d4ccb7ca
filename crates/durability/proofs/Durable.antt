-- The crash theorem of the code as shipped, and what follows from it for a desk. In words: docs/GUARANTEE.md.
-- Assumes nothing.
use mathlib.Core.Path.{subst}
use mathlib.Core.List.{List}
use Prim.Native.Nat.{ℕ}
use Rattle.std.specs.Prelude.{Result}
use Rattle.promises.specs.declared.Refusal.{Refusal}
use Rattle.promises.specs.Format.{Formats}
use Rattle.promises.specs.Open.{Opens}
use Rattle.promises.specs.Describe.{Describes}
use Rattle.promises.specs.LogStep.{LogSteps}
use Rattle.promises.specs.CleanStep.{CleanSteps}
use Rattle.promises.specs.Events.{World, Call, opening, begin, describe, ending, log_step, clean_step, reading, settling, Step}
use Rattle.promises.specs.Answers.{Reply, refusal_in}
use Rattle.promises.specs.Corollaries.{EveryReply, TicketsInOrder, StaysSettled, AllOrNothing, NoTrace, OpensAlike}
use Rattle.promises.specs.SilentLoss.{NoSilentLoss, SettledStored, NoOtherPages}
use Rattle.promises.specs.Alike.{CallsAlike, DesksAlike}
use Rattle.promises.specs.Waiting.{WaitBound}
use Rattle.promises.proofs.Accounts.{book-accounts}
use Rattle.promises.proofs.Refines.{Refines, demand-three-by}
use Rattle.promises.proofs.Tickets.{tickets-in-order}
use Rattle.promises.proofs.Corollaries.{every-reply, stays-settled, all-or-nothing, no-trace, opens-alike}
use Rattle.promises.proofs.SilentLoss.{no-silent-loss, settled-stored, no-other-pages}
use Rattle.promises.proofs.DesksAlike.{calls-alike, desks-alike}
use Rattle.promises.proofs.WaitBound.{wait-bound}
use Rattle.durability.specs.Called.{Formatted, Taken}
use Rattle.durability.specs.Durable.{shipped, Durable, Accounted}

-- a step of the code is one that the promises allow
pub step-promised : (call : Call) (world : World) (reply : Reply) (world' : World) → Taken call world reply world' → Step call world reply world'
step-promised (opening frames staging) w a w' t = record {
  result = t.result;
  frames' = t.left_frames.now;
  promise =
      subst (λ (x : List ℕ). Opens x w.home frames staging t.result t.left_frames.now) t.log_is
      (subst (λ (x : List ℕ). Opens t.log.now x frames staging t.result t.left_frames.now) t.home_is
      (subst (λ (x : List ℕ). Opens t.log.now t.home.now x staging t.result t.left_frames.now) t.frames_are
      (subst (λ (x : List ℕ). Opens t.log.now t.home.now t.lent_frames.now x t.result t.left_frames.now) t.staging_is t.learnt)));
  reply_is = t.reply_is;
  after = t.after;
}
step-promised (begin u) w a w' t = record { result = t.result; promise = t.learnt; reply_is = t.reply_is; after = t.after }
step-promised (describe u) w a w' t = record {
  result = t.result;
  staging' = t.staging'.now;
  promise =
      subst (λ (x : List ℕ). Describes w.state u x t.result t.staging'.now) t.staging_is
      (subst (λ (x : List ℕ). Describes w.state (record { page = u.page; offset = u.offset; bytes = x }) t.staging.now t.result t.staging'.now) t.bytes_are t.learnt);
  reply_is = t.reply_is;
  after = t.after;
}
step-promised ending w a w' t = record { result = t.result; promise = t.learnt; reply_is = t.reply_is; after = t.after }
step-promised log_step w a w' t = record {
  result = t.result;
  log' = t.log'.now;
  frames' = t.frames'.now;
  promise =
      subst (λ (x : List ℕ). LogSteps w.state x w.home w.frames w.staging t.result t.log'.now t.frames'.now) t.log_is
      (subst (λ (x : List ℕ). LogSteps w.state t.log.now x w.frames w.staging t.result t.log'.now t.frames'.now) t.home_is
      (subst (λ (x : List ℕ). LogSteps w.state t.log.now t.home.now x w.staging t.result t.log'.now t.frames'.now) t.frames_are
      (subst (λ (x : List ℕ). LogSteps w.state t.log.now t.home.now t.frames.now x t.result t.log'.now t.frames'.now) t.staging_is t.learnt)));
  reply_is = t.reply_is;
  after = t.after;
}
step-promised clean_step w a w' t = record {
  result = t.result;
  log' = t.log'.now;
  home' = t.home'.now;
  promise =
      subst (λ (x : List ℕ). CleanSteps w.state x w.home w.frames t.result t.log'.now t.home'.now) t.log_is
      (subst (λ (x : List ℕ). CleanSteps w.state t.log.now x w.frames t.result t.log'.now t.home'.now) t.home_is
      (subst (λ (x : List ℕ). CleanSteps w.state t.log.now t.home.now x t.result t.log'.now t.home'.now) t.frames_are t.learnt));
  reply_is = t.reply_is;
  after = t.after;
}
step-promised (reading page) w a w' t = record {
  home = t.home;
  frames = t.frames;
  home_is = t.home_is;
  frames_are = t.frames_are;
  number = refusal_in t.result.answer;
  result = t.result.bytes;
  promise = t.learnt;
  reply_is = t.reply_is;
  after = t.after;
}
step-promised (settling ticket) w a w' t = record { result = t.result; promise = t.learnt; reply_is = t.reply_is; after = t.after }

format-promised : (log : List ℕ) (answer : Result (Unit {0}) Refusal) (log' : List ℕ) → Formatted log answer log' → Formats log answer log'
format-promised log answer log' t =
    subst (λ (x : List ℕ). Formats x answer log') t.lent_is (subst (λ (x : List ℕ). Formats t.lent.now answer x) t.left_is t.learnt)

pub keeps-promises : Refines shipped
keeps-promises = record { formats = format-promised; steps = step-promised }

-- the crash theorem, of the code as shipped
pub durable : Durable
durable = demand-three-by shipped keeps-promises

pub accounted : Accounted
accounted = book-accounts shipped

-- every accepted reply inside a run is the book's, as it was before that call
pub replies-the-book : EveryReply shipped
replies-the-book = every-reply shipped keeps-promises

-- the t-th committed transaction is a list that an End gave ticket t
pub tickets-are-places : TicketsInOrder shipped
tickets-are-places = tickets-in-order shipped keeps-promises

-- a settled ticket stays settled over every cut
pub settled-stays : StaysSettled shipped
settled-stays = stays-settled shipped keeps-promises

-- a coupon date and its accrual, described in one transaction, are both there or both absent
pub whole-transactions : AllOrNothing shipped
whole-transactions = all-or-nothing shipped keeps-promises

-- a transaction that was ended but not committed leaves no trace after a cut
pub uncommitted-gone : NoTrace shipped
uncommitted-gone = no-trace shipped keeps-promises

-- two openings in a row show the same
pub openings-alike : OpensAlike shipped
openings-alike = opens-alike shipped keeps-promises

-- where the newest block went bad the next opening is refused: nothing settled vanishes in silence
pub no-loss-in-silence : NoSilentLoss shipped
no-loss-in-silence = no-silent-loss shipped keeps-promises

-- and where a ticket is settled there is such a block
pub settled-has-block : SettledStored shipped
settled-has-block = settled-stored shipped keeps-promises

-- whatever slots of the log went bad, the next opening is refused with 7 or shows the book
pub refused-or-the-book : NoOtherPages shipped
refused-or-the-book = no-other-pages shipped keeps-promises

-- the same call on two stores whose states say the same, with the same log and home: the same reply, and the same log and home after it
pub same-call-same-log : CallsAlike shipped shipped
same-call-same-log = calls-alike shipped shipped keeps-promises keeps-promises

-- two desks that found the same home and made the same calls, with the same cuts, have the same log and home, byte for byte
pub same-calls-same-log : DesksAlike shipped shipped
same-calls-same-log = desks-alike shipped shipped keeps-promises keeps-promises

-- a feed that Begin refused as full: after W log steps, and at most 3 F clean steps, the same Begin is accepted
pub feed-waits : WaitBound shipped
feed-waits = wait-bound shipped keeps-promises
