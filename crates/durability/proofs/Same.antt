-- What a caller learns of each entry is the promise of crates/promises: one line an entry, by computing.
-- Assumes nothing.
use contract.Lifetimes.{Lfts}
use denote.Ref.{Bor, MutBor}
use mathlib.Core.Path.{◌≡◌, refl}
use Prim.Native.Nat.{ℕ}
use mathlib.Core.List.{List}
use Rattle.std.specs.Prelude.{Result, Bool}
use Rattle.promises.specs.declared.Outcome.{Outcome}
use Rattle.promises.specs.declared.Page.{Page}
use Rattle.promises.specs.Answers.{refusal_in}
use Rattle.promises.specs.declared.Refusal.{Refusal}
use Rattle.promises.specs.declared.Stop.{Stop}
use Rattle.promises.specs.declared.Logged.{Logged as LogAnswer}
use Rattle.promises.specs.declared.Fed.{Fed as FeedAnswer}
use Rattle.promises.specs.declared.State.{State}
use Rattle.promises.specs.Format.{Formats}
use Rattle.promises.specs.Open.{Opens}
use Rattle.promises.specs.Begin.{Begins}
use Rattle.promises.specs.Describe.{Describes}
use Rattle.promises.specs.End.{Ends}
use Rattle.promises.specs.LogStep.{LogSteps}
use Rattle.promises.specs.CleanStep.{CleanSteps}
use Rattle.promises.specs.Read.{Reads}
use Rattle.promises.specs.Settled.{Settles}
use Rattle.promises.specs.CopyOpen.{OpensCopy}
use Rattle.promises.specs.Feed.{Feeds}
use Rattle.store.proofs.format.Reads as format-entry
use Rattle.store.proofs.open.Reads as open-entry
use Rattle.store.proofs.begin.Reads as begin-entry
use Rattle.store.proofs.describe.Reads as describe-entry
use Rattle.store.proofs.end.Reads as end-entry
use Rattle.store.proofs.log_step.Reads as log-step-entry
use Rattle.store.proofs.clean_step.Reads as clean-step-entry
use Rattle.store.proofs.read.Reads as read-entry
use Rattle.store.proofs.settled.Reads as settled-entry
use Rattle.replica.proofs.open.Reads as copy-open-entry
use Rattle.replica.proofs.feed.Reads as feed-entry

pub format-promise : (κs : Lfts 1) (log log' : MutBor (List ℕ)) (r : Result (Unit {0}) Refusal)
    → format-entry.Learnt κs (log, tt) r (log', tt) ≡ Formats log.now r log'.now
format-promise κs log log' r = refl

pub open-promise : (κs : Lfts 4) (log home : Bor (List ℕ)) (frames frames' : MutBor (List ℕ)) (staging : Bor (List ℕ)) (r : Outcome ℕ Stop)
    → open-entry.Learnt κs (log, (home, (frames, (staging, tt)))) r (log, (home, (frames', (staging, tt))))
    ≡ Opens log.now home.now frames.now staging.now r frames'.now
open-promise κs log home frames frames' staging r = refl

pub begin-promise : (κs : Lfts 0) (s : State) (u : ℕ) (r : Outcome (Unit {0}) Refusal) → begin-entry.Learnt κs (s, (u, tt)) r (s, (u, tt)) ≡ Begins s u r
begin-promise κs s u r = refl

pub describe-promise : (κs : Lfts 2) (s : State) (staging staging' : MutBor (List ℕ)) (bytes : Bor (List ℕ)) (page offset : ℕ) (r : Outcome (Unit {0}) Refusal)
    → describe-entry.Learnt κs (s, (staging, (page, (offset, (bytes, tt))))) r (s, (staging', (page, (offset, (bytes, tt)))))
    ≡ Describes s (record { page = page; offset = offset; bytes = bytes.now }) staging.now r staging'.now
describe-promise κs s staging staging' bytes page offset r = refl

pub end-promise : (κs : Lfts 0) (s : State) (r : Outcome ℕ Refusal) → end-entry.Learnt κs (s, tt) r (s, tt) ≡ Ends s r
end-promise κs s r = refl

pub log-step-promise : (κs : Lfts 4) (s : State) (log log' : MutBor (List ℕ)) (home : Bor (List ℕ)) (frames frames' : MutBor (List ℕ)) (staging : Bor (List ℕ)) (r : Outcome LogAnswer Refusal)
    → log-step-entry.Learnt κs (s, (log, (home, (frames, (staging, tt))))) r (s, (log', (home, (frames', (staging, tt)))))
    ≡ LogSteps s log.now home.now frames.now staging.now r log'.now frames'.now
log-step-promise κs s log log' home frames frames' staging r = refl

pub clean-step-promise : (κs : Lfts 3) (s : State) (log log' home home' : MutBor (List ℕ)) (frames : Bor (List ℕ)) (r : Outcome (Unit {0}) Refusal)
    → clean-step-entry.Learnt κs (s, (log, (home, (frames, tt)))) r (s, (log', (home', (frames, tt))))
    ≡ CleanSteps s log.now home.now frames.now r log'.now home'.now
clean-step-promise κs s log log' home home' frames r = refl

pub read-promise : (κs : Lfts 1) (s : State) (home frames : Bor (List ℕ)) (page : ℕ) (r : Page)
    → read-entry.Learnt κs (s, (home, (frames, (page, tt)))) r (s, (home, (frames, (page, tt))))
    ≡ Reads s home frames page (refusal_in r.answer) r.bytes
read-promise κs s home frames page r = refl

pub settled-promise : (κs : Lfts 0) (s : State) (ticket : ℕ) (r : Result Bool Refusal)
    → settled-entry.Learnt κs (s, (ticket, tt)) r (s, (ticket, tt)) ≡ Settles s ticket r
settled-promise κs s ticket r = refl

pub copy-open-promise : (κs : Lfts 3) (log home : Bor (List ℕ)) (frames frames' : MutBor (List ℕ)) (r : Outcome ℕ Stop)
    → copy-open-entry.Learnt κs (log, (home, (frames, tt))) r (log, (home, (frames', tt))) ≡ OpensCopy log.now home.now frames.now r frames'.now
copy-open-promise κs log home frames frames' r = refl

pub feed-promise : (κs : Lfts 4) (s : State) (log log' home home' frames frames' : MutBor (List ℕ)) (block : Bor (List ℕ)) (r : Outcome FeedAnswer Stop)
    → feed-entry.Learnt κs (s, (log, (home, (frames, (block, tt))))) r (s, (log', (home', (frames', (block, tt)))))
    ≡ Feeds s log.now home.now frames.now block.now r log'.now home'.now frames'.now
feed-promise κs s log log' home home' frames frames' block r = refl
