-- No entry asks anything of its caller: each may be called with any state, any areas and any numbers, and by its proof it then returns. So
-- a run's list of calls is any list whatever.
-- Assumes nothing.
use contract.Lifetimes.{Lfts}
use denote.Ref.{Bor, MutBor}
use Prim.Native.Nat.{ℕ}
use mathlib.Core.List.{List}
use Rattle.promises.specs.declared.State.{State}
use Rattle.store.proofs.format.Reads as format-entry
use Rattle.store.proofs.open.Reads as open-entry
use Rattle.store.proofs.begin.Reads as begin-entry
use Rattle.store.proofs.describe.Reads as describe-entry
use Rattle.store.proofs.end.Reads as end-entry
use Rattle.store.proofs.log_step.Reads as log-step-entry
use Rattle.store.proofs.clean_step.Reads as clean-step-entry
use Rattle.store.proofs.read.Reads as read-entry
use Rattle.store.proofs.settled.Reads as settled-entry
use Rattle.replica.proofs.open.Reads as copy-open-entry
use Rattle.replica.proofs.feed.Reads as feed-entry

pub format-asks-nothing : (κs : Lfts 1) (log : MutBor (List ℕ)) → format-entry.Asked κs (log, tt)
format-asks-nothing κs log = tt

pub open-asks-nothing : (κs : Lfts 4) (log home : Bor (List ℕ)) (frames : MutBor (List ℕ)) (staging : Bor (List ℕ)) → open-entry.Asked κs (log, (home, (frames, (staging, tt))))
open-asks-nothing κs log home frames staging = tt

pub begin-asks-nothing : (κs : Lfts 0) (s : State) (u : ℕ) → begin-entry.Asked κs (s, (u, tt))
begin-asks-nothing κs s u = tt

pub describe-asks-nothing : (κs : Lfts 2) (s : State) (staging : MutBor (List ℕ)) (bytes : Bor (List ℕ)) (page offset : ℕ)
    → describe-entry.Asked κs (s, (staging, (page, (offset, (bytes, tt)))))
describe-asks-nothing κs s staging bytes page offset = tt

pub end-asks-nothing : (κs : Lfts 0) (s : State) → end-entry.Asked κs (s, tt)
end-asks-nothing κs s = tt

pub log-step-asks-nothing : (κs : Lfts 4) (s : State) (log : MutBor (List ℕ)) (home : Bor (List ℕ)) (frames : MutBor (List ℕ)) (staging : Bor (List ℕ))
    → log-step-entry.Asked κs (s, (log, (home, (frames, (staging, tt)))))
log-step-asks-nothing κs s log home frames staging = tt

pub clean-step-asks-nothing : (κs : Lfts 3) (s : State) (log home : MutBor (List ℕ)) (frames : Bor (List ℕ)) → clean-step-entry.Asked κs (s, (log, (home, (frames, tt))))
clean-step-asks-nothing κs s log home frames = tt

pub read-asks-nothing : (κs : Lfts 1) (s : State) (home frames : Bor (List ℕ)) (page : ℕ)
    → read-entry.Asked κs (s, (home, (frames, (page, tt))))
read-asks-nothing κs s home frames page = tt

pub settled-asks-nothing : (κs : Lfts 0) (s : State) (ticket : ℕ) → settled-entry.Asked κs (s, (ticket, tt))
settled-asks-nothing κs s ticket = tt

pub copy-open-asks-nothing : (κs : Lfts 3) (log home : Bor (List ℕ)) (frames : MutBor (List ℕ)) → copy-open-entry.Asked κs (log, (home, (frames, tt)))
copy-open-asks-nothing κs log home frames = tt

pub feed-asks-nothing : (κs : Lfts 4) (s : State) (log home frames : MutBor (List ℕ)) (block : Bor (List ℕ)) → feed-entry.Asked κs (s, (log, (home, (frames, (block, tt)))))
feed-asks-nothing κs s log home frames block = tt
