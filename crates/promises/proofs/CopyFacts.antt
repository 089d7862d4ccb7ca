-- What a copy's soundness says.
-- Assumes nothing.
use mathlib.Core.Path.{◌≡◌, refl, ap, ◌∙◌}
use mathlib.Core.Bool.{Bool, true, false}
use Prim.Native.Nat.{ℕ, ◌-◌, ◌<◌}
use mathlib.Core.List.{List, []}
use lib.Dec.{eqb}
use borrow.Author.Tests.{eqb-true}
use Rattle.area.proofs.Laws.{and_both}
use Rattle.promises.specs.declared.State.{State}
use Rattle.promises.specs.Contents.{dirty_of}
use Rattle.promises.specs.States.{all_zero_state}
use Rattle.promises.specs.Sound.{sound_as, copy_sound, readable}
use Rattle.promises.proofs.History.WalkStart.{Distinct}
use Rattle.promises.proofs.History.Tally.{Pages}
use Rattle.promises.proofs.Soundness.{sound-as-of}
use Rattle.promises.proofs.SoundFacts.{pages-dirty, distinct-dirty}

pub record CopyFacts (s : State) (frames : List ℕ) : Type 0 where
  pub distinct : Distinct (dirty_of s frames)
  pub pages : Pages s.pages (dirty_of s frames)
  pub ticket : s.ticket < s.next - s.stored
  pub queued : s.queued ≡ 0
  pub copy : s.copy ≡ true

pub copy-facts : (s : State) (frames : List ℕ) → copy_sound s ≡ true → CopyFacts s frames
copy-facts s frames h =
    let f = sound-as-of true s h in
    record {
      distinct = distinct-dirty frames 0 s.dirty f.distinct_pages;
      pages = pages-dirty s.pages frames 0 s.dirty f.pages_below;
      ticket = f.ticket;
      queued = eqb-true _ _ (and_both (eqb s.queued 0) (eqb s.reserved 0) f.stored).0;
      copy = f.mark;
    }

-- Read and Settled take it
pub readable-copy : (s : State) → copy_sound s ≡ true → readable s ≡ true
readable-copy s h = ap (λ (c : Bool). sound_as c s) (copy-facts s [] h).copy ∙ h

pub zero-no-copy : copy_sound all_zero_state ≡ false
unfolding sound_as
zero-no-copy = refl
