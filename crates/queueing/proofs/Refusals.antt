-- What refusals and their absence tell: the tests of the code are those of the definitions, a refused call keeps its promise,
-- and an accepted one knows what its change needs.
-- Assumes nothing.
use mathlib.Core.Path.{◌≡◌, refl, sym, ap, ◌∙◌, subst}
use mathlib.Core.Logic.{◌⊎◌, inl, inr}
use mathlib.Core.Bool.{Bool, true, false, ◌&&◌, and_assoc}
use mathlib.Core.List.{List}
use Prim.Native.Nat.{ℕ, ◌+◌, ◌*◌, ◌/◌, ◌^◌, ◌≤◌, ◌<◌}
use native.Mathlib.Omega.{arith}
use lib.Dec.{eqb, leb, ltb}
use lib.ListN.{length, replicate}
use lib.Seq.{length-take-le}
use borrow.Author.Tests.{eqb-false, ltb-true}
use Rattle.area.proofs.Laws.{not-passed}
use Rattle.block.proofs.Tests.{tests}
use Rattle.promises.specs.declared.State.{State}
use Rattle.promises.specs.declared.Refusal.{Refusal}
use Rattle.std.specs.Prelude.{Result, Err}
use Rattle.promises.specs.Answers.{Reply, refuses, done, gives, says, number_of, refusal_in, replied, answered}
use Rattle.promises.specs.Areas.{log_fits}
use Rattle.promises.specs.Updates.{Update}
use Rattle.promises.specs.Contents.{contents_of, total, groups_of}
use Rattle.promises.specs.Sums.{waiting_blocks, last_ended}
use Rattle.promises.specs.Sound.{sound_as, sound, readable}
use Rattle.promises.specs.Leaves.{Leaves}
use Rattle.promises.specs.Format.{format_refusal, Formats}
use Rattle.promises.specs.Begin.{begin_in_range, begin_has_room, begin_refusal, begun, begun_state, Begins}
use Rattle.promises.specs.Describe.{describe_refusal, DescribeStep, Describes}
use Rattle.promises.specs.End.{end_refusal, Ends}
use Rattle.promises.specs.Settled.{settled_refusal, Settles}
use Rattle.promises.specs.Read.{read_refusal}
use Rattle.promises.proofs.Replies.{replied-refused, numbered, answered-by}
use Rattle.promises.proofs.Soundness.{Sound, SoundAs, sound-of, sound-as-of}
use Rattle.promises.proofs.Changes.{pick-zero, pick_other, begin-met, describe-passed, groups-count}
use Rattle.soundness.specs.declared.sums.Sums.{Sums}
use Rattle.soundness.specs.Summed.{Summed}
use Rattle.soundness.proofs.Counts.{reserved-is}

-- ---- the tests

pub log-fits : (l : ℕ) → (eqb (l / 512 * 512) l && leb 8 (l / 512) && leb (l / 512) 1024) ≡ log_fits l
log-fits l = and_assoc (eqb (l / 512 * 512) l) (leb 8 (l / 512)) (leb (l / 512) 1024)

pub out_of_range : (s : State) (u : ℕ) → 16 < u → false ≡ begin_in_range s u
out_of_range s u h = sym (not-passed (begin_in_range s u) (λ t. let g = simp tests at t in omega arith))

pub in-range-most : (s : State) (u : ℕ) → begin_in_range s u ≡ true → u ≤ 16
in-range-most s u t = let g = simp tests at t in omega arith

module _ (s : State) (t : Sums) (u : ℕ) (h : Summed s t) where
  pub sequences-law : leb (s.next + t.waiting + u + 1) (2 ^ 48) ≡ leb (s.next + waiting_blocks s + u + 1) (2 ^ 48)
  sequences-law = rw h.waiting

  pub room-law : (leb (t.held + t.waiting + t.dirty + t.queued + 2 * u + 1) s.slots && leb (t.dirty + t.queued + u) s.frames) ≡ begin_has_room s u
  room-law = rw (h.held, h.waiting, h.dirty, h.queued)

-- ---- calls by what their test answers

module _ (a : Result (Unit {0}) Refusal) where
  -- the whole answer
  answer-by : {n : ℕ} → refusal_in a ≡ n → answered a ≡ replied n done
  answer-by e = answered-by a ∙ ap (λ (n : ℕ). replied n done) e

  pub format-by : (log log' : List ℕ) → refusal_in a ≡ format_refusal (length log)
      → ((refusal_in a ≡ 0) × (log' ≡ replicate (length log) 0)) ⊎ ((refusal_in a ≡ 0 → ⊥) × (log' ≡ log)) → Formats log a log'
  format-by log log' e (inl w) = record { answer_is = answer-by e; refused = λ n. absurd (n (sym e ∙ w.0)); accepted = λ z. w.1 }
  format-by log log' e (inr w) = record { answer_is = answer-by e; refused = λ n. w.1; accepted = λ z. absurd (w.0 (e ∙ z)) }

  pub begin-by : (s : State) (u : ℕ) (r : State) → refusal_in a ≡ begin_refusal s u → ((refusal_in a ≡ 0) × (r ≡ begun_state s u)) ⊎ ((refusal_in a ≡ 0 → ⊥) × (r ≡ s))
      → Begins s u (record { state = r; answer = a })
  begin-by s u r e (inl w) = record {
    answer_is = answer-by e;
    refused = λ n. absurd (n (sym e ∙ w.0));
    state_is = λ z. w.1;
    leaves = λ z staging. subst (λ (x : State). Leaves s x staging (begun (contents_of s staging) u)) (sym w.1) ((begin-met s u z).leaves z staging);
  }
  begin-by s u r e (inr w) = record { answer_is = answer-by e; refused = λ n. w.1; state_is = λ z. absurd (w.0 (e ∙ z)); leaves = λ z. absurd (w.0 (e ∙ z)) }

  pub describe-by : (s : State) (update : Update) (staging : List ℕ) (r : State) (staging' : List ℕ)
      → refusal_in a ≡ describe_refusal s (length staging) update.page update.offset (length update.bytes)
      → ((refusal_in a ≡ 0) × DescribeStep s update staging (record { state = r; answer = a }) staging') ⊎ ((refusal_in a ≡ 0 → ⊥) × (r ≡ s) × (staging' ≡ staging))
      → Describes s update staging (record { state = r; answer = a }) staging'
  describe-by s update staging r staging' e (inl w) = record { answer_is = answer-by e; refused = λ n. absurd (n (sym e ∙ w.0)); accepted = λ z. w.1 }
  describe-by s update staging r staging' e (inr w) = record { answer_is = answer-by e; refused = λ n. (w.1, w.2); accepted = λ z. absurd (w.0 (e ∙ z)) }

-- ---- refused calls that answer with a value

module _ (x : Refusal) where
  -- the whole answer of a refused call
  whole-answer : {n : ℕ} → number_of x ≡ n → (reply : Reply) → refuses (number_of x) ≡ replied n reply
  whole-answer {n} e reply = ap refuses e ∙ sym (replied-refused n reply (λ z. numbered x (e ∙ z)))

  pub end_refused : (s : State) → number_of x ≡ end_refusal s → Ends s (record { state = s; answer = Err x })
  end_refused s e = record { answer_is = whole-answer e (gives (last_ended s + 1)); refused = λ n. refl; state_is = λ z. absurd (numbered x (e ∙ z)); leaves = λ z. absurd (numbered x (e ∙ z)) }

  pub settled-refused : (s : State) (ticket : ℕ) → number_of x ≡ settled_refusal s ticket → Settles s ticket (Err x)
  settled-refused s ticket e = record { answer_is = whole-answer e (says (leb ticket s.ticket)) }

-- ---- accepted calls

-- in a sound state the last ended ticket fits
pub tickets-fit : (copy : Bool) (s : State) → length s.groups ≡ 32 → sound_as copy s ≡ true → s.ticket + s.queued ≤ 2 ^ 49
tickets-fit copy s long h = let f : SoundAs copy s = sound-as-of copy s h in omega (arith, f.ticket, f.sequence_sum, f.queued)

-- the queue has a place for one group more
pub record Closable (s : State) : Type 0 where
  pub queued : s.queued < 32
  pub described : s.described ≤ 16
  pub tickets : s.ticket + s.queued ≤ 2 ^ 49

pub closable : (s : State) → length s.groups ≡ 32 → end_refusal s ≡ 0 → Closable s
unfolding end_refusal
closable s long e =
    let c2 = pick-zero (sound s) _ 2 (omega arith) e in
    let c4 = pick_other (eqb s.reserved 0) _ 4 (omega arith) c2.1 in
    let f : Sound s = sound-of s c2.0 in
    let n : s.reserved ≡ 0 → ⊥ = eqb-false _ _ c4.0 in
    let k : length (groups_of s) ≡ s.queued = length-take-le s.queued s.groups f.queued in
    let g = groups-count (groups_of s) f.groups in
    record {
      queued = omega (arith, f.frame_sum, f.frames, reserved-is s);
      described = omega (arith, f.described, f.reserved);
      tickets = tickets-fit false s long c2.0;
    }

-- there is room for one update more, and its numbers fit
pub record Describable (s : State) (staging page offset count : ℕ) : Type 0 where
  pub sounds : sound s ≡ true
  pub waiting : total (groups_of s) + s.described < s.frames
  pub frames : s.frames ≤ 32
  pub staging-long : staging ≡ s.frames * 472
  pub page-fits : page < 4096
  pub offset-fits : offset + count ≤ 1024
  pub count_fits : count ≤ 472

pub describable : (s : State) (staging page offset count : ℕ) → length s.groups ≡ 32 → describe_refusal s staging page offset count ≡ 0
    → Describable s staging page offset count
describable s staging page offset count long e =
    let r = describe-passed s staging page offset count e in
    let f : Sound s = sound-of s r.0 in
    let more : s.described < s.reserved = r.4 in
    let l = simp tests at r.3 in
    record {
      sounds = r.0;
      waiting = omega (arith, f.frame_sum, reserved-is s);
      frames = f.frames.1;
      staging-long = r.1;
      page-fits = omega (arith, f.pages);
      offset-fits = omega arith;
      count_fits = omega arith;
    }

-- the areas are as long as the state says, and the page is one of home's
pub record Readable (s : State) (home frames page : ℕ) : Type 0 where
  pub sounds : readable s ≡ true
  pub home-long : home ≡ s.pages * 1024
  pub frames-long : frames ≡ s.frames * 1024
  pub page-below : page < s.pages
  pub pages-most : s.pages ≤ 4096
  pub frames-most : s.frames ≤ 32

pub read-passed : (s : State) (home frames page : ℕ) → read_refusal s home frames page ≡ 0 → Readable s home frames page
unfolding read_refusal
read-passed s home frames page e =
    let c2 = pick-zero (readable s) _ 2 (omega arith) e in
    let c1 = pick-zero (eqb home (s.pages * 1024) && eqb frames (s.frames * 1024)) _ 1 (omega arith) c2.1 in
    let c3 = pick-zero (ltb page s.pages) 0 3 (omega arith) c1.1 in
    let l = simp tests at c1.0 in
    let f : SoundAs s.copy s = sound-as-of s.copy s c2.0 in
    record {
      sounds = c2.0;
      home-long = l.0;
      frames-long = l.1;
      page-below = ltb-true _ _ c3.0;
      pages-most = f.pages.1;
      frames-most = f.frames.1;
    }
