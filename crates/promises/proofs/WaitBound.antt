-- How long a feed waits, for every way of stepping that keeps the promises.
-- Assumes nothing.
use mathlib.Core.Path.{◌≡◌, refl, sym, ap, ◌∙◌, subst}
use mathlib.Core.Logic.{inl, inr}
use mathlib.Core.Bool.{Bool, true, false, cond, ◌&&◌}
use Prim.Native.Nat.{ℕ, suc, ◌+◌, ◌*◌, ◌-◌, ◌^◌, ◌≤◌, ◌<◌}
use mathlib.Core.List.{List, [], ◌∷◌}
use native.Mathlib.Omega.{arith}
use lib.ListN.{length, take}
use lib.Seq.{length-take-le}
use lib.Dec.{eqb, leb}
use borrow.Author.Tests.{leb-true, eqb-true, eq-eqb, ne_eqb, le-leb}
use Rattle.area.proofs.Laws.{and_both, by-eq}
use Rattle.promises.specs.declared.State.{State}
use Rattle.promises.specs.declared.Cleaning.{Cleaning}
use Rattle.promises.specs.declared.Cleaning.TheVariants.{Idle, First, Second, Third}
use Rattle.promises.specs.Contents.{groups_of, total}
use Rattle.promises.specs.Sums.{first_groups, smallest, block_count, dirty_count, held_slots, waiting_blocks, owed_blocks, sequences_taken, slots_taken, frames_taken}
use Rattle.promises.specs.Sound.{sound, of_oldest}
use Rattle.promises.specs.Begin.{begin_in_range, begin_refusal}
use Rattle.promises.specs.CleanStep.{third_refusal}
use Rattle.promises.specs.Events.{World, begin, log_step, clean_step}
use Rattle.promises.specs.Answers.{Reply, refuses, accepts, number_in}
use Rattle.promises.specs.Claim.{Steps}
use Rattle.promises.specs.Waiting.{Fitting, Calls, none, more, AllAccepted, Served, Serves, Waits, WaitBound}
use Rattle.promises.proofs.Changes.{held-is}
use Rattle.promises.proofs.Soundness.{Sound, sound-of}
use Rattle.promises.proofs.Replies.{accepted-by, number_by}
use Rattle.promises.proofs.RefusedCalls.{begin-refused}
use Rattle.promises.proofs.LogTurns.{log-turn}
use Rattle.promises.proofs.CleanTurns.{CleanPassed, stores_made, stores_left, clean-turn}
use Rattle.promises.proofs.Refines.{Refines}

-- ---- what Begin asked of u before it was refused as full
pub record Asks (N F u : ℕ) : Type 0 where
  pub one : 1 ≤ u
  pub most : u ≤ 16
  pub frames : u ≤ F
  pub slots : 2 * u + 1 ≤ N

pub record Full (s : State) (u : ℕ) : Type 0 where
  pub is_sound : sound s ≡ true
  pub asks : Asks s.slots s.frames u
  pub closed : s.reserved ≡ 0

pick-five : (b : Bool) (x k : ℕ) → (k ≡ 5 → ⊥) → cond b x k ≡ 5 → (b ≡ true) × (x ≡ 5)
pick-five true x k h e = (refl, e)
pick-five false x k h e = absurd (h e)

pub is-full : (s : State) (u : ℕ) → begin_refusal s u ≡ 5 → Full s u
unfolding begin_refusal
is-full s u e =
    let c2 = pick-five (sound s) _ 2 (λ x. omega arith) e in
    let c3 = pick-five (begin_in_range s u) _ 3 (λ x. omega arith) c2.1 in
    let c4 = pick-five (eqb s.reserved 0) _ 4 (λ x. omega arith) c3.1 in
    let r3 = and_both (leb 1 u && leb u 16 && leb u s.frames) (leb (2 * u + 1) s.slots) c3.0 in
    let r2 = and_both (leb 1 u && leb u 16) (leb u s.frames) r3.0 in
    let r1 = and_both (leb 1 u) (leb u 16) r2.0 in
    record {
      is_sound = c2.0;
      asks = record { one = leb-true _ _ r1.0; most = leb-true _ _ r1.1; frames = leb-true _ _ r2.1; slots = leb-true _ _ r3.1 };
      closed = eqb-true _ _ c4.0;
    }

-- ---- W and the queue
pub none-queued : (s : State) → s.queued ≡ 0 → waiting_blocks s ≡ 0
none-queued s e = ap (λ (n : ℕ). block_count (take n s.groups) - s.stored) e ∙ omega arith

none-waiting : (c : ℕ) (ns : List ℕ) → of_oldest c ns ≡ true → block_count ns - c ≡ 0 → (length ns ≡ 0) × (c ≡ 0)
none-waiting c [] h e = (refl, eqb-true c 0 h)
none-waiting c (n ∷ ns) h e = absurd (omega (arith, leb-true c n h))

-- ---- while blocks wait: n of them, and next is at most c once they are stored
pub record Logs (N F c n : ℕ) (w : World) : Type 0 where
  pub is_sound : sound w.state ≡ true
  pub fits : Fitting w
  pub closed : w.state.reserved ≡ 0
  pub left : waiting_blocks w.state ≡ n
  pub next : w.state.next + n ≤ c
  pub slots_are : w.state.slots ≡ N
  pub frames_are : w.state.frames ≡ F

-- ---- while pages are dirty: at most n stores are left, and next is at most c once the clean blocks are stored
pub record Cleans (N F c n : ℕ) (w : World) : Type 0 where
  pub is_sound : sound w.state ≡ true
  pub fits : Fitting w
  pub closed : w.state.reserved ≡ 0
  pub queued : w.state.queued ≡ 0
  pub stored : w.state.stored ≡ 0
  pub left : stores_left w.state ≤ n
  pub next : w.state.next + dirty_count w.state ≤ c
  pub slots_are : w.state.slots ≡ N
  pub frames_are : w.state.frames ≡ F

-- no block waits: nothing is queued
pub none-waits : (N F c : ℕ) (w : World) → Logs N F c 0 w → (w.state.queued ≡ 0) × (w.state.stored ≡ 0)
none-waits N F c w p =
    let s = w.state in
    let f : Sound s = sound-of s p.is_sound in
    let z = none-waiting s.stored (groups_of s) f.stored p.left in
    (sym (length-take-le s.queued s.groups f.queued) ∙ z.0, z.1)

-- then no more than F pages are dirty
pub from-logs : (N F c n : ℕ) (w : World) → 3 * F ≤ n → Logs N F c 0 w → Cleans N F (c + F) n w
from-logs N F c n w h p =
    let s = w.state in
    let f : Sound s = sound-of s p.is_sound in
    let z = none-waits N F c w p in
    let few : dirty_count s ≤ F = omega (arith, f.frame_sum, p.frames_are) in
    record {
      is_sound = p.is_sound;
      fits = p.fits;
      closed = p.closed;
      queued = z.0;
      stored = z.1;
      left = omega (arith, few, h);
      next = omega (arith, few, p.next);
      slots_are = p.slots_are;
      frames_are = p.frames_are;
    }

-- ---- a Clean step then passes while a page is dirty
third-free : (s : State) (cl : Cleaning) → s.stored ≡ 0 → (sequences_taken s ≡ 2 ^ 48 → ⊥) → third_refusal s cl ≡ 0
third-free s Idle e n = refl
third-free s (First page) e n = refl
third-free s (Second page) e n = refl
third-free s (Third page) e n = simp (eq-eqb _ _ e, ne_eqb _ _ n)

pub cleans-pass : (N F c n : ℕ) (w : World) → c < 2 ^ 48 → Cleans N F c n w → (dirty_count w.state ≡ 0 → ⊥) → CleanPassed w
cleans-pass N F c n w below p d =
    let s = w.state in
    let o : owed_blocks s ≡ 0 = simp (eq-eqb _ _ p.closed) in
    let room : sequences_taken s ≡ 2 ^ 48 → ⊥ = λ e. absurd (omega (arith, none-queued s p.queued, o, p.next)) in
    record {
      is_sound = p.is_sound;
      log_long = p.fits.log;
      home_long = p.fits.home;
      frames_long = p.fits.frames;
      dirty = d;
      third = third-free s s.cleaning p.stored room;
    }

-- ---- and Begin once none is dirty
no_items : (xs : List ℕ) → length xs ≡ 0 → xs ≡ []
no_items [] e = refl
no_items (x ∷ xs) e = absurd (omega arith)

none-held : (s : State) → dirty_count s ≡ 0 → s.stored ≡ 0 → held_slots s ≡ 0
none-held s d e =
    let x : first_groups s.dirty ≡ [] = no_items (first_groups s.dirty) d in
    ap (λ (i : ℕ). s.next - i) (held-is s ∙ ap (smallest (s.next - s.stored)) x) ∙ omega arith

pub begin-passes : (N F c n u : ℕ) (w : World) → c + 17 ≤ 2 ^ 48 → Asks N F u → Cleans N F c n w → dirty_count w.state ≡ 0 → begin_refusal w.state u ≡ 0
unfolding begin_refusal
begin-passes N F c n u w below k p d =
    let s = w.state in
    let wz : waiting_blocks s ≡ 0 = none-queued s p.queued in
    let hz : held_slots s ≡ 0 = none-held s d p.stored in
    let vz : total (groups_of s) ≡ 0 = ap (λ (i : ℕ). total (take i s.groups)) p.queued in
    let a1 : 2 * u + 1 ≤ s.slots = omega (arith, k.slots, p.slots_are) in
    let a2 : u ≤ s.frames = omega (arith, k.frames, p.frames_are) in
    let a3 : s.next + waiting_blocks s + u + 1 ≤ 2 ^ 48 = omega (arith, wz, p.next, k.most) in
    let a4 : slots_taken s + 2 * u + 1 ≤ s.slots = omega (arith, wz, hz, vz, d, a1) in
    let a5 : frames_taken s + u ≤ s.frames = omega (arith, vz, d, a2) in
    simp (p.is_sound, le-leb 1 u k.one, le-leb u 16 k.most, le-leb u s.frames a2, le-leb (2 * u + 1) s.slots a1, eq-eqb _ _ p.closed, le-leb _ _ a3, le-leb _ _ a4, le-leb _ _ a5)

-- ---- a call of each kind
few-made : (cl : Cleaning) → stores_made cl ≤ 2
few-made Idle = omega arith
few-made (First x) = omega arith
few-made (Second x) = omega arith
few-made (Third x) = omega arith

pub none_left : (s : State) → stores_left s ≤ 0 → dirty_count s ≡ 0
none_left s h = omega (arith, few-made s.cleaning)

module _ (by : Steps) (r : Refines by) (N F : ℕ) where
  pub log-one : (c n : ℕ) (w w' : World) (a : Reply) → by.steps log_step w a w' → Logs N F c (suc n) w → (accepts a ≡ true) × Logs N F c n w'
  log-one c n w w' a st p =
      let busy : w.state.queued ≡ 0 → ⊥ = λ e. absurd (omega (arith, p.left, none-queued w.state e)) in
      let t = log-turn w a w' (r.steps log_step w a w' st) (record { is_sound = p.is_sound; fits = p.fits; queued = busy }) in (
        t.accepted,
        record {
          is_sound = t.stays_sound;
          fits = t.fits;
          closed = t.reserved ∙ p.closed;
          left = omega (arith, t.less, p.left);
          next = omega (arith, t.next, p.next);
          slots_are = t.slots ∙ p.slots_are;
          frames_are = t.frames ∙ p.frames_are;
        },
      )

  pub clean-one : (c n : ℕ) (w w' : World) (a : Reply) → c < 2 ^ 48 → by.steps clean_step w a w' → Cleans N F c (suc n) w → (dirty_count w.state ≡ 0 → ⊥) → (accepts a ≡ true) × Cleans N F c n w'
  clean-one c n w w' a below st p d =
      let t = clean-turn w a w' (r.steps clean_step w a w' st) (cleans-pass N F c (suc n) w below p d) in (
        t.accepted,
        record {
          is_sound = t.stays_sound;
          fits = record {
            log = t.log_long;
            home = t.home_long;
            frames = ap length t.frames_are ∙ p.fits.frames ∙ ap (λ (i : ℕ). i * 1024) (sym t.frames);
            staging = ap length t.staging_is ∙ p.fits.staging ∙ ap (λ (i : ℕ). i * 472) (sym t.frames);
          };
          closed = t.reserved ∙ p.closed;
          queued = t.queued ∙ p.queued;
          stored = t.stored ∙ p.stored;
          left = omega (arith, t.less, p.left);
          next = omega (arith, t.next, p.next);
          slots_are = t.slots ∙ p.slots_are;
          frames_are = t.frames ∙ p.frames_are;
        },
      )

  served : (c n u : ℕ) (w : World) → Asks N F u → c + 17 ≤ 2 ^ 48 → Cleans N F c n w → dirty_count w.state ≡ 0 → Served by u w
  served c n u w k below p d = record {
    none_dirty = d;
    begins = λ a w' st.
        let b = r.steps (begin u) w a w' st in
        b.reply_is ∙ accepted-by _ _ _ b.promise.answer_is (begin-passes N F c n u w below k p d);
  }

  -- ---- chains of them
  logs-all : (c n : ℕ) (w w₁ : World) (calls : Calls by log_step n w w₁) → Logs N F c n w → AllAccepted calls × Logs N F c 0 w₁
  unfolding AllAccepted
  logs-all c n w w₁ (none e) p = (tt, subst (Logs N F c 0) (sym e) p)
  logs-all c n w w₁ (more {count = m} {world' = w'} a st rest) p =
      let o = log-one c m w w' a st p in
      let l = logs-all c m w' w₁ rest o.1 in
      ((o.0, l.0), l.1)

  cleans-all : (c n u : ℕ) (w w₂ : World) → Asks N F u → c + 17 ≤ 2 ^ 48 → (calls : Calls by clean_step n w w₂) → Cleans N F c n w → Serves u calls
  unfolding Serves
  cleans-all c n u w w₂ k below (none e) p = served c 0 u w k below p (none_left w.state p.left)
  cleans-all c n u w w₂ k below (more {count = m} {world' = w'} a st rest) p = by-eq (dirty_count w.state) 0
      (λ d. inl (served c (suc m) u w k below p d))
      (λ d. let o = clean-one c m w w' a (omega arith) st p d in inr (d, o.0, cleans-all c m u w' w₂ k below rest o.1))

-- ---- from a Begin that is refused as full
pub start-logs : (w : World) (n : ℕ) → waiting_blocks w.state ≡ n → Fitting w → sound w.state ≡ true → w.state.reserved ≡ 0
    → Logs w.state.slots w.state.frames (w.state.next + n) n w
start-logs w n e fit so shut = record { is_sound = so; fits = fit; closed = shut; left = e; next = omega arith; slots_are = refl; frames_are = refl }

-- W is at most 1,024, F at most 32 and u + 1 at most 17: with 1,073 sequences left they are enough
pub room-left : (s : State) (n : ℕ) → waiting_blocks s ≡ n → sound s ≡ true → s.next + 1073 ≤ 2 ^ 48 → s.next + n + s.frames + 17 ≤ 2 ^ 48
room-left s n e so far = let f : Sound s = sound-of s so in omega (arith, e, f.slot_sum, f.slots, f.frames, far)

module _ (by : Steps) (r : Refines by) (w : World) (u : ℕ) (fit : Fitting w) (full w₁ : World) (st : by.steps (begin u) w (refuses 5) full) where
  abbrev s : State
  s = w.state

  waits : (n m : ℕ) (logged : Calls by log_step n full w₁) → waiting_blocks s ≡ n → 3 * s.frames ≤ m → s.next + 1073 ≤ 2 ^ 48 → Waits u m logged
  waits n m logged e most room =
      let b = r.steps (begin u) w (refuses 5) full st in
      let five : begin_refusal s u ≡ 5 = sym (number_by _ _ _ b.promise.answer_is refl) ∙ ap number_in (sym b.reply_is) in
      let same : full ≡ w = (begin-refused w full (refuses 5) u b (λ z. absurd (omega (arith, five, z)))).1 in
      let f : Full s u = is-full s u five in
      let l = logs-all by r s.slots s.frames (s.next + n) n full w₁ logged
      (subst (Logs s.slots s.frames (s.next + n) n) (sym same) (start-logs w n e fit f.is_sound f.closed)) in
      let c = from-logs s.slots s.frames (s.next + n) m w₁ most l.1 in
      record {
        accepted = l.0;
        none_queued = c.queued;
        serves = λ w₂ cleaned. cleans-all by r s.slots s.frames (s.next + n + s.frames) m u w₁ w₂ f.asks (room-left s n e f.is_sound room) cleaned c;
      }

pub wait-bound : (by : Steps) → Refines by → WaitBound by
wait-bound by r w u fit shut far full st w₁ logged = waits by r w u fit full w₁ st _ _ logged (omega arith) (omega arith) (omega (arith, far))
