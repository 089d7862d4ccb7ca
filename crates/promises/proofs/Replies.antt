-- The whole answer of a call, taken apart: refused it gives the refusal's number, accepted its reply.
-- Assumes nothing.
use mathlib.Core.Path.{◌≡◌, refl, sym, ap, ◌∙◌}
use mathlib.Core.Bool.{Bool, true, false}
use Prim.Native.Nat.{ℕ}
use mathlib.Core.List.{List}
use native.Mathlib.Omega.{arith}
use borrow.Author.Tests.{eq-eqb, ne_eqb}
use Rattle.area.proofs.Laws.{by-eq}
use Rattle.std.specs.Prelude.{Result, Ok, Err, IsErrAnd}
use Rattle.promises.specs.declared.Refusal.{Refusal}
use Rattle.promises.specs.declared.Refusal.TheVariants.{
  WrongLength,
  NotSound,
  OutOfRange,
  WrongMoment,
  Full,
  SequencesUsedUp,
  LogDamaged,
  LogOutOfOrder,
  TooFewFrames,
  NothingToDo,
  HeldBack,
  BadBlock,
  SequenceAhead,
}
use Rattle.promises.specs.Answers.{Reply, refuses, done, shows, accepts, number_in, number_of, refusal_in, replied, answered, read_answered}

pub no-accept : {X : Type 0} → ◌≡◌ {A = Bool} false true → X
no-accept e = let n : ◌≡◌ {A = ℕ} 0 1 = cc in absurd (omega arith)

-- ---- the answer that a promise gives

pub replied-refused : (n : ℕ) (r : Reply) → (n ≡ 0 → ⊥) → replied n r ≡ refuses n
unfolding replied
replied-refused n r h = simp (ne_eqb n 0 h)

pub replied-accepted : (n : ℕ) (r : Reply) → n ≡ 0 → replied n r ≡ r
unfolding replied
replied-accepted n r h = simp (eq-eqb n 0 h)

module _ (a r : Reply) (n : ℕ) (e : a ≡ replied n r) where
  pub refused-by : (n ≡ 0 → ⊥) → a ≡ refuses n
  refused-by h = e ∙ replied-refused n r h

  pub accepted-by : n ≡ 0 → a ≡ r
  accepted-by h = e ∙ replied-accepted n r h

  pub refused-not : (n ≡ 0 → ⊥) → accepts a ≡ false
  refused-not h = ap accepts (refused-by h)

  pub number_by : number_in r ≡ 0 → number_in a ≡ n
  number_by z = by-eq n 0 (λ h. ap number_in (accepted-by h) ∙ z ∙ sym h) (λ h. ap number_in (refused-by h))

  -- an accepted reply is the one promised
  pub accepted-is : accepts a ≡ true → a ≡ r
  accepted-is t = by-eq n 0 accepted-by (λ h. no-accept (sym (refused-not h) ∙ t))

-- ---- Read's reply, by its refusal and its bytes

pub read-refused-reply : (n : ℕ) (bytes : List ℕ) → (n ≡ 0 → ⊥) → read_answered n bytes ≡ refuses n
read-refused-reply n bytes h = replied-refused n (shows bytes) h

pub read-accepted-reply : (n : ℕ) (bytes : List ℕ) → n ≡ 0 → read_answered n bytes ≡ shows bytes
read-accepted-reply n bytes h = replied-accepted n (shows bytes) h

-- ---- two refusals

pub same-refusal : {m n : ℕ} → refuses m ≡ refuses n → m ≡ n
same-refusal e = cc

pub read-refused-number : (m n : ℕ) (bytes : List ℕ) → read_answered m bytes ≡ refuses n → m ≡ n
read-refused-number m n bytes e = sym (number_by (read_answered m bytes) (shows bytes) m refl refl) ∙ ap number_in e

-- ---- the number of what a test answers

pub refused-with : {X : Type 0} (r : Result X Refusal) (refusal : Refusal) → IsErrAnd r (λ e. e ≡ refusal) → refusal_in r ≡ number_of refusal
refused-with (Err e) refusal h = ap number_of h
refused-with (Ok x) refusal h = absurd h

-- a refusal that is passed on
pub passed-on : {X E : Type 0} (r : Result X E) (refusal : E) → IsErrAnd r (λ e. e ≡ refusal) → r ≡ Err refusal
passed-on (Err e) refusal h = ap (λ (x : _). Err x) h
passed-on (Ok x) refusal h = absurd h

-- no refusal has the number 0
pub numbered : (refusal : Refusal) → number_of refusal ≡ 0 → ⊥
numbered WrongLength e = omega (arith, e)
numbered NotSound e = omega (arith, e)
numbered OutOfRange e = omega (arith, e)
numbered WrongMoment e = omega (arith, e)
numbered Full e = omega (arith, e)
numbered SequencesUsedUp e = omega (arith, e)
numbered LogDamaged e = omega (arith, e)
numbered LogOutOfOrder e = omega (arith, e)
numbered TooFewFrames e = omega (arith, e)
numbered NothingToDo e = omega (arith, e)
numbered HeldBack e = omega (arith, e)
numbered BadBlock e = omega (arith, e)
numbered SequenceAhead e = omega (arith, e)

-- the whole answer of a call that hands its test's answer back
pub answered-by : (r : Result (Unit {0}) Refusal) → answered r ≡ replied (refusal_in r) done
answered-by (Ok unit) = sym (replied-accepted 0 done refl)
answered-by (Err refusal) = sym (replied-refused (number_of refusal) done (numbered refusal))
