-- Clean step's refusal, test by test, and what an accepted Clean step leans on.
-- Assumes nothing.
use mathlib.Core.Path.{◌≡◌, ap, ◌∙◌}
use mathlib.Core.Bool.{Bool, true, cond}
use Prim.Native.Nat.{ℕ, ◌^◌}
use native.Mathlib.Omega.{arith}
use lib.Dec.{eqb}
use borrow.Author.Tests.{eqb-true, eqb-false}
use Rattle.promises.specs.declared.State.{State}
use Rattle.promises.specs.declared.Cleaning.TheVariants.{Third}
use Rattle.promises.specs.Sums.{dirty_count, sequences_taken}
use Rattle.promises.specs.Sound.{sound}
use Rattle.promises.specs.LogStep.{areas_fit}
use Rattle.promises.specs.CleanStep.{third_refusal, clean_refusal}
use Rattle.promises.proofs.Changes.{pick-zero, pick_other}

-- the two tests of a third store make its refusal
pub block-by : (s : State) (page : ℕ) (a b : Bool) → a ≡ eqb s.stored 0 → b ≡ eqb (sequences_taken s) (2 ^ 48) → cond a (cond b 6 0) 11 ≡ third_refusal s (Third page)
block-by s page a b d e = ap (λ (x : Bool). cond x (cond b 6 0) 11) d ∙ ap (λ (x : Bool). cond (eqb s.stored 0) (cond x 6 0) 11) e

-- what an accepted third store passed
pub block-passed : (s : State) (page : ℕ) → third_refusal s (Third page) ≡ 0 → (s.stored ≡ 0) × (sequences_taken s ≡ 2 ^ 48 → ⊥)
block-passed s page e =
    let a = pick-zero (eqb s.stored 0) _ 11 (omega arith) e in
    let b = pick_other (eqb (sequences_taken s) (2 ^ 48)) 0 6 (omega arith) a.1 in
    (eqb-true _ _ a.0, eqb-false _ _ b.0)

module _ (s : State) (log home frames : ℕ) where
  -- the tests make the refusal
  pub by_tests : (a b c : Bool) (third : ℕ) → a ≡ sound s → b ≡ areas_fit s log home frames → c ≡ eqb (dirty_count s) 0 → third ≡ third_refusal s s.cleaning
      → cond a (cond b (cond c 10 third) 1) 2 ≡ clean_refusal s log home frames
  unfolding clean_refusal
  by_tests a b c third d e f g =
      ap (λ (x : Bool). cond x (cond b (cond c 10 third) 1) 2) d
      ∙ ap (λ (x : Bool). cond (sound s) (cond x (cond c 10 third) 1) 2) e
      ∙ ap (λ (x : Bool). cond (sound s) (cond (areas_fit s log home frames) (cond x 10 third) 1) 2) f
      ∙ ap (λ (x : ℕ). cond (sound s) (cond (areas_fit s log home frames) (cond (eqb (dirty_count s) 0) 10 x) 1) 2) g

  -- the tests that an accepted call passed
  pub record Accepted : Type 0 where
    pub is_sound : sound s ≡ true
    pub fit : areas_fit s log home frames ≡ true
    pub some : dirty_count s ≡ 0 → ⊥
    pub third : third_refusal s s.cleaning ≡ 0

  pub accepted : clean_refusal s log home frames ≡ 0 → Accepted
  unfolding clean_refusal
  accepted e =
      let a = pick-zero (sound s) _ 2 (omega arith) e in
      let b = pick-zero (areas_fit s log home frames) _ 1 (omega arith) a.1 in
      let c = pick_other (eqb (dirty_count s) 0) _ 10 (omega arith) b.1 in
      record { is_sound = a.0; fit = b.0; some = eqb-false _ _ c.0; third = c.1 }
