-- The order of cleaning, worked by hand on two dirty pages, and that it leaves no choice.
-- Assumes nothing.
use mathlib.Core.Path.{◌≡◌, refl}
use mathlib.Core.Logic.{inl, inr}
use mathlib.Core.Bool.{Bool, true, false, cond}
use Prim.Native.Nat.{ℕ}
use mathlib.Core.List.{[], ◌∷◌}
use native.Mathlib.Omega.{arith}
use lib.Dec.{eqb}
use borrow.Author.Tests.{eqb-true}
use Rattle.promises.specs.declared.Cleaning.TheVariants.{Idle}
use Rattle.promises.specs.DirtyPages.{DirtyPage, absent, at, look_up}
use Rattle.promises.specs.CleanStep.{NoLater, Takes}

-- two pages of which neither comes later are one
pub order-antisymmetric : (first page first' page' : ℕ) → NoLater first page first' page' → NoLater first' page' first page → page ≡ page'
order-antisymmetric f p g q (inl a) (inl b) = absurd (omega arith)
order-antisymmetric f p g q (inl a) (inr b) = absurd (omega (arith, b.0))
order-antisymmetric f p g q (inr a) (inl b) = absurd (omega (arith, a.0))
order-antisymmetric f p g q (inr a) (inr b) = omega (arith, a.0, a.1, b.0, b.1)

-- of two dirty pages one is taken if it comes no later than the other
abbrev dirty : ℕ → ℕ → DirtyPage
dirty page first = record { page = page; first = first; bytes = [] }

first-of-two : (p s q t page first : ℕ) → NoLater first page s p → NoLater first page t q → Takes Idle (dirty p s ∷ dirty q t ∷ []) page (dirty page first)
unfolding look_up
first-of-two p s q t page first h k other found e = go (eqb other p) refl (eqb other q) refl e
  where
    go : (b : Bool) → eqb other p ≡ b → (c : Bool) → eqb other q ≡ c → cond b (at (dirty p s)) (cond c (at (dirty q t)) absent) ≡ at found → NoLater first page found.first other
    go true o c m e = let f : s ≡ found.first = cc in rw (eqb-true other p o, ← f) h
    go false o true m e = let f : t ≡ found.first = cc in rw (eqb-true other q m, ← f) k
    go false o false m e = let n : ◌≡◌ {A = ℕ} 0 1 = cc in absurd (omega arith)

-- pages 3 and 1 with the first groups 7 and 9: 3 is taken, 1 is not, though its number is lower
earlier-group-taken : Takes Idle (dirty 3 7 ∷ dirty 1 9 ∷ []) 3 (dirty 3 7)
earlier-group-taken = first-of-two 3 7 1 9 3 7 (inr (refl, omega arith)) (inl (omega arith))

later-group-waits : Takes Idle (dirty 3 7 ∷ dirty 1 9 ∷ []) 1 (dirty 1 9) → ⊥
unfolding look_up
later-group-waits h = go (h 3 (dirty 3 7) refl)
  where
    go : NoLater 9 1 7 3 → ⊥
    go (inl a) = omega arith
    go (inr a) = omega (arith, a.0)

-- pages 3 and 1 with the same first group: 1 is taken, 3 is not, in whichever order their frames hold them
lower-page-taken : Takes Idle (dirty 3 7 ∷ dirty 1 7 ∷ []) 1 (dirty 1 7)
lower-page-taken = first-of-two 3 7 1 7 1 7 (inr (refl, omega arith)) (inr (refl, omega arith))

lower-page-taken-too : Takes Idle (dirty 1 7 ∷ dirty 3 7 ∷ []) 1 (dirty 1 7)
lower-page-taken-too = first-of-two 1 7 3 7 1 7 (inr (refl, omega arith)) (inr (refl, omega arith))

higher-page-waits : Takes Idle (dirty 3 7 ∷ dirty 1 7 ∷ []) 3 (dirty 3 7) → ⊥
unfolding look_up
higher-page-waits h = go (h 1 (dirty 1 7) refl)
  where
    go : NoLater 7 3 7 1 → ⊥
    go (inl a) = omega arith
    go (inr a) = omega (arith, a.1)
