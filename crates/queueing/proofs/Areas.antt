-- Fewer waiting updates than areas leave an area free: counted from an area on, a held one lowers the count.
-- Assumes nothing.
use mathlib.Core.Path.{◌≡◌, refl, ap}
use mathlib.Core.Bool.{Bool, true, false, cond, ◌||◌}
use mathlib.Core.List.{List, [], ◌∷◌}
use Prim.Native.Nat.{ℕ, suc, ◌+◌, ◌≤◌, ◌<◌}
use native.Mathlib.Omega.{arith}
use lib.Dec.{eqb, leb}
use lib.ListN.{length}
use borrow.Author.Tests.{eqb-true, leb-true, le-leb, lt-leb}
use Rattle.area.proofs.Laws.{by_cases}
use Rattle.std.specs.List.{list_any}
use Rattle.promises.specs.declared.Staged.{Staged}
use Rattle.promises.specs.Sound.{member, areas_of}

-- how many areas of a list are from a number on
abbrev pub above : ℕ → List ℕ → ℕ
above area [] = 0
above area (x ∷ xs) = cond (leb area x) 1 0 + above area xs

pub above-length : (area : ℕ) (xs : List ℕ) → above area xs ≤ length xs
above-length area [] = omega arith
above-length area (x ∷ xs) = let h = above-length area xs in let k = one (leb area x) in omega arith
  where
    one : (b : Bool) → cond b 1 0 ≤ 1
    one true = omega arith
    one false = omega arith

less : (area x : ℕ) → cond (leb (area + 1) x) 1 0 ≤ cond (leb area x) 1 0
less area x =
    by_cases (leb (area + 1) x)
    (λ e. let h : area ≤ x = omega (arith, leb-true (area + 1) x e) in rw (e, le-leb area x h) (omega arith))
    (λ e. rw e (omega arith))

above-less : (area : ℕ) (xs : List ℕ) → above (area + 1) xs ≤ above area xs
above-less area [] = omega arith
above-less area (x ∷ xs) = let h = above-less area xs in let k = less area x in omega arith

-- a held area lowers the count
pub above-held : (area : ℕ) (xs : List ℕ) → member area xs ≡ true → above (area + 1) xs < above area xs
above-held area [] e = let z : ◌≡◌ {A = ℕ} 0 1 = cc in absurd (omega arith)
above-held area (x ∷ xs) e = go (eqb area x) refl e (above-held area xs)
  where
    go : (b : Bool) → eqb area x ≡ b → (b || member area xs) ≡ true → (member area xs ≡ true → above (area + 1) xs < above area xs)
        → above (area + 1) (x ∷ xs) < above area (x ∷ xs)
    go true q e ih =
        let h : area ≡ x = eqb-true _ _ q in
        let lo : area ≤ x = omega arith in
        let hi : x < area + 1 = omega arith in
        let k = above-less area xs in
        rw (le-leb area x lo, lt-leb (area + 1) x hi) (omega arith)
    go false q e ih = let h = ih e in let k = less area x in omega arith

-- an area is held where a search of the updates finds it
pub any-held : (area : ℕ) (waiting : List Staged) → list_any (λ update. eqb area update.area) waiting ≡ member area (areas_of waiting)
any-held area [] = refl
any-held area (x ∷ xs) = ap (λ (b : Bool). eqb area x.area || b) (any-held area xs)

pub areas-length : (waiting : List Staged) → length (areas_of waiting) ≡ length waiting
areas-length [] = refl
areas-length (x ∷ xs) = ap suc (areas-length xs)
