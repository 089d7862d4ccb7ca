-- General laws that the proofs of several crates cite: tests taken apart, cases on tests and numbers, and map, take, drop and set together.
-- Assumes nothing.
use mathlib.Core.Path.{◌≡◌, refl, sym, ap, ◌∙◌}
use mathlib.Core.Bool.{Bool, true, false, ◌&&◌, ◌||◌}
use mathlib.Core.List.{List, [], ◌∷◌, ◌++◌, map}
use Prim.Native.Nat.{ℕ, zero, suc, ◌≤◌, ◌<◌}
use native.Mathlib.Omega.{arith}
use native.Mathlib.Decide.{ℕ_discrete, dec_le}
use lib.ListN.{length, get_or, take, drop, set, replicate}

-- ---- tests

pub and_both : (a b : Bool) → (a && b) ≡ true → (a ≡ true) × (b ≡ true)
and_both true b e = (refl, e)
and_both false b e = let z : ◌≡◌ {A = ℕ} 0 1 = cc in absurd (omega arith)

pub and2 : {a b : Bool} → a ≡ true → b ≡ true → (a && b) ≡ true
and2 e f = rw (e, f)

pub or-false : (a b : Bool) → (a || b) ≡ false → (a ≡ false) × (b ≡ false)
or-false true b h = let z : ◌≡◌ {A = ℕ} 0 1 = cc in absurd (omega arith)
or-false false b h = (refl, h)

-- no test passes and fails
pub never_both : (t : Bool) → t ≡ true → t ≡ false → ⊥
never_both t p q = let z : ◌≡◌ {A = Bool} true false = sym p ∙ q in let n : ◌≡◌ {A = ℕ} 0 1 = cc in omega arith

-- a test that cannot pass fails
pub not-passed : (t : Bool) → (t ≡ true → ⊥) → t ≡ false
not-passed true n = absurd (n refl)
not-passed false n = refl

-- ---- cases

pub by_cases : {C : Type 0} (t : Bool) → (t ≡ true → C) → (t ≡ false → C) → C
by_cases true f g = f refl
by_cases false f g = g refl

-- two numbers are equal or not
pub by-eq {ℓ} : {X : Type ℓ} (a b : ℕ) → (a ≡ b → X) → ((a ≡ b → ⊥) → X) → X
by-eq a b f g = elim (ℕ_discrete a b) [ yes e ↦ f e | no n ↦ g n ]

-- one number is below the other or not
pub either {ℓ} : {X : Type ℓ} (a b : ℕ) → (a < b → X) → (b ≤ a → X) → X
either a b f g = elim (dec_le (suc a) b) [ yes h ↦ f h | no h ↦ g (omega arith) ]

-- ---- lists

-- an element of a list that has one value everywhere, beyond its end too
pub get_d-all : {A : Type 0} (n i : ℕ) (x : A) → get_or (replicate n x) i x ≡ x
get_d-all zero i x = refl
get_d-all (suc n) zero x = refl
get_d-all (suc n) (suc i) x = get_d-all n i x

pub map-take : {A B : Type 0} (f : A → B) (n : ℕ) (l : List A) → take n (map f l) ≡ map f (take n l)
map-take f zero l = refl
map-take f (suc n) [] = refl
map-take f (suc n) (x ∷ l) = ap (λ r. f x ∷ r) (map-take f n l)

pub map_snoc : {A B : Type 0} (f : A → B) (l : List A) (x : A) → map f (l ++ (x ∷ [])) ≡ map f l ++ (f x ∷ [])
map_snoc f [] x = refl
map_snoc f (y ∷ l) x = ap (λ r. f y ∷ r) (map_snoc f l x)

pub map-set : {A B : Type 0} (f : A → B) (l : List A) (i : ℕ) (a : A) → map f (set l i a) ≡ set (map f l) i (f a)
map-set f [] i a = refl
map-set f (x ∷ l) zero a = refl
map-set f (x ∷ l) (suc i) a = ap (λ (r : List _). f x ∷ r) (map-set f l i a)

pub drop-snoc : {A : Type 0} (t : ℕ) (l : List A) (x : A) → t ≤ length l → drop t (l ++ (x ∷ [])) ≡ drop t l ++ (x ∷ [])
drop-snoc zero l x h = refl
drop-snoc (suc t) [] x h = absurd (omega arith)
drop-snoc (suc t) (y ∷ l) x h = drop-snoc t l x (omega arith)
