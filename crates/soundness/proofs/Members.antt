-- Numbers among numbers: as the library's `any` tells it, with one more at the end, and in the first of a list.
-- Assumes nothing.
use mathlib.Core.Path.{◌≡◌, refl, sym, ap, ◌∙◌}
use mathlib.Core.Bool.{Bool, true, false, not, ◌&&◌, ◌||◌}
use mathlib.Core.List.{List, [], ◌∷◌, ◌++◌}
use Prim.Native.Nat.{ℕ, zero, suc}
use lib.Dec.{eqb}
use lib.ListN.{take}
use borrow.Author.Tests.{eq-eqb, ne_eqb}
use Rattle.std.specs.List.{list_any}
use Rattle.area.proofs.Laws.{and_both, and2, or-false, not-passed, never_both, by-eq}
use Rattle.promises.specs.Sound.{member, distinct}

pub any-member : (n : ℕ) (numbers : List ℕ) → list_any (λ x. eqb n x) numbers ≡ member n numbers
any-member n [] = refl
any-member n (x ∷ xs) = ap (λ (b : Bool). eqb n x || b) (any-member n xs)

-- ---- one more at the end

pub member-snoc : (n : ℕ) (numbers : List ℕ) (x : ℕ) → member n (numbers ++ (x ∷ [])) ≡ (eqb n x || member n numbers)
member-snoc n [] x = refl
member-snoc n (y ∷ ys) x = rw (member-snoc n ys x) (or_swapped (eqb n y) (eqb n x) (member n ys))
  where
    or_swapped : (a b c : Bool) → (a || (b || c)) ≡ (b || (a || c))
    or_swapped true true c = refl
    or_swapped true false c = refl
    or_swapped false b c = refl

eqb_turned : (a b : ℕ) → eqb a b ≡ eqb b a
eqb_turned a b = by-eq a b (λ e. eq-eqb a b e ∙ sym (eq-eqb b a (sym e))) (λ n. ne_eqb a b n ∙ sym (ne_eqb b a (λ e. n (sym e))))

apart : (a b c d : Bool) → (not (a || b) && (not c && d)) ≡ (not (a || c) && (not b && d))
apart true b c d = refl
apart false true true d = refl
apart false true false d = refl
apart false false c d = refl

pub distinct-snoc : (numbers : List ℕ) (x : ℕ) → distinct (numbers ++ (x ∷ [])) ≡ (not (member x numbers) && distinct numbers)
distinct-snoc [] x = refl
distinct-snoc (y ∷ ys) x = rw (member-snoc y ys x, distinct-snoc ys x, eqb_turned y x) (apart (eqb x y) (member y ys) (member x ys) (distinct ys))

-- ---- in the first of a list

member-take : (n i : ℕ) (numbers : List ℕ) → member n numbers ≡ false → member n (take i numbers) ≡ false
member-take n zero numbers h = refl
member-take n (suc i) [] h = refl
member-take n (suc i) (x ∷ xs) h = let both = or-false (eqb n x) (member n xs) h in rw (both.0, member-take n i xs both.1)

-- the first of distinct numbers are distinct
pub distinct-take : (i : ℕ) (numbers : List ℕ) → distinct numbers ≡ true → distinct (take i numbers) ≡ true
distinct-take zero numbers h = refl
distinct-take (suc i) [] h = refl
distinct-take (suc i) (x ∷ xs) h =
    let both = and_both (not (member x xs)) (distinct xs) h in
    let other : member x xs ≡ false = not-passed (member x xs) (λ t. never_both (not (member x xs)) both.0 (ap not t)) in
    and2 (ap not (member-take x i xs other)) (distinct-take i xs both.1)
