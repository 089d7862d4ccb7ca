-- Loops over the entries of a table: what is left to see from an index on.
-- Assumes nothing.
use mathlib.Core.Path.{◌≡◌, refl, sym, ap, ◌∙◌}
use mathlib.Core.Bool.{Bool}
use mathlib.Core.List.{List, [], ◌∷◌, map}
use Prim.Native.Nat.{ℕ, ◌+◌, ◌≤◌, ◌<◌, min}
use native.Mathlib.Numerals.{add-one}
use native.Mathlib.Omega.{arith}
use lib.Dec.{eqb}
use lib.ListN.{length, take, drop, get_or, drop_of_length-le, length-map}
use lib.Seq.{drop-cons, get_or-take, length-take-le}
use borrow.Author.Tests.{eq-eqb, ne_eqb}
use Rattle.promises.specs.declared.Dirty.{Dirty}
use Rattle.promises.specs.Contents.{unless}
use Rattle.promises.specs.Sums.{first_groups, smallest}
use Rattle.promises.specs.States.{free}

-- the length of an array of structs in a struct, as owning the struct tells it: `search (rules, length-mapped)` finds the premise
pub length-mapped : (X Y : Type 0) (f : X → Y) (l : List X) (n : ℕ) → length (map f l) ≡ n → length l ≡ n
length-mapped X Y f l n h = sym (length-map l f) ∙ h

-- ---- the first n elements of a list, from index i on

module _ {A : Type 0} where
  abbrev pub rest : List A → ℕ → ℕ → List A
  rest l n i = drop i (take n l)

  pub rest-cons : (l : List A) (n i : ℕ) (d : A) → i < n → n ≤ length l → rest l n i ≡ get_or l i d ∷ rest l n (i + 1)
  rest-cons l n i d h k =
      let e : length (take n l) ≡ n = length-take-le n l k in
      rw (add-one, drop-cons (take n l) i d (omega arith), get_or-take n l i d h)

  pub rest_end : (l : List A) (n i : ℕ) → n ≤ i → n ≤ length l → rest l n i ≡ []
  rest_end l n i h k =
      let e : length (take n l) ≡ n = length-take-le n l k in
      let f : length (take n l) ≤ i = omega arith in
      drop_of_length-le (take n l) f

-- ---- the first groups

-- the next entry, in use or not
module _ (l : List Dirty) (i : ℕ) (h : i < length l) where
  groups-next : first_groups (drop i l) ≡ unless (eqb (get_or l i free).first 0) (get_or l i free).first (first_groups (drop (i + 1) l))
  unfolding first_groups
  groups-next = rw (add-one, drop-cons l i free h)

  pub groups-more : ((get_or l i free).first ≡ 0 → ⊥) → first_groups (drop i l) ≡ (get_or l i free).first ∷ first_groups (drop (i + 1) l)
  groups-more n = groups-next ∙ rw (ne_eqb _ _ n)

  pub groups-same : (get_or l i free).first ≡ 0 → first_groups (drop i l) ≡ first_groups (drop (i + 1) l)
  groups-same e = groups-next ∙ ap (λ (b : Bool). unless b (get_or l i free).first (first_groups (drop (i + 1) l))) (eq-eqb _ _ e)

-- the smallest, taken from the front on
pub smallest-min : (a x : ℕ) (xs : List ℕ) → smallest (min a x) xs ≡ min a (smallest x xs)
smallest-min a x [] = refl
smallest-min a x (y ∷ ys) = ap (min y) (smallest-min a x ys) ∙ swap y a (smallest x ys)
  where
    swap : (p q r : ℕ) → min p (min q r) ≡ min q (min p r)
    swap p q r = omega arith

-- the lowest so far, where the next entry is in use or not
module _ (low : ℕ) (l : List Dirty) (i : ℕ) (h : i < length l) where
  pub smallest-more : ((get_or l i free).first ≡ 0 → ⊥) → smallest (min low (get_or l i free).first) (first_groups (drop (i + 1) l)) ≡ smallest low (first_groups (drop i l))
  smallest-more n =
      let m : min low (get_or l i free).first ≡ min (get_or l i free).first low = omega arith in
      ap (λ (x : ℕ). smallest x (first_groups (drop (i + 1) l))) m
      ∙ smallest-min (get_or l i free).first low (first_groups (drop (i + 1) l))
      ∙ sym (ap (smallest low) (groups-more l i h n))

  pub smallest-same : (get_or l i free).first ≡ 0 → smallest low (first_groups (drop (i + 1) l)) ≡ smallest low (first_groups (drop i l))
  smallest-same e = sym (ap (smallest low) (groups-same l i h e))
