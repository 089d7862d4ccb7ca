-- Marks: a page that is marked already and one that is not, unmarking mark by mark, and the smallest first group as a fold.
-- Assumes nothing.
use mathlib.Core.Path.{◌≡◌, refl, ap, ◌∙◌}
use mathlib.Core.Bool.{Bool, true, false, cond, ◌||◌}
use mathlib.Core.List.{List, [], ◌∷◌, ◌++◌, append-nil}
use Prim.Native.Nat.{ℕ, suc, ◌+◌, ◌≤◌, ◌<◌, min}
use native.Mathlib.Numerals.{add-one}
use native.Mathlib.Omega.{arith}
use lib.Dec.{eqb}
use lib.ListN.{length, get_or, drop, drop_of_length-le}
use lib.Seq.{drop-cons, append_snoc}
use borrow.Author.Tests.{eq-eqb, ne_eqb}
use Rattle.std.specs.List.{list_any, fold}
use Rattle.outline.specs.declared.Mark.{Mark}
use Rattle.outline.specs.Marks.{marked, marked_all, unmarked, earliest}

-- ---- marking a page

module _ (group page : ℕ) where
  abbrev held : List Mark → Bool
  held ms = list_any (λ m. eqb page m.page) ms

  -- a page that is there stays as it is
  pub marked-held : (ms : List Mark) → list_any (λ m. eqb page m.page) ms ≡ true → marked group page ms ≡ ms
  unfolding marked
  marked-held [] h = cc
  marked-held (m ∷ ms) h = go (eqb page m.page) h (λ e. marked-held ms e)
    where
      go : (t : Bool) → (t || held ms) ≡ true → (held ms ≡ true → marked group page ms ≡ ms) → cond t (m ∷ ms) (m ∷ marked group page ms) ≡ m ∷ ms
      go true e on = refl
      go false e on = ap (λ (l : List Mark). m ∷ l) (on e)

  -- another goes to the end
  pub marked-new : (ms : List Mark) → list_any (λ m. eqb page m.page) ms ≡ false → marked group page ms ≡ ms ++ (record { page = page; first = group } ∷ [])
  unfolding marked
  marked-new [] h = refl
  marked-new (m ∷ ms) h = go (eqb page m.page) h (λ e. marked-new ms e)
    where
      go : (t : Bool) → (t || held ms) ≡ false → (held ms ≡ false → marked group page ms ≡ ms ++ (record { page = page; first = group } ∷ []))
          → cond t (m ∷ ms) (m ∷ marked group page ms) ≡ (m ∷ ms) ++ (record { page = page; first = group } ∷ [])
      go true e on = cc
      go false e on = ap (λ (l : List Mark). m ∷ l) (on e)

-- ---- unmarking a page

-- what stands past the end of a list of marks
abbrev pub nothing : Mark
nothing = record { page = 0; first = 0 }

module _ (page : ℕ) (ms : List Mark) (i : ℕ) where
  module _ (kept kept' : List Mark) (h : i < length ms) where
    -- another page is kept
    pub unmarked-keep : kept' ≡ kept ++ (get_or ms i nothing ∷ []) → (page ≡ (get_or ms i nothing).page → ⊥)
        → kept' ++ unmarked page (drop (i + 1) ms) ≡ kept ++ unmarked page (drop i ms)
    unfolding unmarked
    unmarked-keep e other =
        rw (add-one, drop-cons ms i nothing h, ne_eqb _ _ other, e) (append_snoc kept (get_or ms i nothing) (unmarked page (drop (suc i) ms)))

    -- this page is not
    pub unmarked-drop : kept' ≡ kept → page ≡ (get_or ms i nothing).page → kept' ++ unmarked page (drop (i + 1) ms) ≡ kept ++ unmarked page (drop i ms)
    unfolding unmarked
    unmarked-drop e same = rw (add-one, drop-cons ms i nothing h, eq-eqb _ _ same, e) refl

  pub unmarked-end : (kept : List Mark) → length ms ≤ i → kept ++ unmarked page (drop i ms) ≡ kept
  unfolding unmarked
  unmarked-end kept h = rw (drop_of_length-le ms h) (append-nil kept)

-- ---- the smallest first group

earliest-min : (a x : ℕ) (ms : List Mark) → earliest (min a x) ms ≡ min a (earliest x ms)
unfolding earliest
earliest-min a x [] = refl
earliest-min a x (m ∷ ms) = ap (min m.first) (earliest-min a x ms) ∙ swap m.first a (earliest x ms)
  where
    swap : (p q r : ℕ) → min p (min q r) ≡ min q (min p r)
    swap p q r = omega arith

pub earliest-fold : (own : ℕ) (ms : List Mark) → fold (λ low m. min low m.first) own ms ≡ earliest own ms
unfolding earliest
earliest-fold own [] = refl
earliest-fold own (m ∷ ms) =
    let swapped : min own m.first ≡ min m.first own = omega arith in
    earliest-fold (min own m.first) ms ∙ ap (λ (n : ℕ). earliest n ms) swapped ∙ earliest-min m.first own ms

pub earliest-most : (own : ℕ) (ms : List Mark) → earliest own ms ≤ own
unfolding earliest
earliest-most own [] = omega arith
earliest-most own (m ∷ ms) = omega (arith, earliest-most own ms)

-- ---- a group's pages

module _ (group : ℕ) (pages : List ℕ) (i : ℕ) where
  pub group-next : (ms ms' : List Mark) → i < length pages → ms' ≡ marked group (get_or pages i 0) ms
      → marked_all group (drop (i + 1) pages) ms' ≡ marked_all group (drop i pages) ms
  unfolding marked_all
  group-next ms ms' h e = rw (add-one, drop-cons pages i 0 h, e)

  pub group-end : (ms : List Mark) → length pages ≤ i → marked_all group (drop i pages) ms ≡ ms
  unfolding marked_all
  group-end ms h = rw (drop_of_length-le pages h)
