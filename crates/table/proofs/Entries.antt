-- One entry of a table changes: the numbers of its dirty pages, the places that a search finds, and the first groups.
-- Assumes nothing.
use mathlib.Core.Path.{◌≡◌, refl, sym, ap, ◌∙◌}
use mathlib.Core.Bool.{Bool, true, false, cond, not, ◌&&◌, ◌||◌}
use mathlib.Core.List.{List, [], ◌∷◌}
use Prim.Native.Nat.{ℕ, zero, suc, ◌≤◌, ◌<◌}
use native.Mathlib.Omega.{arith}
use lib.Dec.{eqb, ltb}
use lib.ListN.{length, take, drop, get_or, set}
use borrow.Author.Tests.{eqb-true, eqb-false, eq-eqb, ne_eqb, ltb-true, not-true}
use Rattle.area.proofs.Laws.{and_both, and2, by_cases, or-false}
use Rattle.promises.specs.declared.Dirty.{Dirty}
use Rattle.promises.specs.Contents.{unless}
use Rattle.promises.specs.Sums.{first_groups}
use Rattle.promises.specs.Sound.{member, distinct, all_below, dirty_numbers}
use Rattle.table.specs.Search.{is_free, place_of}
use Rattle.promises.specs.States.{free, is_of, freed}

never : {X : Type 0} → ◌≡◌ {A = Bool} true false → X
never e = let y : ◌≡◌ {A = ℕ} 0 1 = cc in absurd (omega arith)

none_or : (a b : Bool) → a ≡ false → b ≡ false → (a || b) ≡ false
none_or a b e f = rw (e, f)

other_way : (a b : ℕ) → eqb a b ≡ false → eqb b a ≡ false
other_way a b e = ne_eqb b a (λ q. eqb-false a b e (sym q))

-- ---- the numbers of the dirty pages

-- a page that is not there stays away
pub member-set : (x i : ℕ) (ds : List Dirty) (d : Dirty) → (eqb d.first 0 ≡ false → eqb x d.page ≡ false)
    → member x (dirty_numbers ds) ≡ false → member x (dirty_numbers (set ds i d)) ≡ false
unfolding dirty_numbers
member-set x i [] d a h = refl
member-set x zero (y ∷ ds) d a h = back (eqb d.first 0) a (front (eqb y.first 0) h)
  where
    front : (b : Bool) → member x (unless b y.page (dirty_numbers ds)) ≡ false → member x (dirty_numbers ds) ≡ false
    front true h = h
    front false h = (or-false (eqb x y.page) (member x (dirty_numbers ds)) h).1

    back : (b : Bool) → (b ≡ false → eqb x d.page ≡ false) → member x (dirty_numbers ds) ≡ false → member x (unless b d.page (dirty_numbers ds)) ≡ false
    back true a h = h
    back false a h = none_or (eqb x d.page) (member x (dirty_numbers ds)) (a refl) h
member-set x (suc i) (y ∷ ds) d a h = both (eqb y.first 0) (member-set x i ds d a) h
  where
    both : (b : Bool) → (member x (dirty_numbers ds) ≡ false → member x (dirty_numbers (set ds i d)) ≡ false)
        → member x (unless b y.page (dirty_numbers ds)) ≡ false → member x (unless b y.page (dirty_numbers (set ds i d))) ≡ false
    both true ih h = ih h
    both false ih h =
        let o = or-false (eqb x y.page) (member x (dirty_numbers ds)) h in
        none_or (eqb x y.page) (member x (dirty_numbers (set ds i d))) o.0 (ih o.1)

-- no page twice, after a change to one that no other entry has
pub distinct-set : (i : ℕ) (ds : List Dirty) (d : Dirty) → (eqb d.first 0 ≡ false → member d.page (dirty_numbers (set ds i free)) ≡ false)
    → distinct (dirty_numbers ds) ≡ true → distinct (dirty_numbers (set ds i d)) ≡ true
unfolding dirty_numbers
distinct-set i [] d a h = refl
distinct-set zero (y ∷ ds) d a h = back (eqb d.first 0) a (front (eqb y.first 0) h)
  where
    front : (b : Bool) → distinct (unless b y.page (dirty_numbers ds)) ≡ true → distinct (dirty_numbers ds) ≡ true
    front true h = h
    front false h = (and_both (not (member y.page (dirty_numbers ds))) (distinct (dirty_numbers ds)) h).1

    back : (b : Bool) → (b ≡ false → member d.page (dirty_numbers ds) ≡ false) → distinct (dirty_numbers ds) ≡ true → distinct (unless b d.page (dirty_numbers ds)) ≡ true
    back true a h = h
    back false a h = and2 (ap not (a refl)) h
distinct-set (suc i) (y ∷ ds) d a h = both (eqb y.first 0) (distinct-set i ds d) a h
  where
    both : (b : Bool)
        → ((eqb d.first 0 ≡ false → member d.page (dirty_numbers (set ds i free)) ≡ false) → distinct (dirty_numbers ds) ≡ true → distinct (dirty_numbers (set ds i d)) ≡ true)
        → (eqb d.first 0 ≡ false → member d.page (unless b y.page (dirty_numbers (set ds i free))) ≡ false)
        → distinct (unless b y.page (dirty_numbers ds)) ≡ true → distinct (unless b y.page (dirty_numbers (set ds i d))) ≡ true
    both true ih a h = ih a h
    both false ih a h =
        let o = and_both (not (member y.page (dirty_numbers ds))) (distinct (dirty_numbers ds)) h in
        and2
        (ap not (member-set y.page i ds d
        (λ e. other_way d.page y.page (or-false (eqb d.page y.page) (member d.page (dirty_numbers (set ds i free))) (a e)).0)
        (not-true _ o.0)))
        (ih (λ e. (or-false (eqb d.page y.page) (member d.page (dirty_numbers (set ds i free))) (a e)).1) o.1)

-- an entry's own page is not among the others
pub own-apart : (i : ℕ) (ds : List Dirty) → distinct (dirty_numbers ds) ≡ true → eqb (get_or ds i free).first 0 ≡ false
    → member (get_or ds i free).page (dirty_numbers (set ds i free)) ≡ false
unfolding dirty_numbers
own-apart i [] h e = refl
own-apart zero (y ∷ ds) h e = not-true _ (and_both (not (member y.page (dirty_numbers ds))) (distinct (dirty_numbers ds)) (rw e at h)).0
own-apart (suc i) (y ∷ ds) h e = both (eqb y.first 0) h (λ k. own-apart i ds k e) (there i ds e)
  where
    -- an entry in use is among the numbers
    there : (j : ℕ) (es : List Dirty) → eqb (get_or es j free).first 0 ≡ false → member (get_or es j free).page (dirty_numbers es) ≡ true
    there j [] u = never u
    there zero (z ∷ es) u = rw u (ap (λ (b : Bool). b || member z.page (dirty_numbers es)) (eq-eqb z.page z.page refl))
    there (suc j) (z ∷ es) u = within (eqb z.first 0) (there j es u)
      where
        within : (b : Bool) → member (get_or es j free).page (dirty_numbers es) ≡ true → member (get_or es j free).page (unless b z.page (dirty_numbers es)) ≡ true
        within true k = k
        within false k = rw k (or-true (eqb (get_or es j free).page z.page))
          where
            or-true : (a : Bool) → (a || true) ≡ true
            or-true true = refl
            or-true false = refl

    both : (b : Bool) → distinct (unless b y.page (dirty_numbers ds)) ≡ true
        → (distinct (dirty_numbers ds) ≡ true → member (get_or ds i free).page (dirty_numbers (set ds i free)) ≡ false)
        → member (get_or ds i free).page (dirty_numbers ds) ≡ true
        → member (get_or ds i free).page (unless b y.page (dirty_numbers (set ds i free))) ≡ false
    both true h ih m = ih h
    both false h ih m =
        let o = and_both (not (member y.page (dirty_numbers ds))) (distinct (dirty_numbers ds)) h in
        none_or (eqb (get_or ds i free).page y.page) (member (get_or ds i free).page (dirty_numbers (set ds i free)))
        (ne_eqb _ _ (λ q. never (sym m ∙ ap (λ (p : ℕ). member p (dirty_numbers ds)) q ∙ not-true _ o.0)))
        (ih o.1)

-- ---- what a search finds

pub place-true : (t : Dirty → Bool) (l : List Dirty) → place_of t l < length l → t (get_or l (place_of t l) free) ≡ true
unfolding place_of
place-true t [] h = absurd (omega arith)
place-true t (d ∷ ds) h = go (t d) refl h (place-true t ds)
  where
    go : (b : Bool) → t d ≡ b → cond b 0 (suc (place_of t ds)) < length (d ∷ ds) → (place_of t ds < length ds → t (get_or ds (place_of t ds) free) ≡ true)
        → t (get_or (d ∷ ds) (cond b 0 (suc (place_of t ds))) free) ≡ true
    go true e h ih = e
    go false e h ih = ih (omega arith)

-- no frame from n on is in use, and none below n holds the page: no frame does
pub none-held : (p n : ℕ) (l : List Dirty) → n ≤ length l → n ≤ place_of (is_of p) (take n l) → length (first_groups (drop n l)) ≡ 0
    → member p (dirty_numbers l) ≡ false
unfolding place_of dirty_numbers first_groups
none-held p zero [] h k e = refl
none-held p zero (d ∷ ds) h k e = go (eqb d.first 0) e (λ e'. none-held p zero ds (omega arith) (omega arith) e')
  where
    go : (b : Bool) → length (unless b d.first (first_groups ds)) ≡ 0 → (length (first_groups ds) ≡ 0 → member p (dirty_numbers ds) ≡ false)
        → member p (unless b d.page (dirty_numbers ds)) ≡ false
    go true e ih = ih e
    go false e ih = absurd (omega arith)
none-held p (suc n) [] h k e = absurd (omega arith)
none-held p (suc n) (d ∷ ds) h k e = go (eqb d.first 0) (eqb p d.page) refl k (λ k'. none-held p n ds (omega arith) k' e)
  where
    go : (b t : Bool) → eqb p d.page ≡ t → suc n ≤ cond (not b && t) 0 (suc (place_of (is_of p) (take n ds)))
        → (n ≤ place_of (is_of p) (take n ds) → member p (dirty_numbers ds) ≡ false) → member p (unless b d.page (dirty_numbers ds)) ≡ false
    go true t q k ih = ih (omega arith)
    go false true q k ih = absurd (omega arith)
    go false false q k ih = none_or (eqb p d.page) (member p (dirty_numbers ds)) q (ih (omega arith))

-- no frame below n is free: at least n are in use
pub none_free : (n : ℕ) (l : List Dirty) → n ≤ length l → n ≤ place_of is_free (take n l) → n ≤ length (first_groups l)
unfolding place_of first_groups
none_free zero l h k = omega arith
none_free (suc n) [] h k = absurd (omega arith)
none_free (suc n) (d ∷ ds) h k = go (eqb d.first 0) k (none_free n ds (omega arith))
  where
    go : (b : Bool) → suc n ≤ cond b 0 (suc (place_of is_free (take n ds))) → (n ≤ place_of is_free (take n ds) → n ≤ length (first_groups ds))
        → suc n ≤ length (unless b d.first (first_groups ds))
    go true k ih = absurd (omega arith)
    go false k ih = omega (arith, ih (omega arith))

-- no frame from n on is in use: at most n are
pub within-most : (n : ℕ) (l : List Dirty) → length (first_groups (drop n l)) ≡ 0 → length (first_groups l) ≤ n
unfolding first_groups
within-most zero l e = omega arith
within-most (suc n) [] e = omega arith
within-most (suc n) (d ∷ ds) e = go (eqb d.first 0) (within-most n ds e)
  where
    go : (b : Bool) → length (first_groups ds) ≤ n → length (unless b d.first (first_groups ds)) ≤ suc n
    go true h = omega arith
    go false h = omega arith

-- a table of free frames
pub free-groups : (n k : ℕ) → length (first_groups (drop k (lib.ListN.replicate n free))) ≡ 0
unfolding first_groups
free-groups zero zero = refl
free-groups zero (suc k) = refl
free-groups (suc n) zero = free-groups n zero
free-groups (suc n) (suc k) = free-groups n k

-- first groups below an end: a free frame's is 0
pub first_below : (end : ℕ) (ds : List Dirty) (i : ℕ) → 0 < end → all_below end (first_groups ds) ≡ true → (get_or ds i free).first < end
unfolding first_groups
first_below end [] i z h = z
first_below end (d ∷ ds) zero z h =
    by_cases (eqb d.first 0)
    (λ t. let e : d.first ≡ 0 = eqb-true d.first 0 t in omega arith)
    (λ t. ltb-true _ _ (and_both (ltb d.first end) (all_below end (first_groups ds)) (rw t at h)).0)
first_below end (d ∷ ds) (suc i) z h = first_below end ds i z (go (eqb d.first 0) h)
  where
    go : (b : Bool) → all_below end (unless b d.first (first_groups ds)) ≡ true → all_below end (first_groups ds) ≡ true
    go true h = h
    go false h = (and_both (ltb d.first end) (all_below end (first_groups ds)) h).1

-- a frame in use is one of those below a count from which on none is
pub used-below : (count : ℕ) (ds : List Dirty) (i : ℕ) → length (first_groups (drop count ds)) ≡ 0 → ((get_or ds i free).first ≡ 0 → ⊥) → i < count
unfolding first_groups
used-below count [] i h n = absurd (n refl)
used-below zero (d ∷ ds) zero h n = go (eqb d.first 0) refl h
  where
    go : (t : Bool) → eqb d.first 0 ≡ t → length (unless t d.first (first_groups ds)) ≡ 0 → 0 < 0
    go true e h = absurd (n (eqb-true _ _ e))
    go false e h = absurd (omega arith)
used-below zero (d ∷ ds) (suc i) h n = go (eqb d.first 0) h (used-below zero ds i)
  where
    go : (t : Bool) → length (unless t d.first (first_groups ds)) ≡ 0 → (length (first_groups ds) ≡ 0 → ((get_or ds i free).first ≡ 0 → ⊥) → i < 0) → suc i < 0
    go true h ih = absurd (omega (arith, ih h n))
    go false h ih = absurd (omega arith)
used-below (suc count) (d ∷ ds) zero h n = omega arith
used-below (suc count) (d ∷ ds) (suc i) h n = omega (arith, used-below count ds i h n)

-- ---- a page's frame is free

freed-none : (page : ℕ) (ds : List Dirty) → member page (dirty_numbers ds) ≡ false → freed page ds ≡ ds
unfolding freed dirty_numbers
freed-none page [] h = refl
freed-none page (d ∷ ds) h = go (eqb d.first 0) h (freed-none page ds)
  where
    go : (b : Bool) → member page (unless b d.page (dirty_numbers ds)) ≡ false → (member page (dirty_numbers ds) ≡ false → freed page ds ≡ ds)
        → cond (not b && eqb page d.page) free d ∷ freed page ds ≡ d ∷ ds
    go true h ih = ap (λ (l : List Dirty). d ∷ l) (ih h)
    go false h ih =
        let o = or-false (eqb page d.page) (member page (dirty_numbers ds)) h in
        ap (λ (b : Bool). cond b free d ∷ freed page ds) o.0 ∙ ap (λ (l : List Dirty). d ∷ l) (ih o.1)

freed-set : (page i : ℕ) (ds : List Dirty) → is_of page (get_or ds i free) ≡ true → freed page ds ≡ freed page (set ds i free)
unfolding freed
freed-set page i [] h = refl
freed-set page zero (d ∷ ds) h = ap (λ (b : Bool). cond b free d ∷ freed page ds) h
freed-set page (suc i) (d ∷ ds) h = ap (λ (l : List Dirty). cond (is_of page d) free d ∷ l) (freed-set page i ds h)

-- the one entry of the page is set free
pub freed-is : (page i : ℕ) (ds : List Dirty) → distinct (dirty_numbers ds) ≡ true → is_of page (get_or ds i free) ≡ true → set ds i free ≡ freed page ds
freed-is page i ds h o =
    let both = and_both (not (eqb (get_or ds i free).first 0)) (eqb page (get_or ds i free).page) o in
    let used : eqb (get_or ds i free).first 0 ≡ false = not-true _ both.0 in
    let own : page ≡ (get_or ds i free).page = eqb-true _ _ both.1 in
    sym (freed-none page (set ds i free) (ap (λ (p : ℕ). member p (dirty_numbers (set ds i free))) own ∙ own-apart i ds h used)) ∙ sym (freed-set page i ds o)
