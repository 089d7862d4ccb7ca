-- What a scan of the state's arrays tells at each turn: what is left to see, and how a definition over it goes on.
-- Assumes nothing.
use mathlib.Core.Path.{◌≡◌, sym, ap, ◌∙◌}
use mathlib.Core.Bool.{Bool, true, ◌&&◌, and-true, and_assoc}
use mathlib.Core.List.{List, [], ◌∷◌, ◌++◌, map, append_assoc, append-nil}
use Prim.Native.Nat.{ℕ, ◌+◌, ◌≤◌, ◌<◌, min}
use native.Mathlib.Omega.{arith}
use native.Mathlib.Numerals.{add-one}
use lib.ListN.{length, take, drop, get_or, set, length-map, drop_of_length-le}
use lib.Seq.{drop-cons, get_or-take, length-take-le, take-suc-set}
use borrow.Author.Tests.{eq-eqb, ne_eqb}
use Rattle.promises.specs.declared.Dirty.{Dirty}
use Rattle.promises.specs.declared.Staged.{Staged}
use Rattle.promises.specs.Contents.{total}
use Rattle.promises.specs.Sums.{first_groups, smallest, block_count}
use Rattle.promises.specs.Sound.{dirty_numbers, areas_of}
use Rattle.promises.specs.States.{free}
use Rattle.soundness.specs.Tests.{entry_legal, entries_legal, no_staged, staged_legal, updates_legal}

-- the length of an array of structs in a struct, as owning the struct tells it: `search (rules, length-mapped)` finds the premise
pub length-mapped : (X Y : Type 0) (f : X → Y) (l : List X) (n : ℕ) → length (map f l) ≡ n → length l ≡ n
length-mapped X Y f l n h = sym (length-map l f) ∙ h

-- ---- what is left of a list, and of its first n elements
module _ {A : Type 0} where
  pub from_cons : (l : List A) (i : ℕ) (d : A) → i < length l → drop i l ≡ get_or l i d ∷ drop (i + 1) l
  from_cons l i d h = rw (add-one, drop-cons l i d h)

  -- of the first n: an element is left
  pub rest-cons : (l : List A) (n i : ℕ) (d : A) → i < n → n ≤ length l → drop i (take n l) ≡ get_or l i d ∷ drop (i + 1) (take n l)
  rest-cons l n i d h k =
      let e : length (take n l) ≡ n = length-take-le n l k in
      rw (add-one, drop-cons (take n l) i d (omega arith), get_or-take n l i d h)

  -- of the first n: none is left
  pub rest_end : (l : List A) (n i : ℕ) → n ≤ i → n ≤ length l → drop i (take n l) ≡ []
  rest_end l n i h k =
      let e : length (take n l) ≡ n = length-take-le n l k in
      let f : length (take n l) ≤ i = omega arith in
      drop_of_length-le (take n l) f

-- ---- dirty pages

module _ (entries : List Dirty) (i : ℕ) where
  -- the page numbers that are left
  pub pages-more : i < length entries → ((get_or entries i free).first ≡ 0 → ⊥) → dirty_numbers (drop i entries) ≡ (get_or entries i free).page ∷ dirty_numbers (drop (i + 1) entries)
  unfolding dirty_numbers
  pages-more h n = rw (from_cons entries i free h, ne_eqb _ 0 n)

  pub pages-same : i < length entries → (get_or entries i free).first ≡ 0 → dirty_numbers (drop i entries) ≡ dirty_numbers (drop (i + 1) entries)
  unfolding dirty_numbers
  pages-same h e = rw (from_cons entries i free h, eq-eqb _ 0 e)

  pub pages-end : length entries ≤ i → dirty_numbers (drop i entries) ≡ []
  unfolding dirty_numbers
  pages-end h = rw (drop_of_length-le entries h)

  -- the first groups that are left
  pub firsts_more : i < length entries → ((get_or entries i free).first ≡ 0 → ⊥) → first_groups (drop i entries) ≡ (get_or entries i free).first ∷ first_groups (drop (i + 1) entries)
  unfolding first_groups
  firsts_more h n = rw (from_cons entries i free h, ne_eqb _ 0 n)

  pub firsts_same : i < length entries → (get_or entries i free).first ≡ 0 → first_groups (drop i entries) ≡ first_groups (drop (i + 1) entries)
  unfolding first_groups
  firsts_same h e = rw (from_cons entries i free h, eq-eqb _ 0 e)

  pub firsts-end : length entries ≤ i → first_groups (drop i entries) ≡ []
  unfolding first_groups
  firsts-end h = rw (drop_of_length-le entries h)

smallest-min : (a x : ℕ) (xs : List ℕ) → smallest (min a x) xs ≡ min x (smallest a xs)
smallest-min a x [] = omega arith
smallest-min a x (y ∷ ys) = omega (arith, smallest-min a x ys)

-- the oldest so far once a page's first group is seen, and past a free frame
module _ (entries : List Dirty) (i low low' own : ℕ) (h : i < length entries) (so_far : smallest low (first_groups (drop i entries)) ≡ own) where
  pub oldest-more : ((get_or entries i free).first ≡ 0 → ⊥) → low' ≡ min low (get_or entries i free).first → smallest low' (first_groups (drop (i + 1) entries)) ≡ own
  oldest-more some e =
      ap (λ (a : ℕ). smallest a (first_groups (drop (i + 1) entries))) e
      ∙ smallest-min low (get_or entries i free).first (first_groups (drop (i + 1) entries))
      ∙ sym (ap (smallest low) (firsts_more entries i h some)) ∙ so_far

  pub oldest-same : (get_or entries i free).first ≡ 0 → low' ≡ low → smallest low' (first_groups (drop (i + 1) entries)) ≡ own
  oldest-same none e =
      ap (λ (a : ℕ). smallest a (first_groups (drop (i + 1) entries))) e ∙ sym (ap (smallest low) (firsts_same entries i h none)) ∙ so_far

-- ---- the queue

pub blocks-total : (sizes : List ℕ) → block_count sizes ≡ total sizes + length sizes
blocks-total [] = omega arith
blocks-total (n ∷ ns) = omega (arith, blocks-total ns)

-- ---- entry by entry

module _ (pages frames next : ℕ) (entries : List Dirty) (i : ℕ) where
  pub entries-turn : i < length entries
      → entries_legal pages frames next i (drop i entries)
      ≡ (entry_legal pages frames next i (get_or entries i free) && entries_legal pages frames next (i + 1) (drop (i + 1) entries))
  unfolding entries_legal
  entries-turn h = rw (from_cons entries i free h, add-one)

  pub entries-end : length entries ≤ i → entries_legal pages frames next i (drop i entries) ≡ true
  unfolding entries_legal
  entries-end h = rw (drop_of_length-le entries h)

module _ (pages frames next : ℕ) (entries : List Dirty) (i : ℕ) (legal legal' whole : Bool) (h : i < length entries)
    (so_far : (legal && entries_legal pages frames next i (drop i entries)) ≡ whole) where
  -- a page's entry is tested
  pub legal-more : (test : Bool) → test ≡ entry_legal pages frames next i (get_or entries i free) → legal' ≡ (legal && test)
      → (legal' && entries_legal pages frames next (i + 1) (drop (i + 1) entries)) ≡ whole
  legal-more test e f =
      let later = entries_legal pages frames next (i + 1) (drop (i + 1) entries) in
      ap (λ (b : Bool). b && later) f ∙ ap (λ (b : Bool). legal && b && later) e ∙ and_assoc legal (entry_legal pages frames next i (get_or entries i free)) later
      ∙ ap (λ (b : Bool). legal && b) (sym (entries-turn pages frames next entries i h)) ∙ so_far

  -- a free frame's is legal
  pub legal-same : (get_or entries i free).first ≡ 0 → legal' ≡ legal → (legal' && entries_legal pages frames next (i + 1) (drop (i + 1) entries)) ≡ whole
  legal-same none f =
      let later = entries_legal pages frames next (i + 1) (drop (i + 1) entries) in
      let free-legal : entry_legal pages frames next i (get_or entries i free) ≡ true = rw (eq-eqb _ 0 none) in
      ap (λ (b : Bool). b && later) f ∙ ap (λ (b : Bool). legal && (b && later)) (sym free-legal)
      ∙ ap (λ (b : Bool). legal && b) (sym (entries-turn pages frames next entries i h)) ∙ so_far

-- the last entry is seen
pub legal-end : (pages frames next : ℕ) (entries : List Dirty) (i : ℕ) (legal whole : Bool) → length entries ≤ i
    → (legal && entries_legal pages frames next i (drop i entries)) ≡ whole → legal ≡ whole
legal-end pages frames next entries i legal whole h so_far = sym (and-true legal) ∙ ap (λ (b : Bool). legal && b) (sym (entries-end pages frames next entries i h)) ∙ so_far

-- ---- update by update

module _ (pages frames : ℕ) (updates : List Staged) (i : ℕ) where
  updates-turn : i < length updates
      → updates_legal pages frames (drop i updates) ≡ (staged_legal pages frames (get_or updates i no_staged) && updates_legal pages frames (drop (i + 1) updates))
  unfolding updates_legal
  updates-turn h = rw (from_cons updates i no_staged h)

  updates-none : length updates ≤ i → updates_legal pages frames (drop i updates) ≡ true
  unfolding updates_legal
  updates-none h = rw (drop_of_length-le updates h)

module _ (pages frames : ℕ) (updates : List Staged) (i : ℕ) (legal whole : Bool) (so_far : (legal && updates_legal pages frames (drop i updates)) ≡ whole) where
  -- one more is tested
  pub updates-more : (test : Bool) → i < length updates → test ≡ staged_legal pages frames (get_or updates i no_staged)
      → (legal && test && updates_legal pages frames (drop (i + 1) updates)) ≡ whole
  updates-more test h e =
      let later = updates_legal pages frames (drop (i + 1) updates) in
      ap (λ (b : Bool). legal && b && later) e ∙ and_assoc legal (staged_legal pages frames (get_or updates i no_staged)) later
      ∙ ap (λ (b : Bool). legal && b) (sym (updates-turn pages frames updates i h)) ∙ so_far

  -- the last is seen
  pub updates-end : length updates ≤ i → legal ≡ whole
  updates-end h = sym (and-true legal) ∙ ap (λ (b : Bool). legal && b) (sym (updates-none pages frames updates i h)) ∙ so_far

-- ---- gathering: one number more goes to the end

pub gather-more : (list rest whole : List ℕ) (n x : ℕ) → n < length list → take n list ++ (x ∷ rest) ≡ whole → take (n + 1) (set list n x) ++ rest ≡ whole
gather-more list rest whole n x h e = ap (λ (l : List ℕ). l ++ rest) (ap (λ (m : ℕ). take m (set list n x)) (add-one n) ∙ take-suc-set list n x h) ∙ append_assoc (take n list) (x ∷ []) rest ∙ e

pub gather-end : (list rest whole : List ℕ) (n : ℕ) → rest ≡ [] → take n list ++ rest ≡ whole → take n list ≡ whole
gather-end list rest whole n z e = sym (append-nil (take n list)) ∙ ap (λ (l : List ℕ). take n list ++ l) (sym z) ∙ e

module _ (updates : List Staged) (i : ℕ) (list whole : List ℕ) (so_far : take i list ++ areas_of (drop i updates) ≡ whole) where
  -- one more update's area is gathered
  pub areas-more : (area : ℕ) → i < length updates → i < length list → area ≡ (get_or updates i no_staged).area
      → take (i + 1) (set list i area) ++ areas_of (drop (i + 1) updates) ≡ whole
  areas-more area h l e =
      let later = areas_of (drop (i + 1) updates) in
      let is : area ∷ later ≡ areas_of (drop i updates) = ap (λ (x : ℕ). x ∷ later) e ∙ sym (ap areas_of (from_cons updates i no_staged h)) in
      gather-more list later whole i area l (ap (λ (x : List ℕ). take i list ++ x) is ∙ so_far)

  -- all are
  pub areas-end : length updates ≤ i → take i list ≡ whole
  areas-end h = gather-end list (areas_of (drop i updates)) whole i (ap areas_of (drop_of_length-le updates h)) so_far

module _ (entries : List Dirty) (i : ℕ) (list list' whole : List ℕ) (n n' : ℕ) (h : i < length entries) (so_far : take n list ++ dirty_numbers (drop i entries) ≡ whole) where
  -- a dirty page's number is gathered
  pub gathered-more : n < length list → ((get_or entries i free).first ≡ 0 → ⊥) → list' ≡ set list n (get_or entries i free).page → n' ≡ n + 1
      → take n' list' ++ dirty_numbers (drop (i + 1) entries) ≡ whole
  gathered-more l some e f =
      ap (λ (m : ℕ). take m list' ++ dirty_numbers (drop (i + 1) entries)) f ∙ ap (λ (x : List ℕ). take (n + 1) x ++ dirty_numbers (drop (i + 1) entries)) e
      ∙ gather-more list (dirty_numbers (drop (i + 1) entries)) whole n (get_or entries i free).page l (ap (λ (x : List ℕ). take n list ++ x) (sym (pages-more entries i h some)) ∙ so_far)

  -- a free frame's is not
  pub gathered-same : (get_or entries i free).first ≡ 0 → list' ≡ list → n' ≡ n → take n' list' ++ dirty_numbers (drop (i + 1) entries) ≡ whole
  gathered-same none e f =
      ap (λ (m : ℕ). take m list' ++ dirty_numbers (drop (i + 1) entries)) f ∙ ap (λ (x : List ℕ). take n x ++ dirty_numbers (drop (i + 1) entries)) e
      ∙ ap (λ (x : List ℕ). take n list ++ x) (sym (pages-same entries i h none)) ∙ so_far
