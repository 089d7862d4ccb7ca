-- The oldest group leaves the queue: the other groups, the open transaction's list and the free staging areas as promised.
-- Assumes nothing.
use mathlib.Core.Path.{◌≡◌, refl, sym, ap, ◌∙◌}
use mathlib.Core.Bool.{Bool, true, false, cond, not, ◌||◌}
use mathlib.Core.List.{List, [], ◌∷◌, ◌++◌, map}
use Prim.Native.Nat.{ℕ, zero, suc, ◌+◌, ◌-◌, ◌≤◌}
use native.Mathlib.Omega.{arith}
use lib.ListN.{length, take, drop, get_or, length-append, length-map, length-drop}
use lib.Seq.{take-append-le, drop-append-le, drop-drop, take-add}
use lib.Dec.{eqb, ltb}
use Rattle.area.proofs.Laws.{and_both, map-take}
use Rattle.block.specs.Legal.{legal_place}
use Rattle.promises.specs.declared.State.{State}
use Rattle.promises.specs.declared.Dirty.{Dirty}
use Rattle.promises.specs.declared.Staged.{Staged}
use Rattle.promises.specs.declared.Cleaning.{Cleaning}
use Rattle.promises.specs.declared.Cleaning.TheVariants.{Idle, First, Second, Third}
use Rattle.promises.specs.Updates.{Update, of_page}
use Rattle.promises.specs.Contents.{contents_of, waiting, total, grouped, groups_of, queue_of, list_of}
use Rattle.promises.specs.Sound.{member, distinct, all_below, all_legal, areas_of, staged_of}
use Rattle.promises.specs.LogStep.{idle_unless_none, cleaning_after, shifted, commit_stored}
use Rattle.promises.proofs.Soundness.{Sound}
use Rattle.queue.specs.Queue.{changes, idle_if, cleaning_left, commit_done}

-- ---- lists

map-append : {A B : Type 0} (f : A → B) (xs ys : List A) → map f (xs ++ ys) ≡ map f xs ++ map f ys
map-append f [] ys = refl
map-append f (x ∷ xs) ys = ap (λ r. f x ∷ r) (map-append f xs ys)

map-drop : {A B : Type 0} (f : A → B) (n : ℕ) (l : List A) → map f (drop n l) ≡ drop n (map f l)
map-drop f zero l = refl
map-drop f (suc n) [] = refl
map-drop f (suc n) (x ∷ l) = map-drop f n l

-- what follows the elements that a prefix needs does not matter
take-shifted : {A : Type 0} (l : List A) (count n : ℕ) → count + n ≤ length l → take n (shifted l count) ≡ take n (drop count l)
unfolding shifted
take-shifted l count n h = take-append-le n (drop count l) (drop (length l - count) l) (omega (arith, length-drop count l))

pub length-shifted : {A : Type 0} (l : List A) (count : ℕ) → count ≤ length l → length (shifted l count) ≡ length l
unfolding shifted
length-shifted l count h = simp (length-append, length-drop) (omega arith)

-- groups look only at as many updates as they have
grouped-front : (sizes : List ℕ) (us vs : List Update) → total sizes ≤ length us → grouped sizes (us ++ vs) ≡ grouped sizes us
unfolding grouped
grouped-front [] us vs h = refl
grouped-front (n ∷ ns) us vs h =
    let k : n ≤ length us = omega arith in
    rw (take-append-le n us vs k, drop-append-le n us vs k, grouped-front ns (drop n us) vs (omega (arith, length-drop n us)))

-- ---- the groups
module _ (s : State) (dirty : List Dirty) (f : Sound s) (some : 1 ≤ s.queued) where
  abbrev size : ℕ
  size = get_or s.groups 0 0

  abbrev after : State
  after = commit_done s dirty size

  pub groups-left : groups_of s ≡ size ∷ groups_of after
  groups-left =
      let q : 1 + (s.queued - 1) ≡ s.queued = omega arith in
      let l : 1 + (s.queued - 1) ≤ length s.groups = omega (arith, f.queued) in
      ap (λ (n : ℕ). take n s.groups) (sym q) ∙ first (s.queued - 1) s.groups l ∙ ap (λ (r : List ℕ). size ∷ r) (sym (take-shifted s.groups 1 (s.queued - 1) l))
    where
      first : (n : ℕ) (l : List ℕ) → 1 + n ≤ length l → take (1 + n) l ≡ get_or l 0 0 ∷ take n (drop 1 l)
      first n [] h = absurd (omega arith)
      first n (x ∷ l) h = let e : 1 + n ≡ suc n = omega arith in rw e

  total_left : total (groups_of s) ≡ size + total (groups_of after)
  total_left = ap total groups-left

  module _ (staging : List ℕ) where
    abbrev updates : List Update
    updates = map (waiting staging) s.staged

    abbrev behind : List Update
    behind = map (waiting staging) (drop (length s.staged - size) s.staged)

    updates-left : map (waiting staging) (shifted s.staged size) ≡ drop size updates ++ behind
    unfolding shifted
    updates-left =
        map-append (waiting staging) (drop size s.staged) (drop (length s.staged - size) s.staged)
        ∙ ap (λ (r : List Update). r ++ behind) (map-drop (waiting staging) size s.staged)

    long : total (groups_of after) + s.described ≤ length (drop size updates)
    long = omega (arith, length-drop size updates, length-map s.staged (waiting staging), f.staged, total_left)

    -- the group is the first updates, and the rest of the queue stays
    pub queue-left : queue_of s staging ≡ take size updates ∷ queue_of after staging
    unfolding grouped
    queue-left =
        ap (λ (ns : List ℕ). grouped ns updates) groups-left
        ∙ ap (λ (q : List (List Update)). take size updates ∷ q)
        (sym (grouped-front (groups_of after) (drop size updates) behind (omega (arith, long)))
        ∙ ap (grouped (groups_of after)) (sym updates-left))

    -- the open transaction's list stays
    pub list_left : list_of after staging ≡ list_of s staging
    list_left =
        let t : ℕ = total (groups_of after) in
        let h : t ≤ length (drop size updates) = omega (arith, long) in
        let k : s.described ≤ length (drop t (drop size updates)) = omega (arith, long, length-drop t (drop size updates)) in
        ap (λ (us : List Update). take s.described (drop t us)) updates-left
        ∙ ap (take s.described) (drop-append-le t (drop size updates) behind h)
        ∙ take-append-le s.described (drop t (drop size updates)) behind k
        ∙ ap (take s.described) (drop-drop t size updates ∙ ap (λ (n : ℕ). drop n updates) (sym total_left))

  -- what waited is the group, then what waits now
  pub staged-left : staged_of s ≡ take size s.staged ++ staged_of after
  staged-left =
      let n : ℕ = total (groups_of after) + s.described in
      let e : total (groups_of s) + s.described ≡ size + n = omega (arith, total_left) in
      ap (λ (k : ℕ). take k s.staged) e ∙ take-add size n s.staged
      ∙ ap (λ (r : List Staged). take size s.staged ++ r) (sym (take-shifted s.staged size n (omega (arith, f.staged))))

-- ---- what holds of all that waited holds of what waits now

pub distinct-behind : (xs ys : List Staged) → distinct (areas_of (xs ++ ys)) ≡ true → distinct (areas_of ys) ≡ true
distinct-behind [] ys h = h
distinct-behind (x ∷ xs) ys h = distinct-behind xs ys (and_both (not (member x.area (areas_of (xs ++ ys)))) (distinct (areas_of (xs ++ ys))) h).1

pub below-behind : (end : ℕ) (xs ys : List Staged) → all_below end (areas_of (xs ++ ys)) ≡ true → all_below end (areas_of ys) ≡ true
below-behind end [] ys h = h
below-behind end (x ∷ xs) ys h = below-behind end xs ys (and_both (ltb x.area end) (all_below end (areas_of (xs ++ ys))) h).1

pub legal-behind : (pages : ℕ) (xs ys : List Staged) → all_legal pages (xs ++ ys) ≡ true → all_legal pages ys ≡ true
legal-behind pages [] ys h = h
legal-behind pages (x ∷ xs) ys h =
    legal-behind pages xs ys (and_both (legal_place pages x.page x.offset x.length) (all_legal pages (xs ++ ys)) h).1

-- ---- the cleaning

-- a page is changed by staged updates where it is by their updates
idle-same : (staging : List ℕ) (page : ℕ) (xs : List Staged) (cleaning : Cleaning)
    → idle_if (changes page xs) cleaning ≡ idle_unless_none (of_page page (map (waiting staging) xs)) cleaning
unfolding of_page
idle-same staging page [] cleaning = refl
idle-same staging page (x ∷ xs) cleaning = go (eqb page x.page) (idle-same staging page xs cleaning)
  where
    go : (b : Bool) → idle_if (changes page xs) cleaning ≡ idle_unless_none (of_page page (map (waiting staging) xs)) cleaning
        → idle_if (b || changes page xs) cleaning
        ≡ idle_unless_none (cond b (waiting staging x ∷ of_page page (map (waiting staging) xs)) (of_page page (map (waiting staging) xs))) cleaning
    go true e = refl
    go false e = e

-- no staged update changes the page: no update is of it
pub unchanged : (staging : List ℕ) (page : ℕ) (xs : List Staged) → changes page xs ≡ false → of_page page (map (waiting staging) xs) ≡ []
unfolding of_page
unchanged staging page [] h = refl
unchanged staging page (x ∷ xs) h = go (unchanged staging page xs) (eqb page x.page) h
  where
    go : (changes page xs ≡ false → of_page page (map (waiting staging) xs) ≡ []) → (b : Bool) → (b || changes page xs) ≡ false
        → cond b (waiting staging x ∷ of_page page (map (waiting staging) xs)) (of_page page (map (waiting staging) xs)) ≡ []
    go ih true h = let z : ◌≡◌ {A = ℕ} 0 1 = cc in absurd (omega arith)
    go ih false h = ih h

pub cleaning-left-is : (staging : List ℕ) (size : ℕ) (staged : List Staged) (cleaning : Cleaning)
    → cleaning_left (take size staged) cleaning ≡ cleaning_after (take size (map (waiting staging) staged)) cleaning
unfolding cleaning_left cleaning_after
cleaning-left-is _ _ _ Idle = refl
cleaning-left-is staging size staged (First page) =
    idle-same staging page (take size staged) (First page)
    ∙ ap (λ (us : List Update). idle_unless_none (of_page page us) (First page)) (sym (map-take (waiting staging) size staged))
cleaning-left-is staging size staged (Second page) =
    idle-same staging page (take size staged) (Second page)
    ∙ ap (λ (us : List Update). idle_unless_none (of_page page us) (Second page)) (sym (map-take (waiting staging) size staged))
cleaning-left-is staging size staged (Third page) =
    idle-same staging page (take size staged) (Third page)
    ∙ ap (λ (us : List Update). idle_unless_none (of_page page us) (Third page)) (sym (map-take (waiting staging) size staged))

-- ---- THE CONTENTS ONCE THE GROUP IS COMMITTED
pub contents-left : (s : State) (dirty : List Dirty) (staging : List ℕ) (g : List Update) (q : List (List Update)) → Sound s → 1 ≤ s.queued
    → queue_of s staging ≡ g ∷ q → contents_of (commit_done s dirty (get_or s.groups 0 0)) staging ≡ commit_stored (contents_of s staging) g q
contents-left s dirty staging g q f some e =
    let size : ℕ = get_or s.groups 0 0 in
    let both : g ∷ q ≡ take size (map (waiting staging) s.staged) ∷ queue_of (commit_done s dirty size) staging = sym e ∙ queue-left s dirty f some staging in
    let head : g ≡ take size (map (waiting staging) s.staged) = cc in
    let tail : q ≡ queue_of (commit_done s dirty size) staging = cc in
    rw (head, tail, list_left s dirty f some staging, cleaning-left-is staging size s.staged s.cleaning)
