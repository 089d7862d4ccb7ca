-- The dirty pages of a state as seats: entry by entry, and what they hold.
-- Assumes nothing.
use mathlib.Core.Path.{◌≡◌, refl, sym, ap, ◌∙◌, subst}
use mathlib.Core.Bool.{Bool, true, false, cond, not}
use mathlib.Core.List.{List, [], ◌∷◌, ◌++◌, map, map-append}
use Prim.Native.Nat.{ℕ, suc, ◌+◌, ◌-◌, ◌*◌, ◌≤◌, ◌<◌}
use native.Mathlib.Numerals.{add-one}
use native.Mathlib.Omega.{arith}
use lib.Dec.{eqb}
use lib.ListN.{length, take, drop, get_or, set, replicate, length-append, take-append-drop, get_or-map}
use lib.Seq.{get_or-take, take-suc, take-suc-set, take-length, take_at, length-take-le}
use borrow.Author.Tests.{eqb-true, eqb-false, ne_eqb}
use Rattle.area.proofs.Laws.{by_cases}
use Rattle.promises.specs.declared.State.{State}
use Rattle.promises.specs.declared.Dirty.{Dirty}
use Rattle.promises.specs.Areas.{page_at}
use Rattle.promises.specs.Updates.{Update}
use Rattle.promises.specs.DirtyPages.{DirtyPage, look_up, apply_all}
use Rattle.promises.specs.Contents.{unless, dirty_from, dirty_of}
use Rattle.promises.specs.Sums.{first_groups}
use Rattle.promises.specs.Sound.{distinct, dirty_numbers}
use Rattle.table.specs.declared.Table.{Table}
use Rattle.promises.specs.States.{free, Fills}
use Rattle.table.specs.Table.{Holds, AppliesAll}
use Rattle.table.specs.Seats.{entry_in, cleared, dirty_in, seated}
use Rattle.table.proofs.Entries.{free-groups}
use Rattle.table.proofs.Seating.{entry-below, entry_of, entry_at, groups-over, length-dirty, free-zero}
use Rattle.stepping.specs.Tables.{table_with, table_of}

-- ---- entry by entry

-- the seat of an entry stands for it, and for a free one where it is free
packed-is : (d : Dirty) → d.page < 65536 → entry_in (d.first * 65536 + d.page) ≡ cleared d
packed-is d p = by_cases (eqb d.first 0)
    (λ t. let z : d.first ≡ 0 = eqb-true _ _ t in
    entry-below (d.first * 65536 + d.page) (omega arith) ∙ sym (ap (λ (b : Bool). cond b free d) t))
    (λ t. let n : d.first ≡ 0 → ⊥ = eqb-false _ _ t in
    entry_of d.page d.first p (omega (arith, n)) ∙ sym (ap (λ (b : Bool). cond b free d) t))

module _ (dirty : List Dirty) (seats : List ℕ) (i : ℕ) where
  pub pack-more : i < length seats → i < length dirty → (get_or dirty i free).page < 65536 → map entry_in (take i seats) ≡ map cleared (take i dirty)
      → map entry_in (take (i + 1) (set seats i ((get_or dirty i free).first * 65536 + (get_or dirty i free).page))) ≡ map cleared (take (i + 1) dirty)
  pack-more h k p e =
      let d : Dirty = get_or dirty i free in
      let seat : ℕ = d.first * 65536 + d.page in
      rw add-one (ap (map entry_in) (take-suc-set seats i seat h) ∙ map-append entry_in (take i seats) (seat ∷ [])
      ∙ ap (λ (l : List Dirty). l ++ (entry_in seat ∷ [])) e
      ∙ ap (λ (x : Dirty). map cleared (take i dirty) ++ (x ∷ [])) (packed-is d p)
      ∙ sym (ap (map cleared) (take-suc dirty i free k) ∙ map-append cleared (take i dirty) (d ∷ [])))

  pub pack-end : (n : ℕ) → length seats ≡ n → i ≡ n → map entry_in (take i seats) ≡ map cleared (take i dirty) → map entry_in seats ≡ map cleared (take n dirty)
  pack-end n l q e =
      ap (map entry_in) (sym (take-length seats)) ∙ ap (λ (m : ℕ). map entry_in (take m seats)) (l ∙ sym q) ∙ e ∙ ap (λ (m : ℕ). map cleared (take m dirty)) q

-- ---- a free entry's page counts for nothing

cleared-held : (frames : List ℕ) (f : ℕ) (xs : List Dirty) → dirty_from frames f (map cleared xs) ≡ dirty_from frames f xs
unfolding dirty_from
cleared-held frames f [] = refl
cleared-held frames f (x ∷ xs) = go (eqb x.first 0) refl (cleared-held frames (suc f) xs)
  where
    go : (b : Bool) → eqb x.first 0 ≡ b → dirty_from frames (suc f) (map cleared xs) ≡ dirty_from frames (suc f) xs
        → dirty_from frames f (cond b free x ∷ map cleared xs) ≡ unless b (record { page = x.page; first = x.first; bytes = page_at frames f }) (dirty_from frames (suc f) xs)
    go true e ih = ih
    go false e ih = rw e (ap (λ (es : List DirtyPage). record { page = x.page; first = x.first; bytes = page_at frames f } ∷ es) ih)

cleared-numbers : (xs : List Dirty) → dirty_numbers (map cleared xs) ≡ dirty_numbers xs
unfolding dirty_numbers
cleared-numbers [] = refl
cleared-numbers (x ∷ xs) = go (eqb x.first 0) refl (cleared-numbers xs)
  where
    go : (b : Bool) → eqb x.first 0 ≡ b → dirty_numbers (map cleared xs) ≡ dirty_numbers xs
        → dirty_numbers (cond b free x ∷ map cleared xs) ≡ unless b x.page (dirty_numbers xs)
    go true e ih = ih
    go false e ih = rw e (ap (λ (ns : List ℕ). x.page ∷ ns) ih)

-- an entry in use stays
cleared-used : (d : Dirty) → (d.first ≡ 0 → ⊥) → cleared d ≡ d
cleared-used d n = simp (ne_eqb _ _ n)

-- ---- entries behind that are free hold nothing

none-held : (frames : List ℕ) (f : ℕ) (ys : List Dirty) → length (first_groups ys) ≡ 0 → dirty_from frames f ys ≡ []
unfolding dirty_from first_groups
none-held frames f [] h = refl
none-held frames f (y ∷ ys) h = go (eqb y.first 0) h (none-held frames (suc f) ys)
  where
    go : (b : Bool) → length (unless b y.first (first_groups ys)) ≡ 0 → (length (first_groups ys) ≡ 0 → dirty_from frames (suc f) ys ≡ [])
        → unless b (record { page = y.page; first = y.first; bytes = page_at frames f }) (dirty_from frames (suc f) ys) ≡ []
    go true h later = later h
    go false h later = absurd (omega arith)

front-held : (frames : List ℕ) (f : ℕ) (xs ys : List Dirty) → length (first_groups ys) ≡ 0 → dirty_from frames f (xs ++ ys) ≡ dirty_from frames f xs
unfolding dirty_from
front-held frames f [] ys h = none-held frames f ys h
front-held frames f (x ∷ xs) ys h =
    ap (unless (eqb x.first 0) (record { page = x.page; first = x.first; bytes = page_at frames f })) (front-held frames (suc f) xs ys h)

none-numbers : (ys : List Dirty) → length (first_groups ys) ≡ 0 → dirty_numbers ys ≡ []
unfolding dirty_numbers first_groups
none-numbers [] h = refl
none-numbers (y ∷ ys) h = go (eqb y.first 0) h (none-numbers ys)
  where
    go : (b : Bool) → length (unless b y.first (first_groups ys)) ≡ 0 → (length (first_groups ys) ≡ 0 → dirty_numbers ys ≡ []) → unless b y.page (dirty_numbers ys) ≡ []
    go true h later = later h
    go false h later = absurd (omega arith)

front-numbers : (xs ys : List Dirty) → length (first_groups ys) ≡ 0 → dirty_numbers (xs ++ ys) ≡ dirty_numbers xs
unfolding dirty_numbers
front-numbers [] ys h = none-numbers ys h
front-numbers (x ∷ xs) ys h = ap (unless (eqb x.first 0) x.page) (front-numbers xs ys h)

-- ---- the seats hold what the table holds

module _ (t : Table) (seats frames : List ℕ) (es : List DirtyPage) (entries : map entry_in seats ≡ map cleared (take t.count t.dirty)) (h : Holds t frames es) where
  abbrev front : List Dirty
  front = take t.count t.dirty

  seats-are : dirty_in seats ≡ map cleared front ++ replicate (32 - length seats) free
  unfolding dirty_in
  seats-are = ap (λ (l : List Dirty). l ++ replicate (32 - length seats) free) entries

  same-held : dirty_from frames 0 (dirty_in seats) ≡ dirty_from frames 0 t.dirty
  same-held =
      ap (dirty_from frames 0) seats-are ∙ front-held frames 0 (map cleared front) (replicate (32 - length seats) free) (free-groups (32 - length seats) 0)
      ∙ cleared-held frames 0 front
      ∙ sym (ap (dirty_from frames 0) (sym (take-append-drop t.count t.dirty)) ∙ front-held frames 0 front (drop t.count t.dirty) h.within)

  same_numbers : dirty_numbers (dirty_in seats) ≡ dirty_numbers t.dirty
  same_numbers =
      ap dirty_numbers seats-are ∙ front-numbers (map cleared front) (replicate (32 - length seats) free) (free-groups (32 - length seats) 0)
      ∙ cleared-numbers front
      ∙ sym (ap dirty_numbers (sym (take-append-drop t.count t.dirty)) ∙ front-numbers front (drop t.count t.dirty) h.within)

  pub seats-hold : Holds (seated false seats) frames es
  seats-hold = record {
    looks = λ p. ap (look_up p) same-held ∙ h.looks p;
    table_distinct = ap distinct same_numbers ∙ h.table_distinct;
    entries_distinct = h.entries_distinct;
    within = groups-over seats (length seats) refl;
  }

-- ---- what the commit leaves of the frames' entries

-- a frame in use has its entry among the packed ones
pub packed-used : (dirty : List Dirty) (n : ℕ) (packed : List ℕ) → length packed ≡ n → map entry_in packed ≡ map cleared (take n dirty)
    → (f : ℕ) → f < n → ((get_or dirty f free).first ≡ 0 → ⊥) → get_or (dirty_in packed) f free ≡ get_or dirty f free
packed-used dirty n packed long e f h used =
    entry_at packed f (omega arith) ∙ sym (get_or-map entry_in packed f 0)
    ∙ ap (λ (l : List Dirty). get_or l f free) e
    ∙ get_or-map cleared (take n dirty) f free
    ∙ ap cleared (get_or-take n dirty f free h)
    ∙ cleared-used (get_or dirty f free) used

-- what a group that is applied to the packed entries leaves: of the entries, and of the pages that they hold
module _ (s : State) (home frames frames' packed seats : List ℕ) (dirty : List Dirty) (fits : Bool) (us : List Update) (group : ℕ)
    (most : s.frames ≤ 32) (long : length packed ≡ s.frames) (entries : map entry_in packed ≡ map cleared (take s.frames s.dirty))
    (a : AppliesAll (seated false packed) home frames us group (seated (not fits) seats) frames') (d : dirty ≡ dirty_in seats) where
  pub applied-fills : length s.dirty ≡ 32 → ((f : ℕ) → ((get_or s.dirty f free).first ≡ 0 → ⊥) → f < s.frames) → Fills s.dirty dirty
  applied-fills full inside = record {
    count = ap length d ∙ length-dirty seats (omega (arith, a.count_is, most)) ∙ sym full;
    kept = λ f used.
        let e : get_or (dirty_in packed) f free ≡ get_or s.dirty f free = packed-used s.dirty s.frames packed long entries f (inside f used) used in
        ap (λ (x : List Dirty). get_or x f free) d
        ∙ a.kept f (λ z. used (ap (λ (x : Dirty). x.first) (sym e) ∙ z)) ∙ e;
    free_zero = λ f. subst (λ (x : List Dirty). (get_or x f free).first ≡ 0 → get_or x f free ≡ free) (sym d) (free-zero seats f);
  }

  pub applied-holds : Holds (table_of s) frames (dirty_of s frames) → length (apply_all group (page_at home) us (dirty_of s frames)) ≤ s.frames
      → Holds (table_with s dirty) frames' (apply_all group (page_at home) us (dirty_of s frames))
  applied-holds h few =
      let es : List DirtyPage = apply_all group (page_at home) us (dirty_of s frames) in
      let held = (a.fits (dirty_of s frames) refl (seats-hold (table_of s) packed frames (dirty_of s frames) entries h) (omega (arith, long, few))).1 in
      subst (λ (x : List Dirty). Holds (table_with s x) frames' es) (sym d)
      (record {
        looks = held.looks;
        table_distinct = held.table_distinct;
        entries_distinct = held.entries_distinct;
        within = subst (λ (m : ℕ). length (first_groups (drop m (dirty_in seats))) ≡ 0) (a.count_is ∙ long) held.within;
      })

-- ---- the seats that the commit lends: the first of 32, and what comes back of them

pub lent-long : (n : ℕ) → n ≤ 32 → length (take {A = ℕ} n (replicate 32 0)) ≡ n
lent-long n h = length-take-le n (replicate 32 0) h

module _ (n : ℕ) (seats rest : List ℕ) (e : length seats ≡ n) where
  pub seats-room : n ≤ length (seats ++ rest)
  seats-room = omega (arith, length-append seats rest)

  pub seats-back : take n (seats ++ rest) ≡ seats
  seats-back = take_at seats rest n e

  pub seats-long : length (take n (seats ++ rest)) ≡ n
  seats-long = ap length seats-back ∙ e

  pub seats-few : n ≤ 32 → length (take n (seats ++ rest)) ≤ 32
  seats-few h = omega (arith, seats-long)
