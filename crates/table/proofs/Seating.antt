-- Seats as a table: each seat is its frame's entry, and what changes a seat changes the entry.
-- Assumes nothing.
use Rattle.std.specs.Prelude.{Option, Some, None, position, count_by}
use Rattle.std.proofs.lemmas.Bool.{le-leb, lt-leb}
use Rattle.std.specs.Option.{unwrap_or}
use Rattle.std.specs.List.{position_or_len}
use Rattle.std.proofs.lemmas.List.Recursion.{is_position_or_len, is_count_by}
use Rattle.std.proofs.lemmas.List.Sums.{prefix_len-le-length}
use mathlib.Core.Path.{◌≡◌, refl, sym, ap, ◌∙◌, subst}
use mathlib.Core.Bool.{Bool, true, false, cond, not, ◌&&◌}
use mathlib.Core.List.{List, [], ◌∷◌, ◌++◌, map, append_assoc, map-append}
use Prim.Native.Nat.{ℕ, zero, suc, ◌+◌, ◌-◌, ◌*◌, ◌/◌, ◌%◌, ◌≤◌, ◌<◌, min}
use native.Mathlib.Numerals.{add-one}
use native.Mathlib.Omega.{arith}
use lib.Dec.{eqb, ltb, leb}
use lib.ListN.{length, take, drop, get_or, set, replicate, length-append, length-map, length-set, length-replicate, replicate-append-replicate, get_or-append, get_or-map}
use lib.Seq.{take_at, drop_at, set_at, take-suc, take-length, length-take-le, set-append_left}
use borrow.Author.Tests.{lt-ltb, le-ltb, eq-eqb, ne_eqb}
use Rattle.area.proofs.Laws.{by-eq, either, get_d-all, map-set}
use Rattle.area.specs.Part.{splice}
use Rattle.promises.specs.declared.Dirty.{Dirty}
use Rattle.promises.specs.Areas.{page_at}
use Rattle.promises.specs.Contents.{unless}
use Rattle.promises.specs.Sums.{first_groups, smallest}
use Rattle.table.specs.declared.Table.{Table}
use Rattle.table.specs.Search.{is_free, place_of, entries_of, seat_of}
use Rattle.promises.specs.States.{free, is_of}
use Rattle.table.specs.Table.{Enters, Drops, with_dirty}
use Rattle.table.specs.Seats.{entry_in, dirty_in, seated}
use Rattle.table.proofs.Scans.{smallest-more, smallest-same}
use Rattle.table.proofs.Entries.{free-groups}
use Rattle.table.proofs.Applying.{enters-used, enters-free, seat-held, seat-free, drops-not, drops-at}

-- ---- one seat

-- below 65,536 it is free
pub entry-below : (seat : ℕ) → seat < 65536 → entry_in seat ≡ free
entry-below seat h = simp (lt-ltb seat 65536 h)

pub entry-above : (seat : ℕ) → 65536 ≤ seat → entry_in seat ≡ record { page = seat % 65536; first = seat / 65536 }
entry-above seat h = simp (le-ltb seat 65536 h)

-- a page below 65,536 and its first group, as one number
pub entry_of : (page group : ℕ) → page < 65536 → 1 ≤ group → entry_in (group * 65536 + page) ≡ record { page = page; first = group }
entry_of page group h one =
    entry-above (group * 65536 + page) (omega arith) ∙ both ((group * 65536 + page) % 65536) ((group * 65536 + page) / 65536) (omega arith) (omega arith)
  where
    both : (p f : ℕ) → p ≡ page → f ≡ group → ◌≡◌ {A = Dirty} (record { page = p; first = f }) (record { page = page; first = group })
    both p f e g = ap (λ (x : ℕ). record { page = x; first = f }) e ∙ ap (λ (x : ℕ). record { page = page; first = x }) g

free-below : (seat : ℕ) → seat < 65536 → seat / 65536 ≡ 0
free-below seat h = omega arith

used-above : (seat : ℕ) → 65536 ≤ seat → seat / 65536 ≡ 0 → ⊥
used-above seat h e = omega arith

entry_first : (seat : ℕ) → (entry_in seat).first ≡ seat / 65536
entry_first seat =
    either seat 65536
    (λ h. ap (λ (d : Dirty). d.first) (entry-below seat h) ∙ sym (free-below seat h))
    (λ h. ap (λ (d : Dirty). d.first) (entry-above seat h))

-- a free entry is zero
entry_zero : (seat : ℕ) → (entry_in seat).first ≡ 0 → entry_in seat ≡ free
entry_zero seat z = either seat 65536 (λ h. entry-below seat h) (λ h. absurd (used-above seat h (sym (entry_first seat) ∙ z)))

-- the code's tests of a seat
pub page-test : (page seat : ℕ) → is_of page (entry_in seat) ≡ (leb 65536 seat && eqb (seat % 65536) page)
page-test page seat =
    either seat 65536
    (λ h. ap (is_of page) (entry-below seat h) ∙ sym (ap (λ (x : Bool). x && eqb (seat % 65536) page) (lt-leb 65536 seat h)))
    (λ h. ap (is_of page) (entry-above seat h)
    ∙ ap (λ (x : Bool). not x && eqb page (seat % 65536)) (ne_eqb (seat / 65536) 0 (used-above seat h))
    ∙ by-eq page (seat % 65536) (λ e. eq-eqb _ _ e ∙ sym (eq-eqb _ _ (sym e))) (λ n. ne_eqb _ _ n ∙ sym (ne_eqb _ _ (λ q. n (sym q))))
    ∙ sym (ap (λ (x : Bool). x && eqb (seat % 65536) page) (le-leb 65536 seat h)))

pub free-test : (seat : ℕ) → is_free (entry_in seat) ≡ ltb seat 65536
free-test seat =
    either seat 65536
    (λ h. ap is_free (entry-below seat h) ∙ sym (lt-ltb seat 65536 h))
    (λ h. ap is_free (entry-above seat h) ∙ ne_eqb _ _ (used-above seat h) ∙ sym (le-ltb seat 65536 h))

-- ---- searches among the seats

-- what `position` finds, or else the count of frames, is the place among the entries
pub place-found : (test : Dirty → Bool) (seats : List ℕ) (found : Option ℕ) (r : ℕ) → found ≡ position (λ s. test (entry_in s)) seats
    → r ≡ unwrap_or found (length seats) → (r ≡ place_of test (map entry_in seats)) × (r ≤ length seats)
unfolding place_of
place-found test seats found r e f =
    either place (length seats)
    (λ h. let w : r ≡ place = at-place true (lt-ltb _ _ h) in (w ∙ sym same, omega arith))
    (λ h. let w : r ≡ length seats = at-place false (le-ltb _ _ h) in (omega (arith, same, prefix_len-le-length (λ s. not (test (entry_in s))) seats), omega arith))
  where
    place : ℕ
    place = position_or_len (λ s. test (entry_in s)) seats

    same : place_of test (map entry_in seats) ≡ place
    same = is_position_or_len (λ l. place_of test (map entry_in l)) (λ s. test (entry_in s)) refl (λ x l. grind arith) seats

    chosen : (b : Bool) → unwrap_or (cond b (Some place) None) (length seats) ≡ cond b place (length seats)
    chosen true = refl
    chosen false = refl

    at-place : (b : Bool) → ltb place (length seats) ≡ b → r ≡ cond b place (length seats)
    at-place b t = f ∙ ap (λ (o : Option ℕ). unwrap_or o (length seats)) e ∙ ap (λ (x : Bool). unwrap_or (cond x (Some place) None) (length seats)) t ∙ chosen b

-- ---- the seats as a table

pub length-dirty : (seats : List ℕ) → length seats ≤ 32 → length (dirty_in seats) ≡ 32
unfolding dirty_in
length-dirty seats h =
    length-append (map entry_in seats) (replicate (32 - length seats) free)
    ∙ omega (arith, length-map seats entry_in, length-replicate (32 - length seats) free)

pub all_in : (seats : List ℕ) → length seats ≤ 32 → length seats ≤ length (dirty_in seats)
all_in seats h = omega (arith, length-dirty seats h)

module _ (seats : List ℕ) where
  -- the frames' entries
  pub entries-are : take (length seats) (dirty_in seats) ≡ map entry_in seats
  unfolding dirty_in
  entries-are = take_at (map entry_in seats) (replicate (32 - length seats) free) (length seats) (length-map seats entry_in)

  -- no others are in use
  pub groups-over : (i : ℕ) → i ≡ length seats → length (first_groups (drop i (dirty_in seats))) ≡ 0
  unfolding dirty_in
  groups-over i e =
      ap (λ (l : List Dirty). length (first_groups l)) (drop_at (map entry_in seats) (replicate (32 - length seats) free) i (length-map seats entry_in ∙ sym e))
      ∙ free-groups (32 - length seats) 0

  module _ (i : ℕ) (h : i < length seats) where
    inner : i < length (map entry_in seats)
    inner = omega (arith, length-map seats entry_in)

    pub entry_at : get_or (dirty_in seats) i free ≡ entry_in (get_or seats i 0)
    unfolding dirty_in
    entry_at =
        get_or-append (map entry_in seats) (replicate (32 - length seats) free) free i inner
        ∙ get_or-map entry_in seats i 0

    pub dirty-set : (seat : ℕ) → dirty_in (set seats i seat) ≡ set (dirty_in seats) i (entry_in seat)
    unfolding dirty_in
    dirty-set seat =
        ap (λ (n : ℕ). map entry_in (set seats i seat) ++ replicate (32 - n) free) (length-set seats i seat)
        ∙ ap (λ (l : List Dirty). l ++ replicate (32 - length seats) free) (map-set entry_in seats i seat)
        ∙ sym (set-append_left (map entry_in seats) (replicate (32 - length seats) free) i (entry_in seat) inner)

    pub seated-set : (full : Bool) (seat : ℕ) → with_dirty (seated full seats) (set (dirty_in seats) i (entry_in seat)) ≡ seated full (set seats i seat)
    seated-set full seat =
        ap (λ (n : ℕ). record { count = n; full = full; dirty = set (dirty_in seats) i (entry_in seat) }) (sym (length-set seats i seat))
        ∙ ap (λ (l : List Dirty). record { count = length (set seats i seat); full = full; dirty = l }) (sym (dirty-set seat))

-- an entry that is free is zero
zeroed : (xs : List ℕ) (n f : ℕ) → (get_or (map entry_in xs ++ replicate n free) f free).first ≡ 0 → get_or (map entry_in xs ++ replicate n free) f free ≡ free
zeroed [] n f z = get_d-all n f free
zeroed (x ∷ xs) n zero z = entry_zero x z
zeroed (x ∷ xs) n (suc f) z = zeroed xs n f z

pub free-zero : (seats : List ℕ) (f : ℕ) → (get_or (dirty_in seats) f free).first ≡ 0 → get_or (dirty_in seats) f free ≡ free
unfolding dirty_in
free-zero seats f z = zeroed seats (32 - length seats) f z

-- ---- the seat that a page gets

module _ (seats : List ℕ) (page i : ℕ) (e : i ≡ place_of (is_of page) (map entry_in seats)) where
  found_at : i ≡ place_of (is_of page) (entries_of (seated false seats))
  found_at = e ∙ ap (place_of (is_of page)) (sym (entries-are seats))

  pub held-seat : i < length seats → i ≡ seat_of (seated false seats) page
  held-seat h = seat-held (seated false seats) page i found_at h

  pub free-seat : (j : ℕ) → length seats ≤ i → j ≡ place_of is_free (map entry_in seats) → j ≡ seat_of (seated false seats) page
  free-seat j h f = seat-free (seated false seats) page i j found_at h (f ∙ ap (place_of is_free) (sym (entries-are seats)))

-- ---- entering

module _ (seats home frames : List ℕ) (i page group : ℕ) (h : i < length seats) where
  pub seat-entered-used : 65536 ≤ get_or seats i 0 → Enters (seated false seats) home frames i page group (seated false seats) frames
  seat-entered-used u =
      enters-used (seated false seats) home frames i page group
      (λ z. used-above (get_or seats i 0) u (sym (ap (λ (d : Dirty). d.first) (entry_at seats i h) ∙ entry_first (get_or seats i 0)) ∙ z))

  pub seat-entered-free : (frames' : List ℕ) → page < 65536 → 1 ≤ group → get_or seats i 0 < 65536 → frames' ≡ splice frames (i * 1024) 1024 (page_at home page)
      → Enters (seated false seats) home frames i page group (seated false (set seats i (group * 65536 + page))) frames'
  seat-entered-free frames' k one u q =
      subst (λ (t : Table). Enters (seated false seats) home frames i page group t frames')
      (ap (λ (d : Dirty). with_dirty (seated false seats) (set (dirty_in seats) i d)) (sym (entry_of page group k one)) ∙ seated-set seats i h false (group * 65536 + page))
      (enters-free (seated false seats) home frames i page group frames' (ap (λ (d : Dirty). d.first) (entry_at seats i h) ∙ entry_first (get_or seats i 0) ∙ free-below (get_or seats i 0) u) q)

-- ---- a page is dropped

module _ (seats : List ℕ) (page i : ℕ) (few : length seats ≤ 32) (e : i ≡ place_of (is_of page) (map entry_in seats)) (full : Bool) where
  at_entry : i ≡ place_of (is_of page) (take (length seats) (dirty_in seats))
  at_entry = e ∙ ap (place_of (is_of page)) (sym (entries-are seats))

  pub seat-not-dropped : length seats ≤ i → Drops (seated full seats) page (seated full seats)
  seat-not-dropped h = drops-not (seated full seats) page (all_in seats few) i at_entry h

  pub seat-dropped : i < length seats → Drops (seated full seats) page (seated full (set seats i 0))
  seat-dropped h =
      subst (λ (t : Table). Drops (seated full seats) page t) (seated-set seats i h full 0)
      (drops-at (seated full seats) page (all_in seats few) i at_entry h)

-- ---- sums over the seats

module _ (seats : List ℕ) (i : ℕ) (h : i < length seats) where
  in-dirty : i < length (dirty_in seats)
  unfolding dirty_in
  in-dirty = omega (arith, length-append (map entry_in seats) (replicate (32 - length seats) free), length-map seats entry_in)

  first-at : (get_or (dirty_in seats) i free).first ≡ get_or seats i 0 / 65536
  first-at = ap (λ (d : Dirty). d.first) (entry_at seats i h) ∙ entry_first (get_or seats i 0)

  module _ (low : ℕ) where
    pub lower-seat : (get_or seats i 0 / 65536 ≡ 0 → ⊥)
        → smallest (min low (get_or seats i 0 / 65536)) (first_groups (drop (i + 1) (dirty_in seats))) ≡ smallest low (first_groups (drop i (dirty_in seats)))
    lower-seat n =
        ap (λ (x : ℕ). smallest (min low x) (first_groups (drop (i + 1) (dirty_in seats)))) (sym first-at)
        ∙ smallest-more low (dirty_in seats) i in-dirty (λ z. n (sym first-at ∙ z))

    pub same-seat : get_or seats i 0 / 65536 ≡ 0 → smallest low (first_groups (drop (i + 1) (dirty_in seats))) ≡ smallest low (first_groups (drop i (dirty_in seats)))
    same-seat e = smallest-same low (dirty_in seats) i in-dirty (first-at ∙ e)

-- the count of those in use
pub used-seats : (seats : List ℕ) → length (first_groups (dirty_in seats)) ≡ count_by (λ s. leb 65536 s) seats
unfolding dirty_in first_groups
used-seats seats = is_count_by (λ l. length (first_groups (map entry_in l ++ replicate (32 - length seats) free))) (λ s. leb 65536 s) (free-groups (32 - length seats) 0) step seats
  where
    step : (s : ℕ) (l : List ℕ) → length (first_groups (map entry_in (s ∷ l) ++ replicate (32 - length seats) free))
        ≡ cond (leb 65536 s) (1 + length (first_groups (map entry_in l ++ replicate (32 - length seats) free))) (length (first_groups (map entry_in l ++ replicate (32 - length seats) free)))
    step s l =
        either s 65536
        (λ h. rw (lt-leb 65536 s h) (ap (λ (d : Dirty). length (first_groups (d ∷ map entry_in l ++ replicate (32 - length seats) free))) (entry-below s h)))
        (λ h. rw (le-leb 65536 s h) (ap (λ (d : Dirty). length (first_groups (d ∷ map entry_in l ++ replicate (32 - length seats) free))) (entry-above s h)
        ∙ ap (λ (b : Bool). length (unless b (s / 65536) (first_groups (map entry_in l ++ replicate (32 - length seats) free)))) (ne_eqb (s / 65536) 0 (used-above s h)) ∙ omega arith))

pub smallest-over : (low : ℕ) (seats : List ℕ) (i : ℕ) → i ≡ length seats → low ≡ smallest low (first_groups (drop i (dirty_in seats)))
smallest-over low seats i e = none (first_groups (drop i (dirty_in seats))) (groups-over seats i e)
  where
    none : (l : List ℕ) → length l ≡ 0 → low ≡ smallest low l
    none [] h = refl
    none (x ∷ l) h = absurd (omega arith)

-- ---- the seats as entries, one by one

-- the entries below an index are set
abbrev pub Filled : List ℕ → ℕ → List Dirty → Type 0
Filled seats i dirty = (length dirty ≡ 32) × (dirty ≡ map entry_in (take i seats) ++ replicate (32 - i) free)

pub filled-start : (seats : List ℕ) → length seats ≤ 32 → Filled seats 0 (replicate 32 free)
filled-start seats h = (refl, refl)

pub filled_more : (seats : List ℕ) (i : ℕ) (dirty : List Dirty) → i < length seats → length seats ≤ 32 → Filled seats i dirty
    → Filled seats (i + 1) (set dirty i (entry_in (get_or seats i 0)))
filled_more seats i dirty h few f =
    (length-set dirty i (entry_in (get_or seats i 0)) ∙ f.0, ap (λ (l : List Dirty). set l i (entry_in (get_or seats i 0))) f.1 ∙ at-seam)
  where
    long : length (map entry_in (take i seats)) ≡ i
    long = length-map (take i seats) entry_in ∙ length-take-le i seats (omega arith)

    one_more : replicate (32 - i) free ≡ free ∷ replicate (32 - (i + 1)) free
    one_more = let e : 32 - i ≡ suc (32 - (i + 1)) = omega arith in rw e

    at-seam : set (map entry_in (take i seats) ++ replicate (32 - i) free) i (entry_in (get_or seats i 0)) ≡ map entry_in (take (i + 1) seats) ++ replicate (32 - (i + 1)) free
    at-seam =
        ap (λ (l : List Dirty). set (map entry_in (take i seats) ++ l) i (entry_in (get_or seats i 0))) one_more
        ∙ set_at (map entry_in (take i seats)) free (replicate (32 - (i + 1)) free) (entry_in (get_or seats i 0)) i long
        ∙ sym (ap (λ (l : List Dirty). l ++ replicate (32 - (i + 1)) free) grown
        ∙ append_assoc (map entry_in (take i seats)) (entry_in (get_or seats i 0) ∷ []) (replicate (32 - (i + 1)) free))
      where
        grown : map entry_in (take (i + 1) seats) ≡ map entry_in (take i seats) ++ (entry_in (get_or seats i 0) ∷ [])
        grown = rw add-one (ap (map entry_in) (take-suc seats i 0 h) ∙ map-append entry_in (take i seats) (get_or seats i 0 ∷ []))

pub filled-end : (seats : List ℕ) (i : ℕ) (dirty : List Dirty) → i ≡ length seats → Filled seats i dirty → dirty ≡ dirty_in seats
unfolding dirty_in
filled-end seats i dirty e f =
    f.1 ∙ ap (λ (n : ℕ). map entry_in (take n seats) ++ replicate (32 - n) free) e
    ∙ ap (λ (l : List ℕ). map entry_in l ++ replicate (32 - length seats) free) (take-length seats)

-- ---- seats without a dirty page

pub seated-empty : (full : Bool) (count : ℕ) (seats : List ℕ) → count ≤ 32 → seats ≡ replicate count 0
    → seated full seats ≡ record { count = count; full = full; dirty = replicate 32 free }
unfolding dirty_in
seated-empty full count seats h e =
    ap (seated full) e
    ∙ ap (λ (n : ℕ). record { count = n; full = full; dirty = map entry_in (replicate count 0) ++ replicate (32 - n) free }) (length-replicate count 0)
    ∙ ap (λ (l : List Dirty). record { count = count; full = full; dirty = l })
    (ap (λ (l : List Dirty). l ++ replicate (32 - count) free) (all-free count) ∙ replicate-append-replicate count (32 - count) free
    ∙ ap (λ (n : ℕ). replicate n free) sum)
  where
    sum : count + (32 - count) ≡ 32
    sum = omega arith

    all-free : (n : ℕ) → map entry_in (replicate n 0) ≡ replicate n free
    all-free zero = refl
    all-free (suc n) = ap (λ (l : List Dirty). free ∷ l) (all-free n)
