-- An update goes to the frame that the search finds, a page is dropped, and a whole group is applied: what the table holds then.
-- Assumes nothing.
use mathlib.Core.Path.{◌≡◌, refl, sym, ap, ◌∙◌, subst}
use mathlib.Core.Bool.{Bool, true, false, cond, not, ◌&&◌}
use mathlib.Core.List.{List, [], ◌∷◌}
use Prim.Native.Nat.{ℕ, ◌+◌, ◌*◌, ◌≤◌, ◌<◌}
use native.Mathlib.Omega.{arith}
use native.Mathlib.Nat.{zero-add}
use lib.Dec.{eqb}
use lib.ListN.{length, get_or, set}
use lib.Seq.{length-take-le, get_or-take, get_or-set_other, set-get_or, drop-set-lt}
use borrow.Author.Tests.{eqb-true, eqb-false, eq-eqb, ne_eqb, lt-ltb, le-ltb, not-true}
use Rattle.area.proofs.Laws.{and_both, by_cases, either}
use Rattle.area.specs.Part.{part, splice}
use Rattle.area.proofs.Parts.{length_part, length-splice, part-all, part_same, area-other}
use Rattle.promises.specs.declared.Dirty.{Dirty}
use Rattle.promises.specs.Areas.{page_at}
use Rattle.promises.specs.Updates.{Update, put}
use Rattle.promises.specs.DirtyPages.{DirtyPage, Found, absent, at, look_up, apply, apply_all, without}
use Rattle.promises.specs.Contents.{dirty_from}
use Rattle.promises.specs.Sums.{first_groups}
use Rattle.promises.specs.Sound.{member, dirty_numbers}
use Rattle.promises.proofs.Table.{entry_or, look_up-set, apply-new, apply-old, look_up-none, look_up-freed, look_up-without}
use Rattle.promises.proofs.History.WalkStart.{distinct-apply, distinct_without}
use Rattle.table.specs.declared.Table.{Table}
use Rattle.table.specs.Search.{is_free, place_of, entries_of, seat_of}
use Rattle.promises.specs.States.{free, is_of}
use Rattle.table.specs.Table.{Holds, Keeps, Enters, Applies, AppliesAll, Drops, full_table, with_dirty}
use Rattle.table.proofs.LookUps.{distinct_of, of-distinct, apply-new-length, apply-all-grows}
use Rattle.table.proofs.Entries.{member-set, distinct-set, own-apart, place-true, none-held, none_free, within-most}
use Rattle.table.proofs.FrameBytes.{put_same, put_other}
use Rattle.table.proofs.Holding.{held-count}

-- ---- entering

module _ (t : Table) (home frames : List ℕ) (i page group : ℕ) where
  -- a frame in use stays
  pub enters-used : ((get_or t.dirty i free).first ≡ 0 → ⊥) → Enters t home frames i page group t frames
  enters-used n = record { used = λ m. (refl, refl); taken = λ e. absurd (n e) }

  -- a free frame takes home's page
  pub enters-free : (frames' : List ℕ) → (get_or t.dirty i free).first ≡ 0 → frames' ≡ splice frames (i * 1024) 1024 (page_at home page)
      → Enters t home frames i page group (with_dirty t (set t.dirty i (record { page = page; first = group }))) frames'
  enters-free frames' e q = record { used = λ n. absurd (n e); taken = λ z. (refl, q) }

-- ---- seats

pub seat-held : (t : Table) (p i : ℕ) → i ≡ place_of (is_of p) (entries_of t) → i < t.count → i ≡ seat_of t p
unfolding seat_of
seat-held t p i e h = let k = rw e at h in rw (lt-ltb _ _ k) e

pub seat-free : (t : Table) (p i j : ℕ) → i ≡ place_of (is_of p) (entries_of t) → t.count ≤ i → j ≡ place_of is_free (entries_of t) → j ≡ seat_of t p
unfolding seat_of
seat-free t p i j e h f = let k = rw e at h in rw (le-ltb _ _ k) f

-- ---- a test that holds: the entry is in use, for the page

of-used : (p : ℕ) (d : Dirty) → is_of p d ≡ true → eqb d.first 0 ≡ false
of-used p d e = not-true _ (and_both (not (eqb d.first 0)) (eqb p d.page) e).0

of-page : (p : ℕ) (d : Dirty) → is_of p d ≡ true → p ≡ d.page
of-page p d e = eqb-true p d.page (and_both (not (eqb d.first 0)) (eqb p d.page) e).1

entry_in_lem : (p : ℕ) (d : Dirty) (bytes : List ℕ) (r : Found) → is_of p d ≡ true → entry_or p d bytes r ≡ at (record { page = d.page; first = d.first; bytes = bytes })
entry_in_lem p d bytes r e = rw e

entry-out : (p : ℕ) (d : Dirty) (bytes : List ℕ) (r : Found) → is_of p d ≡ false → entry_or p d bytes r ≡ r
entry-out p d bytes r e = rw e

of_other : (p : ℕ) (d : Dirty) → (p ≡ d.page → ⊥) → is_of p d ≡ false
of_other p d n = go (not (eqb d.first 0)) (ne_eqb p d.page n)
  where
    go : (a : Bool) → eqb p d.page ≡ false → (a && eqb p d.page) ≡ false
    go true e = e
    go false e = refl

of-free : (p : ℕ) (d : Dirty) → eqb d.first 0 ≡ true → is_of p d ≡ false
of-free p d e = rw e

-- ---- an update of a page in a frame, and of a page that takes a frame

module _ (home frames : List ℕ) (u : Update) (group : ℕ) (t : Table) (es : List DirtyPage) (h : Holds t frames es) (few : t.count ≤ length t.dirty)
    (long : length frames ≡ t.count * 1024) (in-page : u.offset + length u.bytes ≤ 1024) where
  pub apply-held : (i : ℕ) → i < t.count → is_of u.page (get_or t.dirty i free) ≡ true
      → Holds t (splice frames (i * 1024 + u.offset) (length u.bytes) u.bytes) (apply group (page_at home) u es)
  apply-held i l e =
      record {
        looks = looks;
        table_distinct = h.table_distinct;
        entries_distinct = of-distinct (apply group (page_at home) u es) (distinct-apply group (page_at home) u es (distinct_of es h.entries_distinct));
        within = h.within;
      }
    where
      d : Dirty
      d = get_or t.dirty i free

      frames' : List ℕ
      frames' = splice frames (i * 1024 + u.offset) (length u.bytes) u.bytes

      others : ℕ → Found
      others p = look_up p (dirty_from frames 0 (set t.dirty i free))

      same : (p : ℕ) (fs : List ℕ) → ((g : ℕ) → (g ≡ 0 + i → ⊥) → page_at fs g ≡ page_at frames g)
          → look_up p (dirty_from fs 0 t.dirty) ≡ entry_or p d (page_at fs i) (others p)
      same p fs k =
          ap (λ (ds : List Dirty). look_up p (dirty_from fs 0 ds)) (sym (set-get_or t.dirty i free))
          ∙ look_up-set p frames fs 0 i t.dirty d (omega arith) k (λ q. own-apart i t.dirty h.table_distinct q)
          ∙ ap (λ (j : ℕ). entry_or p d (page_at fs j) (others p)) (zero-add i)

      before : (p : ℕ) → look_up p es ≡ entry_or p d (page_at frames i) (others p)
      before p = sym (h.looks p) ∙ same p frames (λ g n. refl)

      after : (p : ℕ) → look_up p (dirty_from frames' 0 t.dirty) ≡ entry_or p d (page_at frames' i) (others p)
      after p = same p frames' (λ g n. put_other frames i u (omega arith) in-page g (λ q. n (q ∙ sym (zero-add i))))

      found : look_up u.page es ≡ at (record { page = d.page; first = d.first; bytes = page_at frames i })
      found = before u.page ∙ entry_in_lem u.page d (page_at frames i) (others u.page) e

      looks : (p : ℕ) → look_up p (dirty_from frames' 0 t.dirty) ≡ look_up p (apply group (page_at home) u es)
      looks p =
          after p
          ∙ by_cases (eqb p u.page)
          (λ q. entry_in_lem p d (page_at frames' i) (others p) (subst (λ (x : ℕ). is_of x d ≡ true) (sym (eqb-true p u.page q)) e)
          ∙ ap (λ (x : List ℕ). at (record { page = d.page; first = d.first; bytes = x })) (put_same frames i u (omega arith) in-page)
          ∙ sym (touched ∙ ap (λ (b : Bool). cond b (at more) (look_up p es)) q))
          (λ q. let n : is_of p d ≡ false = of_other p d (λ x. eqb-false p u.page q (x ∙ sym (of-page u.page d e))) in
          entry-out p d (page_at frames' i) (others p) n
          ∙ sym (touched ∙ ap (λ (b : Bool). cond b (at more) (look_up p es)) q ∙ before p ∙ entry-out p d (page_at frames i) (others p) n))
        where
          more : DirtyPage
          more = record { page = d.page; first = d.first; bytes = put u (page_at frames i) }

          touched : look_up p (apply group (page_at home) u es) ≡ cond (eqb p u.page) (at more) (look_up p es)
          touched = apply-old group (page_at home) u es p (record { page = d.page; first = d.first; bytes = page_at frames i }) found

  pub apply-entered : (k : ℕ) → k < t.count → 1 ≤ group → u.page * 1024 + 1024 ≤ length home → member u.page (dirty_numbers t.dirty) ≡ false
      → (get_or t.dirty k free).first ≡ 0
      → Holds (with_dirty t (set t.dirty k (record { page = u.page; first = group })))
      (splice (splice frames (k * 1024) 1024 (page_at home u.page)) (k * 1024 + u.offset) (length u.bytes) u.bytes)
      (apply group (page_at home) u es)
  apply-entered k l one in-home not-held is_free =
      record {
        looks = looks;
        table_distinct = distinct-set k t.dirty d (λ e. apart) h.table_distinct;
        entries_distinct = of-distinct (apply group (page_at home) u es) (distinct-apply group (page_at home) u es (distinct_of es h.entries_distinct));
        within = ap (λ (ds : List Dirty). length (first_groups ds)) (drop-set-lt t.count t.dirty k d l) ∙ h.within;
      }
    where
      d : Dirty
      d = record { page = u.page; first = group }

      copied : List ℕ
      copied = splice frames (k * 1024) 1024 (page_at home u.page)

      frames' : List ℕ
      frames' = splice copied (k * 1024 + u.offset) (length u.bytes) u.bytes

      page-long : length (page_at home u.page) ≡ 1024
      page-long = length_part home (u.page * 1024) 1024 in-home

      room : k * 1024 + 1024 ≤ length frames
      room = omega arith

      room' : k * 1024 + 1024 ≤ length copied
      room' = omega (arith, room, length-splice frames (k * 1024) 1024 (page_at home u.page) room page-long)

      others : ℕ → Found
      others p = look_up p (dirty_from frames 0 (set t.dirty k free))

      apart : member u.page (dirty_numbers (set t.dirty k free)) ≡ false
      apart = member-set u.page k t.dirty free (λ e. let y : ◌≡◌ {A = ℕ} 0 1 = cc in absurd (omega arith)) not-held

      -- the frame was free
      before : (p : ℕ) → look_up p es ≡ others p
      before p =
          sym (h.looks p)
          ∙ ap (λ (ds : List Dirty). look_up p (dirty_from frames 0 ds)) (sym (set-get_or t.dirty k free))
          ∙ look_up-set p frames frames 0 k t.dirty (get_or t.dirty k free) (omega arith) (λ g n. refl)
          (λ e. absurd (eqb-false _ _ e is_free))
          ∙ entry-out p (get_or t.dirty k free) (page_at frames (0 + k)) (others p) (of-free p (get_or t.dirty k free) (eq-eqb _ _ is_free))

      after : (p : ℕ) → look_up p (dirty_from frames' 0 (set t.dirty k d)) ≡ entry_or p d (page_at frames' k) (others p)
      after p =
          look_up-set p frames frames' 0 k t.dirty d (omega arith)
          (λ g n. let m : g ≡ k → ⊥ = λ q. n (q ∙ sym (zero-add k)) in
          put_other copied k u room' in-page g m ∙ area-other 1024 frames k g (page_at home u.page) room page-long (λ q. m (sym q)))
          (λ e. apart)
          ∙ ap (λ (j : ℕ). entry_or p d (page_at frames' j) (others p)) (zero-add k)

      bytes : page_at frames' k ≡ put u (page_at home u.page)
      bytes = put_same copied k u room' in-page ∙ ap (put u) (part_same frames (k * 1024) 1024 (page_at home u.page) room page-long)

      looks : (p : ℕ) → look_up p (dirty_from frames' 0 (set t.dirty k d)) ≡ look_up p (apply group (page_at home) u es)
      looks p =
          after p
          ∙ by_cases (eqb p u.page)
          (λ q. entry_in_lem p d (page_at frames' k) (others p) (ap (λ (b : Bool). b && eqb p u.page) (ap not (ne_eqb group 0 (λ z. omega arith))) ∙ q)
          ∙ ap (λ (x : List ℕ). at (record { page = u.page; first = group; bytes = x })) bytes
          ∙ sym (touched ∙ ap (λ (b : Bool). cond b (at fresh) (look_up p es)) q))
          (λ q. entry-out p d (page_at frames' k) (others p) (of_other p d (eqb-false p u.page q))
          ∙ sym (touched ∙ ap (λ (b : Bool). cond b (at fresh) (look_up p es)) q ∙ before p))
        where
          fresh : DirtyPage
          fresh = record { page = u.page; first = group; bytes = put u (page_at home u.page) }

          touched : look_up p (apply group (page_at home) u es) ≡ cond (eqb p u.page) (at fresh) (look_up p es)
          touched = apply-new group (page_at home) u es p (sym (h.looks u.page) ∙ look_up-none u.page frames 0 t.dirty not-held)

-- ---- the whole of apply

never : {X : Type 0} {t : Bool} → t ≡ true → t ≡ false → X
never e f = let z : ◌≡◌ {A = Bool} true false = sym e ∙ f in let y : ◌≡◌ {A = ℕ} 0 1 = cc in absurd (omega arith)

module _ (home frames : List ℕ) (u : Update) (group : ℕ) (t : Table) where
  module _ (few : t.count ≤ length t.dirty) where
    -- no frame is free, and none holds the page
    pub applies-full : (i : ℕ) → t.full ≡ false → i ≡ seat_of t u.page → t.count ≤ i → Applies t home frames u group (full_table t) frames
    applies-full i f e k = record {
      count_is = refl;
      frames_long = refl;
      kept = λ g n. refl;
      stays = λ g. never g f;
      fits = λ es g h l. absurd (too_many es h l);
      fills = λ es g h l. refl;
    }
      where
        places : (t.count ≤ place_of (is_of u.page) (entries_of t)) × (t.count ≤ place_of is_free (entries_of t))
        places =
            either (place_of (is_of u.page) (entries_of t)) t.count
            (λ l. absurd (omega (arith, e ∙ sym (seat-held t u.page _ refl l))))
            (λ l. (l, omega (arith, e ∙ sym (seat-free t u.page _ _ refl l refl))))

        too_many : (es : List DirtyPage) → Holds t frames es → length (apply group (page_at home) u es) ≤ t.count → ⊥
        too_many es h l =
            let no-page : look_up u.page es ≡ absent =
            sym (h.looks u.page) ∙ look_up-none u.page frames 0 t.dirty (none-held u.page t.count t.dirty few places.0 h.within) in
            omega (arith, apply-new-length group (page_at home) u es no-page, held-count t frames es h, none_free t.count t.dirty few places.1)

    -- the page has its frame, or takes a free one
    module _ (long : length frames ≡ t.count * 1024) (in-page : u.offset + length u.bytes ≤ 1024) (one : 1 ≤ group)
        (in-home : u.page * 1024 + 1024 ≤ length home) (f : t.full ≡ false) (i : ℕ) (e : i ≡ seat_of t u.page) (k : i < t.count)
        (r : Table) (frames₁ : List ℕ) (entered : Enters t home frames i u.page group r frames₁) where
      abbrev frames₂ : List ℕ
      frames₂ = splice frames₁ (i * 1024 + u.offset) (length u.bytes) u.bytes

      all-long : length (entries_of t) ≡ t.count
      all-long = length-take-le t.count t.dirty few

      -- what the frame's entry was
      data Seat : Type 0 where
        held : is_of u.page (get_or t.dirty i free) ≡ true → Seat
        vacant : t.count ≤ place_of (is_of u.page) (entries_of t) → (get_or t.dirty i free).first ≡ 0 → Seat

      entry : (j : ℕ) → j < t.count → get_or (entries_of t) j free ≡ get_or t.dirty j free
      entry j l = get_or-take t.count t.dirty j free l

      seat : Seat
      seat =
          either (place_of (is_of u.page) (entries_of t)) t.count
          (λ l. let s : place_of (is_of u.page) (entries_of t) ≡ i = seat-held t u.page _ refl l ∙ sym e in
          held (subst (λ (j : ℕ). is_of u.page (get_or t.dirty j free) ≡ true) s
          (ap (is_of u.page) (sym (entry _ l)) ∙ place-true (is_of u.page) (entries_of t) (omega (arith, all-long)))))
          (λ l. let s : place_of is_free (entries_of t) ≡ i = seat-free t u.page _ _ refl l refl ∙ sym e in
          let m : place_of is_free (entries_of t) < t.count = omega (arith, s) in
          vacant l (subst (λ (j : ℕ). (get_or t.dirty j free).first ≡ 0) s
          (eqb-true _ _ (ap is_free (sym (entry _ m)) ∙ place-true is_free (entries_of t) (omega (arith, all-long))))))

      in_use : is_of u.page (get_or t.dirty i free) ≡ true → (get_or t.dirty i free).first ≡ 0 → ⊥
      in_use o = eqb-false _ _ (of-used u.page (get_or t.dirty i free) o)

      counts : Seat → r.count ≡ t.count
      counts (held o) = ap (λ (x : Table). x.count) (entered.used (in_use o)).0
      counts (vacant n z) = ap (λ (x : Table). x.count) (entered.taken z).0

      lengths : Seat → length frames₁ ≡ length frames
      lengths (held o) = ap length (entered.used (in_use o)).1
      lengths (vacant n z) =
          ap length (entered.taken z).1
          ∙ length-splice frames (i * 1024) 1024 (page_at home u.page) (omega arith) (length_part home (u.page * 1024) 1024 in-home)

      keeps : Seat → Keeps t r
      keeps (held o) g n = ap (λ (x : Table). get_or x.dirty g free) (entered.used (in_use o)).0
      keeps (vacant m z) g n =
          ap (λ (x : Table). get_or x.dirty g free) (entered.taken z).0
          ∙ get_or-set_other t.dirty i g (record { page = u.page; first = group }) free (λ q. n (ap (λ (j : ℕ). (get_or t.dirty j free).first) q ∙ z))

      not_full_lem : Seat → r.full ≡ false
      not_full_lem (held o) = ap (λ (x : Table). x.full) (entered.used (in_use o)).0 ∙ f
      not_full_lem (vacant n z) = ap (λ (x : Table). x.full) (entered.taken z).0 ∙ f

      holds : Seat → (es : List DirtyPage) → Holds t frames es → Holds r frames₂ (apply group (page_at home) u es)
      holds (held o) es h =
          let p = entered.used (in_use o) in
          let moved : Holds r (splice frames (i * 1024 + u.offset) (length u.bytes) u.bytes) (apply group (page_at home) u es) =
          subst (λ (x : Table). Holds x (splice frames (i * 1024 + u.offset) (length u.bytes) u.bytes) (apply group (page_at home) u es)) (sym p.0)
          (apply-held home frames u group t es h few long in-page i k o) in
          subst (λ (x : List ℕ). Holds r (splice x (i * 1024 + u.offset) (length u.bytes) u.bytes) (apply group (page_at home) u es)) (sym p.1) moved
      holds (vacant n z) es h =
          let p = entered.taken z in
          let moved : Holds r (splice (splice frames (i * 1024) 1024 (page_at home u.page)) (i * 1024 + u.offset) (length u.bytes) u.bytes) (apply group (page_at home) u es) =
          subst (λ (x : Table). Holds x (splice (splice frames (i * 1024) 1024 (page_at home u.page)) (i * 1024 + u.offset) (length u.bytes) u.bytes) (apply group (page_at home) u es)) (sym p.0)
          (apply-entered home frames u group t es h few long in-page i k one in-home (none-held u.page t.count t.dirty few n h.within) z) in
          subst (λ (x : List ℕ). Holds r (splice x (i * 1024 + u.offset) (length u.bytes) u.bytes) (apply group (page_at home) u es)) (sym p.1) moved

      applies-in : Applies t home frames u group r frames₂
      applies-in = record {
        count_is = counts seat;
        frames_long = length-splice frames₁ (i * 1024 + u.offset) (length u.bytes) u.bytes (omega (arith, lengths seat)) refl ∙ lengths seat;
        kept = keeps seat;
        stays = λ g. never g f;
        fits = λ es g h l. (not_full_lem seat, holds seat es h);
        fills = λ es g h l. absurd (omega (arith, counts seat, held-count r frames₂ (apply group (page_at home) u es) (holds seat es h), within-most r.count r.dirty (holds seat es h).within));
      }

      pub applies-at : (frames' : List ℕ) → frames' ≡ splice frames₁ (i * 1024 + u.offset) (length u.bytes) (part u.bytes 0 (length u.bytes))
          → Applies t home frames u group r frames'
      applies-at frames' q =
          subst (λ (x : List ℕ). Applies t home frames u group r x)
          (sym (q ∙ ap (splice frames₁ (i * 1024 + u.offset) (length u.bytes)) (part-all u.bytes (length u.bytes) (omega arith))))
          applies-in

-- ---- a page is dropped

module _ (t : Table) (page : ℕ) (few : t.count ≤ length t.dirty) where
  -- no frame holds it
  pub drops-not : (i : ℕ) → i ≡ place_of (is_of page) (entries_of t) → t.count ≤ i → Drops t page t
  drops-not i e l = record { count_is = refl; full_is = refl; holds = holds }
    where
      holds : (frames : List ℕ) (es : List DirtyPage) → Holds t frames es → Holds t frames (without page es)
      holds frames es h = record {
        looks = λ p. h.looks p ∙ sym (look_up-without p page es ∙ by_cases (eqb p page)
            (λ q. rw q (sym (ap (λ (x : ℕ). look_up x es) (eqb-true p page q) ∙ gone))) (λ q. rw q));
        table_distinct = h.table_distinct;
        entries_distinct = of-distinct (without page es) (distinct_without page es (distinct_of es h.entries_distinct));
        within = h.within;
      }
        where
          gone : look_up page es ≡ absent
          gone = sym (h.looks page) ∙ look_up-none page frames 0 t.dirty (none-held page t.count t.dirty few (omega arith) h.within)

  -- a frame that holds it is free then
  pub drops-of : (i : ℕ) → is_of page (get_or t.dirty i free) ≡ true → i < t.count → Drops t page (with_dirty t (set t.dirty i free))
  drops-of i of l = record { count_is = refl; full_is = refl; holds = holds }
    where
      holds : (frames : List ℕ) (es : List DirtyPage) → Holds t frames es → Holds (with_dirty t (set t.dirty i free)) frames (without page es)
      holds frames es h = record {
        looks = looks;
        table_distinct = distinct-set i t.dirty free (λ q. let y : ◌≡◌ {A = ℕ} 0 1 = cc in absurd (omega arith)) h.table_distinct;
        entries_distinct = of-distinct (without page es) (distinct_without page es (distinct_of es h.entries_distinct));
        within = ap (λ (ds : List Dirty). length (first_groups ds)) (drop-set-lt t.count t.dirty i free l) ∙ h.within;
      }
        where
          used : eqb (get_or t.dirty i free).first 0 ≡ false
          used = of-used page (get_or t.dirty i free) of

          looks : (p : ℕ) → look_up p (dirty_from frames 0 (set t.dirty i free)) ≡ look_up p (without page es)
          looks p =
              look_up-freed p frames 0 i t.dirty (omega arith) used (own-apart i t.dirty h.table_distinct used)
              ∙ ap (λ (q : ℕ). look_up p (without q (dirty_from frames 0 t.dirty))) (sym (of-page page (get_or t.dirty i free) of))
              ∙ look_up-without p page (dirty_from frames 0 t.dirty)
              ∙ ap (λ (x : Found). cond (eqb p page) absent x) (h.looks p)
              ∙ sym (look_up-without p page es)

  -- and so is the one that the search finds
  pub drops-at : (i : ℕ) → i ≡ place_of (is_of page) (entries_of t) → i < t.count → Drops t page (with_dirty t (set t.dirty i free))
  drops-at i e l =
      drops-of i
      (ap (is_of page) (sym (get_or-take t.count t.dirty i free l))
      ∙ subst (λ (j : ℕ). is_of page (get_or (entries_of t) j free) ≡ true) (sym e)
      (place-true (is_of page) (entries_of t) (omega (arith, length-take-le t.count t.dirty few))))
      l

-- ---- a group, update by update

pub applies-none : (t : Table) (home frames : List ℕ) (group : ℕ) → AppliesAll t home frames [] group t frames
unfolding apply_all
applies-none t home frames group = record {
  count_is = refl;
  frames_long = refl;
  kept = λ g n. refl;
  stays = λ e. (refl, refl);
  fits = λ es f h l. (f, h);
  fills = λ es f h l. absurd (omega (arith, held-count t frames es h, within-most t.count t.dirty h.within));
}

pub applies-more : (t t₁ r : Table) (home frames frames₁ frames' : List ℕ) (u : Update) (us : List Update) (group : ℕ)
    → Applies t home frames u group t₁ frames₁ → AppliesAll t₁ home frames₁ us group r frames' → AppliesAll t home frames (u ∷ us) group r frames'
unfolding apply_all
applies-more t t₁ r home frames frames₁ frames' u us group a b = record {
  count_is = b.count_is ∙ a.count_is;
  frames_long = b.frames_long ∙ a.frames_long;
  kept = λ g n. b.kept g (λ z. n (ap (λ (d : Dirty). d.first) (sym (a.kept g n)) ∙ z)) ∙ a.kept g n;
  stays = λ e. let p = a.stays e in let q = b.stays (ap (λ (x : Table). x.full) p.0 ∙ e) in (q.0 ∙ p.0, q.1 ∙ p.1);
  fits = λ es f h l.
      let m : length (apply group (page_at home) u es) ≤ t.count = omega (arith, apply-all-grows group (page_at home) us (apply group (page_at home) u es)) in
      let p = a.fits es f h m in
      b.fits (apply group (page_at home) u es) p.0 p.1 (omega (arith, a.count_is));
  fills = λ es f h l.
      either t.count (length (apply group (page_at home) u es))
      (λ m. let g : t₁.full ≡ true = a.fills es f h m in ap (λ (x : Table). x.full) (b.stays g).0 ∙ g)
      (λ m. let p = a.fits es f h m in b.fills (apply group (page_at home) u es) p.0 p.1 (omega (arith, a.count_is)));
}
