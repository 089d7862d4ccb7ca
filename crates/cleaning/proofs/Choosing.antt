-- The frame that is cleaned next: the least rank of all, and what soundness says of a frame's entry.
-- Assumes nothing.
use mathlib.Core.Path.{◌≡◌, refl, sym, ap, ◌∙◌, subst}
use mathlib.Core.Logic.{inl, inr}
use mathlib.Core.Bool.{Bool, true, false, cond, not, ◌&&◌}
use mathlib.Core.List.{List, [], ◌∷◌}
use Prim.Native.Nat.{ℕ, zero, suc, ◌+◌, ◌-◌, ◌*◌, ◌^◌, ◌≤◌, ◌<◌, min}
use native.Mathlib.Omega.{arith}
use lib.Dec.{eqb, ltb}
use lib.ListN.{length, drop, get_or, set}
use lib.Seq.{get_or-set_same, get_or-set_other, set-get_or, lt-length-set}
use borrow.Author.Tests.{eqb-true, eqb-false, eq-eqb, ne_eqb, ltb-true, not-true}
use Rattle.area.proofs.Laws.{and_both, by-eq, either, never_both}
use Rattle.promises.specs.declared.State.{State}
use Rattle.promises.specs.declared.Dirty.{Dirty}
use Rattle.promises.specs.Areas.{page_at}
use Rattle.promises.specs.DirtyPages.{DirtyPage, at, look_up}
use Rattle.promises.specs.Contents.{unless, dirty_from}
use Rattle.promises.specs.Sums.{first_groups, smallest, dirty_count}
use Rattle.promises.specs.Sound.{member, all_below, dirty_numbers}
use Rattle.promises.specs.CleanStep.{NoLater}
use Rattle.promises.proofs.Soundness.{Sound}
use Rattle.promises.proofs.Table.{look_up-set}
use Rattle.soundness.proofs.Scans.{firsts_more, firsts_same, firsts-end}
use Rattle.promises.specs.States.{free, is_of}
use Rattle.table.proofs.Entries.{used-below, own-apart, first_below}
use Rattle.table.proofs.Scans.{smallest-more, smallest-same}
use Rattle.cleaning.specs.Cleans.{entry_at, rank_in, Named}

-- ---- ranks

pub rank-free : (named : ℕ) (entry : Dirty) → entry.first ≡ 0 → rank_in named entry ≡ 2 ^ 64 - 1
rank-free named entry e = simp (eq-eqb _ _ e)

-- where no page is named
rank-used : (entry : Dirty) → (entry.first ≡ 0 → ⊥) → entry.page < 65536 → rank_in 65536 entry ≡ entry.first * 65536 + entry.page
rank-used entry n small = simp (ne_eqb _ _ n, ne_eqb 65536 entry.page (λ e. omega arith))

-- ---- searches that end with the last dirty page

-- while pages are left among 32 entries, an entry is
pub entry-left : (ds : List Dirty) (left i : ℕ) → length ds ≡ 32 → left ≡ length (first_groups (drop i ds)) → 0 < left → i < 32
entry-left ds left i long is some = either i 32 (λ l. l) (λ l. absurd (omega (arith, ap length (firsts-end ds i (omega arith)))))

-- the count of those that are left, past an entry in use or free
module _ (ds : List Dirty) (left i : ℕ) (e : left ≡ length (first_groups (drop i ds))) (h : i < length ds) where
  pub left-used : ((get_or ds i free).first ≡ 0 → ⊥) → left - 1 ≡ length (first_groups (drop (i + 1) ds))
  left-used n = omega (arith, ap length (firsts_more ds i h n))

  pub left-free : (get_or ds i free).first ≡ 0 → left ≡ length (first_groups (drop (i + 1) ds))
  left-free z = omega (arith, ap length (firsts_same ds i h z))

-- a search for the least rank: it is no more than any that is passed, and that of the best frame, or the greatest
pub record Leads (named : ℕ) (ds : List Dirty) (best least i : ℕ) : Type 0 where
  pub passed : (j : ℕ) → j < i → (least ≤ rank_in named (get_or ds j free)) × (rank_in named (get_or ds j free) ≤ 2 ^ 64 - 1)
  pub reached : min (rank_in named (get_or ds best free)) (2 ^ 64 - 1) ≤ least
  pub most : least ≤ 2 ^ 64 - 1

pub leads-start : (named : ℕ) (ds : List Dirty) → Leads named ds 0 (2 ^ 64 - 1) 0
leads-start named ds = record { passed = λ j h. absurd (omega arith); reached = omega arith; most = omega arith }

module _ (named : ℕ) (ds : List Dirty) (best least i : ℕ) (l : Leads named ds best least i) where
  -- one more frame is seen
  passed-more : (low own : ℕ) → own ≡ rank_in named (get_or ds i free) → own ≤ 2 ^ 64 - 1 → low ≤ least → low ≤ own → (j : ℕ) → j < i + 1
      → (low ≤ rank_in named (get_or ds j free)) × (rank_in named (get_or ds j free) ≤ 2 ^ 64 - 1)
  passed-more low own e few h k j below =
      by-eq j i (λ q. let same = ap (λ (n : ℕ). rank_in named (get_or ds n free)) q in (omega (arith, same), omega (arith, same)))
      (λ n. let p = l.passed j (omega arith) in (omega (arith, p.0), p.1))

  pub leads-lower : (own : ℕ) → own ≡ rank_in named (get_or ds i free) → own < least → Leads named ds i own (i + 1)
  leads-lower own e h =
      record { passed = passed-more own own e (omega (arith, l.most)) (omega arith) (omega arith); reached = omega arith; most = omega (arith, l.most) }

  pub leads-kept : (own : ℕ) → own ≡ rank_in named (get_or ds i free) → own ≤ 2 ^ 64 - 1 → least ≤ own → Leads named ds best least (i + 1)
  leads-kept own e few h = record { passed = passed-more least own e few (omega arith) h; reached = l.reached; most = l.most }

  pub leads-free : (get_or ds i free).first ≡ 0 → Leads named ds best least (i + 1)
  leads-free z = leads-kept (2 ^ 64 - 1) (sym (rank-free named (get_or ds i free) z)) (omega arith) l.most

  -- nothing comes before rank 0
  pub leads-all : least ≡ 0 → (j : ℕ) → rank_in named (get_or ds best free) ≤ rank_in named (get_or ds j free)
  leads-all z j = omega (arith, l.reached)

  -- those that are left are free
  module _ (none : length (first_groups (drop i ds)) ≡ 0) where
    best-few : rank_in named (get_or ds best free) ≤ 2 ^ 64 - 1
    best-few =
        by-eq (get_or ds best free).first 0 (λ z. omega (arith, rank-free named (get_or ds best free) z)) (λ n. (l.passed best (used-below i ds best none n)).1)

    pub leads-end : (j : ℕ) → rank_in named (get_or ds best free) ≤ rank_in named (get_or ds j free)
    leads-end j =
        by-eq (get_or ds j free).first 0 (λ z. omega (arith, best-few, rank-free named (get_or ds j free) z))
        (λ n. omega (arith, best-few, l.reached, (l.passed j (used-below i ds j none n)).0))

-- ---- the rank of a named page

-- rank 0 is that of the named page
pub rank-zero : (named : ℕ) (entry : Dirty) → rank_in named entry ≡ 0 → is_of named entry ≡ true
rank-zero named entry e = go (eqb entry.first 0) (eqb named entry.page) refl e
  where
    go : (t u : Bool) → eqb entry.first 0 ≡ t → cond t (2 ^ 64 - 1) (cond u 0 (entry.first * 65536 + entry.page)) ≡ 0 → (not t && u) ≡ true
    go true u z h = absurd (omega arith)
    go false true z h = refl
    go false false z h = absurd (eqb-false entry.first 0 z (omega arith))

pub rank-named : (named : ℕ) (entry : Dirty) → is_of named entry ≡ true → rank_in named entry ≡ 0
rank-named named entry e = go (eqb entry.first 0) (eqb named entry.page) e
  where
    go : (t u : Bool) → (not t && u) ≡ true → cond t (2 ^ 64 - 1) (cond u 0 (entry.first * 65536 + entry.page)) ≡ 0
    go true u h = absurd (never_both true refl (sym h))
    go false true h = refl
    go false false h = absurd (never_both true refl (sym h))

-- a dirty page is in a frame
pub dirty-at : (page : ℕ) (ds : List Dirty) (C : Type 0) → member page (dirty_numbers ds) ≡ true → ((frame : ℕ) → is_of page (get_or ds frame free) ≡ true → C) → C
unfolding dirty_numbers
dirty-at page [] C m k = absurd (never_both true refl (sym m))
dirty-at page (d ∷ ds) C m k = go (eqb d.first 0) (eqb page d.page) refl refl m (dirty-at page ds C)
  where
    go : (t u : Bool) → eqb d.first 0 ≡ t → eqb page d.page ≡ u → member page (unless t d.page (dirty_numbers ds)) ≡ true
        → (member page (dirty_numbers ds) ≡ true → ((frame : ℕ) → is_of page (get_or ds frame free) ≡ true → C) → C) → C
    go true u e f m ih = ih m (λ frame. k (suc frame))
    go false true e f m ih = k 0 (rw (e, f))
    go false false e f m ih = ih (rw f at m) (λ frame. k (suc frame))

-- ---- a search for the oldest first group, one frame taken as free

-- one more entry: in use, of the frame that is taken as free, or free
module _ (low : ℕ) (ds : List Dirty) (frame i : ℕ) (h : i < length ds) where
  long : i < length (set ds frame free)
  long = lt-length-set ds frame free h

  same-first : (i ≡ frame → ⊥) → (get_or ds i free).first ≡ (get_or (set ds frame free) i free).first
  same-first m = ap (λ (d : Dirty). d.first) (sym (get_or-set_other ds frame i free free m))

  pub lower-but : ((get_or ds i free).first ≡ 0 → ⊥) → (i ≡ frame → ⊥)
      → smallest (min low (get_or ds i free).first) (first_groups (drop (i + 1) (set ds frame free))) ≡ smallest low (first_groups (drop i (set ds frame free)))
  lower-but n m =
      ap (λ (x : ℕ). smallest (min low x) (first_groups (drop (i + 1) (set ds frame free)))) (same-first m)
      ∙ smallest-more low (set ds frame free) i long (λ z. n (same-first m ∙ z))

  pub own-but : i ≡ frame → smallest low (first_groups (drop (i + 1) (set ds frame free))) ≡ smallest low (first_groups (drop i (set ds frame free)))
  own-but q =
      smallest-same low (set ds frame free) i long
      (ap (λ (d : Dirty). d.first) (ap (λ (j : ℕ). get_or (set ds j free) i free) (sym q) ∙ get_or-set_same ds i free free h))

  pub free-but : (get_or ds i free).first ≡ 0 → smallest low (first_groups (drop (i + 1) (set ds frame free))) ≡ smallest low (first_groups (drop i (set ds frame free)))
  free-but z = by-eq i frame own-but (λ m. smallest-same low (set ds frame free) i long (sym (same-first m) ∙ z))

smallest-none : (low : ℕ) (xs : List ℕ) → length xs ≡ 0 → smallest low xs ≡ low
smallest-none low [] e = refl
smallest-none low (x ∷ xs) e = absurd (omega arith)

-- none is in use from i on, the more so once one is free
none-but : (i : ℕ) (ds : List Dirty) (frame : ℕ) → length (first_groups (drop i ds)) ≡ 0 → length (first_groups (drop i (set ds frame free))) ≡ 0
unfolding first_groups
none-but zero [] frame e = e
none-but zero (d ∷ ds) zero e = go (eqb d.first 0) e
  where
    go : (t : Bool) → length (unless t d.first (first_groups ds)) ≡ 0 → length (first_groups ds) ≡ 0
    go true e = e
    go false e = absurd (omega arith)
none-but zero (d ∷ ds) (suc frame) e = go (eqb d.first 0) e (none-but zero ds frame)
  where
    go : (t : Bool) → length (unless t d.first (first_groups ds)) ≡ 0 → (length (first_groups ds) ≡ 0 → length (first_groups (set ds frame free)) ≡ 0)
        → length (unless t d.first (first_groups (set ds frame free))) ≡ 0
    go true e ih = ih e
    go false e ih = absurd (omega arith)
none-but (suc i) [] frame e = e
none-but (suc i) (d ∷ ds) zero e = e
none-but (suc i) (d ∷ ds) (suc frame) e = none-but i ds frame e

pub lowest-but : (low i : ℕ) (ds : List Dirty) (frame : ℕ) → length (first_groups (drop i ds)) ≡ 0 → smallest low (first_groups (drop i (set ds frame free))) ≡ low
lowest-but low i ds frame e = smallest-none low (first_groups (drop i (set ds frame free))) (none-but i ds frame e)

-- ---- one entry of those that soundness speaks of

page-at : (pages : ℕ) (ds : List Dirty) (i : ℕ) → all_below pages (dirty_numbers ds) ≡ true → ((get_or ds i free).first ≡ 0 → ⊥) → (get_or ds i free).page < pages
unfolding dirty_numbers
page-at pages [] i h n = absurd (n refl)
page-at pages (d ∷ ds) i h n = go (eqb d.first 0) refl h (page-at pages ds) i n
  where
    go : (t : Bool) → eqb d.first 0 ≡ t → all_below pages (unless t d.page (dirty_numbers ds)) ≡ true
        → ((i : ℕ) → all_below pages (dirty_numbers ds) ≡ true → ((get_or ds i free).first ≡ 0 → ⊥) → (get_or ds i free).page < pages)
        → (i : ℕ) → ((get_or (d ∷ ds) i free).first ≡ 0 → ⊥) → (get_or (d ∷ ds) i free).page < pages
    go true e h ih zero n = absurd (n (eqb-true _ _ e))
    go true e h ih (suc i) n = ih i h n
    go false e h ih zero n = ltb-true _ _ (and_both (ltb d.page pages) (all_below pages (dirty_numbers ds)) h).0
    go false e h ih (suc i) n = ih i (and_both (ltb d.page pages) (all_below pages (dirty_numbers ds)) h).1 n

-- every frame is free: no page is dirty
none-used : (ds : List Dirty) → ((i : ℕ) → i < length ds → (get_or ds i free).first ≡ 0) → length (first_groups ds) ≡ 0
unfolding first_groups
none-used [] h = refl
none-used (d ∷ ds) h = simp (eq-eqb _ _ (h 0 (omega arith))) (none-used ds (λ i l. h (suc i) (omega arith)))

-- ---- the frame that comes first
module _ (s : State) (f : Sound s) where
  pub firsts-small : (frame : ℕ) → (entry_at s frame).first < 2 ^ 48
  firsts-small frame = omega (arith, first_below s.next s.dirty frame (omega (arith, f.ticket)) f.firsts_below, f.sequence_sum)

  pub pages-small : (frame : ℕ) → ((entry_at s frame).first ≡ 0 → ⊥) → (entry_at s frame).page < s.pages
  pages-small frame n = page-at s.pages s.dirty frame f.pages_below n

  -- no page is numbered 65,536
  page-fits : (frame : ℕ) → ((entry_at s frame).first ≡ 0 → ⊥) → (entry_at s frame).page < 65536
  page-fits frame n = omega (arith, pages-small frame n, f.pages.1)

  pub frames-below : (frame : ℕ) → ((entry_at s frame).first ≡ 0 → ⊥) → frame < s.frames
  frames-below frame n = used-below s.frames s.dirty frame f.frames_below n

  -- a rank as low as any other's is that of a frame in use, if any is
  pub first-used : (frame : ℕ) → (dirty_count s ≡ 0 → ⊥)
      → ((other : ℕ) → other < length s.dirty → rank_in 65536 (entry_at s frame) ≤ rank_in 65536 (entry_at s other)) → (entry_at s frame).first ≡ 0 → ⊥
  first-used frame some least z = some (none-used s.dirty all-free)
    where
      all-free : (i : ℕ) → i < length s.dirty → (get_or s.dirty i free).first ≡ 0
      all-free i h =
          by-eq (entry_at s i).first 0 (λ e. e)
          (λ n. absurd (omega (arith, least i h, rank-free 65536 (entry_at s frame) z, rank-used (entry_at s i) n (page-fits i n), firsts-small i, pages-small i n, f.pages.1)))

  -- a lower rank comes no later in the order of cleaning
  pub rank-order : (frame other : ℕ) → ((entry_at s frame).first ≡ 0 → ⊥) → ((entry_at s other).first ≡ 0 → ⊥) → rank_in 65536 (entry_at s frame) ≤ rank_in 65536 (entry_at s other)
      → NoLater (entry_at s frame).first (entry_at s frame).page (entry_at s other).first (entry_at s other).page
  rank-order frame other n m h =
      let r = rank-used (entry_at s frame) n (page-fits frame n) in
      let r' = rank-used (entry_at s other) m (page-fits other m) in
      either (entry_at s frame).first (entry_at s other).first (λ l. inl l)
      (λ l. inr (omega (arith, r, r', page-fits other m), omega (arith, r, r', page-fits other m, page-fits frame n)))

  -- ---- the frame of a named page
  pub named_here : (page frame : ℕ) → is_of page (entry_at s frame) ≡ true → Named s page frame
  named_here page frame e =
      let both = and_both (not (eqb (entry_at s frame).first 0)) (eqb page (entry_at s frame).page) e in
      let used : (entry_at s frame).first ≡ 0 → ⊥ = eqb-false _ _ (not-true _ both.0) in
      record { below = frames-below frame used; used = used; page_is = eqb-true _ _ both.1 }

  -- ---- looking pages up

  -- a frame's page is found with its first group and the frame's bytes
  pub look-frame : (frames : List ℕ) (frame : ℕ) → frame < length s.dirty → ((entry_at s frame).first ≡ 0 → ⊥)
      → look_up (entry_at s frame).page (dirty_from frames 0 s.dirty) ≡ at (record { page = (entry_at s frame).page; first = (entry_at s frame).first; bytes = page_at frames frame })
  look-frame frames frame h n =
      let d : Dirty = entry_at s frame in
      let z : eqb d.first 0 ≡ false = ne_eqb _ _ n in
      let own : 0 + frame ≡ frame = omega arith in
      ap (λ (ds : List Dirty). look_up d.page (dirty_from frames 0 ds)) (sym (set-get_or s.dirty frame free))
      ∙ look_up-set d.page frames frames 0 frame s.dirty d h (λ g q. refl) (λ e. own-apart frame s.dirty f.distinct_pages z)
      ∙ rw (z, eq-eqb d.page d.page refl, own)

-- what holds of every frame in use holds of a page that is found
pub look-all : (P : ℕ → ℕ → Type 0) (p : ℕ) (e : DirtyPage) (frames : List ℕ) (g : ℕ) (ds : List Dirty)
    → ((i : ℕ) → i < length ds → ((get_or ds i free).first ≡ 0 → ⊥) → P (get_or ds i free).first (get_or ds i free).page) → look_up p (dirty_from frames g ds) ≡ at e → P e.first p
unfolding dirty_from look_up
look-all P p e frames g [] h q = let y : ◌≡◌ {A = ℕ} 0 1 = cc in absurd (omega arith)
look-all P p e frames g (d ∷ ds) h q = go (look-all P p e frames (suc g) ds (λ i l n. h (suc i) (omega arith) n)) (eqb d.first 0) refl q
  where
    by : (look_up p (dirty_from frames (suc g) ds) ≡ at e → P e.first p) → (t : Bool) → eqb p d.page ≡ t → (x : DirtyPage) → P x.first d.page
        → cond t (at x) (look_up p (dirty_from frames (suc g) ds)) ≡ at e → P e.first p
    by ih true o x l q = let same : x ≡ e = cc in subst (λ (y : DirtyPage). P y.first p) same (subst (P x.first) (sym (eqb-true p d.page o)) l)
    by ih false o x l q = ih q

    go : (look_up p (dirty_from frames (suc g) ds) ≡ at e → P e.first p) → (t : Bool) → eqb d.first 0 ≡ t
        → look_up p (unless t (record { page = d.page; first = d.first; bytes = page_at frames g }) (dirty_from frames (suc g) ds)) ≡ at e → P e.first p
    go ih true z q = ih q
    go ih false z q = by ih (eqb p d.page) refl _ (h 0 (omega arith) (eqb-false _ _ z)) q
