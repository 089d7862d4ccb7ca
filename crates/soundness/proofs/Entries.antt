-- Entry by entry, the tests of the dirty pages and of the waiting updates are the clauses of soundness.
-- Assumes nothing.
use mathlib.Core.Path.{◌≡◌, refl, sym, ◌∙◌}
use mathlib.Core.Bool.{true, false, ◌&&◌}
use mathlib.Core.List.{List, [], ◌∷◌}
use Prim.Native.Nat.{ℕ, suc, ◌-◌, ◌<◌}
use native.Mathlib.Omega.{arith}
use lib.Dec.{eqb, ltb}
use lib.ListN.{length, drop}
use lib.Seq.{drop-nil}
use borrow.Author.Tests.{ltb-true, lt-ltb}
use Rattle.area.proofs.Laws.{and_both, and2, by_cases, either}
use Rattle.block.specs.Legal.{legal_place}
use Rattle.promises.specs.declared.Dirty.{Dirty}
use Rattle.promises.specs.declared.Staged.{Staged}
use Rattle.promises.specs.Sums.{first_groups}
use Rattle.promises.specs.Sound.{all_below, dirty_numbers, areas_of, all_legal}
use Rattle.soundness.specs.Tests.{entry_legal, entries_legal, staged_legal, updates_legal}

module _ (pages frames next : ℕ) where
  -- the clauses over the entries of the frames from a number on
  pub record Entries (frame : ℕ) (entries : List Dirty) : Type 0 where
    pub pages_below : all_below pages (dirty_numbers entries) ≡ true
    pub frames_below : length (first_groups (drop (frames - frame) entries)) ≡ 0
    pub firsts_below : all_below next (first_groups entries) ≡ true

  -- ---- a free frame
  free-below : (frame : ℕ) (entry : Dirty) (later : List Dirty) → eqb entry.first 0 ≡ true
      → length (first_groups (drop (frames - frame) (entry ∷ later))) ≡ length (first_groups (drop (frames - suc frame) later))
  unfolding first_groups
  free-below frame entry later t =
      either frame frames
      (λ l. let e : frames - frame ≡ suc (frames - suc frame) = omega arith in rw e)
      (λ l. let e : frames - frame ≡ 0 = omega arith in let f : frames - suc frame ≡ 0 = omega arith in rw (e, f, t))

  -- ---- a frame that holds a page
  held_below : (frame : ℕ) (entry : Dirty) (later : List Dirty) → frame < frames
      → length (first_groups (drop (frames - frame) (entry ∷ later))) ≡ length (first_groups (drop (frames - suc frame) later))
  held_below frame entry later l = let e : frames - frame ≡ suc (frames - suc frame) = omega arith in rw e

  held-frame : (frame : ℕ) (entry : Dirty) (later : List Dirty) → eqb entry.first 0 ≡ false
      → length (first_groups (drop (frames - frame) (entry ∷ later))) ≡ 0 → frame < frames
  unfolding first_groups
  held-frame frame entry later t h =
      either frame frames (λ l. l)
      (λ l. let e : frames - frame ≡ 0 = omega arith in let z : suc (length (first_groups later)) ≡ 0 = rw (e, t) at h in absurd (omega arith))

  pub entries-of : (frame : ℕ) (entries : List Dirty) → entries_legal pages frames next frame entries ≡ true → Entries frame entries
  unfolding entries_legal dirty_numbers first_groups
  entries-of frame [] h = record { pages_below = refl; frames_below = rw (drop-nil (frames - frame)); firsts_below = refl }
  entries-of frame (entry ∷ later) h =
      let both = and_both (entry_legal pages frames next frame entry) (entries_legal pages frames next (suc frame) later) h in
      let ih = entries-of (suc frame) later both.1 in
      by_cases (eqb entry.first 0)
      (λ t. record { pages_below = rw t ih.pages_below; frames_below = free-below frame entry later t ∙ ih.frames_below; firsts_below = rw t ih.firsts_below })
      (λ t.
      let e : (ltb frame frames && ltb entry.page pages && ltb entry.first next) ≡ true = rw t at both.0 in
      let e2 = and_both (ltb frame frames && ltb entry.page pages) (ltb entry.first next) e in
      let e1 = and_both (ltb frame frames) (ltb entry.page pages) e2.0 in
      record {
        pages_below = rw t (and2 e1.1 ih.pages_below);
        frames_below = held_below frame entry later (ltb-true _ _ e1.0) ∙ ih.frames_below;
        firsts_below = rw t (and2 e2.1 ih.firsts_below);
      })

  pub of-entries : (frame : ℕ) (entries : List Dirty) → Entries frame entries → entries_legal pages frames next frame entries ≡ true
  unfolding entries_legal dirty_numbers first_groups
  of-entries frame [] f = refl
  of-entries frame (entry ∷ later) f =
      by_cases (eqb entry.first 0)
      (λ t.
      let legal : entry_legal pages frames next frame entry ≡ true = rw t in
      and2 legal (of-entries (suc frame) later (record {
        pages_below = rw t at f.pages_below;
        frames_below = sym (free-below frame entry later t) ∙ f.frames_below;
        firsts_below = rw t at f.firsts_below;
      })))
      (λ t.
      let l : frame < frames = held-frame frame entry later t f.frames_below in
      let p : (ltb entry.page pages && all_below pages (dirty_numbers later)) ≡ true = rw t at f.pages_below in
      let g : (ltb entry.first next && all_below next (first_groups later)) ≡ true = rw t at f.firsts_below in
      let p2 = and_both (ltb entry.page pages) (all_below pages (dirty_numbers later)) p in
      let g2 = and_both (ltb entry.first next) (all_below next (first_groups later)) g in
      let legal : entry_legal pages frames next frame entry ≡ true = rw t (and2 (and2 (lt-ltb _ _ l) p2.0) g2.0) in
      and2 legal (of-entries (suc frame) later (record { pages_below = p2.1; frames_below = sym (held_below frame entry later l) ∙ f.frames_below; firsts_below = g2.1 })))

module _ (pages frames : ℕ) where
  -- the clauses over updates that wait
  pub record Waiting (updates : List Staged) : Type 0 where
    pub areas_below : all_below frames (areas_of updates) ≡ true
    pub places : all_legal pages updates ≡ true

  pub waiting-of : (updates : List Staged) → updates_legal pages frames updates ≡ true → Waiting updates
  unfolding updates_legal
  waiting-of [] h = record { areas_below = refl; places = refl }
  waiting-of (x ∷ xs) h =
      let both = and_both (staged_legal pages frames x) (updates_legal pages frames xs) h in
      let ih = waiting-of xs both.1 in
      let e1 = and_both (ltb x.area frames) (legal_place pages x.page x.offset x.length) both.0 in
      record { areas_below = and2 e1.0 ih.areas_below; places = and2 e1.1 ih.places }

  pub of-waiting : (updates : List Staged) → Waiting updates → updates_legal pages frames updates ≡ true
  unfolding updates_legal
  of-waiting [] f = refl
  of-waiting (x ∷ xs) f =
      let b = and_both (ltb x.area frames) (all_below frames (areas_of xs)) f.areas_below in
      let l = and_both (legal_place pages x.page x.offset x.length) (all_legal pages xs) f.places in
      and2 (and2 b.0 l.0) (of-waiting xs (record { areas_below = b.1; places = l.1 }))
