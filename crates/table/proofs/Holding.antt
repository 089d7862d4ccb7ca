-- What it means that a table holds dirty pages: counts, keep-from, an empty table, a sound state's table, and what soundness asks of one.
-- Assumes nothing.
use mathlib.Core.Path.{◌≡◌, refl, sym, ap, ◌∙◌, subst}
use mathlib.Core.Bool.{Bool, true, false}
use mathlib.Core.List.{List, [], ◌∷◌}
use Prim.Native.Nat.{ℕ, zero, suc, ◌<◌}
use native.Mathlib.Omega.{arith}
use lib.Dec.{eqb}
use lib.ListN.{length, replicate}
use borrow.Author.Tests.{eqb-true, eqb-false, ne_eqb, lt-ltb}
use Rattle.area.proofs.Laws.{and2, by_cases}
use Rattle.promises.specs.declared.State.{State}
use Rattle.promises.specs.declared.Dirty.{Dirty}
use Rattle.promises.specs.Areas.{page_at}
use Rattle.promises.specs.Updates.{Update}
use Rattle.promises.specs.DirtyPages.{DirtyPage, absent, at, look_up, apply, without, keep_from_of}
use Rattle.promises.specs.Contents.{unless, dirty_from, dirty_of}
use Rattle.promises.specs.Sums.{first_groups, smallest}
use Rattle.promises.specs.Sound.{sound_as, distinct, all_below, dirty_numbers, sound}
use Rattle.promises.proofs.Soundness.{SoundAs, sound-as-of}
use Rattle.promises.proofs.SoundFacts.{length-dirty, keep_from-dirty, distinct-dirty}
use Rattle.promises.proofs.History.WalkStart.{Distinct, look_up-head}
use Rattle.table.specs.declared.Table.{Table}
use Rattle.promises.specs.States.{free}
use Rattle.table.specs.Table.{empty_table, Holds}
pub use Rattle.table.specs.Table.{Each}
use Rattle.promises.proofs.SameDirty.{same_count, same-keep}
use Rattle.table.proofs.LookUps.{distinct_of, of-distinct}
use Rattle.table.proofs.Entries.{free-groups}

-- ---- D and keep-from of what a table holds

module _ (table : Table) (frames : List ℕ) (entries : List DirtyPage) (h : Holds table frames entries) where
  pub held-distinct : Distinct (dirty_from frames 0 table.dirty)
  held-distinct = distinct-dirty frames 0 table.dirty h.table_distinct

  pub held-count : length (first_groups table.dirty) ≡ length entries
  held-count =
      sym (length-dirty frames 0 table.dirty)
      ∙ same_count entries (dirty_from frames 0 table.dirty) (distinct_of entries h.entries_distinct) held-distinct h.looks

  pub held-keep : (own : ℕ) → smallest own (first_groups table.dirty) ≡ keep_from_of own entries
  held-keep own =
      sym (keep_from-dirty own frames 0 table.dirty)
      ∙ same-keep own entries (dirty_from frames 0 table.dirty) (distinct_of entries h.entries_distinct) held-distinct h.looks

-- ---- a table without a dirty page

empty-looks : (frames : List ℕ) (f n p : ℕ) → look_up p (dirty_from frames f (replicate n free)) ≡ absent
unfolding dirty_from look_up
empty-looks frames f zero p = refl
empty-looks frames f (suc n) p = empty-looks frames (suc f) n p

empty-numbers : (n : ℕ) → distinct (dirty_numbers (replicate n free)) ≡ true
unfolding dirty_numbers
empty-numbers zero = refl
empty-numbers (suc n) = empty-numbers n

pub empty_holds : (count : ℕ) (frames : List ℕ) → Holds (empty_table count) frames []
unfolding look_up
empty_holds count frames =
    record { looks = empty-looks frames 0 32; table_distinct = empty-numbers 32; entries_distinct = refl; within = free-groups 32 count }

-- ---- the table of a sound state holds its dirty pages

abbrev pub table_of : State → Table
table_of state = record { count = state.frames; full = false; dirty = state.dirty }

pub sound-holds-as : (copy : Bool) (state : State) (frames : List ℕ) → sound_as copy state ≡ true → Holds (table_of state) frames (dirty_of state frames)
sound-holds-as copy state frames h =
    let f : SoundAs copy state = sound-as-of copy state h in
    record {
      looks = λ p. refl;
      table_distinct = f.distinct_pages;
      entries_distinct = of-distinct (dirty_of state frames) (distinct-dirty frames 0 state.dirty f.distinct_pages);
      within = f.frames_below;
    }

pub sound-holds : (state : State) (frames : List ℕ) → sound state ≡ true → Holds (table_of state) frames (dirty_of state frames)
sound-holds state frames h = sound-holds-as false state frames h

-- ---- every entry has a page and a first group of some kind

module _ (Q : ℕ → ℕ → Type 0) where
  pub each-apply : (group : ℕ) (home : ℕ → List ℕ) (u : Update) (es : List DirtyPage) → Q u.page group → Each Q es → Each Q (apply group home u es)
  unfolding apply
  each-apply group home u [] q x = (q, tt)
  each-apply group home u (e ∷ es) q x =
      by_cases (eqb u.page e.page)
      (λ t. rw t x)
      (λ t. rw t (x.0, each-apply group home u es q x.1))

  pub each-without : (page : ℕ) (es : List DirtyPage) → Each Q es → Each Q (without page es)
  unfolding without
  each-without page [] x = tt
  each-without page (e ∷ es) x =
      by_cases (eqb page e.page)
      (λ t. rw t (each-without page es x.1))
      (λ t. rw t (x.0, each-without page es x.1))

  pub each-found : (p : ℕ) (e : DirtyPage) (es : List DirtyPage) → Each Q es → look_up p es ≡ at e → Q e.page e.first
  unfolding look_up
  each-found p e [] x h = let y : ◌≡◌ {A = ℕ} 0 1 = cc in absurd (omega arith)
  each-found p e (y ∷ es) x h =
      by_cases (eqb p y.page)
      (λ t. subst (λ (z : DirtyPage). Q z.page z.first) (same_at y e (rw t at h)) x.0)
      (λ t. each-found p e es x.1 (rw t at h))
    where
      same_at : (a b : DirtyPage) → at a ≡ at b → a ≡ b
      same_at a b e = cc

-- what holds of all that is looked up holds of every entry
found-each : (Q : ℕ → ℕ → Type 0) (es : List DirtyPage) → Distinct es → ((p : ℕ) (e : DirtyPage) → look_up p es ≡ at e → Q e.page e.first) → Each Q es
found-each Q [] d f = tt
found-each Q (e ∷ es) d f = (f e.page e (look_up-head e es), found-each Q es d.1 (λ p x h. f p x (later p x h)))
  where
    later : (p : ℕ) (x : DirtyPage) → look_up p es ≡ at x → look_up p (e ∷ es) ≡ at x
    later p x h =
        by_cases (eqb p e.page)
        (λ t. let z : absent ≡ at x = sym (ap (λ (q : ℕ). look_up q es) (eqb-true p e.page t) ∙ d.0) ∙ h in
        let y : ◌≡◌ {A = ℕ} 0 1 = cc in absurd (omega arith))
        (λ t. tail p (eqb-false p e.page t) ∙ h)
      where
        tail : (q : ℕ) → (q ≡ e.page → ⊥) → look_up q (e ∷ es) ≡ look_up q es
        tail q n = unfold look_up in rw (ne_eqb q e.page n)

-- what a table that holds entries gives back for soundness: pages and first groups below their ends
module _ (pages next : ℕ) where
  abbrev pub Below : ℕ → ℕ → Type 0
  Below page first = (page < pages) × (first < next)

  table_below : (frames : List ℕ) (f : ℕ) (ds : List Dirty) → Each Below (dirty_from frames f ds)
      → (all_below pages (dirty_numbers ds) ≡ true) × (all_below next (first_groups ds) ≡ true)
  unfolding dirty_from dirty_numbers first_groups
  table_below frames f [] x = (refl, refl)
  table_below frames f (d ∷ ds) x = go (eqb d.first 0) x (table_below frames (suc f) ds)
    where
      go : (b : Bool) → Each Below (unless b (record { page = d.page; first = d.first; bytes = page_at frames f }) (dirty_from frames (suc f) ds))
          → (Each Below (dirty_from frames (suc f) ds) → (all_below pages (dirty_numbers ds) ≡ true) × (all_below next (first_groups ds) ≡ true))
          → (all_below pages (unless b d.page (dirty_numbers ds)) ≡ true) × (all_below next (unless b d.first (first_groups ds)) ≡ true)
      go true x ih = ih x
      go false x ih = let r = ih x.1 in (and2 (lt-ltb _ _ x.0.0) r.0, and2 (lt-ltb _ _ x.0.1) r.1)

  pub held_below : (table : Table) (frames : List ℕ) (entries : List DirtyPage) → Holds table frames entries → Each Below entries
      → (all_below pages (dirty_numbers table.dirty) ≡ true) × (all_below next (first_groups table.dirty) ≡ true)
  held_below table frames entries h x =
      table_below frames 0 table.dirty
      (found-each Below (dirty_from frames 0 table.dirty) (held-distinct table frames entries h)
      (λ p e l. each-found Below p e entries x (sym (h.looks p) ∙ l)))
