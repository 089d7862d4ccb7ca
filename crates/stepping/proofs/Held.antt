-- Dirty pages that a table holds: what a sound state's pages keep under updates, and which pages are named.
-- Assumes nothing.
use mathlib.Core.Path.{◌≡◌, refl, sym, ◌∙◌}
use mathlib.Core.Bool.{Bool, true, false, cond, ◌||◌}
use mathlib.Core.List.{List, [], ◌∷◌}
use Prim.Native.Nat.{ℕ, suc, ◌≤◌}
use native.Mathlib.Omega.{arith}
use lib.Dec.{eqb, ltb}
use borrow.Author.Tests.{ltb-true}
use Rattle.area.proofs.Laws.{and_both, by_cases}
use Rattle.promises.specs.declared.Dirty.{Dirty}
use Rattle.promises.specs.Areas.{page_at}
use Rattle.promises.specs.Updates.{Update}
use Rattle.promises.specs.DirtyPages.{DirtyPage, absent, at, look_up, apply, apply_all, keep_from_of}
use Rattle.promises.specs.Contents.{unless, dirty_from}
use Rattle.promises.specs.Sums.{first_groups}
use Rattle.promises.specs.Sound.{member, all_below, dirty_numbers}
use Rattle.promises.proofs.Table.{found-absent, look_up-none}
use Rattle.table.specs.declared.Table.{Table}
use Rattle.table.specs.Table.{Holds}
use Rattle.table.proofs.Holding.{Each, Below, each-apply}

-- ---- pages that are found

-- a page that is not found is not named
pub look-unnamed : (p : ℕ) (frames : List ℕ) (f : ℕ) (ds : List Dirty) → look_up p (dirty_from frames f ds) ≡ absent → member p (dirty_numbers ds) ≡ false
unfolding dirty_from dirty_numbers look_up
look-unnamed p frames f [] h = refl
look-unnamed p frames f (d ∷ ds) h = go (look-unnamed p frames (suc f) ds) (eqb d.first 0) h
  where
    Rest : Type 0
    Rest = look_up p (dirty_from frames (suc f) ds) ≡ absent → member p (dirty_numbers ds) ≡ false

    by : Rest → (b : Bool) (x : DirtyPage) → cond b (at x) (look_up p (dirty_from frames (suc f) ds)) ≡ absent → (b || member p (dirty_numbers ds)) ≡ false
    by ih true x h = found-absent x h
    by ih false x h = ih h

    go : Rest → (b : Bool) → look_up p (unless b (record { page = d.page; first = d.first; bytes = page_at frames f }) (dirty_from frames (suc f) ds)) ≡ absent
        → member p (unless b d.page (dirty_numbers ds)) ≡ false
    go ih true h = ih h
    go ih false h = by ih (eqb p d.page) _ h

-- a page that is found among what a table holds is named there
pub held-named : (table : Table) (frames : List ℕ) (entries : List DirtyPage) → Holds table frames entries → (p : ℕ) (e : DirtyPage) → look_up p entries ≡ at e
    → member p (dirty_numbers table.dirty) ≡ true
held-named table frames entries holds p e h =
    by_cases (member p (dirty_numbers table.dirty)) (λ t. t)
    (λ t. found-absent e (sym h ∙ sym (holds.looks p) ∙ look_up-none p frames 0 table.dirty t))

-- ---- what holds of every entry

-- each page that some updates change
abbrev pub Changed : (ℕ → Type 0) → List Update → Type 0
Changed good [] = Unit {0}
Changed good (u ∷ us) = good u.page × Changed good us

-- updates of a group keep it, if it holds of each page that they change with the group's start
pub each_all : (Q : ℕ → ℕ → Type 0) (group : ℕ) (home : ℕ → List ℕ) (us : List Update) (es : List DirtyPage) → Changed (λ p. Q p group) us → Each Q es
    → Each Q (apply_all group home us es)
unfolding apply_all
each_all Q group home [] es c x = x
each_all Q group home (u ∷ us) es c x = each_all Q group home us (apply group home u es) c.1 (each-apply Q group home u es c.0 x)

-- pages and first groups below the ends that soundness has
pub each_below : (pages next : ℕ) (frames : List ℕ) (f : ℕ) (ds : List Dirty) → all_below pages (dirty_numbers ds) ≡ true → all_below next (first_groups ds) ≡ true
    → Each (Below pages next) (dirty_from frames f ds)
unfolding dirty_from dirty_numbers first_groups
each_below pages next frames f [] a b = tt
each_below pages next frames f (d ∷ ds) a b = go (each_below pages next frames (suc f) ds) (eqb d.first 0) a b
  where
    go : (all_below pages (dirty_numbers ds) ≡ true → all_below next (first_groups ds) ≡ true → Each (Below pages next) (dirty_from frames (suc f) ds))
        → (t : Bool) → all_below pages (unless t d.page (dirty_numbers ds)) ≡ true → all_below next (unless t d.first (first_groups ds)) ≡ true
        → Each (Below pages next) (unless t (record { page = d.page; first = d.first; bytes = page_at frames f }) (dirty_from frames (suc f) ds))
    go ih true a b = ih a b
    go ih false a b =
        let x = and_both (ltb d.page pages) (all_below pages (dirty_numbers ds)) a in
        let y = and_both (ltb d.first next) (all_below next (first_groups ds)) b in
        ((ltb-true _ _ x.0, ltb-true _ _ y.0), ih x.1 y.1)

-- no first group is below keep-from, and keep-from is no lower than a bound of all
pub each-oldest : (k own : ℕ) (es : List DirtyPage) → k ≤ keep_from_of own es → Each (λ p first. k ≤ first) es
unfolding keep_from_of
each-oldest k own [] h = tt
each-oldest k own (e ∷ es) h = (omega arith, each-oldest k own es (omega arith))

pub oldest-each : (k own : ℕ) (es : List DirtyPage) → k ≤ own → Each (λ p first. k ≤ first) es → k ≤ keep_from_of own es
unfolding keep_from_of
oldest-each k own [] h x = h
oldest-each k own (e ∷ es) h x = omega (arith, x.0, oldest-each k own es h x.1)
