-- Lists of dirty pages: no page twice, as a test and as a type; how many an update makes dirty.
-- Assumes nothing.
use mathlib.Core.Path.{◌≡◌, refl, ap}
use mathlib.Core.Bool.{Bool, true, false, not}
use mathlib.Core.List.{List, [], ◌∷◌}
use Prim.Native.Nat.{ℕ, suc, ◌≤◌}
use native.Mathlib.Omega.{arith}
use lib.Dec.{eqb}
use lib.ListN.{length}
use borrow.Author.Tests.{not-true}
use Rattle.area.proofs.Laws.{and_both, and2, by_cases}
use Rattle.promises.specs.Updates.{Update}
use Rattle.promises.specs.DirtyPages.{DirtyPage, absent, at, look_up, apply, apply_all}
use Rattle.promises.specs.Sound.{member, distinct}
use Rattle.promises.proofs.History.WalkStart.{Distinct}
use Rattle.table.specs.Table.{pages_of}

-- ---- no page twice, as a test and as a type

pub absent-page : (p : ℕ) (es : List DirtyPage) → member p (pages_of es) ≡ false → look_up p es ≡ absent
unfolding look_up
absent-page p [] h = refl
absent-page p (e ∷ es) h =
    by_cases (eqb p e.page)
    (λ t. let z : ◌≡◌ {A = Bool} true false = rw t at h in let y : ◌≡◌ {A = ℕ} 0 1 = cc in absurd (omega arith))
    (λ t. rw t (absent-page p es (rw t at h)))

pub page-absent : (p : ℕ) (es : List DirtyPage) → look_up p es ≡ absent → member p (pages_of es) ≡ false
unfolding look_up
page-absent p [] h = refl
page-absent p (e ∷ es) h =
    by_cases (eqb p e.page)
    (λ t. let z : at e ≡ absent = rw t at h in let y : ◌≡◌ {A = ℕ} 0 1 = cc in absurd (omega arith))
    (λ t. rw t (page-absent p es (rw t at h)))

pub distinct_of : (es : List DirtyPage) → distinct (pages_of es) ≡ true → Distinct es
distinct_of [] h = tt
distinct_of (e ∷ es) h =
    let b = and_both (not (member e.page (pages_of es))) (distinct (pages_of es)) h in
    (absent-page e.page es (not-true _ b.0), distinct_of es b.1)

pub of-distinct : (es : List DirtyPage) → Distinct es → distinct (pages_of es) ≡ true
of-distinct [] d = refl
of-distinct (e ∷ es) d = and2 (ap not (page-absent e.page es d.0)) (of-distinct es d.1)

-- ---- how many pages an update makes dirty

pub apply-new-length : (group : ℕ) (home : ℕ → List ℕ) (u : Update) (es : List DirtyPage) → look_up u.page es ≡ absent
    → length (apply group home u es) ≡ suc (length es)
unfolding apply look_up
apply-new-length group home u [] h = refl
apply-new-length group home u (e ∷ es) h =
    by_cases (eqb u.page e.page)
    (λ t. let z : at e ≡ absent = rw t at h in let y : ◌≡◌ {A = ℕ} 0 1 = cc in absurd (omega arith))
    (λ t. rw t (ap suc (apply-new-length group home u es (rw t at h))))

pub apply-grows : (group : ℕ) (home : ℕ → List ℕ) (u : Update) (es : List DirtyPage) → length es ≤ length (apply group home u es)
unfolding apply
apply-grows group home u [] = omega arith
apply-grows group home u (e ∷ es) =
    by_cases (eqb u.page e.page)
    (λ t. rw t (omega arith))
    (λ t. rw t (omega (arith, apply-grows group home u es)))

pub apply-all-grows : (group : ℕ) (home : ℕ → List ℕ) (us : List Update) (es : List DirtyPage) → length es ≤ length (apply_all group home us es)
unfolding apply_all
apply-all-grows group home [] es = omega arith
apply-all-grows group home (u ∷ us) es = omega (arith, apply-grows group home u es, apply-all-grows group home us (apply group home u es))
