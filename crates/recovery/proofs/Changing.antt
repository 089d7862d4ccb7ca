-- What the code's tests make of a walk: an update, a clean and a commit, branch by branch.
-- Assumes nothing.
use mathlib.Core.Path.{◌≡◌, sym, ap, ◌∙◌, subst}
use mathlib.Core.Bool.{Bool, true, false, cond}
use mathlib.Core.List.{List}
use Prim.Native.Nat.{ℕ}
use lib.Dec.{eqb}
use Rattle.area.proofs.Laws.{never_both}
use Rattle.promises.specs.Blocks.{update, clean}
use Rattle.promises.specs.LogStep.{no_update}
use Rattle.table.specs.declared.Table.{Table}
use Rattle.table.specs.Table.{Drops}
use Rattle.recovery.specs.Walking.{Walk, refused_at, half_at, closed_with, walk_fits, updated, Cleans, Commits}

-- ---- an update

module _ (walk : Walk) (s index ticket : ℕ) where
  pub updated-wrong : walk_fits walk (update index no_update) ticket ≡ false → refused_at walk 8 s ≡ updated walk s index ticket
  unfolding updated
  updated-wrong e = rw e

  pub updated-first : walk_fits walk (update index no_update) ticket ≡ true → eqb index 1 ≡ true → half_at walk s 1 ≡ updated walk s index ticket
  unfolding updated
  updated-first e f = sym (ap (λ (b : Bool). cond b (cond (eqb index 1) (half_at walk s 1) (half_at walk walk.stage.start index)) (refused_at walk 8 s)) e
      ∙ ap (λ (b : Bool). cond b (half_at walk s 1) (half_at walk walk.stage.start index)) f)

  pub updated-next : walk_fits walk (update index no_update) ticket ≡ true → eqb index 1 ≡ false → half_at walk walk.stage.start index ≡ updated walk s index ticket
  unfolding updated
  updated-next e f = sym (ap (λ (b : Bool). cond b (cond (eqb index 1) (half_at walk s 1) (half_at walk walk.stage.start index)) (refused_at walk 8 s)) e
      ∙ ap (λ (b : Bool). cond b (half_at walk s 1) (half_at walk walk.stage.start index)) f)

-- ---- a clean

module _ (walk : Walk) (s page ticket : ℕ) (r : Walk) where
  pub cleans-right : (t : Table) → walk_fits walk (clean page) ticket ≡ true → Drops walk.table page t → r ≡ closed_with walk walk.stage.ticket t
      → Cleans walk s page ticket r
  cleans-right t q d e = record { wrong = λ f. absurd (never_both _ q f); right = λ f. (t, d, e) }

-- ---- a commit and a clean

-- the ticket, as the header tells it
pub commits-as : (log home : List ℕ) (walk : Walk) (frames : List ℕ) (s updates ticket ticket' : ℕ) (r : Walk) (frames' : List ℕ) → ticket ≡ ticket'
    → Commits log home walk frames s updates ticket r frames' → Commits log home walk frames s updates ticket' r frames'
commits-as log home walk frames s updates ticket ticket' r frames' e x =
    subst (λ (t : ℕ). Commits log home walk frames s updates t r frames') e x

pub cleans-as : (walk : Walk) (s page ticket ticket' : ℕ) (r : Walk) → ticket ≡ ticket' → Cleans walk s page ticket r → Cleans walk s page ticket' r
cleans-as walk s page ticket ticket' r e x = subst (λ (t : ℕ). Cleans walk s page t r) e x
