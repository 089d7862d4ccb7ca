-- The updates of a group, read from their slots.
-- Assumes nothing.
use mathlib.Core.Path.{◌≡◌, refl, sym, ap, ◌∙◌, subst}
use mathlib.Core.Bool.{Bool, true, ◌&&◌}
use mathlib.Core.List.{List, [], ◌∷◌, ◌++◌}
use Prim.Native.Nat.{ℕ, zero, suc, ◌+◌, ◌-◌, ◌≤◌, ◌<◌}
use native.Mathlib.Omega.{arith}
use lib.Dec.{ltb}
use lib.ListN.{length}
use borrow.Author.Tests.{ltb-true}
use Rattle.area.proofs.Laws.{and_both, never_both}
use Rattle.block.specs.declared.Kind.{Kind}
use Rattle.block.specs.declared.Kind.TheVariants.{Update, Commit, Clean}
use Rattle.promises.specs.Updates as change
use Rattle.table.specs.declared.Table.{Table}
use Rattle.table.specs.Table.{Applies, AppliesAll}
use Rattle.table.proofs.Applying.{applies-none, applies-more}
use Rattle.recovery.specs.Log.{bytes_of, header_of, update_of, updates_from, change_in, Placed}

pub update-is : (log : List ℕ) (s : ℕ) (kind : Kind) → (header_of log s).kind ≡ kind → change_in kind (bytes_of log s) ≡ update_of log s
unfolding update_of
update-is log s kind e = ap (λ (k : Kind). change_in k (bytes_of log s)) (sym e)

-- no other kind has a place
pub unplaced : (pages : ℕ) (kind : Kind) → ((index page offset length : ℕ) → kind ≡ Update index page offset length → ⊥) → Placed pages kind → ⊥
unplaced pages (Update index page offset length) n p = n index page offset length refl
unplaced pages (Commit updates) n p = p
unplaced pages (Clean page) n p = p

pub applies-same : (t r : Table) (home frames frames' : List ℕ) (u v : change.Update) (group : ℕ) → u ≡ v → Applies t home frames u group r frames'
    → Applies t home frames v group r frames'
applies-same t r home frames frames' u v group e a = subst (λ (x : change.Update). Applies t home frames x group r frames') e a

-- one update less is left
pub group-next : (log : List ℕ) (start i count : ℕ) → i < count
    → updates_from log (start + i) (count - i) ≡ update_of log (start + i) ∷ updates_from log (start + (i + 1)) (count - (i + 1))
unfolding updates_from
group-next log start i count h =
    let e : count - i ≡ suc (count - (i + 1)) = omega arith in
    let f : suc (start + i) ≡ start + (i + 1) = omega arith in
    rw (e, ← f)

pub group-end : (log : List ℕ) (start i count : ℕ) → count ≤ i → updates_from log (start + i) (count - i) ≡ []
unfolding updates_from
group-end log start i count h = let e : count - i ≡ 0 = omega arith in rw e

-- one more update at the end
pub group-more : (log : List ℕ) (start n : ℕ) → updates_from log start (n + 1) ≡ updates_from log start n ++ (update_of log (start + n) ∷ [])
unfolding updates_from
group-more log start zero = let e : start + 0 ≡ start = omega arith in rw e
group-more log start (suc n) =
    let e : suc n + 1 ≡ suc (n + 1) = omega arith in
    let f : suc start + n ≡ start + suc n = omega arith in
    rw e (ap (λ (l : List change.Update). update_of log start ∷ l) (group-more log (suc start) n
    ∙ ap (λ (m : ℕ). updates_from log (suc start) n ++ (update_of log m ∷ [])) f))

pub group-length : (log : List ℕ) (start n : ℕ) → length (updates_from log start n) ≡ n
unfolding updates_from
group-length log start zero = refl
group-length log start (suc n) = ap suc (group-length log (suc start) n)

-- ---- a group takes effect, update by update: what is left to apply

abbrev pub LeftTo : Table → List ℕ → List ℕ → List change.Update → ℕ → Table → List ℕ → List change.Update → Type 0
LeftTo table home frames updates group t frames₁ rest =
    (r : Table) (frames' : List ℕ) → AppliesAll t home frames₁ rest group r frames' → AppliesAll table home frames updates group r frames'

pub left-next : (log : List ℕ) (table : Table) (home frames : List ℕ) (start count i : ℕ) (t t₁ : Table) (frames₁ frames₂ : List ℕ) → i < count
    → LeftTo table home frames (updates_from log start count) start t frames₁ (updates_from log (start + i) (count - i))
    → Applies t home frames₁ (update_of log (start + i)) start t₁ frames₂
    → LeftTo table home frames (updates_from log start count) start t₁ frames₂ (updates_from log (start + (i + 1)) (count - (i + 1)))
left-next log table home frames start count i t t₁ frames₁ frames₂ h f a r frames' b =
    f r frames'
    (subst (λ (us : List change.Update). AppliesAll t home frames₁ us start r frames') (sym (group-next log start i count h))
    (applies-more t t₁ r home frames₁ frames₂ frames' (update_of log (start + i)) (updates_from log (start + (i + 1)) (count - (i + 1))) start a b))

pub left-none : (log : List ℕ) (table : Table) (home frames : List ℕ) (start count i : ℕ) (t : Table) (frames₁ : List ℕ) → count ≤ i
    → LeftTo table home frames (updates_from log start count) start t frames₁ (updates_from log (start + i) (count - i))
    → AppliesAll table home frames (updates_from log start count) start t frames₁
left-none log table home frames start count i t frames₁ h f =
    f t frames₁
    (subst (λ (us : List change.Update). AppliesAll t home frames₁ us start t frames₁) (sym (group-end log start i count h)) (applies-none t home frames₁ start))

-- a group goes on while every page found a frame and an update is left
pub goes_on_lem : (fits : Bool) (i count : ℕ) → (fits && ltb i count) ≡ true → (fits ≡ true) × (i < count)
goes_on_lem fits i count e = let b = and_both fits (ltb i count) e in (b.0, ltb-true i count b.1)

-- a page found no frame: nothing happens any more
pub left-full : (table t : Table) (home frames frames₁ : List ℕ) (us rest : List change.Update) (group : ℕ) → t.full ≡ true
    → LeftTo table home frames us group t frames₁ rest → AppliesAll table home frames us group t frames₁
left-full table t home frames frames₁ us rest group q f =
    f t frames₁ record {
      count_is = refl;
      frames_long = refl;
      kept = λ f n. refl;
      stays = λ q. (refl, refl);
      fits = λ es n h l. absurd (never_both _ q n);
      fills = λ es n h l. q;
    }
