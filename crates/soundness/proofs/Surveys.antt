-- A pass over the frames: what is told so far, and what is left, make the whole.
-- Assumes nothing.
use Prim.Native.Nat.{ℕ, ◌+◌, ◌≤◌}
use mathlib.Core.Path.{◌≡◌, refl, sym, ap, subst}
use mathlib.Core.Bool.{Bool, false, not, ◌&&◌, ◌||◌}
use mathlib.Core.List.{List, ◌++◌}
use lib.Dec.{eqb}
use lib.ListN.{length, drop, take, get_or}
use native.Mathlib.Omega.{arith}
use borrow.Author.Tests.{eqb-true, not-false}
use Rattle.area.proofs.Laws.{or-false}
use Rattle.promises.specs.declared.Dirty.{Dirty}
use Rattle.promises.specs.Sums.{first_groups, smallest}
use Rattle.promises.specs.Sound.{dirty_numbers}
use Rattle.promises.specs.States.{free}
use Rattle.soundness.specs.Tests.{entries_legal}
use Rattle.soundness.proofs.Scans.{firsts_same, oldest-same, legal-same, gathered-same}

pub record Told (pages frames next own : ℕ) (dirty : List Dirty) (list : List ℕ) (count low : ℕ) (legal : Bool) (i : ℕ) : Type 0 where
  pub few : i ≤ 32
  pub counted : count ≤ i
  pub lower : low ≤ own
  pub long : length list ≡ 32
  pub legals : (legal && entries_legal pages frames next i (drop i dirty)) ≡ entries_legal pages frames next 0 dirty
  pub firsts : count + length (first_groups (drop i dirty)) ≡ length (first_groups dirty)
  pub oldest : smallest low (first_groups (drop i dirty)) ≡ smallest own (first_groups dirty)
  pub numbers : take count list ++ dirty_numbers (drop i dirty) ≡ dirty_numbers dirty

module _ (pages frames next own : ℕ) (dirty : List Dirty) (list : List ℕ) (count low : ℕ) (legal : Bool) (whole : length dirty ≡ 32) where
  abbrev At : ℕ → Type 0
  At i = Told pages frames next own dirty list count low legal i

  -- past a free frame
  told_free : (i : ℕ) → At i → i + 1 ≤ 32 → (get_or dirty i free).first ≡ 0 → At (i + 1)
  told_free i t h z = record {
    few = h;
    counted = omega (arith, t.counted);
    lower = t.lower;
    long = t.long;
    legals = legal-same pages frames next dirty i legal legal (entries_legal pages frames next 0 dirty) (omega arith) t.legals z refl;
    firsts = omega (arith, ap length (firsts_same dirty i (omega arith) z), t.firsts);
    oldest = oldest-same dirty i low low (smallest own (first_groups dirty)) (omega arith) t.oldest z refl;
    numbers = gathered-same dirty i list list (dirty_numbers dirty) count count (omega arith) t.numbers z refl refl;
  }

  -- past four
  pub told-four : (i : ℕ) → At i → i + 4 ≤ 32 → (get_or dirty i free).first ≡ 0 → (get_or dirty (i + 1) free).first ≡ 0 → (get_or dirty (i + 2) free).first ≡ 0
      → (get_or dirty (i + 3) free).first ≡ 0 → At (i + 4)
  told-four i t h one two three four =
      let second = told_free i t (omega arith) one in
      let third = told_free (i + 1) second (omega arith) two in
      let fourth = told_free (i + 1 + 1) third (omega arith) (subst (λ (n : ℕ). (get_or dirty n free).first ≡ 0) (omega arith) three) in
      let past = told_free (i + 1 + 1 + 1) fourth (omega arith) (subst (λ (n : ℕ). (get_or dirty n free).first ≡ 0) (omega arith) four) in
      subst At (omega arith) past

-- told of equal numbers and an equal list
pub told_moved : (pages frames next own : ℕ) (dirty : List Dirty) (list list' : List ℕ) (count count' low low' : ℕ) (legal legal' : Bool) (i i' : ℕ)
    → list' ≡ list → count' ≡ count → low' ≡ low → legal' ≡ legal → i ≡ i'
    → Told pages frames next own dirty list count low legal i → Told pages frames next own dirty list' count' low' legal' i'
told_moved pages frames next own dirty list list' count count' low low' legal legal' i i' a b c d e t =
    subst (λ (x : List ℕ). Told pages frames next own dirty x count' low' legal' i') (sym a)
    (subst (λ (x : ℕ). Told pages frames next own dirty list x low' legal' i') (sym b)
    (subst (λ (x : ℕ). Told pages frames next own dirty list count x legal' i') (sym c)
    (subst (λ (x : Bool). Told pages frames next own dirty list count low x i') (sym d)
    (subst (λ (x : ℕ). Told pages frames next own dirty list count low legal x) e t))))

-- ---- four free frames

pub all-free : (a b c d : ℕ) → (((not (eqb a 0) || not (eqb b 0)) || not (eqb c 0)) || not (eqb d 0)) ≡ false → (a ≡ 0) × (b ≡ 0) × (c ≡ 0) × (d ≡ 0)
all-free a b c d h =
    let last = or-false ((not (eqb a 0) || not (eqb b 0)) || not (eqb c 0)) (not (eqb d 0)) h in
    let third = or-false (not (eqb a 0) || not (eqb b 0)) (not (eqb c 0)) last.0 in
    let two = or-false (not (eqb a 0)) (not (eqb b 0)) third.0 in
    (eqb-true a 0 (not-false (eqb a 0) two.0), eqb-true b 0 (not-false (eqb b 0) two.1), eqb-true c 0 (not-false (eqb c 0) third.1), eqb-true d 0 (not-false (eqb d 0) last.1))
