-- Marks of the numbers seen so far, the first of a list.
-- Assumes nothing.
use mathlib.Core.Path.{◌≡◌, sym, ap, ◌∙◌}
use mathlib.Core.Bool.{Bool, true, false, not, ◌||◌}
use mathlib.Core.List.{List, [], ◌∷◌, ◌++◌}
use Prim.Native.Nat.{ℕ, ◌+◌, ◌/◌, ◌%◌, ◌^◌, ◌<◌}
use native.Mathlib.Omega.{arith}
use native.Mathlib.Numerals.{add-one}
use native.Mathlib.Nat.{zero-div}
use lib.Dec.{eqb}
use lib.ListN.{length, take, get_or, set, replicate, length-set, length-replicate, get_or-replicate}
use lib.Seq.{take-suc, get_or-set_same, get_or-set_other}
use borrow.Author.Tests.{eq-eqb, ne_eqb}
use Rattle.area.proofs.Laws.{and2, by-eq, never_both, not-passed}
use Rattle.promises.specs.Sound.{member, distinct}
use Rattle.soundness.proofs.Members.{member-snoc, distinct-snoc, distinct-take}
use Rattle.soundness.proofs.Bits.{bit, set_here, set_apart, set-fits}

-- which numbers below 4,096 are marked: those of a list, number k in bit k % 64 of word k / 64
abbrev mark : ℕ → List ℕ → ℕ
mark k seen = bit (k % 64) (get_or seen (k / 64) 0)

pub record Marked (seen rest : List ℕ) : Type 0 where
  pub long : length seen ≡ 64
  pub words : (j : ℕ) → j < 64 → get_or seen j 0 < 2 ^ 64
  pub marks : (k : ℕ) → k < 4096 → eqb (mark k seen) 0 ≡ not (member k rest)

-- at first none
pub marked-none : Marked (replicate 64 0) []
marked-none =
    record { long = length-replicate {A = ℕ} 64 0; words = λ j h. omega (arith, get_or-replicate {A = ℕ} 64 j 0 0 h); marks = λ k h. ap (λ (v : ℕ). eqb (bit (k % 64) v) 0) (get_or-replicate {A = ℕ} 64 (k / 64) 0 0 (omega arith)) ∙ ap (λ (v : ℕ). eqb (v % 2) 0) (zero-div (2 ^ (k % 64))) }

-- one number more
module _ (seen rest : List ℕ) (n : ℕ) (m : Marked seen rest) (h : n < 4096) (unset : mark n seen ≡ 0) where
  abbrev with_it : ℕ
  with_it = get_or seen (n / 64) 0 + 2 ^ (n % 64)

  there : get_or (set seen (n / 64) with_it) (n / 64) 0 ≡ with_it
  there = get_or-set_same seen (n / 64) with_it 0 (omega (arith, m.long))

  marked_more : Marked (set seen (n / 64) with_it) (n ∷ rest)
  marked_more = record { long = length-set seen (n / 64) with_it ∙ m.long; words = words; marks = marks }
    where
      words : (j : ℕ) → j < 64 → get_or (set seen (n / 64) with_it) j 0 < 2 ^ 64
      words j l =
          by-eq j (n / 64)
          (λ w. omega (arith, ap (λ (i : ℕ). get_or (set seen (n / 64) with_it) i 0) w ∙ there, set-fits (n % 64) (get_or seen (n / 64) 0) unset (omega arith) (m.words (n / 64) (omega arith))))
          (λ x. omega (arith, get_or-set_other seen (n / 64) j with_it 0 x, m.words j l))

      own : mark n (set seen (n / 64) with_it) ≡ 1
      own = ap (bit (n % 64)) there ∙ set_here (n % 64) (get_or seen (n / 64) 0) unset

      others : (k : ℕ) → (k ≡ n → ⊥) → mark k (set seen (n / 64) with_it) ≡ mark k seen
      others k d =
          by-eq (k / 64) (n / 64)
          (λ w. ap (λ (j : ℕ). bit (k % 64) (get_or (set seen (n / 64) with_it) j 0)) w ∙ ap (bit (k % 64)) there
          ∙ set_apart (n % 64) (get_or seen (n / 64) 0) unset (k % 64) (λ q. d (omega (arith, w, q))) ∙ ap (λ (j : ℕ). bit (k % 64) (get_or seen j 0)) (sym w))
          (λ x. ap (bit (k % 64)) (get_or-set_other seen (n / 64) (k / 64) with_it 0 x))

      marks : (k : ℕ) → k < 4096 → eqb (mark k (set seen (n / 64) with_it)) 0 ≡ not (member k (n ∷ rest))
      marks k l =
          by-eq k n
          (λ e. ap (λ (j : ℕ). eqb (mark j (set seen (n / 64) with_it)) 0) e ∙ ap (λ (v : ℕ). eqb v 0) own ∙ sym (rw (eq-eqb k n e)))
          (λ d. ap (λ (v : ℕ). eqb v 0) (others k d) ∙ m.marks k l ∙ ap (λ (t : Bool). not (t || member k rest)) (sym (ne_eqb k n d)))

module _ (seen numbers : List ℕ) (i n : ℕ) (m : Marked seen (take i numbers)) (within : i < length numbers) (here : n ≡ get_or numbers i 0) (h : n < 4096) where
  one_more : take (i + 1) numbers ≡ take i numbers ++ (n ∷ [])
  one_more = ap (λ (j : ℕ). take j numbers) (add-one i) ∙ take-suc numbers i 0 within ∙ ap (λ (x : ℕ). take i numbers ++ (x ∷ [])) (sym here)

  -- a number that is marked stands twice
  pub marked-twice : (mark n seen ≡ 0 → ⊥) → false ≡ distinct numbers
  marked-twice d =
      let there : not (member n (take i numbers)) ≡ false = sym (m.marks n h) ∙ ne_eqb _ 0 d in
      let doubled : distinct (take (i + 1) numbers) ≡ false = ap distinct one_more ∙ distinct-snoc (take i numbers) n ∙ rw there in
      sym (not-passed (distinct numbers) (λ t. never_both (distinct (take (i + 1) numbers)) (distinct-take (i + 1) numbers t) doubled))

  -- one that isn't is distinct from those before it
  pub marked-once : mark n seen ≡ 0 → distinct (take i numbers) ≡ true → distinct (take (i + 1) numbers) ≡ true
  marked-once e d =
      let new : not (member n (take i numbers)) ≡ true = sym (m.marks n h) ∙ eq-eqb _ 0 e in
      ap distinct one_more ∙ distinct-snoc (take i numbers) n ∙ and2 new d

  -- and is marked
  pub marked-on : mark n seen ≡ 0 → Marked (set seen (n / 64) (get_or seen (n / 64) 0 + 2 ^ (n % 64))) (take (i + 1) numbers)
  marked-on e =
      let more : Marked (set seen (n / 64) (get_or seen (n / 64) 0 + 2 ^ (n % 64))) (n ∷ take i numbers) = marked_more seen (take i numbers) n m h e in
      record { long = more.long; words = more.words; marks = λ k l. more.marks k l ∙ ap not (sym (ap (member k) one_more ∙ member-snoc k (take i numbers) n)) }
