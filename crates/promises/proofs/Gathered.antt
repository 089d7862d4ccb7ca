-- What Open gathers from the slots: by hand on four slots, and case by case.
-- Assumes nothing.
use mathlib.Core.Path.{◌≡◌, refl, sym, ap, ◌∙◌}
use Prim.Native.Nat.{ℕ, ◌+◌, ◌-◌}
use mathlib.Core.Bool.{Bool, true, false, cond}
use mathlib.Core.List.{List, [], ◌∷◌}
use native.Mathlib.Omega.{arith}
use borrow.Author.Tests.{eq-eqb, ne_eqb}
use Rattle.area.proofs.Laws.{not-passed}
use Rattle.promises.specs.Blocks.{clean, LogBlock, Slot, unused, damaged, valid}
use Rattle.promises.specs.Newest.{newest, keep_of, missing, blocks, gather, all_unused, end_damaged, end_tested, gathered}

-- ---- by hand, on four slots

abbrev block : ℕ → LogBlock
block keep = record { kind = clean 0; keep_from = keep; ticket = 0 }

-- blocks 1 and 2 with keep-from 1, and an unused slot after them: the end
unused-is-an-end : gathered 4 (unused ∷ valid 1 (block 1) ∷ valid 2 (block 1) ∷ unused ∷ []) ≡ blocks (block 1 ∷ block 1 ∷ [])
unfolding newest gather all_unused gathered
unused-is-an-end = refl

-- a damaged one: 3 is missing
damaged-is-no-end : gathered 4 (unused ∷ valid 1 (block 1) ∷ valid 2 (block 1) ∷ damaged ∷ []) ≡ missing 3
unfolding newest gather all_unused gathered
damaged-is-no-end = refl

-- block 1 is damaged too: it is missing first
missing-first : gathered 4 (unused ∷ damaged ∷ valid 2 (block 1) ∷ damaged ∷ []) ≡ missing 1
unfolding newest gather all_unused gathered
missing-first = refl

-- block 2 was the newest and is damaged: it is missing
newest-damaged : gathered 4 (unused ∷ valid 1 (block 1) ∷ damaged ∷ unused ∷ []) ≡ missing 2
unfolding newest gather all_unused gathered
newest-damaged = refl

-- a slot further on does not matter
further-on : gathered 4 (damaged ∷ valid 1 (block 1) ∷ valid 2 (block 1) ∷ unused ∷ []) ≡ blocks (block 1 ∷ block 1 ∷ [])
unfolding newest gather all_unused gathered
further-on = refl

-- blocks 1 to 4 fill all slots: the slot after the newest holds block 1
full-log : gathered 4 (valid 4 (block 1) ∷ valid 1 (block 1) ∷ valid 2 (block 1) ∷ valid 3 (block 1) ∷ [])
    ≡ blocks (block 1 ∷ block 1 ∷ block 1 ∷ block 1 ∷ [])
unfolding newest gather all_unused gathered
full-log = refl

-- ---- case by case

pub unused-newest : (slots : List Slot) → all_unused slots ≡ true → newest slots ≡ 0
unfolding all_unused newest
unused-newest [] h = refl
unused-newest (unused ∷ slots) h = omega (arith, unused-newest slots h)
unused-newest (damaged ∷ slots) h = let z : ◌≡◌ {A = ℕ} 0 1 = cc in absurd (omega arith)
unused-newest (valid q b ∷ slots) h = let z : ◌≡◌ {A = ℕ} 0 1 = cc in absurd (omega arith)

-- all slots unused
pub gathered-fresh : (count : ℕ) (slots : List Slot) → all_unused slots ≡ true → gathered count slots ≡ blocks []
unfolding gathered
gathered-fresh count slots e = simp e

-- no valid slot but a damaged one
pub gathered-damaged : (count : ℕ) (slots : List Slot) → all_unused slots ≡ false → newest slots ≡ 0 → gathered count slots ≡ missing 0
unfolding gathered
gathered-damaged count slots e z = simp (e, eq-eqb (newest slots) 0 z)

-- a newest block m with keep-from k: the blocks k to m, and then the end
pub gathered-from : (count : ℕ) (slots : List Slot) (m k : ℕ) → newest slots ≡ m → keep_of count slots ≡ k → (m ≡ 0 → ⊥)
    → gathered count slots ≡ end_tested count slots (gather count slots (m + 1 - k) k)
unfolding gathered
gathered-from count slots m k em ek n =
    let some : newest slots ≡ 0 → ⊥ = λ z. n (sym em ∙ z) in
    let used : all_unused slots ≡ false = not-passed (all_unused slots) (λ e. some (unused-newest slots e)) in
    simp (used, ne_eqb (newest slots) 0 some)
    (ap (λ (x : ℕ). end_tested count slots (gather count slots (x + 1 - keep_of count slots) (keep_of count slots))) em
    ∙ ap (λ (x : ℕ). end_tested count slots (gather count slots (m + 1 - x) x)) ek)

-- a damaged end is one more than the newest
pub end-missing : (count : ℕ) (slots : List Slot) (list : List LogBlock) → end_damaged count slots ≡ true
    → end_tested count slots (blocks list) ≡ missing (newest slots + 1)
end-missing count slots list e = ap (λ (b : Bool). cond b (missing (newest slots + 1)) (blocks list)) e

pub end_whole : (count : ℕ) (slots : List Slot) (list : List LogBlock) → end_damaged count slots ≡ false → end_tested count slots (blocks list) ≡ blocks list
end_whole count slots list e = ap (λ (b : Bool). cond b (missing (newest slots + 1)) (blocks list)) e
