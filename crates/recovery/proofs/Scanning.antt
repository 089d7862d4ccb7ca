-- The scan of the slots, slot by slot.
-- Assumes nothing.
use mathlib.Core.Path.{◌≡◌, refl, sym, ap, ◌∙◌, subst}
use mathlib.Core.Bool.{Bool, true, false, ◌&&◌, and-true}
use mathlib.Core.List.{List, [], ◌∷◌}
use Prim.Native.Nat.{ℕ, suc, ◌+◌, ◌-◌, ◌*◌, ◌/◌, ◌%◌, ◌≤◌, ◌<◌, max}
use native.Mathlib.Omega.{arith}
use native.Mathlib.Nat.{mod-lt}
use native.Mathlib.Decide.{ℕ_discrete}
use lib.ListN.{length, get_or, set}
use lib.Seq.{get_or-set_same, get_or-set_other}
use Rattle.std.specs.Ordering.{nat_cmp, ord_max}
use Rattle.area.specs.Part.{part}
use Rattle.area.proofs.Parts.{length_part}
use Rattle.block.specs.Legal.{slot_of}
use Rattle.block.specs.Slot.{judged, block_at}
use Rattle.block.specs.declared.Block.{Block}
use Rattle.block.specs.declared.Kind.{Kind}
use Rattle.block.specs.declared.Judged.{Judged}
use Rattle.block.specs.declared.Judged.TheVariants.{Unused, Damaged, Valid}
use Rattle.promises.specs.Areas.{slot_bytes, slots_in}
use Rattle.promises.specs.Blocks.{Slot, slot_in, slot_at, slots_from}
use Rattle.promises.specs.Newest.{sequence_in, is_unused, is_damaged, newest, all_unused}
use Rattle.recovery.specs.Log.{bytes_of, header_of}
use Rattle.recovery.specs.Slots.{sequence_of, is_empty}

-- ---- a slot lies in the log

pub slot-within : (n slot : ℕ) → slot < n / 512 → slot * 512 + 512 ≤ n
slot-within n slot h = omega arith

pub length-slot-bytes : (log : List ℕ) (slot : ℕ) → slot < length log / 512 → length (slot_bytes log slot) ≡ 512
length-slot-bytes log slot h = length_part log (slot * 512) 512 (slot-within (length log) slot h)

-- the slot that a sequence goes to is one of the slots
pub slot-below : (n s : ℕ) → 512 ≤ n → s % (n / 512) < n / 512
slot-below n s h = let k : 0 < n / 512 = omega arith in mod-lt s k

pub slot-in : (n s : ℕ) → 512 ≤ n → (s % (n / 512)) * 512 + 512 ≤ n
slot-in n s h = slot-within n (s % (n / 512)) (slot-below n s h)

pub length-slot : (log : List ℕ) (s : ℕ) → 512 ≤ length log → length (bytes_of log s) ≡ 512
length-slot log s h = length-slot-bytes log (s % (length log / 512)) (slot-below (length log) s h)

pub bytes-are : (log : List ℕ) (s slot : ℕ) (bytes : List ℕ) → bytes ≡ slot_bytes log slot → slot ≡ slot_of (slots_in (length log)) s
    → bytes ≡ bytes_of log s
bytes-are log s slot bytes e f = e ∙ ap (slot_bytes log) f

pub header_is : (log : List ℕ) (s : ℕ) (bytes : List ℕ) (b : Block) → bytes ≡ bytes_of log s → b ≡ block_at bytes → b ≡ header_of log s
unfolding header_of
header_is log s bytes b e f = f ∙ ap block_at e

pub kind-is : (log : List ℕ) (s : ℕ) (bytes : List ℕ) (b : Block) (kind : Kind) → bytes ≡ bytes_of log s → b ≡ block_at bytes → b.kind ≡ kind
    → (header_of log s).kind ≡ kind
kind-is log s bytes b kind e f k = sym (ap (λ (x : Block). x.kind) (header_is log s bytes b e f)) ∙ k

-- ---- a judged slot

same-sequence : (j : Judged) (bytes : List ℕ) → sequence_in (slot_in j bytes) ≡ sequence_of j
same-sequence Unused bytes = refl
same-sequence Damaged bytes = refl
same-sequence (Valid b) bytes = refl

same-empty : (j : Judged) (bytes : List ℕ) → is_unused (slot_in j bytes) ≡ is_empty j
same-empty Unused bytes = refl
same-empty Damaged bytes = refl
same-empty (Valid b) bytes = refl

pub slot-damaged : (N P i : ℕ) (log bytes : List ℕ) (r : Bool) → bytes ≡ slot_bytes log i → r ≡ is_damaged (slot_in (judged N P i bytes) bytes)
    → r ≡ is_damaged (slot_at N P log i)
unfolding slot_at
slot-damaged N P i log bytes r e f = f ∙ ap (λ (x : List ℕ). is_damaged (slot_in (judged N P i x) x)) e

-- a slot that is not judged as unused
pub empty-not : (j : Judged) → (j ≡ Unused → ⊥) → is_empty j ≡ false
empty-not Unused n = absurd (n refl)
empty-not Damaged n = refl
empty-not (Valid b) n = refl

module _ (N P : ℕ) (log : List ℕ) (i : ℕ) (j : Judged) (e : j ≡ judged N P i (part log (i * 512) 512)) where
  pub slot-sequence : sequence_of j ≡ sequence_in (slot_at N P log i)
  unfolding slot_at
  slot-sequence = ap sequence_of e ∙ sym (same-sequence (judged N P i (part log (i * 512) 512)) (part log (i * 512) 512))

  pub slot-empty : is_empty j ≡ is_unused (slot_at N P log i)
  unfolding slot_at
  slot-empty = ap is_empty e ∙ sym (same-empty (judged N P i (part log (i * 512) 512)) (part log (i * 512) 512))

-- the larger of two numbers, as `max` of the code tells it
pub max-is : (a b : ℕ) → ord_max nat_cmp a b ≡ max a b
max-is a b = grind arith

-- ---- one more slot

module _ (N P : ℕ) (log : List ℕ) (i n : ℕ) (h : i < n) where
  slots_next : slots_from N P log i (n - i) ≡ slot_at N P log i ∷ slots_from N P log (i + 1) (n - (i + 1))
  unfolding slots_from
  slots_next =
      let e : n - i ≡ suc (n - (i + 1)) = omega arith in
      let f : suc i ≡ i + 1 = omega arith in
      rw (e, ← f)

  pub newest-more : (found before whole : ℕ) → max before (newest (slots_from N P log i (n - i))) ≡ whole → found ≡ sequence_in (slot_at N P log i)
      → max (max before found) (newest (slots_from N P log (i + 1) (n - (i + 1)))) ≡ whole
  unfolding newest
  newest-more found before whole e f =
      let g : newest (slots_from N P log i (n - i)) ≡ max (sequence_in (slot_at N P log i)) (newest (slots_from N P log (i + 1) (n - (i + 1)))) = ap newest slots_next in
      omega arith

  pub unused-more : (found before whole : Bool) → (before && all_unused (slots_from N P log i (n - i))) ≡ whole → found ≡ is_unused (slot_at N P log i)
      → (before && found && all_unused (slots_from N P log (i + 1) (n - (i + 1)))) ≡ whole
  unfolding all_unused
  unused-more found before whole e f =
      swap before found (all_unused (slots_from N P log (i + 1) (n - (i + 1))))
      ∙ ap (λ (b : Bool). before && b) (ap (λ (b : Bool). b && all_unused (slots_from N P log (i + 1) (n - (i + 1)))) f ∙ sym (ap all_unused slots_next))
      ∙ e
    where
      swap : (a b c : Bool) → (a && b && c) ≡ (a && (b && c))
      swap true b c = refl
      swap false b c = refl

module _ (N P : ℕ) (log : List ℕ) (i n : ℕ) (h : n ≤ i) where
  none_left : slots_from N P log i (n - i) ≡ []
  unfolding slots_from
  none_left = let e : n - i ≡ 0 = omega arith in rw e

  pub newest-end : (before whole : ℕ) → max before (newest (slots_from N P log i (n - i))) ≡ whole → before ≡ whole
  unfolding newest
  newest-end before whole e = let g : newest (slots_from N P log i (n - i)) ≡ 0 = ap newest none_left in omega arith

  pub unused-end : (before whole : Bool) → (before && all_unused (slots_from N P log i (n - i))) ≡ whole → before ≡ whole
  unfolding all_unused
  unused-end before whole e = sym (ap (λ (l : List Slot). before && all_unused l) none_left ∙ and-true before) ∙ e

-- one more sequence is noted
pub noted_more : (N P : ℕ) (log sequences : List ℕ) (i found : ℕ) → i < length sequences → found ≡ sequence_in (slot_at N P log i)
    → ((j : ℕ) → j < i → get_or sequences j 0 ≡ sequence_in (slot_at N P log j))
    → (j : ℕ) → j < i + 1 → get_or (set sequences i found) j 0 ≡ sequence_in (slot_at N P log j)
noted_more N P log sequences i found h e f j l =
    elim (ℕ_discrete j i) [
      | yes q ↦ subst (λ (k : ℕ). get_or (set sequences i found) k 0 ≡ sequence_in (slot_at N P log k)) (sym q) (get_or-set_same sequences i found 0 h ∙ e)
      | no n ↦ get_or-set_other sequences i j found 0 n ∙ f j (omega arith)
    ]
