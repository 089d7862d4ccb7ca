-- The store of a block: it is read back from its slot as a legal block, and its slot held nothing that a later opening needs.
-- Assumes nothing.
use mathlib.Core.Path.{◌≡◌, refl, ap, ◌∙◌}
use mathlib.Core.Bool.{Bool, true, false}
use mathlib.Core.List.{List, [], ◌∷◌, ◌++◌}
use Prim.Native.Nat.{ℕ, ◌-◌, ◌*◌, ◌%◌, ◌^◌, ◌≤◌, ◌<◌}
use native.Mathlib.Omega.{arith}
use native.Mathlib.Nat.{mod-lt}
use lib.Dec.{eqb}
use lib.ListN.{length}
use borrow.Author.Tests.{eqb-false}
use Rattle.area.proofs.Parts.{part_same}
use Rattle.block.specs.Legal.{slot_of}
use Rattle.block.specs.Slot.{judged}
use Rattle.block.proofs.Facts.{NumberFacts}
use Rattle.promises.specs.declared.State.{State}
use Rattle.promises.specs.declared.Dirty.{Dirty}
use Rattle.promises.specs.Blocks.{LogBlock, written, stored, valid, slot_in, slot_at}
use Rattle.promises.specs.Contents.{unless}
use Rattle.promises.specs.Sums.{first_groups, half_starts, group_start, smallest, held_slots}
use Rattle.promises.proofs.Soundness.{Sound}
use Rattle.promises.proofs.Changes.{held-is}
use Rattle.promises.proofs.Slots.{KindFits, length-written, written_back}
use Rattle.promises.proofs.History.Ring.{apart}

-- a first group is at least 1: 0 is a free frame
oldest-one : (own : ℕ) (ds : List Dirty) → 1 ≤ own → 1 ≤ smallest own (first_groups ds)
unfolding first_groups
oldest-one own [] h = h
oldest-one own (d ∷ ds) h = go (eqb d.first 0) refl (oldest-one own ds h)
  where
    go : (t : Bool) → eqb d.first 0 ≡ t → 1 ≤ smallest own (first_groups ds) → 1 ≤ smallest own (unless t d.first (first_groups ds))
    go true e ih = ih
    go false e ih = let n : d.first ≡ 0 → ⊥ = eqb-false d.first 0 e in omega (arith, n)

module _ (s : State) (f : Sound s) (room : held_slots s < s.slots) where
  -- a later opening needs the blocks from next - H on: none of them is in the slot of the next block
  pub slot-free : (j : ℕ) → s.next - held_slots s ≤ j → j < s.next → slot_of s.slots j ≡ slot_of s.slots s.next → ⊥
  slot-free j lo hi = apart s.slots j s.next hi (omega arith)

  -- the next block's numbers are legal, with a keep-from that leaves out none of them
  pub numbers : (keep ticket : ℕ) → s.next < 2 ^ 48 → smallest (group_start s) (first_groups s.dirty) ≤ keep → keep ≤ s.next → ticket < s.next
      → NumberFacts s.slots s.next keep ticket
  numbers keep ticket most lo hi below =
      let h : smallest s.next (half_starts s ++ first_groups s.dirty) ≡ smallest (group_start s) (first_groups s.dirty) = held-is s in
      let one : 1 ≤ smallest (group_start s) (first_groups s.dirty) = oldest-one (group_start s) s.dirty (omega (arith, f.ticket)) in
      record { one = omega (arith, f.ticket); most = most; keep_one = omega arith; keep-most = hi; near = omega arith; ticket-below = below }

  -- what was stored is read back
  pub stored-valid : (log : List ℕ) (block : LogBlock) → length log ≡ s.slots * 512 → NumberFacts s.slots s.next block.keep_from block.ticket
      → KindFits s.pages block.ticket block.kind
      → slot_at s.slots s.pages (stored s.slots log s.next block) (slot_of s.slots s.next) ≡ valid s.next block
  unfolding slot_at
  stored-valid log block long n k =
      let i : ℕ = s.next % s.slots in
      let below : i < s.slots = mod-lt s.next (omega (arith, f.slots.0)) in
      ap (λ (bytes : List ℕ). slot_in (judged s.slots s.pages i bytes) bytes)
      (part_same log (i * 512) 512 (written s.next block) (omega arith) (length-written s.pages s.next block k))
      ∙ written_back s.slots s.pages s.next block (omega (arith, f.pages.1)) n k
