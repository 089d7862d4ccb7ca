-- The slots that the scan noted give the blocks that `gathered` gives, or the lowest missing one, or a damaged end.
-- Assumes nothing.
use mathlib.Core.Path.{◌≡◌, refl, sym, ap, ◌∙◌, subst}
use mathlib.Core.Bool.{Bool, true, false, cond}
use mathlib.Core.List.{List, []}
use Prim.Native.Nat.{ℕ, zero, suc, ◌+◌, ◌-◌, ◌≤◌, ◌<◌}
use native.Mathlib.Omega.{arith}
use native.Mathlib.Nat.{mod-lt}
use native.Mathlib.Decide.{ℕ_discrete}
use lib.ListN.{length, get_or}
use borrow.Author.Tests.{eq-eqb, ne_eqb}
use Rattle.area.proofs.Laws.{either}
use Rattle.block.specs.Legal.{legal, slot_of}
use Rattle.block.specs.Slot.{block_at, judged}
use Rattle.block.specs.declared.Block.{Block}
use Rattle.block.specs.declared.Judged.{Judged}
use Rattle.block.specs.declared.Judged.TheVariants.{Unused, Damaged, Valid}
use Rattle.block.proofs.ReadBack.{Holds, valid-holds}
use Rattle.promises.specs.Areas.{page_at, slot_bytes, slots_in, pages_in}
use Rattle.promises.specs.Blocks.{LogBlock, Slot, unused, damaged, valid, kind_in, slot_in, slot_at, slots_of}
use Rattle.promises.specs.Newest.{sequence_in, newest, keep_in, keep_of, Gathered, missing, blocks, with_block, block_in, gather, all_unused, is_damaged, end_damaged, end_tested, gathered}
use Rattle.promises.specs.Walk.{stops, walk_from, walk_gathered, start_with, believed, finding}
use Rattle.promises.proofs.Slots.{get-slot, no_slot}
use Rattle.promises.proofs.History.Ring.{newest-at}
use Rattle.promises.proofs.Gathered.{unused-newest, gathered-fresh, gathered-damaged, gathered-from, end-missing, end_whole}
use Rattle.recovery.specs.Log.{header_of, block_of, blocks_from, Legal}

-- ---- a slot whose sequence is not 0 holds the block that its header tells

-- a slot's block, as the walk sees it
abbrev pub block_is : List ℕ → LogBlock
block_is bytes = record { kind = kind_in (block_at bytes).kind bytes; keep_from = (block_at bytes).keep_from; ticket = (block_at bytes).ticket }

pub record Holding (N P : ℕ) (log : List ℕ) (j q : ℕ) : Type 0 where
  pub slot_is : slot_at N P log j ≡ valid q (block_is (slot_bytes log j))
  pub rules : legal N P (block_at (slot_bytes log j)) ≡ true
  pub sequence_is : (block_at (slot_bytes log j)).sequence ≡ q
  pub place_is : slot_of N q ≡ j

pub holding : (N P : ℕ) (log : List ℕ) (j q : ℕ) → (q ≡ 0 → ⊥) → sequence_in (slot_at N P log j) ≡ q → Holding N P log j q
unfolding slot_at
holding N P log j q n e = go (judged N P j bytes) refl e
  where
    bytes : List ℕ
    bytes = slot_bytes log j

    go : (found : Judged) → judged N P j bytes ≡ found → sequence_in (slot_in found bytes) ≡ q → Holding N P log j q
    go Unused f h = absurd (n (sym h))
    go Damaged f h = absurd (n (sym h))
    go (Valid block) f h =
        let held : Holds N P j bytes block = valid-holds N P j bytes block f in
        let s : (block_at bytes).sequence ≡ q = ap (λ (b : Block). b.sequence) held.told ∙ h in
        record {
          slot_is =
              ap (λ (found : Judged). slot_in found bytes) (f ∙ ap Valid (sym held.told))
              ∙ ap (λ (x : ℕ). valid x (block_is bytes)) s;
          rules = ap (legal N P) held.told ∙ held.is-legal;
          sequence_is = s;
          place_is = ap (slot_of N) (sym h) ∙ held.in-slot;
        }

-- ---- the blocks from keep-from on

module _ (log home : List ℕ) (big : 512 ≤ length log) where
  abbrev N : ℕ
  N = slots_in (length log)

  abbrev P : ℕ
  P = pages_in (length home)

  abbrev slots : List Slot
  slots = slots_of N P log

  some : 0 < N
  some = omega arith

  at_slot : (s : ℕ) → get_or slots (slot_of N s) unused ≡ slot_at N P log (slot_of N s)
  at_slot s = get-slot N P log (slot_of N s) (mod-lt s some)

  -- a sequence that stands in its slot
  pub stands-valid : (s : ℕ) → 1 ≤ s → sequence_in (slot_at N P log (slot_of N s)) ≡ s → get_or slots (slot_of N s) unused ≡ valid s (block_of log s)
  unfolding header_of
  stands-valid s h e = at_slot s ∙ (holding N P log (slot_of N s) s (λ z. absurd (omega arith)) e).slot_is

  pub stands-legal : (s : ℕ) → 1 ≤ s → sequence_in (slot_at N P log (slot_of N s)) ≡ s → Legal log home s
  unfolding header_of
  stands-legal s h e =
      let x : Holding N P log (slot_of N s) s = holding N P log (slot_of N s) s (λ z. absurd (omega arith)) e in
      record { rules = x.rules; sequence_is = x.sequence_is }

  -- the newest block stands in its slot
  pub newest-stands : (newest slots ≡ 0 → ⊥) → sequence_in (slot_at N P log (slot_of N (newest slots))) ≡ newest slots
  newest-stands n =
      let r = newest-at slots n in
      either r.0 N
      (λ h.
      let e : sequence_in (slot_at N P log r.0) ≡ newest slots = ap sequence_in (sym (get-slot N P log r.0 h)) ∙ r.1 in
      let x : Holding N P log r.0 (newest slots) = holding N P log r.0 (newest slots) n e in
      ap (λ (j : ℕ). sequence_in (slot_at N P log j)) x.place_is ∙ e)
      (λ h. absurd (n (sym r.1 ∙ ap sequence_in (no_slot N P log r.0 h))))

  -- and its keep-from is `keep_of`
  pub keep-is : (newest slots ≡ 0 → ⊥) → keep_of N slots ≡ (header_of log (newest slots)).keep_from
  keep-is n = ap keep_in (stands-valid (newest slots) (one (newest slots) n) (newest-stands n))
    where
      one : (m : ℕ) → (m ≡ 0 → ⊥) → 1 ≤ m
      one m z = either m 1 (λ l. absurd (z (omega arith))) (λ l. l)

  pub gather-all : (n k : ℕ) → 1 ≤ k → ((s : ℕ) → k ≤ s → s < k + n → sequence_in (slot_at N P log (slot_of N s)) ≡ s)
      → gather N slots n k ≡ blocks (blocks_from log k n)
  unfolding gather blocks_from
  gather-all zero k h f = refl
  gather-all (suc n) k h f =
      ap (λ (x : Slot). block_in k x (gather N slots n (suc k))) (stands-valid k h (f k (omega arith) (omega arith)))
      ∙ ap (λ (b : Bool). cond b (with_block (block_of log k) (gather N slots n (suc k))) (missing k)) (eq-eqb k k refl)
      ∙ ap (with_block (block_of log k)) (gather-all n (suc k) (omega arith) (λ s l m. f s (omega arith) (omega arith)))

  pub gather-missing : (n k lost : ℕ) → 1 ≤ k → k ≤ lost → lost < k + n
      → ((s : ℕ) → k ≤ s → s < lost → sequence_in (slot_at N P log (slot_of N s)) ≡ s)
      → (sequence_in (slot_at N P log (slot_of N lost)) ≡ lost → ⊥) → gather N slots n k ≡ missing lost
  unfolding gather
  gather-missing zero k lost h l m f g = absurd (omega arith)
  gather-missing (suc n) k lost h l m f g =
      elim (ℕ_discrete k lost) [
        | yes q ↦ lacks (get_or slots (slot_of N k) unused) (λ e. g (subst (λ (s : ℕ). sequence_in (slot_at N P log (slot_of N s)) ≡ s) q (ap sequence_in (sym (at_slot k)) ∙ e)))
            ∙ ap missing q
        | no q ↦
            ap (λ (x : Slot). block_in k x (gather N slots n (suc k))) (stands-valid k h (f k (omega arith) (omega arith)))
            ∙ ap (λ (b : Bool). cond b (with_block (block_of log k) (gather N slots n (suc k))) (missing k)) (eq-eqb k k refl)
            ∙ ap (with_block (block_of log k))
            (gather-missing n (suc k) lost (omega arith) (omega arith) (omega arith) (λ s x y. f s (omega arith) y) g)
      ]
    where
      lacks : (x : Slot) → (sequence_in x ≡ k → ⊥) → block_in k x (gather N slots n (suc k)) ≡ missing k
      lacks unused e = refl
      lacks damaged e = refl
      lacks (valid found block) e = ap (λ (b : Bool). cond b (with_block block (gather N slots n (suc k))) (missing k)) (ne_eqb found k e)

  -- ---- the five findings

  module _ (F : ℕ) where
    from-gathered : (g : Gathered) → gathered N slots ≡ g → finding N P F log home ≡ walk_gathered N F (page_at home) slots g
    unfolding finding
    from-gathered g e = ap (walk_gathered N F (page_at home) slots) e

    -- all slots unused
    pub finds-fresh : all_unused slots ≡ true → finding N P F log home ≡ walk_from N F (page_at home) 1 1 (blocks_from log 1 0) (start_with 0)
    unfolding walk_from blocks_from
    finds-fresh e =
        from-gathered (blocks []) (gathered-fresh N slots e)
        ∙ ap (λ (m : ℕ). walk_from N F (page_at home) (m + 1) (keep_of N slots) [] (start_with 0)) (unused-newest slots e)

    -- no valid slot but a damaged one
    pub finds-damaged : all_unused slots ≡ false → newest slots ≡ 0 → finding N P F log home ≡ stops 7 0
    finds-damaged e z = from-gathered (missing 0) (gathered-damaged N slots e z)

    module _ (m k : ℕ) (is-newest : m ≡ newest slots) (is-keep : k ≡ (header_of log m).keep_from) (n : m ≡ 0 → ⊥) where
      not-zero : newest slots ≡ 0 → ⊥
      not-zero z = n (is-newest ∙ z)

      k-is : keep_of N slots ≡ k
      k-is = keep-is not-zero ∙ ap (λ (x : ℕ). (header_of log x).keep_from) (sym is-newest) ∙ sym is-keep

      gathers : gathered N slots ≡ end_tested N slots (gather N slots (m + 1 - k) k)
      gathers = gathered-from N slots m k (sym is-newest) k-is n

      -- the slot after the newest
      end_is_lem : end_damaged N slots ≡ is_damaged (slot_at N P log (slot_of N (m + 1)))
      end_is_lem = ap (λ (x : ℕ). is_damaged (get_or slots (slot_of N (x + 1)) unused)) (sym is-newest) ∙ ap is_damaged (at_slot (m + 1))

      -- a block is missing
      pub finds-missing : (lost : ℕ) → 1 ≤ k → k ≤ lost → lost < k + (m + 1 - k)
          → ((s : ℕ) → k ≤ s → s < lost → sequence_in (slot_at N P log (slot_of N s)) ≡ s)
          → (sequence_in (slot_at N P log (slot_of N lost)) ≡ lost → ⊥) → finding N P F log home ≡ stops 7 lost
      finds-missing lost h l x f g = from-gathered (missing lost) (gathers ∙ ap (end_tested N slots) (gather-missing (m + 1 - k) k lost h l x f g))

      -- all are in their slots, and then the end
      gathers-all : 1 ≤ k → k ≤ m → ((s : ℕ) → k ≤ s → s ≤ m → sequence_in (slot_at N P log (slot_of N s)) ≡ s)
          → gathered N slots ≡ end_tested N slots (blocks (blocks_from log k (m + 1 - k)))
      gathers-all h l f = gathers ∙ ap (end_tested N slots) (gather-all (m + 1 - k) k h (λ s x y. f s x (omega arith)))

      -- the slot after the newest is damaged: one more is missing
      pub finds-end : 1 ≤ k → k ≤ m → ((s : ℕ) → k ≤ s → s ≤ m → sequence_in (slot_at N P log (slot_of N s)) ≡ s)
          → is_damaged (slot_at N P log (slot_of N (m + 1))) ≡ true → finding N P F log home ≡ stops 7 (m + 1)
      finds-end h l f d =
          from-gathered (missing (newest slots + 1)) (gathers-all h l f ∙ end-missing N slots (blocks_from log k (m + 1 - k)) (end_is_lem ∙ d))
          ∙ ap (λ (x : ℕ). stops 7 (x + 1)) (sym is-newest)

      -- it is not: the blocks
      pub gathers-blocks : 1 ≤ k → k ≤ m → ((s : ℕ) → k ≤ s → s ≤ m → sequence_in (slot_at N P log (slot_of N s)) ≡ s)
          → is_damaged (slot_at N P log (slot_of N (m + 1))) ≡ false → gathered N slots ≡ blocks (blocks_from log k (m + 1 - k))
      gathers-blocks h l f d = gathers-all h l f ∙ end_whole N slots (blocks_from log k (m + 1 - k)) (end_is_lem ∙ d)

      -- and the walk over them
      pub finds-blocks : 1 ≤ k → k ≤ m → ((s : ℕ) → k ≤ s → s ≤ m → sequence_in (slot_at N P log (slot_of N s)) ≡ s)
          → is_damaged (slot_at N P log (slot_of N (m + 1))) ≡ false
          → finding N P F log home ≡ walk_from N F (page_at home) (m + 1) k (blocks_from log k (m + 1 - k)) (start_with (header_of log k).ticket)
      finds-blocks h l f d =
          from-gathered (blocks (blocks_from log k (m + 1 - k))) (gathers-blocks h l f d)
          ∙ ap (λ (x : ℕ). walk_from N F (page_at home) (x + 1) (keep_of N slots) (blocks_from log k (m + 1 - k)) (start_with (believed (blocks_from log k (m + 1 - k))))) (sym is-newest)
          ∙ ap (λ (x : ℕ). walk_from N F (page_at home) (m + 1) x (blocks_from log k (m + 1 - k)) (start_with (believed (blocks_from log k (m + 1 - k))))) k-is
          ∙ ap (λ (x : ℕ). walk_from N F (page_at home) (m + 1) k (blocks_from log k (m + 1 - k)) (start_with x)) (first (m + 1 - k) (omega arith))
        where
          first : (c : ℕ) → 1 ≤ c → believed (blocks_from log k c) ≡ (header_of log k).ticket
          first zero z = absurd (omega arith)
          first (suc c) z = unfold blocks_from in refl
