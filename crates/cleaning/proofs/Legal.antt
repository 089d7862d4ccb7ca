-- The clean block that an accepted Clean step stores is legal for this log and this home, and its slot held nothing that a later
-- opening needs.
-- Assumes nothing.
use mathlib.Core.Path.{◌≡◌, sym, ap, ◌∙◌}
use Prim.Native.Nat.{ℕ, ◌-◌, ◌^◌, ◌≤◌, ◌<◌}
use mathlib.Core.List.{List}
use native.Mathlib.Omega.{arith}
use lib.ListN.{length}
use Rattle.block.specs.Legal.{slot_of}
use Rattle.block.proofs.Tests.{tests}
use Rattle.promises.specs.declared.State.{State}
use Rattle.promises.specs.declared.Cleaning.TheVariants.{Third}
use Rattle.promises.specs.Blocks.{stored, valid, slot_at}
use Rattle.promises.specs.DirtyPages.{without, keep_from_of}
use Rattle.promises.specs.Contents.{dirty_of}
use Rattle.promises.specs.Sums.{first_groups, group_start, smallest, held_slots, sequences_taken}
use Rattle.promises.specs.CleanStep.{third_refusal, clean_refusal_of, clean_block}
use Rattle.promises.proofs.Soundness.{Sound, sound-of}
use Rattle.promises.proofs.SoundFacts.{keep_from-dirty}
use Rattle.promises.proofs.History.WalkStart.{keep_from-le}
use Rattle.promises.proofs.History.Whole.{keep_from-without}
use Rattle.stepping.proofs.FreeSlot.{slot-free, numbers, stored-valid}
use Rattle.cleaning.proofs.Decision.{Accepted, accepted, block-passed}

module _ (s : State) (log home frames : List ℕ) (accepts : clean_refusal_of s log home frames ≡ 0) where
  tests-passed : Accepted s (length log) (length home) (length frames)
  tests-passed = accepted s (length log) (length home) (length frames) accepts

  facts : Sound s
  facts = sound-of s tests-passed.is_sound

  -- H is below N: a page is dirty
  pub room : held_slots s < s.slots
  room = let n = tests-passed.some in omega (arith, facts.slot_sum, n)

  pub clean-slot-free : (j : ℕ) → s.next - held_slots s ≤ j → j < s.next → slot_of s.slots j ≡ slot_of s.slots s.next → ⊥
  clean-slot-free = slot-free s facts room

  -- the clean block of a page is read back
  pub clean-valid : (named page : ℕ) → s.cleaning ≡ Third named → page < s.pages
      → slot_at s.slots s.pages (stored s.slots log s.next (clean_block s page (dirty_of s frames))) (slot_of s.slots s.next)
      ≡ valid s.next (clean_block s page (dirty_of s frames))
  clean-valid named page e p =
      let g = simp tests at tests-passed.fit in
      let passed = block-passed s named (ap (third_refusal s) (sym e) ∙ tests-passed.third) in
      let none : s.stored ≡ 0 = passed.0 in
      let more : sequences_taken s ≡ 2 ^ 48 → ⊥ = passed.1 in
      let keep : ℕ = keep_from_of s.next (without page (dirty_of s frames)) in
      let start : group_start s ≡ s.next = omega arith in
      let least : smallest (group_start s) (first_groups s.dirty) ≤ keep =
      omega (
        arith,
        ap (λ (n : ℕ). smallest n (first_groups s.dirty)) start,
        keep_from-dirty s.next frames 0 s.dirty,
        keep_from-without s.next page (dirty_of s frames),
      ) in
      stored-valid s facts room log (clean_block s page (dirty_of s frames)) (omega arith)
      (numbers s facts room keep s.ticket (omega (arith, facts.sequence_sum, more)) least (keep_from-le s.next (without page (dirty_of s frames))) (omega (arith, facts.ticket)))
      p
