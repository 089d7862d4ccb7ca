-- The block that an accepted Log step stores is legal for this log and this home, and its slot held nothing that a later opening needs.
-- Assumes nothing.
use mathlib.Core.Path.{◌≡◌, ap}
use Prim.Native.Nat.{ℕ, ◌+◌, ◌-◌, ◌*◌, ◌≤◌, ◌<◌}
use mathlib.Core.List.{List}
use native.Mathlib.Omega.{arith}
use lib.ListN.{length}
use Rattle.area.specs.Part.{part}
use Rattle.area.proofs.Parts.{length_part}
use Rattle.block.specs.Legal.{slot_of}
use Rattle.promises.specs.declared.State.{State}
use Rattle.promises.specs.Blocks.{stored, valid, slot_at}
use Rattle.promises.specs.Sums.{first_groups, group_start, smallest, block_count, held_slots}
use Rattle.promises.specs.LogStep.{log_refusal_of}
use Rattle.promises.proofs.Soundness.{Sound, sound-of}
use Rattle.promises.proofs.Changes.{smallest-le}
use Rattle.stepping.proofs.FreeSlot.{slot-free, numbers, stored-valid}
use Rattle.logging.specs.Logging.{size_of, staged_at, Placed, Ready, update_at, commit_at}
use Rattle.logging.proofs.Decision.{Accepted, accepted, size-and-rest, size-legal, half-legal, ready}

module _ (s : State) (log home frames staging : List ℕ) (accepts : log_refusal_of s log home frames staging ≡ 0) where
  tests-passed : Accepted s (length log) (length home) (length frames) (length staging)
  tests-passed = accepted s (length log) (length home) (length frames) (length staging) accepts

  facts : Sound s
  facts = sound-of s tests-passed.is_sound

  leans : Ready s (length log) (length home) (length frames) (length staging)
  leans = ready s (length log) (length home) (length frames) (length staging) accepts

  abbrev keep : ℕ
  keep = smallest (group_start s) (first_groups s.dirty)

  -- H is below N: the block is among those that are counted
  pub room : held_slots s < s.slots
  room = omega (arith, facts.slot_sum, ap block_count (size-and-rest s facts leans.queued), half-legal s facts leans.queued)

  pub log-slot-free : (j : ℕ) → s.next - held_slots s ≤ j → j < s.next → slot_of s.slots j ≡ slot_of s.slots s.next → ⊥
  log-slot-free = slot-free s facts room

  keep-most : keep ≤ s.next
  keep-most = omega (arith, smallest-le (group_start s) (first_groups s.dirty))

  -- the update is read back
  pub update-valid : s.stored < size_of s
      → slot_at s.slots s.pages (stored s.slots log s.next (update_at s staging keep)) (slot_of s.slots s.next) ≡ valid s.next (update_at s staging keep)
  update-valid h =
      let p : Placed s.pages s.frames (staged_at s s.stored) = leans.placed s.stored h in
      let a : ℕ = (staged_at s s.stored).area * 472 in
      let long : length (part staging a (staged_at s s.stored).length) ≡ (staged_at s s.stored).length =
      length_part staging a (staged_at s s.stored).length (omega (arith, leans.staging_long, p.area, p.length)) in
      stored-valid s facts room log (update_at s staging keep) leans.log_long
      (numbers s facts room keep s.ticket leans.next (omega arith) keep-most (omega (arith, leans.ticket)))
      (record {
        index-one = omega arith;
        index-most = omega (arith, leans.size);
        page-below = p.page;
        length-one = omega (arith, long, p.some);
        length_most = omega (arith, long, p.length);
        end = omega (arith, long, p.end);
      })

  -- the commit is read back
  pub commit-valid : size_of s ≤ s.stored
      → slot_at s.slots s.pages (stored s.slots log s.next (commit_at s keep)) (slot_of s.slots s.next) ≡ valid s.next (commit_at s keep)
  commit-valid h =
      let l = size-legal s facts leans.queued in
      stored-valid s facts room log (commit_at s keep) leans.log_long
      (numbers s facts room keep (s.ticket + 1) leans.next (omega arith) keep-most (omega (arith, leans.ticket, l.0)))
      (record { updates-one = l.0; updates-most = l.1; ticket-one = omega arith })
