-- `recovery::missing` meets its contract: every sequence passed stands in its slot. The slot goes round beside the sequence.
use Prim.Native.Nat.{ℕ, ◌≤◌, ◌<◌}
use mathlib.Core.Path.{◌≡◌}
use lib.ListN.{length}
use Rattle.block.specs.Legal.{slot_of}
use Rattle.recovery.specs.Slots.{standing}
use Rattle.recovery.proofs.missing.Given as goal

abbrev pub invariant-loop-s : goal.invariant-loop-s
invariant-loop-s l =
    (l.slot < length l.sequences) × (l.slot ≡ slot_of (length l.sequences) l.s) × ((q : ℕ) → l.first ≤ q → q < l.s → standing l.sequences q ≡ q)
