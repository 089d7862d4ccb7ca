-- `recovery::judge_all` meets its contract: the newest of the slots seen and of those left, and the sequences noted.
use Prim.Native.Nat.{ℕ, ◌<◌, ◌-◌, max}
use mathlib.Core.Path.{◌≡◌}
use mathlib.Core.Bool.{◌&&◌}
use lib.ListN.{get_or}
use Rattle.promises.specs.Blocks.{slot_at, slots_from, slots_of}
use Rattle.promises.specs.Newest.{sequence_in, newest, all_unused}
use Rattle.recovery.proofs.judge_all.Given as goal

abbrev pub invariant-loop-i : goal.invariant-loop-i
invariant-loop-i l =
    (max l.newest (newest (slots_from l.slots l.pages l.log l.i (l.slots - l.i))) ≡ newest (slots_of l.slots l.pages l.log))
    × ((l.unused && all_unused (slots_from l.slots l.pages l.log l.i (l.slots - l.i))) ≡ all_unused (slots_of l.slots l.pages l.log))
    × ((j : ℕ) → j < l.i → get_or l.sequences j 0 ≡ sequence_in (slot_at l.slots l.pages l.log j))
