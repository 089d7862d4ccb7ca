-- What the seats and the application of the half group leave is what closing it leaves.
-- Assumes nothing.
use mathlib.Core.Path.{◌≡◌, sym, subst}
use mathlib.Core.Bool.{Bool, false, not}
use mathlib.Core.List.{List, map}
use Prim.Native.Nat.{ℕ, ◌+◌, ◌*◌, ◌≤◌, ◌<◌}
use native.Mathlib.Omega.{arith}
use lib.ListN.{length, take}
use Rattle.promises.specs.declared.State.{State}
use Rattle.promises.specs.declared.Dirty.{Dirty}
use Rattle.block.specs.Sizes.{sequence_end}
use Rattle.promises.specs.Areas.{pages_in}
use Rattle.promises.specs.Updates.{Update}
use Rattle.promises.specs.Sums.{group_start}
use Rattle.table.specs.Table.{AppliesAll}
use Rattle.table.specs.Seats.{entry_in, cleared, dirty_in, seated}
use Rattle.logging.proofs.Packing.{applied-fills, applied-holds}
use Rattle.recovery.specs.Log.{updates_from, header_of, Placed}
use Rattle.replica.specs.Taking.{Closing, Closes}

-- what the group is applied with
pub lent_by : (s : State) (log : List ℕ) (home frames seats : ℕ) → Closing s log home frames → seats ≡ s.frames
    → (seats ≤ 32) × (frames ≡ seats * 1024) × (512 ≤ length log) × (pages_in home ≤ 4096) × (1 ≤ group_start s) × (group_start s + s.stored ≤ sequence_end)
    × ((i : ℕ) → i < s.stored → Placed (pages_in home) (header_of log (group_start s + i)).kind)
lent_by s log home frames seats p e =
    let few : pages_in home ≡ s.pages = omega (arith, p.home_long) in (
      omega (arith, p.frame_count),
      omega (arith, p.frames_long),
      omega (arith, p.log_long, p.slots.0),
      omega (arith, p.pages),
      omega (arith, p.stored),
      omega (arith, p.stored, p.next),
      λ i h. subst (λ (n : ℕ). Placed n (header_of log (group_start s + i)).kind) (sym few) (p.placed i h),
    )

pub closes_by : (s : State) (log home frames frames' packed seats : List ℕ) (dirty : List Dirty) (fits : Bool)
    → s.frames ≤ 32 → length packed ≡ s.frames → map entry_in packed ≡ map cleared (take s.frames s.dirty)
    → AppliesAll (seated false packed) home frames (updates_from log (group_start s) s.stored) (group_start s) (seated (not fits) seats) frames'
    → dirty ≡ dirty_in seats → Closes s log home frames dirty frames'
closes_by s log home frames frames' packed seats dirty fits most long e a d =
    let us : List Update = updates_from log (group_start s) s.stored in
    record {
      frames_long = a.frames_long;
      fills = applied-fills s home frames frames' packed seats dirty fits us (group_start s) most long e a d;
      holds = applied-holds s home frames frames' packed seats dirty fits us (group_start s) most long e a d;
    }
