-- The lanes in which the check is summed. Only the inner contracts of src/check.rt cite these definitions: `check_of` speaks of `check_a`
-- and `check_b` alone.
-- Assumes nothing.
use Rattle.std.specs.Prelude.{◌≡◌, ℕ, zero, suc, ◌+◌, ◌-◌, ◌*◌, ◌%◌, ◌<◌, ◌≤◌, List, slice_index}
use Rattle.block.specs.Check.{plain, weighted}
use Rattle.block.specs.declared.check.Lanes.{Lanes}

-- the sum of f l for every l below n
unfoldable pub sum_below : ℕ → (ℕ → ℕ) → ℕ
sum_below zero f = 0
sum_below (suc n) f = sum_below n f + f n

-- what lower bytes sum to, where they sum with 256 times the upper ones to pairs, modulo 65,536
unfoldable pub lower_of : ℕ → ℕ → ℕ
lower_of pairs uppers = (pairs + (65536 - 256 * (uppers % 256))) % 65536

-- lane l: the sum of its lower bytes, and of all its bytes; and what these sums were before each row, summed
abbrev pub lower_sum : Lanes → ℕ → ℕ
lower_sum lanes l = lower_of (slice_index lanes.pairs l) (slice_index lanes.uppers l)

abbrev pub lane_sum : Lanes → ℕ → ℕ
lane_sum lanes l = lower_sum lanes l + slice_index lanes.uppers l

abbrev pub lower_total : Lanes → ℕ → ℕ
lower_total lanes l = lower_of (slice_index lanes.pairtotals l) (slice_index lanes.uppertotals l)

abbrev pub lane_total : Lanes → ℕ → ℕ
lane_total lanes l = lower_total lanes l + slice_index lanes.uppertotals l

-- no lane is above a bound
abbrev pub LanesMost : ℕ → List ℕ → Type 0
LanesMost most lanes = (l : ℕ) → l < 16 → slice_index lanes l ≤ most

-- one row more
pub record RowAdded (before : Lanes) (bytes : List ℕ) (after : Lanes) : Type 0 where
  pub pairs_are : (l : ℕ) → l < 16
      → slice_index after.pairs l ≡ (slice_index before.pairs l + (slice_index bytes (2 * l) + 256 * slice_index bytes (2 * l + 1))) % 65536
  pub uppers_are : (l : ℕ) → l < 16 → slice_index after.uppers l ≡ slice_index before.uppers l + slice_index bytes (2 * l + 1)
  pub pair_totals_are : (l : ℕ) → l < 16 → slice_index after.pairtotals l ≡ (slice_index before.pairtotals l + slice_index before.pairs l) % 65536
  pub upper_totals_are : (l : ℕ) → l < 16 → slice_index after.uppertotals l ≡ slice_index before.uppertotals l + slice_index before.uppers l

-- the lower byte of lane l counts 32 - 2 l times in its row, the upper byte once less
unfoldable pub plain_of : Lanes → ℕ
plain_of lanes = sum_below 16 (lane_sum lanes)

unfoldable pub weighted_of : Lanes → ℕ
weighted_of lanes = sum_below 16 (λ l. 32 * lane_total lanes l + (32 - 2 * l) * lane_sum lanes l)

unfoldable pub uppers_of : Lanes → ℕ
uppers_of lanes = sum_below 16 (λ l. slice_index lanes.uppers l)

-- what the lanes tell of the bytes of all rows
pub record Summed (lanes : Lanes) (bytes : List ℕ) : Type 0 where
  pub plainly : plain bytes ≡ plain_of lanes
  pub weightedly : weighted bytes + uppers_of lanes ≡ weighted_of lanes

-- what two bytes of sixteen rows can sum to
abbrev pub SumsMost : Lanes → Type 0
SumsMost lanes = (l : ℕ) → l < 16 → lane_sum lanes l ≤ 8160
