-- A block is stored in its slot.
use Prim.Native.Nat.{ℕ, ◌%◌}
use mathlib.Core.List.{List}
use lib.ListN.{set}
use Rattle.promises.specs.Blocks.{LogBlock, Slot, valid}

unfoldable pub store : ℕ → ℕ → LogBlock → List Slot → List Slot
store N s b log = set log (s % N) (valid s b)
