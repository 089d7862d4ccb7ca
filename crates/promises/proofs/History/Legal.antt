-- Updates that stay within n bytes.
use Prim.Native.Nat.{ℕ, ◌+◌, ◌≤◌}
use mathlib.Core.List.{List, [], ◌∷◌}
use lib.ListN.{length}
use Rattle.promises.specs.Updates.{Update}

unfoldable pub Legal : ℕ → List Update → Type 0
Legal n [] = Unit {0}
Legal n (u ∷ us) = (u.offset + length u.bytes ≤ n) × Legal n us
