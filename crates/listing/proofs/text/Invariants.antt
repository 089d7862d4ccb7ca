-- `listing::text` meets its contract: each turn adds one line behind those before it.
use mathlib.Core.Path.{◌≡◌}
use mathlib.Core.List.{flatten}
use Prim.Native.Nat.{◌*◌, ◌≤◌}
use lib.ListN.{length, take}
use Rattle.lines.specs.Text.{Adds}
use Rattle.listing.specs.Listing.{lines_of}
use Rattle.listing.proofs.text.Given as goal

abbrev pub invariant-loop-index : goal.invariant-loop-index
invariant-loop-index l =
    (l.index ≤ l.count) × (l.count ≤ 129) × (l.at ≤ l.index * 160) × (length l.out ≡ length l.initial.out) × Adds l.initial.out 0 (flatten (take l.index (lines_of l.log))) l.out l.at
