-- `outline::unmark_page` meets its contract: the pages kept, and those from an index on.
use mathlib.Core.Path.{◌≡◌}
use mathlib.Core.List.{◌++◌}
use Prim.Native.Nat.{◌≤◌}
use lib.ListN.{drop, length}
use Rattle.outline.specs.Marks.{unmarked}
use Rattle.outline.proofs.unmark_page.Given as goal

abbrev pub invariant-loop-mark : goal.invariant-loop-mark
invariant-loop-mark l =
    (length l.kept.items ≤ l.mark-index) × (l.kept.items ++ unmarked l.page (drop l.mark-index l.mark-items) ≡ unmarked l.page l.mark-items)
