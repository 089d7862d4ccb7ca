-- `outline::mark_group` meets its contract: what is left of the group's pages from an index on.
use mathlib.Core.Path.{◌≡◌}
use Prim.Native.Nat.{◌+◌, ◌≤◌}
use lib.ListN.{drop, length}
use Rattle.outline.specs.Marks.{marked_all}
use Rattle.outline.proofs.mark_group.Given as goal

abbrev pub invariant-loop-page : goal.invariant-loop-page
invariant-loop-page l =
    (length l.marks.items ≤ length l.initial.marks.items + l.page-index)
    × (marked_all l.group.start (drop l.page-index l.page-items) l.marks.items ≡ marked_all l.group.start l.page-items l.initial.marks.items)
