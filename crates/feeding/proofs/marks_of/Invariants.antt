-- `feeding::marks_of` meets its contract: what is left to see of the frames from an index on.
use mathlib.Core.Path.{◌≡◌}
use mathlib.Core.List.{List, ◌++◌}
use Prim.Native.Nat.{ℕ, ◌≤◌}
use lib.ListN.{drop, length}
use Rattle.promises.specs.Contents.{dirty_from}
use Rattle.outline.specs.Marks.{marks_of}
use Rattle.feeding.proofs.marks_of.Given as goal

abbrev pub invariant-loop-entry : goal.invariant-loop-entry
invariant-loop-entry l =
    (length l.marks.items ≤ l.entry-index) × ((frames : List ℕ) → l.marks.items ++ marks_of (dirty_from frames l.entry-index (drop l.entry-index l.dirty)) ≡ marks_of (dirty_from frames 0 l.dirty))
