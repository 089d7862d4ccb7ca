-- `feeding::group_of` meets its contract: the pages of the updates up to an index.
use mathlib.Core.Path.{◌≡◌}
use lib.ListN.{length}
use Rattle.recovery.specs.Log.{updates_from}
use Rattle.outline.specs.Marks.{pages_of}
use Rattle.feeding.proofs.group_of.Given as goal

abbrev pub invariant-loop-i : goal.invariant-loop-i
invariant-loop-i l = (length l.pages.items ≡ l.i) × (l.pages.items ≡ pages_of (updates_from l.log l.start l.i))
