-- `numbers::few_distinct` meets its contract. The loop's invariant: all numbers are distinct if those left are.
use mathlib.Core.Path.{◌≡◌}
use lib.ListN.{drop}
use Rattle.promises.specs.Sound.{distinct}
use Rattle.soundness.proofs.numbers.few_distinct.Given as goal

abbrev pub invariant-loop-i : goal.invariant-loop-i
invariant-loop-i l = distinct (drop l.i l.numbers) ≡ distinct l.numbers
