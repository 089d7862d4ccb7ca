-- `numbers::many_distinct` meets its contract. The loop's invariant: the numbers seen are distinct, and they are those marked.
use mathlib.Core.Path.{◌≡◌}
use mathlib.Core.Bool.{true}
use lib.ListN.{take}
use Rattle.promises.specs.Sound.{distinct}
use Rattle.soundness.proofs.Marks.{Marked}
use Rattle.soundness.proofs.numbers.many_distinct.Given as goal

abbrev pub invariant-loop-number : goal.invariant-loop-number
invariant-loop-number l = (distinct (take l.number-index l.numbers) ≡ true) × Marked l.seen (take l.number-index l.numbers)
