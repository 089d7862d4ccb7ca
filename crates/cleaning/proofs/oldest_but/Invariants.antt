-- `cleaning::oldest_but` meets its contract: the lowest so far, and the first groups from index i on.
use mathlib.Core.Path.{◌≡◌}
use lib.ListN.{length, drop, set}
use Rattle.promises.specs.Sums.{first_groups, smallest}
use Rattle.promises.specs.States.{free}
use Rattle.cleaning.proofs.oldest_but.Given as goal

abbrev pub invariant-loop-i : goal.invariant-loop-i
invariant-loop-i l =
    (l.left ≡ length (first_groups (drop l.i l.fn.state.dirty)))
    × (smallest l.low (first_groups (drop l.i (set l.fn.state.dirty l.frame free))) ≡ smallest l.initial.low (first_groups (set l.fn.state.dirty l.frame free)))
