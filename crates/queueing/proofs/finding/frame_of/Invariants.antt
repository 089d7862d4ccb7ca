-- `finding::frame_of` meets its contract. The loop's invariant: the page is held where it is held in what is left.
use mathlib.Core.Path.{◌≡◌}
use lib.ListN.{drop}
use Rattle.promises.specs.Read.{held_in}
use Rattle.queueing.proofs.finding.frame_of.Given as goal

abbrev pub invariant-loop-frame : goal.invariant-loop-frame
invariant-loop-frame l = held_in l.page 0 l.fn.state.dirty ≡ held_in l.page l.frame (drop l.frame l.fn.state.dirty)
