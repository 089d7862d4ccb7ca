-- `finding::free_area` meets its contract. The loop's invariant: fewer held areas are left from here on than areas.
use Prim.Native.Nat.{◌+◌, ◌<◌}
use Rattle.promises.specs.Sound.{areas_of}
use Rattle.queueing.proofs.Areas.{above}
use Rattle.queueing.proofs.finding.free_area.Given as goal

abbrev pub invariant-loop-area : goal.invariant-loop-area
invariant-loop-area l = above l.area-counter (areas_of l.waiting) + l.area-counter < l.area-end
