-- `listing::walk_blocks` meets its contract: what is left of the blocks from sequence s on.
use mathlib.Core.Path.{◌≡◌}
use Prim.Native.Nat.{◌≤◌, ◌-◌, ◌+◌}
use Rattle.std.specs.Prelude.{Ok}
use Rattle.outline.specs.Outline.{steps, started, sketch_in, Bounded}
use Rattle.listing.specs.Listing.{headers_from}
use Rattle.listing.proofs.walk_blocks.Given as goal

abbrev pub invariant-loop-s : goal.invariant-loop-s
invariant-loop-s l =
    (l.s ≤ l.last + 1) × Bounded l.course × (l.course.next ≡ l.s)
    × (steps 32 (headers_from l.log l.s (l.last + 1 - l.s)) (sketch_in (Ok l.course)) ≡ steps 32 (headers_from l.log l.first (l.last + 1 - l.first)) (started l.first l.ticket))
