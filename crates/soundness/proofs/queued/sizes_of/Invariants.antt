-- `queued::sizes_of` meets its contract. The loop's invariant: what is told of the groups seen, and what is left, make the whole.
use Prim.Native.Nat.{◌+◌, ◌*◌, ◌≤◌}
use mathlib.Core.Path.{◌≡◌}
use mathlib.Core.Bool.{◌&&◌}
use lib.ListN.{drop}
use Rattle.promises.specs.Contents.{total}
use Rattle.promises.specs.Sound.{sizes_legal}
use Rattle.soundness.proofs.queued.sizes_of.Given as goal

abbrev pub invariant-loop-size : goal.invariant-loop-size
invariant-loop-size l =
    let rest = drop l.size-index l.sizes in
    (l.updates ≤ 255 * l.size-index) × ((l.legal && sizes_legal rest) ≡ sizes_legal l.sizes) × (l.updates + total rest ≡ total l.sizes)
