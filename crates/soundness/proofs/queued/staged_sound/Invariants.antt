-- `queued::staged_sound` meets its contract. The loop's invariant: what is told and gathered so far, and what is left, make the whole.
use mathlib.Core.Path.{◌≡◌}
use mathlib.Core.Bool.{◌&&◌}
use mathlib.Core.List.{◌++◌}
use lib.ListN.{length, drop, take}
use Rattle.promises.specs.Sound.{areas_of}
use Rattle.soundness.specs.Tests.{updates_legal}
use Rattle.soundness.proofs.queued.staged_sound.Given as goal

abbrev pub invariant-loop-i : goal.invariant-loop-i
invariant-loop-i l =
    let all = take l.count l.fn.staged in
    (length l.list ≡ 32)
    × ((l.legal && updates_legal l.pages l.frames (drop l.i all)) ≡ updates_legal l.pages l.frames all)
    × (take l.i l.list ++ areas_of (drop l.i all) ≡ areas_of all)
