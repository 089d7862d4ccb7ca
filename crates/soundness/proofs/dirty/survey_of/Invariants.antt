-- `dirty::survey_of` meets its contract. The loops' invariant: what is told so far, and what is left, make the whole.
use Prim.Native.Nat.{◌%◌}
use mathlib.Core.Path.{◌≡◌}
use Rattle.soundness.proofs.Surveys.{Told}
use Rattle.soundness.proofs.dirty.survey_of.Given as goal

abbrev pub invariant-loop-j : goal.invariant-loop-j
invariant-loop-j l = Told l.pages l.frames l.next l.own l.dirty l.list l.count l.low l.legal l.j

abbrev pub invariant-loop-i : goal.invariant-loop-i
invariant-loop-i l = (l.i % 4 ≡ 0) × Told l.pages l.frames l.next l.own l.dirty l.list l.count l.low l.legal l.i
