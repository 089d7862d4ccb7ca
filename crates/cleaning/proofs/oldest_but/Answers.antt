-- `cleaning::oldest_but` meets its contract: the lowest so far, and the first groups from index i on.
-- Assumes nothing.
use Prim.Native.Nat.{ℕ, ◌+◌, ◌<◌}
use mathlib.Core.Path.{◌≡◌, sym, ap, ◌∙◌}
use lib.ListN.{length, drop, set}
use Rattle.promises.specs.Sums.{first_groups, smallest}
use Rattle.promises.specs.States.{free}
use Rattle.soundness.proofs.Scans.{firsts-end}
use Rattle.table.proofs.Scans.{length-mapped}
use Rattle.cleaning.proofs.Choosing.{left-used, left-free, lower-but, own-but, free-but, lowest-but}
use borrow.Author.Rules.{rules}
use native.Mathlib.Omega.{arith}
use Rattle.cleaning.proofs.oldest_but.Goals as goal
use Rattle.cleaning.proofs.oldest_but.Goals.{then-entry-ne0, else-entry-ne0, then-i-frame, else-i-frame}

pub loop-i-preserved : goal.loop-i-preserved
loop-i-preserved c =
    let a = c.args in
    let ds = a.state.dirty in
    let l = c.loop-i in
    let long : length ds ≡ 32 = search (rules, length-mapped) in
    let here : l.i < length ds = omega (arith, c.loop-i-test.true) in
    let rest : ℕ → ℕ = λ x. smallest x (first_groups (drop (l.i + 1) (set ds a.frame free))) in
    elim c.if-entry-ne0.branch [
      | then-entry-ne0 w ↦ (
        w.left-is ∙ left-used ds l.left l.i l.invariant.0 here w.if-entry-ne0.true,
        elim w.if-i-frame.branch [
          | then-i-frame v ↦ ap rest (w.low-is ∙ v.low-is ∙ v.min-low.ensures) ∙ lower-but l.low ds a.frame l.i here w.if-entry-ne0.true v.if-i-frame.true ∙ l.invariant.1
          | else-i-frame v ↦ ap rest (w.low-is ∙ v.low-is) ∙ own-but l.low ds a.frame l.i here v.if-i-frame.false ∙ l.invariant.1
        ],
      )
      | else-entry-ne0 w ↦ (
        w.left-is ∙ left-free ds l.left l.i l.invariant.0 here w.if-entry-ne0.false,
        ap rest w.low-is ∙ free-but l.low ds a.frame l.i here w.if-entry-ne0.false ∙ l.invariant.1,
      )
    ]

pub returns-after-loop-i : goal.returns-after-loop-i
returns-after-loop-i c =
    let a = c.args in
    let l = c.loop-i in
    let long : length a.state.dirty ≡ 32 = search (rules, length-mapped) in
    sym (lowest-but l.low l.i a.state.dirty a.frame (ap length (firsts-end a.state.dirty l.i (omega (arith, c.loop-i-test.false))))) ∙ l.invariant.1

pub returns-then-left-eq0 : goal.returns-then-left-eq0
returns-then-left-eq0 c =
    let a = c.args in
    let l = c.loop-i in
    sym (lowest-but l.low l.i a.state.dirty a.frame (sym l.invariant.0 ∙ c.if-left-eq0.true)) ∙ l.invariant.1
