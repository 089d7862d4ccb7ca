-- `feeding::lacking` meets its contract: what is left to see of the half group from an index on.
-- Assumes nothing.
use mathlib.Core.Path.{sym, ◌∙◌}
use Rattle.feeding.proofs.Testing.{lacking-step, lacking-found, lacking-end}
use native.Mathlib.Omega.{arith}
use Rattle.feeding.proofs.lacking.Goals as goal

pub returns-then-not-has_update : goal.returns-then-not-has_update
returns-then-not-has_update c =
    let a = c.args in
    let l = c.loop-i in
    (sym (l.invariant ∙ lacking-found _ a.pages a.log.now (omega arith) a.count a.start l.i (omega arith) (sym c.has_update.ensures ∙ c.if-not-has_update.true)), omega arith)

pub loop-i-preserved : goal.loop-i-preserved
loop-i-preserved c =
    let a = c.args in
    let l = c.loop-i in
    l.invariant ∙ lacking-step _ a.pages a.log.now (omega arith) a.count a.start l.i (omega arith) (sym c.has_update.ensures ∙ c.if-not-has_update.false)

pub returns : goal.returns
returns c =
    let a = c.args in
    let l = c.loop-i in
    l.invariant ∙ lacking-end _ a.pages a.log.now (omega arith) a.count a.start l.i (omega arith)
