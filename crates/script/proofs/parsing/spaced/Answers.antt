-- `spaced` meets its contract: a second space, a fifth number, or a number begins.
-- Assumes nothing.
use native.Mathlib.Omega.{arith}
use borrow.Author.Tests.{not-true, not-false}
use Rattle.script.specs.Meant.{meant, line_meant}
use Rattle.script.proofs.Parsed.{space-again, space-fifth, space-begins}
use Rattle.script.proofs.parsing.spaced.Goals as goal
use Rattle.script.proofs.parsing.spaced.Goals.{else-line-ne0-via-then-line-ne0+else-not-line, else-line-ne0-via-else-line-ne0}

pub returns-then-not-line : goal.returns-then-not-line
unfolding meant line_meant
returns-then-not-line c rest =
    let line = c.args.line in
    space-again line.letter line.first line.second line.third line.last rest line.count line.digits c.if-line-ne0.true
    (not-true line.digits c.if-not-line.true)

pub returns-then-line-ge4 : goal.returns-then-line-ge4
unfolding meant line_meant
returns-then-line-ge4 c rest =
    let line = c.args.line in
    space-fifth line.letter line.first line.second line.third line.last rest line.count line.digits c.if-line-ge4.true

pub returns : goal.returns
unfolding meant line_meant
returns c rest =
    let line = c.args.line in
    space-begins line.letter line.first line.second line.third line.last rest line.count line.digits (omega arith)
    (elim c.else-line-ne0.branch [
      | else-line-ne0-via-then-line-ne0+else-not-line w ↦ λ n. not-false line.digits w.if-not-line.false
      | else-line-ne0-via-else-line-ne0 w ↦ λ n. absurd (n w.if-line-ne0.false)
    ])
    (omega arith)
