-- `continued` meets its contract: no digit, a number that grows too large, or a digit more.
-- Assumes nothing.
use mathlib.Core.Path.{sym, ◌∙◌}
use native.Mathlib.Omega.{arith}
use Rattle.script.specs.Meant.{meant, line_meant, whole_numbers}
use Rattle.script.proofs.Parsed.{byte-wrong, byte-overflows, byte-goes-on}
use Rattle.script.proofs.parsing.continued.Goals as goal
use Rattle.script.proofs.parsing.continued.Goals.{then-line-eq0-via-then-line-eq0, then-line-eq0-via-else-line-eq0+then-not-is_ascii_digit}

pub returns-then-line-eq0 : goal.returns-then-line-eq0
unfolding meant line_meant
returns-then-line-eq0 c rest =
    let line = c.args.line in
    byte-wrong line.letter (whole_numbers line.count line.first line.second line.third) line.digits line.last c.args.byte
    rest c.requires line.count
    (elim c.then-line-eq0.branch [
      | then-line-eq0-via-then-line-eq0 w ↦ λ n. absurd (n w.if-line-eq0.true)
      | then-line-eq0-via-else-line-eq0+then-not-is_ascii_digit w ↦ λ n. sym w.is_ascii_digit.ensures.value ∙ w.if-not-is_ascii_digit.true
    ])

pub returns-in-None : goal.returns-in-None
unfolding meant line_meant
returns-in-None c rest =
    let line = c.args.line in
    byte-overflows line.letter (whole_numbers line.count line.first line.second line.third) line.digits line.last c.args.byte
    rest c.requires line.count c.if-line-eq0.false (omega (arith, c.in-None.ensures, c.from-digit.ensures))

pub returns-in-Some : goal.returns-in-Some
unfolding meant line_meant
returns-in-Some c rest =
    let line = c.args.line in
    byte-goes-on line.letter (whole_numbers line.count line.first line.second line.third) line.digits line.last c.args.byte
    rest c.requires line.count c.in-Some.last c.if-line-eq0.false
    (sym c.is_ascii_digit.ensures.value ∙ c.if-not-is_ascii_digit.false)
    (omega (arith, c.in-Some.ensures, c.from-digit.ensures))
