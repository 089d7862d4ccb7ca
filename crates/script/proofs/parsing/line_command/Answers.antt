-- `line_command` meets its contract: the letter alone, a number without a digit, or so many numbers.
-- Assumes nothing.
use mathlib.Core.Path.{◌≡◌, ◌∙◌}
use mathlib.Core.Bool.{true}
use mathlib.Core.List.{[], ◌∷◌, ◌++◌}
use Prim.Native.Nat.{◌^◌, ◌<◌}
use native.Mathlib.Omega.{arith}
use borrow.Author.Tests.{not-true, not-false}
use Rattle.script.specs.declared.Line.{Line}
use Rattle.script.specs.Commands.{command_for}
use Rattle.script.specs.Meant.{line_meant, whole_numbers}
use Rattle.script.proofs.Parsed.{ends-alone, ends-empty, ends-number, one_number, two-numbers, three-numbers, four-numbers}
use Rattle.script.proofs.parsing.line_command.Goals as goal

-- the letter with its numbers, at the line's end
ends : (line : Line) → (line.count ≡ 0 → ⊥) → line.digits ≡ true → line.last < 2 ^ 64
    → command_for line.letter (whole_numbers line.count line.first line.second line.third ++ (line.last ∷ [])) ≡ line_meant line []
unfolding line_meant
ends line n d l =
    ends-number line.letter (whole_numbers line.count line.first line.second line.third) line.last line.count line.digits n d l

pub returns-then-line-eq0 : goal.returns-then-line-eq0
unfolding line_meant
returns-then-line-eq0 c =
    let line = c.args.line in
    c.of_none.ensures
    ∙ ends-alone line.letter (whole_numbers line.count line.first line.second line.third) line.last line.count line.digits
    c.if-line-eq0.true

pub returns-then-not-line : goal.returns-then-not-line
unfolding line_meant
returns-then-not-line c =
    let line = c.args.line in
    ends-empty line.letter (whole_numbers line.count line.first line.second line.third) line.last line.count line.digits
    c.if-line-eq0.false (not-true line.digits c.if-not-line.true)

pub returns-in-1 : goal.returns-in-1
returns-in-1 c =
    let line = c.args.line in
    c.of_one.ensures ∙ one_number line.letter line.first line.second line.third line.last line.count c.in-1.is
    ∙ ends line c.if-line-eq0.false (not-false line.digits c.if-not-line.false) (omega arith)

pub returns-in-2 : goal.returns-in-2
returns-in-2 c =
    let line = c.args.line in
    c.of_two.ensures ∙ two-numbers line.letter line.first line.second line.third line.last line.count c.in-2.is
    ∙ ends line c.if-line-eq0.false (not-false line.digits c.if-not-line.false) (omega arith)

pub returns-in-3 : goal.returns-in-3
returns-in-3 c =
    let line = c.args.line in
    c.of_three.ensures ∙ three-numbers line.letter line.first line.second line.third line.last line.count c.in-3.is
    ∙ ends line c.if-line-eq0.false (not-false line.digits c.if-not-line.false) (omega arith)

pub returns-in_default : goal.returns-in_default
returns-in_default c =
    let line = c.args.line in
    c.of_four.ensures ∙ four-numbers line.letter line.first line.second line.third line.last line.count (omega arith)
    ∙ ends line c.if-line-eq0.false (not-false line.digits c.if-not-line.false) (omega arith)
