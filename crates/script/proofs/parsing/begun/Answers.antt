-- `begun` meets its contract: a letter, or the space that stands in its place.
-- Assumes nothing.
use mathlib.Core.Path.{ap, sym, ◌∙◌}
use mathlib.Core.List.{◌∷◌}
use Prim.Native.Nat.{ℕ}
use Rattle.script.specs.Lines.{command_of}
use Rattle.script.specs.Meant.{meant, line_meant}
use Rattle.script.proofs.Parsed.{first-space, first-letter}
use Rattle.script.proofs.parsing.begun.Goals as goal

pub returns-then-letter-eq32 : goal.returns-then-letter-eq32
unfolding meant
returns-then-letter-eq32 c rest = first-space rest ∙ ap (λ (byte : ℕ). command_of (byte ∷ rest)) (sym c.if-letter-eq32.true)

pub returns : goal.returns
unfolding meant line_meant
returns c rest = first-letter c.args.letter rest c.if-letter-eq32.false
