-- `lines::refused_line` meets its contract: two fields and a newline.
-- Assumes nothing.
use mathlib.Core.Path.{◌≡◌, ap, subst, ◌∙◌}
use mathlib.Core.List.{List, ◌++◌}
use Prim.Native.Nat.{ℕ}
use Rattle.lines.specs.Text.{refused_line, field, refused_word, space_word, newline, Shows}
use Rattle.lines.proofs.refused_line.Goals as goal

pub returns : goal.returns
unfolding refused_line
returns c =
    let a = c.args in
    let refusal = field refused_word a.refusal in
    let text : c.add_field-2.new.line.bytes ≡ refusal ++ field space_word a.place =
    c.add_field-2.ensures.is ∙ ap (λ (l : List ℕ). l ++ field space_word a.place) (c.add_field.ensures.is ∙ ap (λ (l : List ℕ). l ++ refusal) c.new-line.ensures) in
    subst (λ (l : List ℕ). Shows (l ++ newline) a.out.now c.write_line.new.out c.write_line.result) text c.write_line.ensures
