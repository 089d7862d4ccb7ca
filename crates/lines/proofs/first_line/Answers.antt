-- `lines::first_line` meets its contract: four fields and a newline.
-- Assumes nothing.
use mathlib.Core.Path.{◌≡◌, ap, subst, ◌∙◌}
use mathlib.Core.List.{List, ◌++◌}
use Prim.Native.Nat.{ℕ}
use Rattle.lines.specs.Text.{first_line, field, blocks_word, newest_word, keep_word, ticket_word, newline, Shows}
use Rattle.lines.proofs.first_line.Goals as goal

pub returns : goal.returns
unfolding first_line
returns c =
    let a = c.args in
    let slots = field blocks_word a.slots in
    let newest = field newest_word a.newest in
    let keep = field keep_word a.keep in
    let text : c.add_field-4.new.line.bytes ≡ slots ++ newest ++ keep ++ field ticket_word a.ticket =
    c.add_field-4.ensures.is ∙ ap (λ (l : List ℕ). l ++ field ticket_word a.ticket)
    (c.add_field-3.ensures.is ∙ ap (λ (l : List ℕ). l ++ keep) (c.add_field-2.ensures.is ∙ ap (λ (l : List ℕ). l ++ newest) (c.add_field.ensures.is ∙ ap (λ (l : List ℕ). l ++ slots) c.new-line.ensures))) in
    subst (λ (l : List ℕ). Shows (l ++ newline) a.out.now c.write_line.new.out c.write_line.result) text c.write_line.ensures
