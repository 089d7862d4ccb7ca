-- `lines::block_line` meets its contract: the sequence, the kind's text, the ticket and a newline.
-- Assumes nothing.
use mathlib.Core.Path.{◌≡◌, ap, subst, ◌∙◌}
use mathlib.Core.List.{List, ◌++◌}
use Prim.Native.Nat.{ℕ}
use Rattle.lines.specs.Text.{block_line, decimal, field, kind_text, ticket_word, newline, Shows}
use Rattle.lines.proofs.block_line.Goals as goal

pub returns : goal.returns
unfolding block_line
returns c =
    let a = c.args in
    let b = a.block in
    let text : c.add_field.new.line.bytes ≡ decimal b.sequence ++ kind_text b.kind ++ field ticket_word b.ticket =
    c.add_field.ensures.is ∙ ap (λ (l : List ℕ). l ++ field ticket_word b.ticket)
    (c.add_kind.ensures.is ∙ ap (λ (l : List ℕ). l ++ kind_text b.kind) (c.add_number.ensures.is ∙ ap (λ (l : List ℕ). l ++ decimal b.sequence) c.new-line.ensures)) in
    subst (λ (l : List ℕ). Shows (l ++ newline) a.out.now c.write_line.new.out c.write_line.result) text c.write_line.ensures
