-- `lines::add_kind` meets its contract, kind by kind.
-- Assumes nothing.
use mathlib.Core.Path.{sym, ap, ◌∙◌}
use mathlib.Core.List.{List, ◌++◌, append_assoc}
use Prim.Native.Nat.{ℕ}
use Rattle.block.specs.declared.Kind.{Kind}
use Rattle.lines.specs.Text.{kind_text, field, update_page_word, offset_word, length_word}
use Rattle.lines.proofs.add_kind.Goals as goal

pub returns-in-Update-clause-is : goal.returns-in-Update-clause-is
unfolding kind_text
returns-in-Update-clause-is c =
    let line = c.args.line.now.bytes in
    let u = c.in-Update in
    let page = field update_page_word u.page in
    let offset = field offset_word u.offset in
    let size = field length_word u.length in
    c.add_field-in-Update-2.ensures.is ∙ ap (λ (l : List ℕ). l ++ size) (c.add_field-in-Update.ensures.is ∙ ap (λ (l : List ℕ). l ++ offset) c.add_field.ensures.is ∙ append_assoc line page offset)
    ∙ append_assoc line (page ++ offset) size
    ∙ ap (λ (k : Kind). line ++ kind_text k) (sym u.is)

pub returns-in-Commit-clause-is : goal.returns-in-Commit-clause-is
unfolding kind_text
returns-in-Commit-clause-is c = c.add_field-in-Commit.ensures.is ∙ ap (λ (k : Kind). c.args.line.now.bytes ++ kind_text k) (sym c.in-Commit.is)

pub returns-in-Clean-clause-is : goal.returns-in-Clean-clause-is
unfolding kind_text
returns-in-Clean-clause-is c = c.add_field-in-Clean.ensures.is ∙ ap (λ (k : Kind). c.args.line.now.bytes ++ kind_text k) (sym c.in-Clean.is)
