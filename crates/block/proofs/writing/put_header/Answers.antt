-- `writing::put_header` meets its contract: the numbers before the middle, the middle, the ticket.
-- Assumes nothing.
use Rattle.std.proofs.Common.{ℕ, List, ap, ◌∙◌, ap₂}
use lib.Seq.{sets}
use Rattle.block.specs.Number.{to_bytes}
use Rattle.block.specs.Layout.{middle}
use Rattle.block.specs.declared.Fields.{Fields}
use Rattle.block.proofs.Stores.{header-law}
use Rattle.block.proofs.writing.put_header.Goals as goal

pub returns : goal.returns
returns c =
    let start = c in
    let block = start.args.block in
    let e1 = c.put.ensures in
    let e2 = c.put-2.ensures ∙ ap (λ (l : List ℕ). sets l 8 (to_bytes 8 block.keep_from)) e1 in
    let e3 =
    c.put_middle.ensures
    ∙ ap₂ (λ (l : List ℕ) (fields : Fields). sets l 16 (middle fields)) e2 c.fields_of.ensures in
    c.put-3.ensures ∙ ap (λ (l : List ℕ). sets l 28 (to_bytes 8 block.ticket)) e3 ∙ header-law start.args.b.now block
