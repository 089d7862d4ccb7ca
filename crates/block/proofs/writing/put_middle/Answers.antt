-- `writing::put_middle` meets its contract: seven numbers stored in a row.
-- Assumes nothing.
use Rattle.std.proofs.Common.{ℕ, List, ap, ◌∙◌}
use lib.Seq.{sets}
use Rattle.block.specs.Number.{to_bytes}
use Rattle.block.proofs.Stores.{middle-law}
use Rattle.block.proofs.writing.put_middle.Goals as goal

pub returns : goal.returns
returns c =
    let start = c in
    let fields = start.args.fields in
    let e1 = c.put.ensures in
    let e2 = c.put-2.ensures ∙ ap (λ (l : List ℕ). sets l 17 (to_bytes 1 0)) e1 in
    let e3 = c.put-3.ensures ∙ ap (λ (l : List ℕ). sets l 18 (to_bytes 2 fields.index)) e2 in
    let e4 = c.put-4.ensures ∙ ap (λ (l : List ℕ). sets l 20 (to_bytes 2 fields.page)) e3 in
    let e5 = c.put-5.ensures ∙ ap (λ (l : List ℕ). sets l 22 (to_bytes 2 fields.offset)) e4 in
    let e6 = c.put-6.ensures ∙ ap (λ (l : List ℕ). sets l 24 (to_bytes 2 fields.length)) e5 in
    c.put-7.ensures ∙ ap (λ (l : List ℕ). sets l 26 (to_bytes 2 0)) e6 ∙ middle-law start.args.b.now fields
