-- `judge` meets its contract: an answer for each test.
-- Assumes nothing.
use Rattle.std.proofs.Common.{◌≡◌, false, sym, ◌∙◌}
use Rattle.block.specs.Slot.{all_zero}
use Rattle.block.proofs.Rules.{judged-unused, judged-valid, judged-damaged}
use Rattle.block.proofs.judge.Goals as goal

pub returns-then-zeros : goal.returns-then-zeros
returns-then-zeros c =
    let args = c.args in
    judged-unused args.slots args.pages args.place args.slot.now (sym c.zeros.ensures ∙ c.if-zeros.true)

pub returns-then-valid : goal.returns-then-valid
returns-then-valid c =
    let args = c.args in
    let block = c.block_at-block in
    let z : all_zero args.slot.now ≡ false = sym c.zeros.ensures ∙ c.if-zeros.false in
    judged-valid args.slots args.pages args.place args.slot.now block.result
    c.valid.result z block.ensures c.valid.ensures c.if-valid.true

pub returns : goal.returns
returns c =
    let args = c.args in
    let block = c.block_at-block in
    let z : all_zero args.slot.now ≡ false = sym c.zeros.ensures ∙ c.if-zeros.false in
    judged-damaged args.slots args.pages args.place args.slot.now block.result
    c.valid.result z block.ensures c.valid.ensures c.if-valid.false
