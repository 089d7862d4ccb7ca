-- `judging::few_blank` meets its contract. The loop's invariant: all bytes are zero if the largest of those read is and those left are.
-- Assumes nothing.
use Rattle.std.proofs.Common.{ℕ, ◌+◌, ◌&&◌, eqb, drop, sym, ap, ◌∙◌}
use Rattle.block.specs.Slot.{all_zero}
use Rattle.block.proofs.Zeros.{most-turn, most-end}
use Rattle.block.proofs.judging.few_blank.Goals as goal

pub loop-byte-preserved : goal.loop-byte-preserved
loop-byte-preserved c =
    let l = c.loop-byte in
    let bytes = c.args.bytes.now in
    l.invariant
    ∙ most-turn bytes l.byte-index l.most c.loop-byte-test.true
    ∙ ap (λ (n : ℕ). eqb n 0 && all_zero (drop (l.byte-index + 1) bytes)) (sym c.max-most.ensures)

pub returns : goal.returns
returns c =
    let l = c.loop-byte in
    sym (l.invariant ∙ most-end c.args.bytes.now l.byte-index l.most c.loop-byte-test.false)
