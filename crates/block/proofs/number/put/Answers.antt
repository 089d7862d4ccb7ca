-- `number::put` meets its contract. The loop's invariant: what is to be stored is what the bytes of left will make of the block as it is.
-- Assumes nothing.
use Rattle.std.proofs.Common.{sym, ◌∙◌}
use Rattle.block.proofs.Stores.{put-turn, put-end}
use Rattle.block.proofs.number.put.Goals as goal

pub loop-i-preserved : goal.loop-i-preserved
loop-i-preserved c =
    let l = c.loop-i in
    l.invariant ∙ put-turn l.block c.args.place l.i c.args.width l.left c.loop-i-test.true

pub returns : goal.returns
returns c =
    let l = c.loop-i in
    sym (l.invariant ∙ put-end l.block _ l.i c.args.width l.left c.loop-i-test.false)
