-- `stepping::store_half` meets its contract: what the loan of home's part leaves.
-- Assumes nothing.
use mathlib.Core.Path.{◌∙◌}
use Rattle.area.proofs.Parts.{lent, from-to}
use Rattle.block.specs.Sizes.{block_size}
use Rattle.stepping.proofs.store_half.Goals as goal

pub returns : goal.returns
returns c =
    let a = c.args in
    lent a.home.now a.to block_size c.copy_from_slice.new.self _
    (c.copy_from_slice.ensures.after ∙ from-to a.frames.now a.from block_size)
