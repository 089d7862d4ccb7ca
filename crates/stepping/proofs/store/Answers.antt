-- `stepping::store` meets its contract: the loan of the slot leaves the block there.
-- Assumes nothing.
use Rattle.std.proofs.Common.{ℕ, ap, ◌∙◌}
use Rattle.area.proofs.Parts.{lent}
use Rattle.area.specs.Part.{splice}
use Rattle.block.specs.Layout.{layout}
use Rattle.block.specs.Sizes.{block_size}
use Rattle.stepping.proofs.store.Goals as goal

pub returns : goal.returns
returns c =
    let a = c.args in
    lent a.log.now c.place-at.result block_size _ _ c.write.ensures
    ∙ ap (λ (at : ℕ). splice a.log.now at block_size (layout a.block a.new.now)) c.place-at.ensures.start
