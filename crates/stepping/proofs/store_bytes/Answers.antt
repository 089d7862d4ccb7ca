-- `stepping::store_bytes` meets its contract: the loan of the slot leaves the bytes there.
-- Assumes nothing.
use Rattle.std.proofs.Common.{ℕ, ap, ◌∙◌}
use Rattle.area.proofs.Parts.{lent}
use Rattle.area.specs.Part.{splice}
use Rattle.block.specs.Sizes.{block_size}
use Rattle.stepping.proofs.store_bytes.Goals as goal

pub returns : goal.returns
returns c =
    let a = c.args in
    lent a.log.now c.place-at.result block_size _ _ c.copy_from_slice.ensures.after
    ∙ ap (λ (at : ℕ). splice a.log.now at block_size a.bytes.now) c.place-at.ensures.start
