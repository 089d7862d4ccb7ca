-- `area::copy_part` meets its contract: what the loan of the destination's part leaves.
-- Assumes nothing.
use mathlib.Core.Path.{◌∙◌}
use Rattle.area.proofs.Parts.{lent, from-to}
use Rattle.area.proofs.copy_part.Goals as goal

pub returns : goal.returns
returns c =
    let a = c.args in
    lent a.destination.now a.to a.count c.copy_from_slice.new.self _
    (c.copy_from_slice.ensures.after ∙ from-to a.source.now a.from a.count)
