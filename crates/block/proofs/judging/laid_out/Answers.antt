-- `judging::laid_out` meets its contract: its four tests are those of the layout.
-- Assumes nothing.
use Rattle.std.proofs.Common.{sym, ◌∙◌, arith, length-take-le}
use Rattle.area.specs.Part.{part}
use Rattle.block.specs.Sizes.{body_size}
use Rattle.block.proofs.Rules.{laid_by}
use Rattle.block.proofs.judging.laid_out.Goals as goal

pub slice_bounds-check_of-end : goal.slice_bounds-check_of-end
slice_bounds-check_of-end c = sym (length-take-le body_size c.args.slot.now (omega arith))

pub check_of-sums-requires : goal.check_of-sums-requires
check_of-sums-requires c = length-take-le body_size c.args.slot.now (omega arith)

pub returns : goal.returns
unfolding part
returns c =
    let at = c.fields_at in
    let of = c.fields_of in
    let told = c.eq-told in
    let sums = c.check_of-sums in
    let padding = c.blank-padding in
    laid_by c.args.slot.now c.args.count c.args.block at.result of.result told.result padding.result
    c.from.result c.from-2.result sums.result.a sums.result.b
    c.requires.0 (λ i. omega (arith, c.type_inv.slot i)) c.requires.2 c.requires.3 c.requires.1
    told.ensures at.ensures of.ensures padding.ensures (c.from.ensures ∙ c.get_pair.ensures) (c.from-2.ensures ∙ c.get_pair-2.ensures)
    sums.ensures.0 sums.ensures.1
