-- `feeding::clean_refusal` meets its contract: out of order, a wrong keep-from or too long a span, or neither.
-- Assumes nothing.
use mathlib.Core.Path.{refl, sym, ap, ◌∙◌}
use mathlib.Core.List.{List}
use Rattle.promises.specs.Blocks.{clean}
use Rattle.outline.specs.declared.Mark.{Mark}
use Rattle.outline.specs.Marks.{unmarked}
use Rattle.feeding.proofs.Testing.{numbers_of}
use Rattle.feeding.proofs.Turning.{out_of_order_lem, unfit, passes, clean-fits-is, clean-framed, stands}
use native.Mathlib.Omega.{arith}
use Rattle.feeding.proofs.clean_refusal.Goals as goal

pub returns-then-not-clean_fits : goal.returns-then-not-clean_fits
returns-then-not-clean_fits c = λ log home frames.
    let a = c.args in
    out_of_order_lem a.state home (stands a.state log frames) (record { kind = clean a.page; keep_from = a.keep_from; ticket = a.ticket })
    (sym (c.clean_fits.ensures (stands a.state log frames) a.page refl) ∙ c.if-not-clean_fits.true)

pub overflow_add-state : goal.overflow_add-state
overflow_add-state c = let n = numbers_of c.args.state c.requires in omega (arith, n.next)

pub fits-requires : goal.fits-requires
fits-requires c =
    let n = numbers_of c.args.state c.requires in
    (omega (arith, c.unmark_page.ensures.few, c.marks_of-marks.ensures.few), omega arith, n.next)

pub returns-then-not-fits : goal.returns-then-not-fits
returns-then-not-fits c = λ log home frames.
    let a = c.args in
    let v = stands a.state log frames in
    let order = sym (c.clean_fits.ensures v a.page refl) ∙ c.if-not-clean_fits.false in
    let marks = c.unmark_page.ensures.is ∙ ap (λ (ms : List Mark). unmarked a.page ms) (c.marks_of-marks.ensures.is frames) in
    unfit a.state home v (record { kind = clean a.page; keep_from = a.keep_from; ticket = a.ticket }) c.fits.result
    (c.fits.ensures ∙ clean-fits-is a.state home v a.keep_from a.ticket a.page c.unmark_page.new.marks.items marks)
    order c.if-not-fits.true

pub returns : goal.returns
returns c = λ log home frames.
    let a = c.args in
    let v = stands a.state log frames in
    let order = sym (c.clean_fits.ensures v a.page refl) ∙ c.if-not-clean_fits.false in
    let marks = c.unmark_page.ensures.is ∙ ap (λ (ms : List Mark). unmarked a.page ms) (c.marks_of-marks.ensures.is frames) in
    passes a.state home v (record { kind = clean a.page; keep_from = a.keep_from; ticket = a.ticket }) c.fits.result
    (c.fits.ensures ∙ clean-fits-is a.state home v a.keep_from a.ticket a.page c.unmark_page.new.marks.items marks)
    order c.if-not-fits.false (clean-framed a.state.frames home a.page v)
