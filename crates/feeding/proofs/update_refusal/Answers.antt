-- `feeding::update_refusal` meets its contract: out of order, a wrong keep-from or too long a span, or neither.
-- Assumes nothing.
use mathlib.Core.Path.{refl, sym, ◌∙◌}
use Rattle.promises.specs.Blocks.{update}
use Rattle.feeding.proofs.Testing.{numbers_of}
use Rattle.feeding.proofs.Turning.{out_of_order_lem, unfit, passes, update-fits-is, update-framed, stands, stored_is}
use native.Mathlib.Omega.{arith}
use Rattle.feeding.proofs.update_refusal.Goals as goal

pub update_fits-requires : goal.update_fits-requires
update_fits-requires c = let n = numbers_of c.args.state c.requires in omega (arith, n.stored, n.next)

pub returns-then-not-update_fits : goal.returns-then-not-update_fits
returns-then-not-update_fits c = λ log change home frames.
    let a = c.args in
    out_of_order_lem a.state home (stands a.state log frames) (record { kind = update a.index change; keep_from = a.keep_from; ticket = a.ticket })
    (sym (c.update_fits.ensures (stands a.state log frames) change (stored_is a.state log frames) refl) ∙ c.if-not-update_fits.true)

pub own_start-own-requires : goal.own_start-own-requires
own_start-own-requires c = let n = numbers_of c.args.state c.requires in omega (arith, n.stored)

pub fits-requires : goal.fits-requires
fits-requires c =
    let n = numbers_of c.args.state c.requires in
    (omega (arith, c.marks_of-marks.ensures.few), omega (arith, c.own_start-own.ensures.1), n.next)

pub returns-then-not-fits : goal.returns-then-not-fits
returns-then-not-fits c = λ log change home frames.
    let a = c.args in
    let v = stands a.state log frames in
    let order = sym (c.update_fits.ensures v change (stored_is a.state log frames) refl) ∙ c.if-not-update_fits.false in
    unfit a.state home v (record { kind = update a.index change; keep_from = a.keep_from; ticket = a.ticket }) c.fits.result
    (c.fits.ensures
    ∙ update-fits-is a.state home v a.keep_from a.ticket a.index change c.own_start-own.result c.marks_of-marks.result.items c.own_start-own.ensures.0 (c.marks_of-marks.ensures.is frames))
    order c.if-not-fits.true

pub returns : goal.returns
returns c = λ log change home frames.
    let a = c.args in
    let v = stands a.state log frames in
    let order = sym (c.update_fits.ensures v change (stored_is a.state log frames) refl) ∙ c.if-not-update_fits.false in
    passes a.state home v (record { kind = update a.index change; keep_from = a.keep_from; ticket = a.ticket }) c.fits.result
    (c.fits.ensures
    ∙ update-fits-is a.state home v a.keep_from a.ticket a.index change c.own_start-own.result c.marks_of-marks.result.items c.own_start-own.ensures.0 (c.marks_of-marks.ensures.is frames))
    order c.if-not-fits.false (update-framed a.state.frames home a.index change v)
