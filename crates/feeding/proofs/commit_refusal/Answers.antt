-- `feeding::commit_refusal` meets its contract: out of order, a wrong keep-from or too long a span, too few frames, or none of these.
-- Assumes nothing.
use mathlib.Core.Path.{◌≡◌, refl, sym, ap, ◌∙◌}
use mathlib.Core.Bool.{true}
use mathlib.Core.List.{List, []}
use Prim.Native.Nat.{ℕ}
use lib.Dec.{leb}
use lib.ListN.{length}
use borrow.Author.Tests.{le-leb, lt-leb}
use Rattle.promises.specs.Blocks.{commit}
use Rattle.promises.specs.Walk.{in_order}
use Rattle.outline.specs.Marks.{marked_all}
use Rattle.feeding.proofs.Testing.{numbers_of}
use Rattle.feeding.proofs.Turning.{out_of_order_lem, unfit, many, passes, commit-framed, stands, stored_is}
use Rattle.feeding.proofs.Committing.{closes, start_is_lem, marks-then, fits-then}
use native.Mathlib.Omega.{arith}
use Rattle.feeding.proofs.commit_refusal.Goals as goal

pub commit_fits-requires : goal.commit_fits-requires
commit_fits-requires c = let n = numbers_of c.args.state c.requires.0 in omega (arith, n.ticket, n.next)

pub returns-then-not-commit_fits : goal.returns-then-not-commit_fits
returns-then-not-commit_fits c = λ home frames.
    let a = c.args in
    out_of_order_lem a.state home (stands a.state a.log.now frames) (record { kind = commit a.updates; keep_from = a.keep_from; ticket = a.ticket })
    (sym (c.commit_fits.ensures (stands a.state a.log.now frames) (stored_is a.state a.log.now frames) refl) ∙ c.if-not-commit_fits.true)

pub half_start-start-requires : goal.half_start-start-requires
half_start-start-requires c = let n = numbers_of c.args.state c.requires.0 in omega (arith, n.stored)

pub group_of-requires : goal.group_of-requires
group_of-requires c =
    let a = c.args in
    let p = c.requires in
    let order : (frames : List ℕ) → in_order (commit a.updates) a.ticket (stands a.state a.log.now frames) ≡ true =
    λ frames. sym (c.commit_fits.ensures (stands a.state a.log.now frames) (stored_is a.state a.log.now frames) refl) ∙ c.if-not-commit_fits.false in
    let n = numbers_of a.state p.0 in
    let k = closes a.state a.log.now p.0 p.1 a.updates a.ticket (order []) in
    let e = c.half_start-start.ensures.0 ∙ start_is_lem a.state a.log.now p.0 p.1 k.0 p.3 in
    (omega (arith, p.1, n.slots.0), omega (arith, p.2, k.1), omega (arith, e, n.stored, n.next))

pub overflow_add-state : goal.overflow_add-state
overflow_add-state c = let n = numbers_of c.args.state c.requires.0 in omega (arith, n.next)

pub fits-requires : goal.fits-requires
fits-requires c =
    let n = numbers_of c.args.state c.requires.0 in
    (c.mark_group.ensures.few, omega arith, n.next)

pub returns-then-not-fits : goal.returns-then-not-fits
returns-then-not-fits c = λ home frames.
    let a = c.args in
    let v = stands a.state a.log.now frames in
    let order : (frames : List ℕ) → in_order (commit a.updates) a.ticket (stands a.state a.log.now frames) ≡ true =
    λ frames. sym (c.commit_fits.ensures (stands a.state a.log.now frames) (stored_is a.state a.log.now frames) refl) ∙ c.if-not-commit_fits.false in
    let p = c.requires in
    let start = c.half_start-start in
    let g = c.group_of in
    let ms = c.marks_of-marks.result.items in
    let marks = c.mark_group.new.marks.items in
    let all : marks ≡ marked_all start.result g.result.pages.items ms = c.mark_group.ensures.is ∙ ap (λ (n : ℕ). marked_all n g.result.pages.items ms) g.ensures.1 in
    let fits = fits-then a.state a.log.now p.0 p.1 p.3 a.updates a.keep_from a.ticket order start.result g.result.pages.items ms marks
    start.ensures.0 g.ensures.0 c.marks_of-marks.ensures.is all c.fits.result c.fits.ensures home frames in
    unfit a.state home v (record { kind = commit a.updates; keep_from = a.keep_from; ticket = a.ticket }) c.fits.result
    fits (order frames) c.if-not-fits.true

pub returns-then-state-len : goal.returns-then-state-len
returns-then-state-len c = λ home frames.
    let a = c.args in
    let v = stands a.state a.log.now frames in
    let order : (frames : List ℕ) → in_order (commit a.updates) a.ticket (stands a.state a.log.now frames) ≡ true =
    λ frames. sym (c.commit_fits.ensures (stands a.state a.log.now frames) (stored_is a.state a.log.now frames) refl) ∙ c.if-not-commit_fits.false in
    let p = c.requires in
    let start = c.half_start-start in
    let g = c.group_of in
    let ms = c.marks_of-marks.result.items in
    let marks = c.mark_group.new.marks.items in
    let all : marks ≡ marked_all start.result g.result.pages.items ms = c.mark_group.ensures.is ∙ ap (λ (n : ℕ). marked_all n g.result.pages.items ms) g.ensures.1 in
    let fits = fits-then a.state a.log.now p.0 p.1 p.3 a.updates a.keep_from a.ticket order start.result g.result.pages.items ms marks
    start.ensures.0 g.ensures.0 c.marks_of-marks.ensures.is all c.fits.result c.fits.ensures home frames in
    let size : length marks ≡ c.len.result = sym c.len.ensures.value in
    let framed = commit-framed a.state home v a.keep_from a.ticket a.updates marks
    (marks-then a.state a.log.now p.0 p.1 p.3 a.updates a.keep_from a.ticket order start.result g.result.pages.items ms marks start.ensures.0 g.ensures.0 c.marks_of-marks.ensures.is all frames)
    ∙ ap (λ (n : ℕ). leb n a.state.frames) size in
    many a.state home v (record { kind = commit a.updates; keep_from = a.keep_from; ticket = a.ticket }) c.fits.result
    fits (order frames) c.if-not-fits.false (framed ∙ lt-leb _ _ c.if-state-len.true)

pub returns : goal.returns
returns c = λ home frames.
    let a = c.args in
    let v = stands a.state a.log.now frames in
    let order : (frames : List ℕ) → in_order (commit a.updates) a.ticket (stands a.state a.log.now frames) ≡ true =
    λ frames. sym (c.commit_fits.ensures (stands a.state a.log.now frames) (stored_is a.state a.log.now frames) refl) ∙ c.if-not-commit_fits.false in
    let p = c.requires in
    let start = c.half_start-start in
    let g = c.group_of in
    let ms = c.marks_of-marks.result.items in
    let marks = c.mark_group.new.marks.items in
    let all : marks ≡ marked_all start.result g.result.pages.items ms = c.mark_group.ensures.is ∙ ap (λ (n : ℕ). marked_all n g.result.pages.items ms) g.ensures.1 in
    let fits = fits-then a.state a.log.now p.0 p.1 p.3 a.updates a.keep_from a.ticket order start.result g.result.pages.items ms marks
    start.ensures.0 g.ensures.0 c.marks_of-marks.ensures.is all c.fits.result c.fits.ensures home frames in
    let size : length marks ≡ c.len.result = sym c.len.ensures.value in
    let framed = commit-framed a.state home v a.keep_from a.ticket a.updates marks
    (marks-then a.state a.log.now p.0 p.1 p.3 a.updates a.keep_from a.ticket order start.result g.result.pages.items ms marks start.ensures.0 g.ensures.0 c.marks_of-marks.ensures.is all frames)
    ∙ ap (λ (n : ℕ). leb n a.state.frames) size in
    passes a.state home v (record { kind = commit a.updates; keep_from = a.keep_from; ticket = a.ticket }) c.fits.result
    fits (order frames) c.if-not-fits.false (framed ∙ le-leb _ _ c.if-state-len.false)
