-- `outline::walk_commit` meets its contract: out of order, too few frames, or one place further.
-- Assumes nothing.
use mathlib.Core.Path.{◌≡◌, refl, sym, ap, ◌∙◌}
use native.Mathlib.Omega.{arith}
use lib.ListN.{length}
use borrow.Author.Tests.{lt-leb, le-leb}
use Rattle.block.specs.declared.Kind.TheVariants.{Commit}
use Rattle.recovery.proofs.Ordering.{commit-told}
use Rattle.outline.specs.Outline.{seated, committed, outline_fits, outline_in}
use Rattle.outline.proofs.Turning.{turned-out, turned-full, turned_on, counted_in, counted_is, after-commit}
use Rattle.outline.proofs.walk_commit.Goals as goal

pub returns-then-not-commit_fits : goal.returns-then-not-commit_fits
returns-then-not-commit_fits c =
    let a = c.args in
    let fits : c.commit_fits.result ≡ outline_fits (outline_in a.course) (Commit a.updates) a.ticket =
    c.commit_fits.ensures (counted_in a.course) (c.len-count.ensures.value ∙ counted_is a.course) refl in
    turned-out a.course (Commit a.updates) a.ticket _ c.out_of_order.ensures (sym fits ∙ c.if-not-commit_fits.true)

pub returns-then-len-gt-FRAMES : goal.returns-then-len-gt-FRAMES
unfolding seated
returns-then-len-gt-FRAMES c =
    let a = c.args in
    let m = c.mark_group.ensures in
    let fits : c.commit_fits.result ≡ outline_fits (outline_in a.course) (Commit a.updates) a.ticket =
    c.commit_fits.ensures (counted_in a.course) (c.len-count.ensures.value ∙ counted_is a.course) refl in
    turned-full a.course (Commit a.updates) a.ticket (sym fits ∙ c.if-not-commit_fits.false)
    (lt-leb (length (committed (outline_in a.course))) 32 (omega (arith, ap length m.is, c.len.ensures.value, c.if-len-gt-FRAMES.true)))

pub returns : goal.returns
unfolding seated
returns c =
    let a = c.args in
    let p = c.requires in
    let g = c.no_group-course.ensures in
    let m = c.mark_group.ensures in
    let fits : c.commit_fits.result ≡ outline_fits (outline_in a.course) (Commit a.updates) a.ticket =
    c.commit_fits.ensures (counted_in a.course) (c.len-count.ensures.value ∙ counted_is a.course) refl in
    let right = sym fits ∙ c.if-not-commit_fits.false in
    turned_on a.course (Commit a.updates) a.ticket right _ refl
    (le-leb (length (committed (outline_in a.course))) 32 (omega (arith, ap length m.is, c.len.ensures.value, c.if-len-gt-FRAMES.false)))
    (after-commit a.course _ _ _ _ g.is g.start a.updates (commit-told a.ticket (length a.course.group.pages.items) a.course.ticket a.updates right).1 m.is)
    (record { few = omega (arith, ap length g.is); framed = omega (arith, c.len.ensures.value, c.if-len-gt-FRAMES.false); ticket_below = p.ticket_below })
