-- `outline::walk_clean` meets its contract: out of order, or one place further.
-- Assumes nothing.
use mathlib.Core.Path.{◌≡◌, refl, sym, ap, ◌∙◌}
use native.Mathlib.Omega.{arith}
use lib.ListN.{length}
use Rattle.block.specs.declared.Kind.TheVariants.{Clean}
use Rattle.recovery.proofs.Ordering.{clean-told}
use Rattle.outline.specs.Outline.{seated, outline_fits, outline_in}
use Rattle.outline.proofs.Turning.{turned-out, turned_on, counted_in, after-clean}
use Rattle.outline.proofs.walk_clean.Goals as goal

pub returns-then-not-clean_fits : goal.returns-then-not-clean_fits
returns-then-not-clean_fits c =
    let a = c.args in
    let fits : c.clean_fits.result ≡ outline_fits (outline_in a.course) (Clean a.page) a.ticket = c.clean_fits.ensures (counted_in a.course) a.page refl in
    turned-out a.course (Clean a.page) a.ticket _ c.out_of_order.ensures (sym fits ∙ c.if-not-clean_fits.true)

pub returns : goal.returns
unfolding seated
returns c =
    let a = c.args in
    let g = c.no_group-course.ensures in
    let m = c.unmark_page.ensures in
    let fits : c.clean_fits.result ≡ outline_fits (outline_in a.course) (Clean a.page) a.ticket = c.clean_fits.ensures (counted_in a.course) a.page refl in
    let right = sym fits ∙ c.if-not-clean_fits.false in
    turned_on a.course (Clean a.page) a.ticket right _ refl refl
    (after-clean a.course _ _ _ _ g.is g.start a.page (clean-told a.ticket (length a.course.group.pages.items) a.course.ticket a.page right) m.is)
    (record { few = omega (arith, ap length g.is); framed = omega (arith, m.few, c.requires.bounded.framed); ticket_below = c.requires.ticket_below })
