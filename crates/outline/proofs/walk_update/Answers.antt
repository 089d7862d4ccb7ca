-- `outline::walk_update` meets its contract: out of order, a new group, or the next of a half group.
-- Assumes nothing.
use mathlib.Core.Path.{◌≡◌, refl, sym, ap, ◌∙◌}
use mathlib.Core.List.{List, [], ◌∷◌, ◌++◌}
use Prim.Native.Nat.{ℕ, ◌+◌}
use native.Mathlib.Omega.{arith}
use lib.ListN.{length}
use Rattle.block.specs.declared.Kind.TheVariants.{Update}
use Rattle.recovery.proofs.Ordering.{update-told}
use Rattle.outline.specs.declared.Course.{Course}
use Rattle.outline.specs.Outline.{seated, outline_fits, outline_in}
use Rattle.outline.proofs.Turning.{turned-out, turned_on, counted_in, counted_is, next-index, after_first, after_next}
use Rattle.outline.proofs.walk_update.Goals as goal
use Rattle.outline.proofs.walk_update.Goals.{then-index-eq1, else-index-eq1}

pub returns-then-not-update_fits : goal.returns-then-not-update_fits
returns-then-not-update_fits c =
    let a = c.args in
    let fits : c.update_fits.result ≡ outline_fits (outline_in a.course) (Update a.index a.page 0 0) a.ticket =
    c.update_fits.ensures (counted_in a.course) _ (c.len-count.ensures.value ∙ counted_is a.course) refl in
    turned-out a.course (Update a.index a.page 0 0) a.ticket _ c.out_of_order.ensures (sym fits ∙ c.if-not-update_fits.true)

pub push-requires : goal.push-requires
push-requires c =
    let a = c.args in
    let fits : c.update_fits.result ≡ outline_fits (outline_in a.course) (Update a.index a.page 0 0) a.ticket =
    c.update_fits.ensures (counted_in a.course) _ (c.len-count.ensures.value ∙ counted_is a.course) refl in
    elim c.if-index-eq1.branch [
      | then-index-eq1 w ↦ omega (arith, ap (λ (x : Course). length x.group.pages.items) w.course-is, ap length w.new.ensures)
      | else-index-eq1 w ↦ omega (arith, ap (λ (x : Course). length x.group.pages.items) w.course-is, next-index a.course a.index a.page a.ticket (sym fits ∙ c.if-not-update_fits.false) w.if-index-eq1.false, c.requires.indexed)
    ]

pub returns : goal.returns
unfolding seated
returns c =
    let a = c.args in
    let p = c.requires in
    let x = c.if-index-eq1.course in
    let fits : c.update_fits.result ≡ outline_fits (outline_in a.course) (Update a.index a.page 0 0) a.ticket =
    c.update_fits.ensures (counted_in a.course) _ (c.len-count.ensures.value ∙ counted_is a.course) refl in
    let right = sym fits ∙ c.if-not-update_fits.false in
    let ticket = update-told a.ticket (length a.course.group.pages.items) a.course.ticket a.index _ right in
    elim c.if-index-eq1.branch [
      | then-index-eq1 w ↦
          let pages = c.push.ensures.items ∙ ap (λ (x : Course). x.group.pages.items ++ (a.page ∷ [])) w.course-is ∙ ap (λ (l : List ℕ). l ++ (a.page ∷ [])) w.new.ensures in
          turned_on a.course (Update a.index a.page 0 0) a.ticket right _ (ap (λ (x : Course). x.next + 1) w.course-is) refl
          (after_first a.course _ _ _ _ a.index a.page ticket (ap (λ (x : Course). x.marks.items) w.course-is) w.if-index-eq1.true pages (ap (λ (x : Course). x.group.start) w.course-is))
          (record {
            few = omega (arith, ap length pages);
            framed = omega (arith, ap (λ (x : Course). length x.marks.items) w.course-is, p.bounded.framed);
            ticket_below = p.ticket_below;
          })
      | else-index-eq1 w ↦
          let pages = c.push.ensures.items ∙ ap (λ (x : Course). x.group.pages.items ++ (a.page ∷ [])) w.course-is in
          turned_on a.course (Update a.index a.page 0 0) a.ticket right _ (ap (λ (x : Course). x.next + 1) w.course-is) refl
          (after_next a.course _ _ _ _ a.index a.page ticket (ap (λ (x : Course). x.marks.items) w.course-is) w.if-index-eq1.false pages (ap (λ (x : Course). x.group.start) w.course-is))
          (record {
            few = omega (arith, c.push.ensures.len, ap (λ (x : Course). length x.group.pages.items) w.course-is, next-index a.course a.index a.page a.ticket right w.if-index-eq1.false, p.indexed);
            framed = omega (arith, ap (λ (x : Course). length x.marks.items) w.course-is, p.bounded.framed);
            ticket_below = p.ticket_below;
          })
    ]
