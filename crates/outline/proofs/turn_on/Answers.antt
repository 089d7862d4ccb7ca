-- `outline::turn_on` meets its contract, kind by kind.
-- Assumes nothing.
use mathlib.Core.Path.{sym, ap, ◌∙◌}
use Rattle.block.specs.declared.Kind.TheVariants.{Update}
use Rattle.block.specs.declared.Kind.{Kind}
use Rattle.outline.specs.Outline.{turned, outline_in}
use Rattle.outline.proofs.Turning.{step-turns, turned-update}
use Rattle.outline.proofs.turn_on.Goals as goal

pub returns-in-Update : goal.returns-in-Update
returns-in-Update c =
    let a = c.args in
    let g = c.in-Update in
    step-turns a.block (Update g.index g.page 0 0) a.course _
    (turned-update 32 g.index g.page g.offset g.length a.block.ticket a.course.next (outline_in a.course)
    ∙ ap (λ (k : Kind). turned 32 k a.block.ticket a.course.next (outline_in a.course)) (sym c.in-Update.is))
    c.walk_update.ensures
