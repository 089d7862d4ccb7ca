-- `table::seats::frame_of` meets its contract: what `position` finds among the seats is the page's place among their entries.
-- Assumes nothing.
use Rattle.std.proofs.Common.{rules, ◌≡◌, ◌%◌, ◌&&◌, sym, ◌∙◌}
use lib.Dec.{eqb, leb}
use Rattle.std.proofs.lemmas.Iterator.{YieldsList-from_slice}
use Rattle.std.proofs.lemmas.Iterator.Search.{position_from_yields_List}
use Rattle.table.specs.Seats.{entry_in}
use Rattle.promises.specs.States.{is_of}
use Rattle.table.proofs.Seating.{page-test, place-found}
use Rattle.table.proofs.seats.frame_of.Goals as goal

pub returns : goal.returns
returns c =
    let a = c.args in
    place-found (is_of a.page) a.seats.now _ _
    (position_from_yields_List (λ s. is_of a.page (entry_in s)) _ _ _ c.position.ensures.ran (YieldsList-from_slice a.seats.now cc)
    (λ x b q k. let e : b ≡ (leb 65536 x.now && eqb (x.now % 65536) a.page) = search rules in (search rules, e ∙ sym (page-test a.page x.now))))
    c.unwrap_or.ensures
