-- `table::seats::free_frame` meets its contract: what `position` finds among the seats is the place of the first free entry.
-- Assumes nothing.
use Rattle.std.proofs.Common.{rules, ◌≡◌, sym, ◌∙◌}
use lib.Dec.{ltb}
use Rattle.std.proofs.lemmas.Iterator.{YieldsList-from_slice}
use Rattle.std.proofs.lemmas.Iterator.Search.{position_from_yields_List}
use Rattle.table.specs.Seats.{entry_in}
use Rattle.table.specs.Search.{is_free}
use Rattle.table.proofs.Seating.{free-test, place-found}
use Rattle.table.proofs.seats.free_frame.Goals as goal

pub returns : goal.returns
returns c =
    let a = c.args in
    place-found is_free a.seats.now _ _
    (position_from_yields_List (λ s. is_free (entry_in s)) _ _ _ c.position.ensures.ran (YieldsList-from_slice a.seats.now cc)
    (λ x b q k. let e : b ≡ ltb x.now 65536 = search rules in (search rules, e ∙ sym (free-test x.now))))
    c.unwrap_or.ensures
