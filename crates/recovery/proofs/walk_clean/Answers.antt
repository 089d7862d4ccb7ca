-- `recovery::walk_clean` meets its contract, by its test.
-- Assumes nothing.
use mathlib.Core.Path.{◌≡◌, refl, sym, ◌∙◌}
use mathlib.Core.Bool.{false}
use Rattle.std.specs.Prelude.{Ok}
use Rattle.promises.specs.Blocks.{clean}
use Rattle.table.specs.Seats.{seated}
use Rattle.recovery.specs.Order.{counted}
use Rattle.recovery.specs.Walking.{walk_of, walk_fits}
use Rattle.recovery.proofs.Changing.{cleans-right}
use Rattle.recovery.proofs.walk_clean.Goals as goal

pub returns : goal.returns
returns c =
    let a = c.args in
    let stage = a.stage in
    let fits : c.clean_fits.result ≡ walk_fits (walk_of (Ok stage) a.seats.now) (clean a.page) a.ticket =
    c.clean_fits.ensures (counted stage.count stage.ticket) a.page refl in
    cleans-right (walk_of (Ok stage) a.seats.now) a.s a.page a.ticket _ (seated false c.drop_page.new.seats) (sym fits ∙ c.if-not-clean_fits.false)
    (c.drop_page.ensures false) refl
