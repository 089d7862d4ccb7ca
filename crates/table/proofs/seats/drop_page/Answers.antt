-- `table::seats::drop_page` meets its contract, by whether a frame holds the page.
-- Assumes nothing.
use Rattle.table.proofs.Seating.{seat-not-dropped, seat-dropped}
use Rattle.table.proofs.seats.drop_page.Goals as goal

pub returns-then-i-seats : goal.returns-then-i-seats
returns-then-i-seats c =
    let a = c.args in
    λ full. seat-dropped a.seats.now a.page _ c.requires c.frame_of-i.ensures.0 full c.if-i-seats.true

pub returns-else-i-seats : goal.returns-else-i-seats
returns-else-i-seats c =
    let a = c.args in
    λ full. seat-not-dropped a.seats.now a.page _ c.requires c.frame_of-i.ensures.0 full c.if-i-seats.false
