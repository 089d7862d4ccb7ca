-- `table::seats::seat` meets its contract: the search for the page, then the one for a free frame.
-- Assumes nothing.
use Rattle.table.proofs.Seating.{held-seat, free-seat}
use native.Mathlib.Omega.{arith}
use Rattle.table.proofs.seats.seat.Goals as goal

pub returns-then-i-seats : goal.returns-then-i-seats
returns-then-i-seats c = (held-seat c.args.seats.now c.args.page _ c.frame_of-i.ensures.0 c.if-i-seats.true, omega arith)

pub returns : goal.returns
returns c =
    (free-seat c.args.seats.now c.args.page _ c.frame_of-i.ensures.0 _ c.if-i-seats.false c.free_frame.ensures.0, omega arith)
