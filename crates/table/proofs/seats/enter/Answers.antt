-- `table::seats::enter` meets its contract, by whether the frame is in use.
-- Assumes nothing.
use Rattle.table.proofs.Seating.{seat-entered-used, seat-entered-free}
use native.Mathlib.Omega.{arith}
use Rattle.table.proofs.seats.enter.Goals as goal

pub returns-then-held-lt65536 : goal.returns-then-held-lt65536
returns-then-held-lt65536 c =
    let a = c.args in
    seat-entered-free a.seats.now a.home.now a.frames.now a.i a.page a.group (omega arith) _ (omega arith) (omega arith) c.if-held-lt65536.true c.copy_part.ensures

pub returns-else-held-lt65536 : goal.returns-else-held-lt65536
returns-else-held-lt65536 c =
    let a = c.args in
    seat-entered-used a.seats.now a.home.now a.frames.now a.i a.page a.group (omega arith) c.if-held-lt65536.false
