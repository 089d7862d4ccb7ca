-- `table::seats::apply` meets its contract: no frame, or the frame that the search found.
-- Assumes nothing.
use mathlib.Core.Path.{refl}
use mathlib.Core.Bool.{false}
use Rattle.table.specs.Seats.{seated}
use Rattle.table.proofs.Applying.{applies-full, applies-at}
use Rattle.table.proofs.Seating.{all_in}
use Rattle.table.proofs.seats.apply.Goals as goal

pub returns-then-seats-i : goal.returns-then-seats-i
returns-then-seats-i c =
    let a = c.args in
    applies-full a.home.now a.frames.now (record { page = a.page; offset = a.offset; bytes = a.bytes.now }) a.group (seated false a.seats.now) (all_in a.seats.now c.requires.0) _ refl c.seat-i.ensures.0 c.if-seats-i.true

pub returns : goal.returns
returns c =
    let a = c.args in
    let p = c.requires in
    applies-at a.home.now a.frames.now (record { page = a.page; offset = a.offset; bytes = a.bytes.now }) a.group (seated false a.seats.now) (all_in a.seats.now p.0) p.1 p.4 p.5 p.2 refl _ c.seat-i.ensures.0
    c.if-seats-i.false _ _ c.enter.ensures _ c.copy_part.ensures
