-- `table::seats::entries` meets its contract: the seats from index i on are left to set.
-- Assumes nothing.
use mathlib.Core.Path.{sym, subst}
use Prim.Native.Nat.{◌+◌}
use lib.ListN.{set}
use Rattle.promises.specs.declared.Dirty.{Dirty}
use Rattle.table.proofs.Seating.{Filled, filled_more, filled-end}
use native.Mathlib.Omega.{arith}
use Rattle.table.proofs.seats.entries.Goals as goal

pub loop-i-preserved : goal.loop-i-preserved
loop-i-preserved c =
    let a = c.args in
    let l = c.loop-i in
    subst (λ (d : Dirty). Filled a.seats.now (l.i + 1) (set l.dirty l.i d)) (sym c.entry.ensures)
    (filled_more a.seats.now l.i l.dirty (omega arith) c.requires l.invariant)

pub returns : goal.returns
returns c =
    let a = c.args in
    let l = c.loop-i in
    filled-end a.seats.now l.i l.dirty (omega arith) l.invariant
