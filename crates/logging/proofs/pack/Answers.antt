-- `logging::pack` meets its contract: the seats below index i are the entries.
-- Assumes nothing.
use mathlib.Core.Path.{◌≡◌}
use lib.ListN.{length}
use Rattle.table.proofs.Scans.{length-mapped}
use Rattle.logging.proofs.Packing.{pack-more, pack-end}
use borrow.Author.Rules.{rules}
use native.Mathlib.Omega.{arith}
use Rattle.logging.proofs.pack.Goals as goal

pub loop-i-preserved : goal.loop-i-preserved
loop-i-preserved c =
    let a = c.args in
    let l = c.loop-i in
    let long : length a.dirty ≡ 32 = search (rules, length-mapped) in
    let e = c.from.ensures in
    rw e (pack-more a.dirty l.seats l.i (omega arith) (omega arith) (omega arith) l.invariant)

pub returns : goal.returns
returns c =
    let a = c.args in
    let l = c.loop-i in
    (l.auto.seats, pack-end a.dirty l.seats l.i _ l.auto.seats (omega arith) l.invariant)
