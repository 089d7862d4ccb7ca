-- `table::seats::dirty_pages` meets its contract: the seats from 65,536 on are those in use.
-- Assumes nothing.
use Rattle.std.proofs.Common.{rules, ◌≡◌, sym, ◌∙◌}
use lib.Dec.{leb}
use Rattle.std.specs.Prelude.{count_by}
use Rattle.table.proofs.Seating.{used-seats}
use Rattle.table.proofs.seats.dirty_pages.Goals as goal

pub returns : goal.returns
returns c =
    let a = c.args in
    let e : c.count.result ≡ count_by (λ s. leb 65536 s) a.seats.now = search rules in
    (e ∙ sym (used-seats a.seats.now), search rules)
