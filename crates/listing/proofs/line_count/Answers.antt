-- `listing::line_count` meets its contract: one line where no block is shown.
-- Assumes nothing.
use mathlib.Core.Path.{subst}
use native.Mathlib.Omega.{arith}
use Rattle.listing.specs.Listing.{Examines}
use Rattle.listing.proofs.Showing.{count-refused, count-accepted, shown-none, shown-some}
use Rattle.listing.proofs.line_count.Goals as goal

pub returns-then-shown-eq0 : goal.returns-then-shown-eq0
returns-then-shown-eq0 c =
    let log = c.args.log.now in
    let shown = c.in-Ok.shown in
    let x = subst (Examines log) c.in-Ok.is c.requires in
    omega (arith, count-accepted log shown x.1, shown-none log shown c.if-shown-eq0.true)

pub returns-else-shown-eq0 : goal.returns-else-shown-eq0
returns-else-shown-eq0 c =
    let log = c.args.log.now in
    let shown = c.in-Ok.shown in
    let x = subst (Examines log) c.in-Ok.is c.requires in
    omega (arith, count-accepted log shown x.1, shown-some log shown c.if-shown-eq0.false, x.1.keep_most)

pub returns-in-Err : goal.returns-in-Err
returns-in-Err c = count-refused c.args.log.now _ _ (subst (Examines c.args.log.now) c.in-Err.is c.requires)
