-- `listing::text` meets its contract: each turn adds one line behind those before it.
-- Assumes nothing.
use mathlib.Core.Path.{refl}
use native.Mathlib.Omega.{arith}
use Rattle.lines.proofs.Adding.{adds-long}
use Rattle.listing.specs.Listing.{lines_of}
use Rattle.listing.proofs.Showing.{lines-few}
use Rattle.listing.proofs.Joining.{joins-none, joins_lent, joins-all}
use Rattle.listing.proofs.text.Goals as goal

pub loop-index-init : goal.loop-index-init
loop-index-init c =
    let log = c.args.log.now in
    let few = lines-few log c.examine-examined.result c.examine-examined.ensures in
    (omega arith, omega (arith, few, c.line_count-count.ensures), omega arith, refl, joins-none (lines_of log) c.args.out.now)

pub loop-index-preserved : goal.loop-index-preserved
loop-index-preserved c =
    let lines = lines_of c.args.log.now in
    let inv = c.loop-index.invariant in
    let out = c.loop-index.out in
    let at = c.loop-index.at in
    let index = c.loop-index.index in
    let line = c.line-at in
    let more =
    joins_lent lines c.args.out.now out line.new.out index at line.result
    (omega (arith, c.line_count-count.ensures, c.loop-index-test.true)) inv.2
    (omega (arith, inv.1, inv.2, inv.3, c.requires, c.loop-index-test.true)) inv.4 line.ensures in
    (omega (arith, c.loop-index-test.true), inv.1, more.0, adds-long _ _ _ _ _ more.1, more.1)

pub returns-clause-shows : goal.returns-clause-shows
returns-clause-shows c =
    joins-all (lines_of c.args.log.now) c.args.out.now c.loop-index.out c.loop-index.index c.loop-index.at
    (omega (arith, c.line_count-count.ensures, c.loop-index-test.false)) c.loop-index.invariant.4
