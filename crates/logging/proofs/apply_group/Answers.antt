-- `logging::apply_group` meets its contract: what the loop still has to apply makes the whole.
-- Assumes nothing.
use Prim.Native.Nat.{◌≤◌, ◌+◌}
use mathlib.Core.Path.{◌≡◌, refl}
use mathlib.Core.Bool.{true, false}
use lib.ListN.{length}
use Rattle.table.specs.Seats.{seated}
use Rattle.table.proofs.Scans.{length-mapped}
use Rattle.logging.proofs.Applied.{left-less, left-ends, left-full}
use borrow.Author.Rules.{rules}
use native.Mathlib.Omega.{arith}
use Rattle.logging.proofs.apply_group.Goals as goal

pub returns-then-not-apply_staged : goal.returns-then-not-apply_staged
returns-then-not-apply_staged c =
    let a = c.args in
    let long : length a.staged ≡ 32 = search (rules, length-mapped) in
    let few : a.size ≤ length a.staged = omega (arith, c.requires.1) in
    let l = c.loop-update in
    let n = c.apply_staged.new in
    left-full a.staged a.size a.home.now a.staging.now a.group few (seated false a.seats.now) a.frames.now (seated true n.seats) n.frames (l.update-index + 1)
    (left-less a.staged a.size a.home.now a.staging.now a.group few (seated false a.seats.now) a.frames.now (seated false l.seats) l.frames l.update-index l.invariant
    (seated true n.seats) n.frames c.loop-update-test.true c.if-not-apply_staged.ensures)
    refl

pub loop-update-preserved : goal.loop-update-preserved
loop-update-preserved c =
    let a = c.args in
    let long : length a.staged ≡ 32 = search (rules, length-mapped) in
    let few : a.size ≤ length a.staged = omega (arith, c.requires.1) in
    let l = c.loop-update in
    let n = c.apply_staged.new in
    left-less a.staged a.size a.home.now a.staging.now a.group few (seated false a.seats.now) a.frames.now (seated false l.seats) l.frames l.update-index l.invariant
    (seated false n.seats) n.frames c.loop-update-test.true c.if-not-apply_staged.ensures

pub returns : goal.returns
returns c =
    let a = c.args in
    let long : length a.staged ≡ 32 = search (rules, length-mapped) in
    let few : a.size ≤ length a.staged = omega (arith, c.requires.1) in
    let l = c.loop-update in
    left-ends a.staged a.size a.home.now a.staging.now a.group few (seated false a.seats.now) a.frames.now (seated false l.seats) l.frames l.update-index l.invariant
    c.loop-update-test.false
