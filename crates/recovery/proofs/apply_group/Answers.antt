-- `recovery::apply_group` meets its contract: what is left to apply from the update at index i on. The slot goes round beside the sequence.
-- Assumes nothing.
use Prim.Native.Nat.{ℕ, ◌+◌}
use mathlib.Core.Path.{◌≡◌, refl, ap, ◌∙◌}
use mathlib.Core.Bool.{false}
use lib.ListN.{length}
use Rattle.block.specs.Legal.{slot_of}
use Rattle.promises.specs.Areas.{slots_in}
use Rattle.table.specs.Seats.{seated}
use Rattle.recovery.proofs.Groups.{left-next, left-full, left-none}
use native.Mathlib.Omega.{arith}
use Rattle.recovery.proofs.apply_group.Goals as goal

pub returns-then-not-apply_stored : goal.returns-then-not-apply_stored
returns-then-not-apply_stored c =
    let a = c.args in
    let l = c.loop-i in
    left-full _ _ a.home.now a.frames.now _ _ _ a.start refl
    (left-next a.log.now (seated false a.seats.now) a.home.now a.frames.now a.start a.count l.i _ _ l.frames _ (omega arith) l.invariant.1 c.if-not-apply_stored.ensures)

pub loop-i-preserved : goal.loop-i-preserved
loop-i-preserved c =
    let a = c.args in
    let l = c.loop-i in
    let one : a.start + l.i + 1 ≡ a.start + (l.i + 1) = omega arith in (
      c.slot_after-slot.ensures.1 (a.start + l.i) l.invariant.0 ∙ ap (λ (n : ℕ). slot_of (slots_in (length a.log.now)) n) one,
      left-next a.log.now (seated false a.seats.now) a.home.now a.frames.now a.start a.count l.i _ _ l.frames _ (omega arith) l.invariant.1 c.if-not-apply_stored.ensures,
    )

pub returns : goal.returns
returns c =
    let a = c.args in
    let l = c.loop-i in
    left-none a.log.now (seated false a.seats.now) a.home.now a.frames.now a.start a.count l.i _ l.frames (omega arith) l.invariant.1
