-- `numbers::many_distinct` meets its contract. The loop's invariant: the numbers seen are distinct, and they are those marked.
-- Assumes nothing.
use Prim.Native.Nat.{ℕ, ◌+◌, ◌/◌, ◌%◌}
use mathlib.Core.Path.{refl, sym, subst}
use lib.ListN.{get_or, set, take}
use Rattle.soundness.proofs.Marks.{Marked, marked-none, marked-twice, marked-once, marked-on}
use Rattle.soundness.proofs.Bits.{set-fits, shifted}
use native.Mathlib.Omega.{arith}
use Rattle.soundness.proofs.numbers.many_distinct.Goals as goal

pub loop-number-init : goal.loop-number-init
loop-number-init c = (refl, marked-none)

pub returns-then-held-place-ne0 : goal.returns-then-held-place-ne0
returns-then-held-place-ne0 c =
    let at = c.loop-number in
    marked-twice at.seen c.args.numbers.now at.number-index c.from-number.result at.invariant.1 (omega arith) c.from-number.ensures (omega arith) c.if-held-place-ne0.true

pub overflow_add-seen : goal.overflow_add-seen
overflow_add-seen c =
    let at = c.loop-number in
    let n = c.from-number.result in
    omega (arith, shifted (n % 64) (omega arith), set-fits (n % 64) (get_or at.seen (n / 64) 0) c.if-held-place-ne0.false (omega arith) (at.invariant.1.words (n / 64) (omega arith)))

pub loop-number-preserved : goal.loop-number-preserved
loop-number-preserved c =
    let at = c.loop-number in
    let numbers = c.args.numbers.now in
    let n = c.from-number.result in (
      marked-once at.seen numbers at.number-index n at.invariant.1 (omega arith) c.from-number.ensures (omega arith) c.if-held-place-ne0.false at.invariant.0,
      subst (λ (power : ℕ). Marked (set at.seen (n / 64) (get_or at.seen (n / 64) 0 + power)) (take (at.number-index + 1) numbers)) (sym (shifted (n % 64) (omega arith)))
          (marked-on at.seen numbers at.number-index n at.invariant.1 (omega arith) c.from-number.ensures (omega arith) c.if-held-place-ne0.false),
    )
