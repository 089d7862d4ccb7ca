-- `recovery::walk_on` meets its contract: what the walk leads to stays the same, turn by turn. The slot goes round beside the sequence.
-- Assumes nothing.
use Prim.Native.Nat.{ℕ, suc, ◌+◌}
use mathlib.Core.Path.{◌≡◌, refl, ◌∙◌, subst}
use Rattle.std.specs.Prelude.{Ok, Err}
use Rattle.std.proofs.lemmas.Result.{err_from_is_err_and}
use Rattle.recovery.specs.Walking.{walk_of, Ready}
use Rattle.recovery.proofs.Leading.{leading-more, walks-end, walks-stopped}
use Rattle.promises.proofs.Replies.{numbered}
use native.Mathlib.Omega.{arith}
use Rattle.recovery.proofs.walk_on.Goals as goal

pub returns-in_err-stage : goal.returns-in_err-stage
returns-in_err-stage c =
    let a = c.args in
    let l = c.loop-s in
    let t = c.turn in
    let p = err_from_is_err_and c.from_residual.result c.from_residual.ensures.1 in
    rw (p.1, p.2)
    (walks-stopped a.log.now a.home.now a.first a.last _ a.frames.now (l.s + 1) (walk_of (Err c.in_err-stage.field-0.0) t.new.seats) t.new.frames
    (numbered _) (t.auto.seats ∙ l.auto.seats)
    (leading-more a.log.now a.home.now a.first a.last (walk_of (Ok a.stage) a.seats.now) a.frames.now l.s (walk_of (Ok l.stage) l.seats) _ l.frames _ (omega arith) c.in_err-stage.ensures l.invariant.3))

pub loop-s-preserved : goal.loop-s-preserved
loop-s-preserved c =
    let a = c.args in
    let l = c.loop-s in
    let t = c.turn in (
      c.slot_after-slot.ensures.1 l.s l.invariant.0,
      subst (λ (n : ℕ). Ready a.log.now a.home.now n (walk_of (Ok c.in_ok-stage.stage) t.new.seats)) (one l.s) (c.in_ok-stage.ensures.ready refl),
      omega arith,
      leading-more a.log.now a.home.now a.first a.last (walk_of (Ok a.stage) a.seats.now) a.frames.now l.s (walk_of (Ok l.stage) l.seats) _ l.frames _ (omega arith) c.in_ok-stage.ensures l.invariant.3,
    )
  where
    one : (n : ℕ) → suc n ≡ n + 1
    one n = omega arith

pub returns-in_ok-stage : goal.returns-in_ok-stage
returns-in_ok-stage c =
    let a = c.args in
    let l = c.loop-s in
    let t = c.turn in
    walks-end a.log.now a.home.now a.first a.last _ a.frames.now (l.s + 1) _ t.new.frames (omega arith) (t.auto.seats ∙ l.auto.seats)
    (λ e. subst (λ (n : ℕ). Ready a.log.now a.home.now n (walk_of (Ok c.in_ok-stage.stage) t.new.seats)) (one l.s) (c.in_ok-stage.ensures.ready refl))
    (leading-more a.log.now a.home.now a.first a.last (walk_of (Ok a.stage) a.seats.now) a.frames.now l.s (walk_of (Ok l.stage) l.seats) _ l.frames _ (omega arith) c.in_ok-stage.ensures l.invariant.3)
  where
    one : (n : ℕ) → suc n ≡ n + 1
    one n = omega arith
