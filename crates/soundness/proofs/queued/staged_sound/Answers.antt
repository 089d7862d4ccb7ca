-- `queued::staged_sound` meets its contract. The loop's invariant: what is told and gathered so far, and what is left, make the whole.
-- Assumes nothing.
use mathlib.Core.Path.{◌≡◌, sym, ap, ◌∙◌}
use lib.ListN.{length, length-set, take}
use lib.Seq.{length-take-le}
use Rattle.promises.specs.Sound.{distinct}
use Rattle.soundness.proofs.Scans.{length-mapped, updates-more, updates-end, areas-more, areas-end}
use borrow.Author.Rules.{rules}
use native.Mathlib.Omega.{arith}
use Rattle.soundness.proofs.queued.staged_sound.Goals as goal

pub loop-i-preserved : goal.loop-i-preserved
loop-i-preserved c =
    let args = c.args in
    let at = c.loop-i in
    let updates = take args.count args.staged in
    let long : length args.staged ≡ 32 = search (rules, length-mapped) in
    let few : length updates ≡ args.count = length-take-le args.count args.staged (omega arith) in (
      simp length-set at.invariant.0,
      updates-more args.pages args.frames updates at.i at.legal _ at.invariant.1 _ (omega arith) c.update_sound-legal.ensures,
      areas-more updates at.i at.list _ at.invariant.2 _ (omega arith) (omega arith) c.from.ensures,
    )

pub returns : goal.returns
returns c =
    let args = c.args in
    let at = c.loop-i in
    let updates = take args.count args.staged in
    let long : length args.staged ≡ 32 = search (rules, length-mapped) in
    let few : length updates ≡ args.count = length-take-le args.count args.staged (omega arith) in
    let all : at.i ≡ args.count = omega arith in
    let areas = ap (λ n. take n at.list) (sym all) ∙ areas-end updates at.i at.list _ at.invariant.2 (omega arith) in
    rw (updates-end args.pages args.frames updates at.i at.legal _ at.invariant.1 (omega arith), c.all_distinct-apart.ensures ∙ ap distinct areas)
