-- `dirty::survey_of` meets its contract. The loops' invariant: what is told so far, and what is left, make the whole.
-- Assumes nothing.
use Prim.Native.Nat.{◌+◌, ◌≤◌, ◌<◌}
use mathlib.Core.Path.{◌≡◌, refl, sym, ap, ◌∙◌}
use lib.ListN.{length, drop, length-set}
use Rattle.promises.specs.Sums.{first_groups, smallest}
use Rattle.promises.specs.Sound.{dirty_numbers}
use Rattle.soundness.specs.Tests.{entries_legal}
use Rattle.soundness.proofs.Scans.{length-mapped, pages-end, firsts_more, firsts_same, firsts-end, oldest-more, oldest-same, legal-more, legal-same, legal-end, gather-end, gathered-more, gathered-same}
use Rattle.soundness.proofs.Surveys.{told-four, told_moved, all-free}
use borrow.Author.Rules.{rules}
use native.Mathlib.Omega.{arith}
use Rattle.soundness.proofs.dirty.survey_of.Goals as goal
use Rattle.soundness.proofs.dirty.survey_of.Goals.{then-entry-ne0, else-entry-ne0, then-one-two+else-loop-j-test, else-one-two}

pub loop-j-preserved : goal.loop-j-preserved
loop-j-preserved c =
    let args = c.args in
    let dirty = args.dirty in
    let at = c.loop-j in
    let t = at.invariant in
    let long : length dirty ≡ 32 = search (rules, length-mapped) in
    let few : at.j < 32 = omega (arith, c.loop-i.invariant.0, c.loop-i-test.true, c.loop-j-test.true) in
    let here : at.j < length dirty = omega arith in
    let room : at.count < length at.list = omega (arith, t.counted, t.long) in
    elim c.if-entry-ne0.branch [
      | then-entry-ne0 w ↦ record {
        few = omega arith;
        counted = omega (arith, t.counted, w.count-is);
        lower = omega (arith, t.lower, w.min-low.ensures, w.low-is);
        long = ap length w.list-is ∙ simp length-set t.long;
        legals = legal-more args.pages args.frames args.next dirty at.j at.legal c.if-entry-ne0.legal (entries_legal args.pages args.frames args.next 0 dirty) here t.legals w.entry_sound-legal.result w.entry_sound-legal.ensures w.legal-is;
        firsts = omega (arith, ap length (firsts_more dirty at.j here w.if-entry-ne0.true), w.count-is, t.firsts);
        oldest = oldest-more dirty at.j at.low c.if-entry-ne0.low (smallest args.own (first_groups dirty)) here t.oldest w.if-entry-ne0.true (w.low-is ∙ w.min-low.ensures);
        numbers = gathered-more dirty at.j at.list c.if-entry-ne0.list (dirty_numbers dirty) at.count c.if-entry-ne0.count here t.numbers room w.if-entry-ne0.true w.list-is w.count-is;
      }
      | else-entry-ne0 w ↦ record {
        few = omega arith;
        counted = omega (arith, t.counted, w.count-is);
        lower = omega (arith, t.lower, w.low-is);
        long = ap length w.list-is ∙ t.long;
        legals = legal-same args.pages args.frames args.next dirty at.j at.legal c.if-entry-ne0.legal (entries_legal args.pages args.frames args.next 0 dirty) here t.legals w.if-entry-ne0.false w.legal-is;
        firsts = omega (arith, ap length (firsts_same dirty at.j here w.if-entry-ne0.false), w.count-is, t.firsts);
        oldest = oldest-same dirty at.j at.low c.if-entry-ne0.low (smallest args.own (first_groups dirty)) here t.oldest w.if-entry-ne0.false w.low-is;
        numbers = gathered-same dirty at.j at.list c.if-entry-ne0.list (dirty_numbers dirty) at.count c.if-entry-ne0.count here t.numbers w.if-entry-ne0.false w.list-is w.count-is;
      }
    ]

pub loop-i-preserved : goal.loop-i-preserved
loop-i-preserved c =
    let args = c.args in
    let dirty = args.dirty in
    let at = c.loop-i in
    let t = at.invariant.1 in
    let long : length dirty ≡ 32 = search (rules, length-mapped) in
    let within : at.i + 4 ≤ 32 = omega (arith, at.invariant.0, c.loop-i-test.true) in (
      omega (arith, at.invariant.0),
      elim c.if-one-two.branch [
        | then-one-two+else-loop-j-test w ↦
            let ended : w.loop-j.j ≡ at.i + 4 = omega (arith, w.loop-j.auto.j-end, w.loop-j-test.false) in
            told_moved args.pages args.frames args.next args.own dirty w.loop-j.list c.if-one-two.list w.loop-j.count c.if-one-two.count w.loop-j.low c.if-one-two.low w.loop-j.legal c.if-one-two.legal w.loop-j.j (at.i + 4) w.list-is w.count-is w.low-is w.legal-is ended w.loop-j.invariant
        | else-one-two w ↦
            let free = all-free _ _ _ _ w.if-one-two.false in
            told_moved args.pages args.frames args.next args.own dirty at.list c.if-one-two.list at.count c.if-one-two.count at.low c.if-one-two.low at.legal c.if-one-two.legal (at.i + 4) (at.i + 4) w.list-is w.count-is w.low-is w.legal-is refl
            (told-four args.pages args.frames args.next args.own dirty at.list at.count at.low at.legal long at.i t within free.0 free.1 free.2 free.3)
      ],
    )

pub returns : goal.returns
returns c =
    let args = c.args in
    let dirty = args.dirty in
    let at = c.loop-i in
    let t = at.invariant.1 in
    let long : length dirty ≡ 32 = search (rules, length-mapped) in
    let past : length dirty ≤ at.i = omega (arith, c.loop-i-test.false) in (
      legal-end args.pages args.frames args.next dirty at.i at.legal (entries_legal args.pages args.frames args.next 0 dirty) past t.legals,
      omega (arith, ap length (firsts-end dirty at.i past), t.firsts),
      omega (arith, t.counted, t.few),
      sym (ap (smallest at.low) (firsts-end dirty at.i past)) ∙ t.oldest,
      t.lower,
      gather-end at.list (dirty_numbers (drop at.i dirty)) (dirty_numbers dirty) at.count (pages-end dirty at.i past) t.numbers,
    )
