-- `recovery::judge_all` meets its contract: the newest of the slots seen and of those left, and the sequences noted.
-- Assumes nothing.
use Prim.Native.Nat.{ℕ, ◌-◌, ◌+◌, ◌*◌, max}
use mathlib.Core.Path.{◌≡◌, sym, ap, ◌∙◌}
use lib.ListN.{length}
use Rattle.area.proofs.Parts.{from-to}
use Rattle.block.specs.Slot.{judged}
use Rattle.promises.specs.Blocks.{slots_from}
use Rattle.promises.specs.Newest.{newest}
use Rattle.recovery.specs.Slots.{is_empty}
use Rattle.recovery.proofs.Scanning.{max-is, slot-sequence, slot-empty, empty-not, newest-more, unused-more, newest-end, unused-end, noted_more}
use native.Mathlib.Omega.{arith}
use Rattle.recovery.proofs.judge_all.Goals as goal
use Rattle.recovery.proofs.judge_all.Goals.{in-Unused, in_default}

pub loop-i-preserved : goal.loop-i-preserved
loop-i-preserved c =
    let a = c.args in
    let l = c.loop-i in
    let n = length a.sequences.now in
    let j = c.judge-judged in
    let e = j.ensures ∙ ap (judged n a.pages l.i) (from-to a.log.now (l.i * 512) 512) in
    let q = c.sequence_of.ensures ∙ slot-sequence n a.pages a.log.now l.i j.result e in
    let empty : c.match-matches.matches ≡ is_empty j.result =
    elim c.match-matches.branch [
      | in-Unused w ↦ w.matches-is ∙ sym (ap is_empty w.in-Unused.is)
      | in_default w ↦ w.matches-is ∙ sym (empty-not j.result w.in_default.not-Unused)
    ] in (
      ap (λ (x : ℕ). max x (newest (slots_from n a.pages a.log.now (l.i + 1) (n - (l.i + 1))))) (c.max-newest.ensures ∙ max-is _ _)
          ∙ newest-more n a.pages a.log.now l.i n (omega arith) _ l.newest _ l.invariant.0 q,
      unused-more n a.pages a.log.now l.i n (omega arith) _ l.unused _ l.invariant.1 (empty ∙ slot-empty n a.pages a.log.now l.i j.result e),
      noted_more n a.pages a.log.now l.sequences l.i _ (omega arith) q l.invariant.2,
    )

pub returns : goal.returns
returns c =
    let a = c.args in
    let l = c.loop-i in
    let n = length a.sequences.now in
    record {
      newest_is = newest-end n a.pages a.log.now l.i n (omega arith) l.newest _ l.invariant.0;
      unused_is = unused-end n a.pages a.log.now l.i n (omega arith) l.unused _ l.invariant.1;
      sequences_are = λ j h. l.invariant.2 j (omega arith);
    }
