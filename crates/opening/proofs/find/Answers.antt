-- `opening::find` meets its contract: no valid slot, a missing block, a damaged end, or the walk.
-- Assumes nothing.
use Prim.Native.Nat.{◌≤◌, ◌<◌, ◌^◌}
use mathlib.Core.Path.{ap, ◌∙◌}
use lib.ListN.{length}
use borrow.Author.Tests.{not-true, not-false}
use Rattle.block.specs.declared.Block.{Block}
use Rattle.std.specs.Prelude.{Err}
use Rattle.promises.specs.declared.Stop.{Stop}
use Rattle.promises.specs.Areas.{frames_in}
use Rattle.recovery.proofs.Turning.{legal-numbers}
use Rattle.opening.specs.Findings.{found_of}
use Rattle.opening.proofs.Ending.{stopped-is}
use Rattle.opening.proofs.Reading.{reads-damaged, reads-fresh, keep-bounds, reads-missing, all-legal, reads_end, reads-blocks}
use native.Mathlib.Omega.{arith}
use Rattle.opening.proofs.find.Goals as goal
use Rattle.opening.proofs.find.Goals.{After-header-last}

-- the newest block's keep-from is a sequence up to its own
bounds : (c : After-header-last) → (1 ≤ c.header-last.result.keep_from) × (c.header-last.result.keep_from ≤ c.judge_all-scan.result.newest) × (c.judge_all-scan.result.newest < 2 ^ 48)
bounds c =
    let a = c.args in
    let j = c.judge_all-scan in
    let p = c.requires in
    keep-bounds a.log.now a.home.now j.new.sequences j.result (length a.sequences.now) p.0 p.1 j.auto.sequences j.ensures c.if-newest-eq0.false c.header-last.result c.header-last.ensures

pub returns-then-not-scan : goal.returns-then-not-scan
returns-then-not-scan c =
    let a = c.args in
    let j = c.judge_all-scan in
    let p = c.requires in
    let n = length a.sequences.now in
    let size = j.auto.sequences in
    reads-damaged a.log.now a.home.now j.new.sequences j.result n p.0 p.1 size j.ensures (frames_in (length a.frames.now)) (frames_in (length a.frames.now)) _ _ c.if-newest-eq0.true (not-true _ c.if-not-scan.true)
    (ap (λ (x : Stop). found_of (Err x) a.seats.now) c.missing.ensures ∙ stopped-is _ a.seats.now p.5 p.6 0)

pub returns-then-newest-eq0 : goal.returns-then-newest-eq0
returns-then-newest-eq0 c =
    let a = c.args in
    let j = c.judge_all-scan in
    let p = c.requires in
    let n = length a.sequences.now in
    let size = j.auto.sequences in
    reads-fresh a.log.now a.home.now j.new.sequences j.result n p.0 p.1 size j.ensures (frames_in (length a.frames.now)) (frames_in (length a.frames.now)) _ _ (not-false _ c.if-not-scan.false) c.walked.ensures

pub missing-lost-requires : goal.missing-lost-requires
missing-lost-requires c =
    let j = c.judge_all-scan in
    let b = bounds (goal.at.missing-lost-requires c).After-header-last in
    (omega (arith, j.auto.sequences), omega (arith, j.auto.sequences), b.1, b.2)

pub overflow_add-newest : goal.overflow_add-newest
overflow_add-newest c = omega (arith, (bounds (goal.at.overflow_add-newest c).After-header-last).2)

pub returns-then-lost-newest : goal.returns-then-lost-newest
returns-then-lost-newest c =
    let a = c.args in
    let j = c.judge_all-scan in
    let p = c.requires in
    let n = length a.sequences.now in
    let size = j.auto.sequences in
    reads-missing a.log.now a.home.now j.new.sequences j.result n p.0 p.1 size j.ensures c.if-newest-eq0.false c.header-last.result c.header-last.ensures _ c.missing-lost.ensures (frames_in (length a.frames.now)) (frames_in (length a.frames.now)) _ _ c.if-lost-newest.true
    (ap (λ (x : Stop). found_of (Err x) a.seats.now) c.missing-then-lost-newest.ensures ∙ stopped-is _ a.seats.now p.5 p.6 _)

pub returns-then-end_damaged : goal.returns-then-end_damaged
returns-then-end_damaged c =
    let a = c.args in
    let j = c.judge_all-scan in
    let p = c.requires in
    let n = length a.sequences.now in
    let size = j.auto.sequences in
    reads_end a.log.now a.home.now j.new.sequences j.result n p.0 p.1 size j.ensures c.if-newest-eq0.false c.header-last.result c.header-last.ensures _ c.missing-lost.ensures c.if-lost-newest.false (frames_in (length a.frames.now)) (frames_in (length a.frames.now)) _ _ _ c.damaged_at-end_damaged.ensures c.if-end_damaged.true
    (ap (λ (x : Stop). found_of (Err x) a.seats.now) c.missing-then-end_damaged.ensures ∙ stopped-is _ a.seats.now p.5 p.6 _)

pub walked-requires-2 : goal.walked-requires-2
walked-requires-2 c =
    let a = c.args in
    let j = c.judge_all-scan in
    let p = c.requires in
    let n = length a.sequences.now in
    let size = j.auto.sequences in
    let b = bounds (goal.at.walked-requires-2 c).After-header-last in
    let legal = all-legal a.log.now a.home.now j.new.sequences j.result n p.0 p.1 size j.ensures c.if-newest-eq0.false c.header-last.result c.header-last.ensures _ c.missing-lost.ensures c.if-lost-newest.false in
    let k = c.header-last.result.keep_from in
    let t = (legal-numbers a.log.now a.home.now k (legal k (omega arith) b.1)).1 in
    record {
      log_bound = (omega arith, omega arith, p.3, p.4, p.5, p.6);
      first_bound = (omega (arith, b.1), b.2, omega (arith, t, ap (λ (x : Block). x.ticket) c.header-first.ensures), legal);
    }

pub returns : goal.returns
returns c =
    let a = c.args in
    let j = c.judge_all-scan in
    let p = c.requires in
    let n = length a.sequences.now in
    let size = j.auto.sequences in
    reads-blocks a.log.now a.home.now j.new.sequences j.result n p.0 p.1 size j.ensures c.if-newest-eq0.false c.header-last.result c.header-last.ensures _ c.missing-lost.ensures c.if-lost-newest.false (frames_in (length a.frames.now)) (frames_in (length a.frames.now)) _ _ _ c.damaged_at-end_damaged.ensures c.if-end_damaged.false _ (ap (λ (x : Block). x.ticket) c.header-first.ensures)
    c.walked-2.ensures
