-- `listing::examine_slots` meets its contract: no block, no valid one, one missing, a damaged end, a walk that is refused, or one that stands.
-- Assumes nothing.
use mathlib.Core.Path.{sym, ap, subst, ◌∙◌}
use Prim.Native.Nat.{◌+◌, ◌-◌, ◌<◌}
use native.Mathlib.Omega.{arith}
use lib.ListN.{length}
use Rattle.block.specs.Sizes.{sequence_end}
use Rattle.block.specs.declared.Block.{Block}
use Rattle.outline.specs.Outline.{steps, ended, started}
use Rattle.listing.specs.Listing.{headers_from}
use Rattle.listing.proofs.Examining.{keep-range, ordinary-at, examines-fresh, examines-damaged, examines-lost, examines-end, examines-refused, examines-accepted}
use Rattle.std.proofs.lemmas.Result.{err_from_is_err_and}
use Rattle.listing.proofs.Finding.{ended-stopped}
use Rattle.listing.proofs.examine_slots.Goals as goal

pub returns-then-scan : goal.returns-then-scan
returns-then-scan c =
    let a = c.args in
    let p = c.requires in
    let j = c.judge_all-scan in
    let size = j.auto.sequences in
    examines-fresh a.log.now (length a.sequences.now) p.0 p.1 p.2 j.result j.new.sequences size j.ensures c.if-scan.true

pub returns-then-newest-eq0 : goal.returns-then-newest-eq0
returns-then-newest-eq0 c =
    let a = c.args in
    let p = c.requires in
    let j = c.judge_all-scan in
    let size = j.auto.sequences in
    examines-damaged a.log.now (length a.sequences.now) p.0 p.1 p.2 j.result j.new.sequences size j.ensures _ c.if-newest-eq0.true c.if-scan.false c.missing.ensures

pub missing-lost-requires : goal.missing-lost-requires
missing-lost-requires c =
    let a = c.args in
    let p = c.requires in
    let j = c.judge_all-scan in
    let size = j.auto.sequences in
    let some = c.if-newest-eq0.false in
    let h = c.header-last in
    let keep = h.result.keep_from in
    let keep-is = ap (λ (b : Block). b.keep_from) h.ensures in
    let range = keep-range a.log.now (length a.sequences.now) p.0 p.1 p.2 j.result j.new.sequences size j.ensures some keep keep-is in
    (omega (arith, size), omega (arith, size), range.1, range.2)

pub overflow_add-newest : goal.overflow_add-newest
overflow_add-newest c =
    let a = c.args in
    let p = c.requires in
    let j = c.judge_all-scan in
    let size = j.auto.sequences in
    let some = c.if-newest-eq0.false in
    let h = c.header-last in
    let keep = h.result.keep_from in
    let keep-is = ap (λ (b : Block). b.keep_from) h.ensures in
    let range = keep-range a.log.now (length a.sequences.now) p.0 p.1 p.2 j.result j.new.sequences size j.ensures some keep keep-is in
    omega (arith, range.2)

pub returns-then-lost-newest : goal.returns-then-lost-newest
returns-then-lost-newest c =
    let a = c.args in
    let p = c.requires in
    let j = c.judge_all-scan in
    let size = j.auto.sequences in
    let some = c.if-newest-eq0.false in
    let h = c.header-last in
    let keep = h.result.keep_from in
    let keep-is = ap (λ (b : Block). b.keep_from) h.ensures in
    let r = c.missing-then-lost-newest.ensures in
    examines-lost a.log.now (length a.sequences.now) p.0 p.1 p.2 j.result j.new.sequences size j.ensures some keep keep-is _ c.missing-lost.ensures _ c.if-lost-newest.true r

pub returns-then-end_damaged : goal.returns-then-end_damaged
returns-then-end_damaged c =
    let a = c.args in
    let p = c.requires in
    let j = c.judge_all-scan in
    let size = j.auto.sequences in
    let some = c.if-newest-eq0.false in
    let h = c.header-last in
    let keep = h.result.keep_from in
    let keep-is = ap (λ (b : Block). b.keep_from) h.ensures in
    let r = c.missing-then-end_damaged.ensures in
    examines-end a.log.now (length a.sequences.now) p.0 p.1 p.2 j.result j.new.sequences size j.ensures some keep keep-is _ c.missing-lost.ensures (omega arith) _ _ c.damaged_at-end_damaged.ensures c.if-end_damaged.true r

pub walk_blocks-requires : goal.walk_blocks-requires
walk_blocks-requires c =
    let a = c.args in
    let p = c.requires in
    let j = c.judge_all-scan in
    let size = j.auto.sequences in
    let some = c.if-newest-eq0.false in
    let h = c.header-last in
    let keep = h.result.keep_from in
    let keep-is = ap (λ (b : Block). b.keep_from) h.ensures in
    let range = keep-range a.log.now (length a.sequences.now) p.0 p.1 p.2 j.result j.new.sequences size j.ensures some keep keep-is in
    let plain = ordinary-at a.log.now (length a.sequences.now) p.0 p.1 p.2 j.result j.new.sequences size j.ensures some keep keep-is _ c.missing-lost.ensures c.if-lost-newest.false in (
      omega arith,
      range.0,
      range.1,
      range.2,
      subst (λ (b : Block). b.ticket < sequence_end) (sym c.header-first.ensures) (plain keep (omega arith) range.1).ticket_below,
      plain,
    )

pub returns-in_err-walked : goal.returns-in_err-walked
returns-in_err-walked c =
    let a = c.args in
    let p = c.requires in
    let j = c.judge_all-scan in
    let size = j.auto.sequences in
    let some = c.if-newest-eq0.false in
    let h = c.header-last in
    let keep = h.result.keep_from in
    let keep-is = ap (λ (b : Block). b.keep_from) h.ensures in
    let e = err_from_is_err_and c.from_residual.result c.from_residual.ensures.1 in
    let walked = ended-stopped (length a.sequences.now) _ _ ∙ ap (ended (length a.sequences.now)) (c.in_err-walked.ensures.0 ∙ ap (λ (b : Block). steps 32 (headers_from a.log.now keep (j.result.newest + 1 - keep)) (started keep b.ticket)) c.header-first.ensures) in
    rw (e.1, e.2) (examines-refused a.log.now (length a.sequences.now) p.0 p.1 p.2 j.result j.new.sequences size j.ensures some keep keep-is _ c.missing-lost.ensures c.if-lost-newest.false _ c.damaged_at-end_damaged.ensures c.if-end_damaged.false _ walked)

pub last_test-requires : goal.last_test-requires
last_test-requires c =
    let a = c.args in
    let p = c.requires in
    let j = c.judge_all-scan in
    let size = j.auto.sequences in
    let some = c.if-newest-eq0.false in
    let h = c.header-last in
    let keep = h.result.keep_from in
    let keep-is = ap (λ (b : Block). b.keep_from) h.ensures in
    let range = keep-range a.log.now (length a.sequences.now) p.0 p.1 p.2 j.result j.new.sequences size j.ensures some keep keep-is in
    let w = c.in_ok-walked.ensures.1 in
    (w.0, omega (arith, w.1), omega (arith, w.1, range.2))

pub returns-in_err-course : goal.returns-in_err-course
returns-in_err-course c =
    let a = c.args in
    let p = c.requires in
    let j = c.judge_all-scan in
    let size = j.auto.sequences in
    let some = c.if-newest-eq0.false in
    let h = c.header-last in
    let keep = h.result.keep_from in
    let keep-is = ap (λ (b : Block). b.keep_from) h.ensures in
    let e = err_from_is_err_and c.from_residual-in_err-course.result c.from_residual-in_err-course.ensures.1 in
    let walked = c.in_err-course.ensures ∙ ap (ended (length a.sequences.now)) (c.in_ok-walked.ensures.0 ∙ ap (λ (b : Block). steps 32 (headers_from a.log.now keep (j.result.newest + 1 - keep)) (started keep b.ticket)) c.header-first.ensures) in
    rw (e.1, e.2) (examines-refused a.log.now (length a.sequences.now) p.0 p.1 p.2 j.result j.new.sequences size j.ensures some keep keep-is _ c.missing-lost.ensures c.if-lost-newest.false _ c.damaged_at-end_damaged.ensures c.if-end_damaged.false _ walked)

pub returns : goal.returns
returns c =
    let a = c.args in
    let p = c.requires in
    let j = c.judge_all-scan in
    let size = j.auto.sequences in
    let some = c.if-newest-eq0.false in
    let h = c.header-last in
    let keep = h.result.keep_from in
    let keep-is = ap (λ (b : Block). b.keep_from) h.ensures in
    let walked = c.in_ok-course.ensures ∙ ap (ended (length a.sequences.now)) (c.in_ok-walked.ensures.0 ∙ ap (λ (b : Block). steps 32 (headers_from a.log.now keep (j.result.newest + 1 - keep)) (started keep b.ticket)) c.header-first.ensures) in
    examines-accepted a.log.now (length a.sequences.now) p.0 p.1 p.2 j.result j.new.sequences size j.ensures some keep keep-is _ c.missing-lost.ensures c.if-lost-newest.false _ c.damaged_at-end_damaged.ensures c.if-end_damaged.false c.in_ok-course.course walked
