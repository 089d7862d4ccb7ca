-- `check::rows` meets its contract. The loop's invariant: the lanes tell the bytes of the rows passed, and none is too great.
-- Assumes nothing.
use Rattle.std.proofs.Common.{◌≡◌, ℕ, ◌+◌, ◌*◌, ◌≤◌, List, [], ◌++◌, get_or, take, sym, ap, ◌∙◌, subst, append_assoc, append-nil, arith, take_all}
use Rattle.std.specs.List.{concat}
use Rattle.block.specs.Lanes.{LanesMost}
use Rattle.block.specs.declared.check.Lanes.{Lanes}
use Rattle.block.proofs.Lanes.{Read, none_read, row_read, rows-next}
use Rattle.block.proofs.check.rows.Goals as goal

-- what a row asks of the lanes
ready : (lanes : Lanes) (bytes : List ℕ) (count : ℕ) → count ≤ 480 → Read lanes bytes count
    → LanesMost 3825 lanes.uppers × LanesMost 57375 lanes.uppertotals
ready lanes bytes count few read = ((λ l h. omega (arith, read.upper l h)), (λ l h. omega (arith, read.uppers l h)))

pub row-requires : goal.row-requires
row-requires c = ready _ _ 0 (omega arith) none_read

pub loop-bytes-init : goal.loop-bytes-init
loop-bytes-init c =
    let first = c.args.first.now in
    let read =
    row_read _ _ first 0 c.row.new.lanes (omega arith) c.told-first (λ i h. c.row.ensures.small i)
    c.row.ensures.added none_read in
    subst (λ (l : List ℕ). Read c.row.new.lanes l 32) (sym (append-nil first)) read

pub row-requires-in-loop-bytes : goal.row-requires-in-loop-bytes
row-requires-in-loop-bytes c =
    let at = c.loop-bytes in
    ready at.lanes _ (32 * at.bytes-index + 32) (omega arith) at.invariant

pub loop-bytes-preserved : goal.loop-bytes-preserved
loop-bytes-preserved c =
    let at = c.loop-bytes in
    let i = at.bytes-index in
    let first = c.args.first.now in
    let more = c.args.more.now in
    let row = get_or more i [] in
    let added = c.row-in-loop-bytes.ensures in
    let read =
    row_read at.lanes (first ++ concat (take i more)) row (32 * i + 32) c.row-in-loop-bytes.new.lanes (omega arith)
    (c.told-more i (omega arith)) (λ k h. added.small k) added.added at.invariant in
    let bytes : first ++ concat (take i more) ++ row ≡ first ++ concat (take (i + 1) more) =
    append_assoc first (concat (take i more)) row ∙ ap (λ (l : List ℕ). first ++ l) (sym (rows-next more i (omega arith))) in
    let count : 32 * i + 32 + 32 ≡ 32 * (i + 1) + 32 = omega arith in
    rw (bytes, count) at read

pub returns : goal.returns
returns c =
    let at = c.loop-bytes in
    let first = c.args.first.now in
    let more = c.args.more.now in
    let read =
    subst (λ (l : List (List ℕ)). Read at.lanes (first ++ concat l) (32 * at.bytes-index + 32)) (take_all at.bytes-index more (omega arith)) at.invariant in
    (read.summed, (λ l h. omega (arith, read.lower l h, read.upper l h)))
