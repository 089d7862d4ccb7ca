-- `judging::blank` meets its contract. The loop's invariant: all bytes are zero if those left are.
-- Assumes nothing.
use Rattle.std.proofs.Common.{◌≡◌, ◌+◌, ◌-◌, length, take, drop, sym, ap, ◌∙◌, arith, length-drop, length-take, take_all}
use Rattle.block.specs.Slot.{all_zero}
use Rattle.block.proofs.Zeros.{row-passed, row-not, rest-zero}
use Rattle.block.proofs.judging.blank.Goals as goal
use Rattle.block.proofs.judging.blank.Goals.{else-loop-i-test, then-loop-i-test+else-not-row_blank+else-last-i-gt128}

pub returns-then-bytes-lt128 : goal.returns-then-bytes-lt128
returns-then-bytes-lt128 c = c.few_blank.ensures

pub row_blank-requires : goal.row_blank-requires
row_blank-requires c = simp (length-take, length-drop) (omega arith)

pub returns-then-not-row_blank : goal.returns-then-not-row_blank
returns-then-not-row_blank c =
    let bytes = c.args.bytes.now in
    let row = c.row_blank in
    let at = c.loop-i in
    sym (at.invariant ∙ row-not bytes at.i 128 (sym row.ensures ∙ c.if-not-row_blank.true))

pub loop-i-preserved : goal.loop-i-preserved
loop-i-preserved c =
    let bytes = c.args.bytes.now in
    let row = c.row_blank in
    let at = c.loop-i in
    at.invariant ∙ row-passed bytes at.i 128 (sym row.ensures ∙ c.if-not-row_blank.false)

pub row_blank-requires-2 : goal.row_blank-requires-2
row_blank-requires-2 c = simp (length-take, length-drop) (omega arith)

pub returns : goal.returns
returns c =
    let bytes = c.args.bytes.now in
    let last = length bytes - 128 in
    let at = c.loop-i in
    let all : take (length bytes - last) (drop last bytes) ≡ drop last bytes =
    take_all (length bytes - last) (drop last bytes) (simp length-drop (omega arith)) in
    c.row_blank-2.ensures
    ∙ ap all_zero all
    ∙ elim c.loop-i-test.branch [
      | else-loop-i-test w ↦ rest-zero bytes last at.i (omega arith) at.invariant
      | then-loop-i-test+else-not-row_blank+else-last-i-gt128 w ↦
          rest-zero bytes last (at.i + 128) (omega arith) (at.invariant ∙ row-passed bytes at.i 128 (sym w.row_blank.ensures ∙ w.if-not-row_blank.false))
    ]
