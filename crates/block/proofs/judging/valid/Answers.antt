-- `judging::valid` meets its contract: an answer for each rule.
-- Assumes nothing.
use Rattle.std.proofs.Common.{◌≡◌, ℕ, true, eqb, sym, ap, ◌∙◌, arith, rules}
use Rattle.area.proofs.Laws.{never_both}
use Rattle.block.specs.Kind.{length_of}
use Rattle.block.specs.Legal.{legal, slot_of}
use Rattle.block.specs.Layout.{layout}
use Rattle.block.specs.Slot.{same, new_bytes_at}
use Rattle.block.proofs.Rules.{legal-count, valid-illegal, valid-elsewhere, valid-here}
use Rattle.block.proofs.judging.valid.Goals as goal
use Rattle.block.proofs.judging.valid.Goals.{After-length_of, then-legal_block, else-legal_block}

-- where both tests have passed, the block is legal and in its own slot
is_legal : (c : After-length_of) → legal c.args.slots c.args.pages c.args.block ≡ true
is_legal c =
    elim c.if-legal_block.branch [
      | then-legal_block w ↦ sym c.legal_block.ensures ∙ w.if-legal_block.true
      | else-legal_block w ↦ sym c.legal_block.ensures ∙ sym w.value-is ∙ c.if-block-slots.true
    ]

in-place : (c : After-length_of) → eqb (slot_of c.args.slots c.args.block.sequence) c.args.place ≡ true
in-place c =
    elim c.if-legal_block.branch [
      | then-legal_block w ↦ sym w.value-is ∙ c.if-block-slots.true
      | else-legal_block w ↦ absurd (never_both c.if-legal_block.value c.if-block-slots.true (w.value-is ∙ w.if-legal_block.false))
    ]

pub laid_out-requires : goal.laid_out-requires
laid_out-requires c =
    let args = c.args in
    let n : c.length_of.result ≡ length_of args.block.kind = c.length_of.ensures in
    (search rules, search rules, n, omega (arith, n, legal-count args.slots args.pages args.block (is_legal c)))

pub returns-then-block-slots : goal.returns-then-block-slots
returns-then-block-slots c =
    let args = c.args in
    let passed = (goal.at.returns-then-block-slots c).After-length_of in
    c.laid_out.ensures
    ∙ ap (λ (count : ℕ). same args.slot.now (layout args.block (new_bytes_at args.slot.now count))) c.length_of.ensures
    ∙ valid-here args.slots args.pages args.place args.slot.now args.block (is_legal passed) (in-place passed)

pub returns-else-block-slots : goal.returns-else-block-slots
returns-else-block-slots c =
    let args = c.args in
    c.if-block-slots.false
    ∙ elim c.if-legal_block.branch [
      | then-legal_block w ↦
          valid-elsewhere args.slots args.pages args.place args.slot.now args.block (sym c.legal_block.ensures ∙ w.if-legal_block.true)
          (sym w.value-is ∙ c.if-block-slots.false)
      | else-legal_block w ↦
          valid-illegal args.slots args.pages args.place args.slot.now args.block (sym c.legal_block.ensures ∙ w.if-legal_block.false)
    ]
