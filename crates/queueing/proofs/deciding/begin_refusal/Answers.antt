-- `deciding::begin_refusal` meets its contract.
-- Assumes nothing.
use mathlib.Core.Path.{sym, ◌∙◌}
use mathlib.Core.Bool.{false}
use borrow.Author.Tests.{eq-eqb, ne_eqb}
use Rattle.promises.specs.Begin.{begin_refusal}
use Rattle.promises.proofs.Replies.{refused-with}
use Rattle.soundness.proofs.Verdicts.{judged_ok, judged_err}
use Rattle.queueing.proofs.deciding.begin_refusal.Goals as goal

pub returns-in_err-sums-clause-refusal : goal.returns-in_err-sums-clause-refusal
unfolding begin_refusal
returns-in_err-sums-clause-refusal c =
    let unsound = judged_err false c.args.state c.args.verdict _ c.requires (sym c.ok_or.ensures.value ∙ c.in_err-sums.was) in
    refused-with _ _ c.from_residual.ensures.1 ∙ unsound.1 ∙ simp (unsound.0)

pub returns-then-not-begin_in_range-clause-refusal : goal.returns-then-not-begin_in_range-clause-refusal
unfolding begin_refusal
returns-then-not-begin_in_range-clause-refusal c = simp ((judged_ok false c.args.state c.args.verdict _ c.requires (sym c.ok_or.ensures.value ∙ c.in_ok-sums.was)).0, sym c.begin_in_range.ensures ∙ c.if-not-begin_in_range.true)

pub returns-then-state-ne0-clause-refusal : goal.returns-then-state-ne0-clause-refusal
unfolding begin_refusal
returns-then-state-ne0-clause-refusal c = simp ((judged_ok false c.args.state c.args.verdict _ c.requires (sym c.ok_or.ensures.value ∙ c.in_ok-sums.was)).0, sym c.begin_in_range.ensures ∙ c.if-not-begin_in_range.false, ne_eqb _ _ c.if-state-ne0.true)

pub returns-then-not-sequences_left-clause-refusal : goal.returns-then-not-sequences_left-clause-refusal
unfolding begin_refusal
returns-then-not-sequences_left-clause-refusal c =
    simp ((judged_ok false c.args.state c.args.verdict _ c.requires (sym c.ok_or.ensures.value ∙ c.in_ok-sums.was)).0, sym c.begin_in_range.ensures ∙ c.if-not-begin_in_range.false, eq-eqb _ _ c.if-state-ne0.false, sym c.sequences_left.ensures ∙ c.if-not-sequences_left.true)

pub returns-then-not-begin_has_room-clause-refusal : goal.returns-then-not-begin_has_room-clause-refusal
unfolding begin_refusal
returns-then-not-begin_has_room-clause-refusal c =
    simp ((judged_ok false c.args.state c.args.verdict _ c.requires (sym c.ok_or.ensures.value ∙ c.in_ok-sums.was)).0, sym c.begin_in_range.ensures ∙ c.if-not-begin_in_range.false, eq-eqb _ _ c.if-state-ne0.false, sym c.sequences_left.ensures ∙ c.if-not-sequences_left.false, sym c.begin_has_room.ensures ∙ c.if-not-begin_has_room.true)

pub returns-clause-refusal : goal.returns-clause-refusal
unfolding begin_refusal
returns-clause-refusal c =
    simp ((judged_ok false c.args.state c.args.verdict _ c.requires (sym c.ok_or.ensures.value ∙ c.in_ok-sums.was)).0, sym c.begin_in_range.ensures ∙ c.if-not-begin_in_range.false, eq-eqb _ _ c.if-state-ne0.false, sym c.sequences_left.ensures ∙ c.if-not-sequences_left.false, sym c.begin_has_room.ensures ∙ c.if-not-begin_has_room.false)
