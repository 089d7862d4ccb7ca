-- `clean_next` meets its contract, Clean step's promise: refused, or the one store that is next.
-- Assumes nothing.
use mathlib.Core.Path.{◌≡◌, refl, sym, ap, ◌∙◌}
use mathlib.Core.Logic.{inl, inr}
use native.Mathlib.Omega.{arith}
use lib.ListN.{length}
use Rattle.std.specs.Prelude.{Ok}
use Rattle.promises.proofs.Soundness.{sound-of}
use Rattle.table.proofs.Scans.{length-mapped}
use Rattle.cleaning.specs.Cleans.{made_before}
use Rattle.cleaning.proofs.Decision.{accepted}
use Rattle.cleaning.proofs.Stepped.{fitting, first_made, second-made, third-ready, block_made, steps-by}
use Rattle.store.proofs.Handed.{same-number, not-zero}
use borrow.Author.Rules.{rules}
use Rattle.store.proofs.clean_next.Goals as goal

pub returns-in_err-sums : goal.returns-in_err-sums
returns-in_err-sums c =
    let a = c.args in
    let test = c.clean_refusal in
    steps-by a.state.now a.log.now a.home.now a.frames.now _ _ _ _ (same-number test.result _ _ c.in_err-sums.was c.from_residual.ensures.1 ∙ test.ensures.refusal)
    (inr (not-zero test.result _ _ c.in_err-sums.was c.from_residual.ensures.1, refl, refl, refl))

pub frame_to_clean-choice-requires : goal.frame_to_clean-choice-requires
frame_to_clean-choice-requires c = let ok = (accepted c.args.state.now (length c.args.log.now) (length c.args.home.now) (length c.args.frames.now) (sym c.in_ok-sums.ensures.refusal)) in (ok.is_sound, ok.some, c.in_ok-sums.ensures.sums.dirty)

pub store_first-requires : goal.store_first-requires
store_first-requires c =
    let a = c.args in
    fitting a.state.now a.log.now a.home.now a.frames.now (sym c.in_ok-sums.ensures.refusal) _ c.frame_to_clean-choice.ensures.0 _ c.frame_to_clean-choice.ensures.1

pub store_second-requires : goal.store_second-requires
store_second-requires c =
    let a = c.args in
    fitting a.state.now a.log.now a.home.now a.frames.now (sym c.in_ok-sums.ensures.refusal) _ c.frame_to_clean-choice.ensures.0 _ c.frame_to_clean-choice.ensures.1

pub store_clean-requires : goal.store_clean-requires
store_clean-requires c =
    let a = c.args in
    let ready = third-ready a.state.now a.log.now a.home.now a.frames.now (sym c.in_ok-sums.ensures.refusal) _ c.frame_to_clean-choice.ensures.0 (sym c.next_store.ensures ∙ ap made_before c.in-Block.is) in
    (ready.0, ready.1, ready.2, ready.3, c.frame_to_clean-choice.ensures.1, c.in_ok-sums.ensures.sums.dirty)

pub offset_bounds-state-choice : goal.offset_bounds-state-choice
offset_bounds-state-choice c = omega (arith, c.frame_to_clean-choice.ensures.0.below, (sound-of _ (accepted c.args.state.now (length c.args.log.now) (length c.args.home.now) (length c.args.frames.now) (sym c.in_ok-sums.ensures.refusal)).is_sound).frames.1)

pub bounds-state-choice : goal.bounds-state-choice
bounds-state-choice c = omega (arith, c.frame_to_clean-choice.ensures.0.below, (sound-of _ (accepted c.args.state.now (length c.args.log.now) (length c.args.home.now) (length c.args.frames.now) (sym c.in_ok-sums.ensures.refusal)).is_sound).frames.1)

pub overflow_add-state : goal.overflow_add-state
overflow_add-state c =
    let a = c.args in
    let h = (third-ready a.state.now a.log.now a.home.now a.frames.now (sym c.in_ok-sums.ensures.refusal) _ c.frame_to_clean-choice.ensures.0 (sym c.next_store.ensures ∙ ap made_before c.in-Block.is)).3 in omega arith

pub returns-in-SecondHalf : goal.returns-in-SecondHalf
returns-in-SecondHalf c =
    let a = c.args in
    let s = a.state.now in
    steps-by s a.log.now a.home.now a.frames.now _ (Ok tt) _ _ c.in_ok-sums.ensures.refusal
    (inl (refl, second-made s a.log.now a.home.now a.frames.now (sym c.in_ok-sums.ensures.refusal) _ c.frame_to_clean-choice.ensures.0 _ _ (sym c.next_store.ensures ∙ ap made_before c.in-SecondHalf.is) _ c.frame_to_clean-choice.ensures.1 _ _ refl refl c.store_second.ensures))

pub returns-in-Block : goal.returns-in-Block
returns-in-Block c =
    let a = c.args in
    let s = a.state.now in
    let long : length s.dirty ≡ 32 = search (rules, length-mapped) in
    steps-by s a.log.now a.home.now a.frames.now _ (Ok tt) _ _ c.in_ok-sums.ensures.refusal
    (inl (refl, block_made s a.log.now a.home.now a.frames.now (sym c.in_ok-sums.ensures.refusal) _ c.frame_to_clean-choice.ensures.0 long _ _ (sym c.next_store.ensures ∙ ap made_before c.in-Block.is) _ _ refl c.store_clean.ensures refl))

pub returns-in-FirstHalf : goal.returns-in-FirstHalf
returns-in-FirstHalf c =
    let a = c.args in
    let s = a.state.now in
    let none = sym c.next_store.ensures ∙ ap made_before c.in-FirstHalf.is in
    steps-by s a.log.now a.home.now a.frames.now _ (Ok tt) _ _ c.in_ok-sums.ensures.refusal
    (inl (refl, first_made s a.log.now a.home.now a.frames.now (sym c.in_ok-sums.ensures.refusal) _ c.frame_to_clean-choice.ensures.0 _ _ (λ e. omega (arith, none, e)) (λ e. omega (arith, none, e)) _ c.frame_to_clean-choice.ensures.1 _ _ refl refl c.store_first.ensures))
