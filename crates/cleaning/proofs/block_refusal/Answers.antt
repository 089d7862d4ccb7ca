-- `cleaning::block_refusal` meets its contract: the half-stored group is tested first, then the sequences.
-- Assumes nothing.
use mathlib.Core.Path.{refl, sym}
use mathlib.Core.Bool.{true, false}
use Prim.Native.Nat.{◌^◌}
use borrow.Author.Tests.{eq-eqb, ne_eqb}
use Rattle.promises.specs.Sums.{sequences_taken}
use Rattle.promises.proofs.Soundness.{Sound, sound-of}
use Rattle.cleaning.proofs.Decision.{block-by}
use native.Mathlib.Omega.{arith}
use Rattle.cleaning.proofs.block_refusal.Goals as goal

pub returns-then-state-ne0-clause-refusal : goal.returns-then-state-ne0-clause-refusal
returns-then-state-ne0-clause-refusal c = block-by c.args.state 0 false _ (sym (ne_eqb _ _ c.if-state-ne0.true)) refl

pub owed-owed-requires : goal.owed-owed-requires
owed-owed-requires c = let f : Sound c.args.state = sound-of _ c.requires.0 in f.reserved

pub overflow_add-state : goal.overflow_add-state
overflow_add-state c = let h = c.requires.2.sequences in omega arith

pub overflow_add-state-2 : goal.overflow_add-state-2
overflow_add-state-2 c = let h = c.requires.2.sequences in omega (arith, c.owed-owed.ensures.1)

pub returns-then-state-sums-eq-SEQUENCE_END-clause-refusal : goal.returns-then-state-sums-eq-SEQUENCE_END-clause-refusal
returns-then-state-sums-eq-SEQUENCE_END-clause-refusal c =
    let s = c.args.state in
    let w = c.requires.1.waiting in
    let o = c.owed-owed.ensures.0 in
    block-by s 0 true true (sym (eq-eqb _ _ c.if-state-ne0.false)) (sym (eq-eqb (sequences_taken s) (2 ^ 48) (omega (arith, w, o, c.if-state-sums-eq-SEQUENCE_END.true))))

pub returns-clause-refusal : goal.returns-clause-refusal
returns-clause-refusal c =
    let s = c.args.state in
    let w = c.requires.1.waiting in
    let o = c.owed-owed.ensures.0 in
    block-by s 0 true false (sym (eq-eqb _ _ c.if-state-ne0.false)) (sym (ne_eqb (sequences_taken s) (2 ^ 48) (λ e. c.if-state-sums-eq-SEQUENCE_END.false (omega (arith, w, o, e)))))
