-- `feeding::marks_of` meets its contract: what is left to see of the frames from an index on.
-- Assumes nothing.
use mathlib.Core.Path.{sym, ap, ◌∙◌}
use mathlib.Core.Bool.{Bool}
use mathlib.Core.List.{List, [], ◌∷◌, ◌++◌, append-nil}
use Prim.Native.Nat.{ℕ}
use lib.ListN.{get_or, length}
use borrow.Author.Tests.{eq-eqb, ne_eqb}
use Rattle.promises.specs.declared.Dirty.{Dirty}
use Rattle.promises.specs.States.{free}
use Rattle.promises.specs.Contents.{unless}
use Rattle.outline.specs.declared.Mark.{Mark}
use Rattle.outline.specs.Lists.{MarkList}
use Rattle.feeding.proofs.Testing.{marks-turn, marks-end}
use native.Mathlib.Omega.{arith}
use Rattle.feeding.proofs.marks_of.Goals as goal
use Rattle.feeding.proofs.marks_of.Goals.{then-entry-ne0, else-entry-ne0}

pub loop-entry-preserved : goal.loop-entry-preserved
loop-entry-preserved c =
    let l = c.loop-entry in
    let entry : Dirty = get_or c.args.dirty.now l.entry-index free in
    elim c.if-entry-ne0.branch [
      | then-entry-ne0 w ↦
          let more = ap (λ (v : MarkList). v.items) w.marks-is ∙ w.push.ensures.items
          ∙ ap (λ (p : ℕ). l.marks.items ++ (record { page = p; first = entry.first } ∷ [])) w.from.ensures
          ∙ ap (λ (b : Bool). l.marks.items ++ unless b (record { page = entry.page; first = entry.first }) []) (sym (ne_eqb _ _ w.if-entry-ne0.true)) in
          (omega (arith, ap (λ (v : MarkList). length v.items) w.marks-is, w.push.ensures.len, l.invariant.0), λ frames. marks-turn frames c.args.dirty.now l.entry-index l.marks.items _ (omega arith) more ∙ l.invariant.1 frames)
      | else-entry-ne0 w ↦
          let same = ap (λ (v : MarkList). v.items) w.marks-is ∙ sym (append-nil l.marks.items)
          ∙ ap (λ (b : Bool). l.marks.items ++ unless b (record { page = entry.page; first = entry.first }) []) (sym (eq-eqb _ _ w.if-entry-ne0.false)) in
          (omega (arith, ap (λ (v : MarkList). length v.items) w.marks-is, l.invariant.0), λ frames. marks-turn frames c.args.dirty.now l.entry-index l.marks.items _ (omega arith) same ∙ l.invariant.1 frames)
    ]

pub returns-clause-is : goal.returns-clause-is
returns-clause-is c = λ frames.
    let l = c.loop-entry in
    sym (append-nil l.marks.items) ∙ ap (λ (ms : List Mark). l.marks.items ++ ms) (sym (marks-end frames c.args.dirty.now l.entry-index (omega arith))) ∙ l.invariant.1 frames
