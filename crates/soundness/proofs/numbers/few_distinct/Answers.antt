-- `numbers::few_distinct` meets its contract. The loop's invariant: all numbers are distinct if those left are.
-- Assumes nothing.
use Prim.Native.Nat.{◌+◌}
use mathlib.Core.Path.{◌≡◌, sym, ap, ◌∙◌}
use lib.Dec.{eqb}
use lib.ListN.{length, drop, get_or}
use Rattle.std.specs.List.{between}
use Rattle.std.proofs.lemmas.Iterator.{YieldsList-from_slice}
use Rattle.std.proofs.lemmas.Iterator.Search.{any_from_yields_List}
use Rattle.std.proofs.lemmas.Slice.{between_to_end}
use Rattle.promises.specs.Sound.{member}
use Rattle.soundness.proofs.Scans.{from_cons}
use Rattle.soundness.proofs.Members.{any-member}
use borrow.Author.Rules.{rules}
use borrow.Author.Tests.{tests}
use native.Mathlib.Omega.{arith}
use Rattle.soundness.proofs.numbers.few_distinct.Goals as goal
use Rattle.soundness.proofs.numbers.few_distinct.Goals.{After-any}

-- a number held against the later ones
told : (c : After-any) → c.any.result ≡ member (get_or c.args.numbers.now c.loop-i.i 0) (drop (c.loop-i.i + 1) c.args.numbers.now)
told c =
    let numbers = c.args.numbers.now in
    let i = c.loop-i.i in
    let number = get_or numbers i 0 in
    any_from_yields_List (λ later. eqb number later) _ _ _ c.any.ensures.ran (YieldsList-from_slice (between (i + 1) (length numbers) numbers) cc) (λ x b q k. search (rules, tests))
    ∙ any-member number _ ∙ ap (member number) (between_to_end numbers (i + 1) (length numbers) (omega arith))

pub returns-then-any : goal.returns-then-any
returns-then-any c =
    let at = c.loop-i in
    let numbers = c.args.numbers.now in
    simp (from_cons numbers at.i 0 (omega arith), sym (told (goal.at.returns-then-any c).After-any) ∙ c.if-any.true) at at.invariant

pub loop-i-preserved : goal.loop-i-preserved
loop-i-preserved c =
    let at = c.loop-i in
    let numbers = c.args.numbers.now in
    simp (from_cons numbers at.i 0 (omega arith), sym (told (goal.at.loop-i-preserved c).After-any) ∙ c.if-any.false) at at.invariant
