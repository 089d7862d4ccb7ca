-- `stage` meets its contract.
-- Assumes nothing.
use mathlib.Core.Path.{◌≡◌, refl, sym, ap, ◌∙◌}
use mathlib.Core.Logic.{inl, inr}
use Prim.Native.Nat.{ℕ, ◌+◌}
use lib.ListN.{length, take}
use Rattle.std.specs.Prelude.{Ok}
use Rattle.promises.specs.Contents.{total, groups_of}
use Rattle.promises.specs.Sound.{member, areas_of}
use Rattle.soundness.proofs.Scans.{length-mapped}
use Rattle.queueing.specs.Queueing.{update_of}
use Rattle.queueing.proofs.Refusals.{describable, describe-by}
use Rattle.queueing.proofs.Places.{describe-done}
use Rattle.store.proofs.Handed.{same-number, not-zero}
use borrow.Author.Rules.{rules}
use native.Mathlib.Omega.{arith}
use Rattle.store.proofs.stage.Goals as goal

pub returns-in_err-sums : goal.returns-in_err-sums
returns-in_err-sums c =
    let a = c.args in
    let test = c.describe_refusal in
    describe-by _ a.state.now (update_of a.page a.offset a.bytes.now) a.staging.now _ _ (same-number test.result _ _ c.in_err-sums.was c.from_residual.ensures.1 ∙ test.ensures.refusal)
    (inr (not-zero test.result _ _ c.in_err-sums.was c.from_residual.ensures.1, refl, refl))

pub overflow_add-count : goal.overflow_add-count
overflow_add-count c = let k = (describable c.args.state.now (length c.args.staging.now) c.args.page c.args.offset (length c.args.bytes.now) (search rules) (sym c.in_ok-sums.ensures.refusal)) in omega (arith, (c.in_ok-sums.ensures.sums c.checked_as-verdict.ensures).queued)

pub free_area-area-requires : goal.free_area-area-requires
free_area-area-requires c = let k = (describable c.args.state.now (length c.args.staging.now) c.args.page c.args.offset (length c.args.bytes.now) (search rules) (sym c.in_ok-sums.ensures.refusal)) in omega (arith, (c.in_ok-sums.ensures.sums c.checked_as-verdict.ensures).queued)

pub copy_part-requires : goal.copy_part-requires
copy_part-requires c = let k = (describable c.args.state.now (length c.args.staging.now) c.args.page c.args.offset (length c.args.bytes.now) (search rules) (sym c.in_ok-sums.ensures.refusal)) in omega (arith, c.from-start.ensures, c.free_area-area.ensures.0)

pub overflow_cast-state : goal.overflow_cast-state
overflow_cast-state c = let k = (describable c.args.state.now (length c.args.staging.now) c.args.page c.args.offset (length c.args.bytes.now) (search rules) (sym c.in_ok-sums.ensures.refusal)) in omega arith

pub overflow_cast-state-2 : goal.overflow_cast-state-2
overflow_cast-state-2 c = let k = (describable c.args.state.now (length c.args.staging.now) c.args.page c.args.offset (length c.args.bytes.now) (search rules) (sym c.in_ok-sums.ensures.refusal)) in omega arith

pub overflow_cast-state-3 : goal.overflow_cast-state-3
overflow_cast-state-3 c = let k = (describable c.args.state.now (length c.args.staging.now) c.args.page c.args.offset (length c.args.bytes.now) (search rules) (sym c.in_ok-sums.ensures.refusal)) in omega arith

pub offset_bounds-state-count : goal.offset_bounds-state-count
offset_bounds-state-count c = let k = (describable c.args.state.now (length c.args.staging.now) c.args.page c.args.offset (length c.args.bytes.now) (search rules) (sym c.in_ok-sums.ensures.refusal)) in omega (arith, (c.in_ok-sums.ensures.sums c.checked_as-verdict.ensures).queued)

pub bounds-state-count : goal.bounds-state-count
bounds-state-count c = let k = (describable c.args.state.now (length c.args.staging.now) c.args.page c.args.offset (length c.args.bytes.now) (search rules) (sym c.in_ok-sums.ensures.refusal)) in omega (arith, (c.in_ok-sums.ensures.sums c.checked_as-verdict.ensures).queued)

pub overflow_add-state : goal.overflow_add-state
overflow_add-state c = let k = (describable c.args.state.now (length c.args.staging.now) c.args.page c.args.offset (length c.args.bytes.now) (search rules) (sym c.in_ok-sums.ensures.refusal)) in omega arith

pub returns : goal.returns
returns c =
    let a = c.args in
    let s = a.state.now in
    let counted : c.in_ok-sums.sums.queued + s.described ≡ total (groups_of s) + s.described = ap (λ (n : ℕ). n + s.described) (c.in_ok-sums.ensures.sums c.checked_as-verdict.ensures).queued in
    let unheld = ap (λ (n : ℕ). member c.free_area-area.result (areas_of (take n s.staged))) (sym counted) ∙ c.free_area-area.ensures.1 in
    let long : length s.staged ≡ 32 = search (rules, length-mapped) in
    describe-by (Ok tt) s (update_of a.page a.offset a.bytes.now) a.staging.now _ _ c.in_ok-sums.ensures.refusal
    (inl (
      refl,
      describe-done s _ _ a.page a.offset c.free_area-area.result c.from-start.result _ a.bytes.now a.staging.now _ long (sym c.in_ok-sums.ensures.refusal)
          c.free_area-area.ensures.0 unheld counted c.from-start.ensures refl c.copy_part.ensures,
    ))
