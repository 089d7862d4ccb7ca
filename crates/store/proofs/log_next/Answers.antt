-- `log_next` meets its contract, Log step's promise: refused, the update that is next, or the commit.
-- Assumes nothing.
use mathlib.Core.Path.{◌≡◌, refl, sym, subst}
use lib.ListN.{length}
use Rattle.std.specs.Prelude.{Result}
use Rattle.promises.specs.declared.Refusal.{Refusal}
use Rattle.promises.specs.declared.Logged.{Logged}
use Rattle.promises.specs.LogStep.{LogSteps}
use Rattle.promises.proofs.Replies.{passed-on}
use Rattle.stepping.proofs.Refused.{log-refused}
use Rattle.logging.proofs.Decision.{ready, ready-alone, held-within, kept_from_lem}
use Rattle.logging.proofs.Stepped.{update-steps, commit-steps}
use Rattle.table.proofs.Scans.{length-mapped}
use native.Mathlib.Omega.{arith}
use borrow.Author.Rules.{rules}
use Rattle.store.proofs.log_next.Goals as goal

pub returns-in_err-sums : goal.returns-in_err-sums
returns-in_err-sums c =
    let a = c.args in
    let refusal = c.in_err-sums.field-0.0 in
    subst (λ (r : Result Logged Refusal). LogSteps a.state.now a.log.now a.home.now a.frames.now a.staging.now (record { state = a.state.now; answer = r }) a.log.now a.frames.now)
    (sym (passed-on _ refusal c.from_residual.ensures.1)) (log-refused a.state.now a.log.now a.home.now a.frames.now a.staging.now refusal c.in_err-sums.ensures.refusal)

pub overflow_sub-keep_from : goal.overflow_sub-keep_from
overflow_sub-keep_from c = let h = held-within c.args.state.now _ (c.in_ok-sums.ensures.sums c.checked_as-verdict.ensures) in omega arith

pub store_update-requires : goal.store_update-requires
store_update-requires c =
    (omega (arith, c.group_size-size.ensures, c.if-state-size.true), ready-alone c.args.state.now _ _ _ _ (ready c.args.state.now (length c.args.log.now) (length c.args.home.now) (length c.args.frames.now) (length c.args.staging.now) (sym c.in_ok-sums.ensures.refusal)))

pub overflow_add-state : goal.overflow_add-state
overflow_add-state c = let n = (ready c.args.state.now (length c.args.log.now) (length c.args.home.now) (length c.args.frames.now) (length c.args.staging.now) (sym c.in_ok-sums.ensures.refusal)).next in omega arith

pub returns-then-state-size : goal.returns-then-state-size
returns-then-state-size c =
    let a = c.args in
    update-steps a.state.now a.log.now a.home.now a.frames.now a.staging.now (sym c.in_ok-sums.ensures.refusal) _ (kept_from_lem a.state.now _ (c.in_ok-sums.ensures.sums c.checked_as-verdict.ensures)) _
    (omega (arith, c.group_size-size.ensures, c.if-state-size.true)) c.store_update.ensures

pub store_commit-dirty-requires : goal.store_commit-dirty-requires
store_commit-dirty-requires c = (ready c.args.state.now (length c.args.log.now) (length c.args.home.now) (length c.args.frames.now) (length c.args.staging.now) (sym c.in_ok-sums.ensures.refusal))

pub shifted-staged-requires : goal.shifted-staged-requires
shifted-staged-requires c = let h = (ready c.args.state.now (length c.args.log.now) (length c.args.home.now) (length c.args.frames.now) (length c.args.staging.now) (sym c.in_ok-sums.ensures.refusal)).size in omega (arith, c.group_size-size.ensures)

pub cleaning_left-cleaning-requires : goal.cleaning_left-cleaning-requires
cleaning_left-cleaning-requires c = let h = (ready c.args.state.now (length c.args.log.now) (length c.args.home.now) (length c.args.frames.now) (length c.args.staging.now) (sym c.in_ok-sums.ensures.refusal)).size in omega (arith, c.group_size-size.ensures)

pub overflow_add-state-2 : goal.overflow_add-state-2
overflow_add-state-2 c = let n = (ready c.args.state.now (length c.args.log.now) (length c.args.home.now) (length c.args.frames.now) (length c.args.staging.now) (sym c.in_ok-sums.ensures.refusal)).next in omega arith

pub overflow_sub-state : goal.overflow_sub-state
overflow_sub-state c = let q = (ready c.args.state.now (length c.args.log.now) (length c.args.home.now) (length c.args.frames.now) (length c.args.staging.now) (sym c.in_ok-sums.ensures.refusal)).queued in omega arith

pub overflow_add-state-3 : goal.overflow_add-state-3
overflow_add-state-3 c = let r = (ready c.args.state.now (length c.args.log.now) (length c.args.home.now) (length c.args.frames.now) (length c.args.staging.now) (sym c.in_ok-sums.ensures.refusal)) in let h = r.ticket in let n = r.next in omega arith

pub returns : goal.returns
returns c =
    let a = c.args in
    let s = a.state.now in
    let g = c.group_size-size.ensures in
    let long : length s.dirty ≡ 32 = search (rules, length-mapped) in
    commit-steps s a.log.now a.home.now a.frames.now a.staging.now (sym c.in_ok-sums.ensures.refusal) _ (kept_from_lem s _ (c.in_ok-sums.ensures.sums c.checked_as-verdict.ensures)) _ _ _ _ _ _ _ _ long g
    c.shifted-staged.ensures c.shifted-groups.ensures c.cleaning_left-cleaning.ensures
    (omega (arith, g, c.if-state-size.false)) refl c.store_commit-dirty.ensures
