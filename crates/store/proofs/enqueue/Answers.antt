-- `enqueue` meets its contract: the group stands at the queue's end, and nothing is open.
-- Assumes nothing.
use mathlib.Core.Path.{◌≡◌, sym, ap, ◌∙◌, subst}
use lib.ListN.{length}
use Rattle.std.specs.Prelude.{Result}
use Prim.Native.Nat.{ℕ}
use Rattle.promises.specs.declared.Refusal.{Refusal}
use Rattle.promises.specs.Answers.{refusal_in}
use Rattle.promises.specs.End.{Ends}
use Rattle.promises.proofs.Replies.{passed-on}
use Rattle.promises.proofs.Changes.{end-met}
use Rattle.queueing.proofs.Refusals.{Closable, closable, end_refused}
use borrow.Author.Rules.{rules}
use native.Mathlib.Omega.{arith}
use Rattle.store.proofs.enqueue.Goals as goal

pub returns-in_err-end_refusal : goal.returns-in_err-end_refusal
returns-in_err-end_refusal c =
    let s = c.args.state.now in
    let refusal = c.in_err-end_refusal.field-0.0 in
    subst (λ (r : Result ℕ Refusal). Ends s (record { state = s; answer = r })) (sym (passed-on _ refusal c.from_residual.ensures.1))
    (end_refused refusal s (sym (ap refusal_in c.in_err-end_refusal.was) ∙ c.end_refusal.ensures.refusal))

pub overflow_add-ticket : goal.overflow_add-ticket
overflow_add-ticket c =
    let long : length c.args.state.now.groups ≡ 32 = search rules in
    let k : Closable c.args.state.now = closable c.args.state.now long (sym c.end_refusal.ensures.refusal ∙ ap refusal_in c.in_ok-end_refusal.was) in
    omega (arith, k)

pub overflow_add-ticket-2 : goal.overflow_add-ticket-2
overflow_add-ticket-2 c =
    let long : length c.args.state.now.groups ≡ 32 = search rules in
    let k : Closable c.args.state.now = closable c.args.state.now long (sym c.end_refusal.ensures.refusal ∙ ap refusal_in c.in_ok-end_refusal.was) in
    omega (arith, k)

pub overflow_cast-state : goal.overflow_cast-state
overflow_cast-state c =
    let long : length c.args.state.now.groups ≡ 32 = search rules in
    let k : Closable c.args.state.now = closable c.args.state.now long (sym c.end_refusal.ensures.refusal ∙ ap refusal_in c.in_ok-end_refusal.was) in
    omega (arith, k)

pub bounds-state-state : goal.bounds-state-state
bounds-state-state c =
    let long : length c.args.state.now.groups ≡ 32 = search rules in
    let k : Closable c.args.state.now = closable c.args.state.now long (sym c.end_refusal.ensures.refusal ∙ ap refusal_in c.in_ok-end_refusal.was) in
    omega (arith, k)

pub overflow_add-state : goal.overflow_add-state
overflow_add-state c =
    let long : length c.args.state.now.groups ≡ 32 = search rules in
    let k : Closable c.args.state.now = closable c.args.state.now long (sym c.end_refusal.ensures.refusal ∙ ap refusal_in c.in_ok-end_refusal.was) in
    omega (arith, k)

pub returns : goal.returns
returns c =
    let long : length c.args.state.now.groups ≡ 32 = search rules in
    end-met c.args.state.now long (sym c.end_refusal.ensures.refusal ∙ ap refusal_in c.in_ok-end_refusal.was)
