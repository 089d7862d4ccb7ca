-- A call's whole promise from what its accepted step leaves, and from a refusal that leaves everything as it was.
-- Assumes nothing.
use mathlib.Core.Path.{◌≡◌, sym, ap, ◌∙◌, subst}
use Prim.Native.Nat.{ℕ, ◌≤◌, ◌<◌}
use mathlib.Core.List.{List, [], ◌∷◌}
use native.Mathlib.Omega.{arith}
use mathlib.Core.Bool.{Bool, true, false}
use lib.Dec.{ltb}
use borrow.Author.Tests.{lt-ltb, le-ltb}
use lib.ListN.{length}
use Rattle.area.proofs.Laws.{by-eq}
use Rattle.promises.specs.declared.Outcome.{Outcome}
use Rattle.promises.specs.declared.Refusal.{Refusal}
use Rattle.promises.specs.declared.Stop.{Stop}
use Rattle.promises.specs.declared.Logged.{Logged}
use Rattle.promises.specs.declared.State.{State}
use Rattle.promises.specs.Updates.{Update}
use Rattle.promises.specs.Walk.{Walk, stops, stands}
use Rattle.promises.specs.Contents.{queue_of}
use Rattle.promises.specs.Answers.{done, number_in, answered, log_answered}
use Rattle.promises.specs.Open.{open_finding, Opens, OpenStands}
use Rattle.promises.specs.LogStep.{log_refusal_of, UpdateStep, CommitStep, StoresOf, Stores, LogSteps}
use Rattle.promises.specs.CleanStep.{clean_refusal_of, CleanStep, CleanSteps}
use Rattle.promises.proofs.Replies.{replied-accepted}

module _ (s : State) (log home frames staging : List ℕ) (r : Outcome Logged Refusal) (log' frames' : List ℕ) where
  -- an accepted Log step, of a queue that is known
  module _ (accepted : log_refusal_of s log home frames staging ≡ 0) (g : List Update) (q : List (List Update)) (queue : queue_of s staging ≡ g ∷ q) where
    by-queue : Stores s (g ∷ q) log home frames staging r log' frames' → LogSteps s log home frames staging r log' frames'
    by-queue x = record {
      refused = λ n. absurd (n accepted);
      accepted = λ e. subst (λ (y : List (List Update)). Stores s y log home frames staging r log' frames') (sym queue) x;
    }

    pub log-updates : s.stored < length g → UpdateStep s g log frames staging r log' frames' → LogSteps s log home frames staging r log' frames'
    log-updates h step =
        by-queue (subst (λ (b : Bool). StoresOf b s g q log home frames staging r log' frames') (sym (lt-ltb _ _ h)) step)

    pub log-commits : length g ≤ s.stored → CommitStep s g q log home frames staging r log' frames' → LogSteps s log home frames staging r log' frames'
    log-commits h step =
        by-queue (subst (λ (b : Bool). StoresOf b s g q log home frames staging r log' frames') (sym (le-ltb _ _ h)) step)

    module _ (p : LogSteps s log home frames staging r log' frames') where
      of-queue : Stores s (g ∷ q) log home frames staging r log' frames'
      of-queue = subst (λ (y : List (List Update)). Stores s y log home frames staging r log' frames') queue (p.accepted accepted)

      pub log-update : s.stored < length g → UpdateStep s g log frames staging r log' frames'
      log-update h = subst (λ (b : Bool). StoresOf b s g q log home frames staging r log' frames') (lt-ltb _ _ h) of-queue

      pub log-commit : length g ≤ s.stored → CommitStep s g q log home frames staging r log' frames'
      log-commit h = subst (λ (b : Bool). StoresOf b s g q log home frames staging r log' frames') (le-ltb _ _ h) of-queue

  stored-number : (b : Bool) (g : List Update) (q : List (List Update)) → StoresOf b s g q log home frames staging r log' frames' → number_in (log_answered r.answer) ≡ 0
  stored-number true g q x = ap number_in x.answer_is
  stored-number false g q x = ap number_in x.answer_is

  stores-number : (q : List (List Update)) → Stores s q log home frames staging r log' frames' → number_in (log_answered r.answer) ≡ 0
  stores-number [] x = absurd x
  stores-number (g ∷ q) x = stored-number (ltb s.stored (length g)) g q x

  -- the number of a Log step's answer
  pub log-number : LogSteps s log home frames staging r log' frames' → number_in (log_answered r.answer) ≡ log_refusal_of s log home frames staging
  log-number p = by-eq (log_refusal_of s log home frames staging) 0
      (λ e. stores-number (queue_of s staging) (p.accepted e) ∙ sym e)
      (λ n. ap number_in (p.refused n).0)

pub clean-accepts : (s : State) (log home frames : List ℕ) (r : Outcome (Unit {0}) Refusal) (log' home' : List ℕ) → clean_refusal_of s log home frames ≡ 0 → answered r.answer ≡ done
    → CleanStep s log home frames r log' home' → CleanSteps s log home frames r log' home'
clean-accepts s log home frames r log' home' e a step = record {
  answer_is = a ∙ sym (replied-accepted (clean_refusal_of s log home frames) done e);
  refused = λ n. absurd (n e);
  accepted = λ x. step;
}

stands-not-stops : {X : Type 0} (n j m : ℕ) (v : Walk) → stands m v ≡ stops n j → X
stands-not-stops n j m v e = let z : ◌≡◌ {A = ℕ} 0 1 = cc in absurd (omega arith)

pub open-accepts : (log home frames staging : List ℕ) (r : Outcome ℕ Stop) (frames' : List ℕ) (next : ℕ) (walk : Walk)
    → open_finding log home (length frames) (length staging) ≡ stands next walk → OpenStands next walk log home frames r frames'
    → Opens log home frames staging r frames'
open-accepts log home frames staging r frames' next walk e step = record {
  refused = λ n j x. stands-not-stops n j next walk (sym e ∙ x);
  accepted = λ m v x.
      let h : stands next walk ≡ stands m v = sym e ∙ x in
      let p : next ≡ m = cc in
      let q : walk ≡ v = cc in
      subst (λ (i : ℕ). OpenStands i v log home frames r frames') p (subst (λ (y : Walk). OpenStands next y log home frames r frames') q step);
}
