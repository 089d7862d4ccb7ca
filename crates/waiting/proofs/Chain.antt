-- Calls of one kind until one is refused, made by a loop: what it knows at each turn.
-- Assumes nothing.
use mathlib.Core.Path.{◌≡◌, refl, sym, ap, ◌∙◌, subst}
use mathlib.Core.Logic.{◌⊎◌, inr, ⊎_elim}
use mathlib.Core.Bool.{true}
use Prim.Native.Nat.{ℕ, suc, ◌+◌, ◌≤◌, ◌<◌}
use mathlib.Core.List.{List}
use native.Mathlib.Omega.{arith}
use Rattle.promises.specs.declared.State.{State}
use Rattle.promises.specs.declared.Outcome.{Outcome}
use Rattle.promises.specs.declared.Refusal.{Refusal}
use Rattle.promises.specs.declared.Logged.{Logged}
use Rattle.std.specs.Prelude.{Result, Ok, Err}
use Rattle.promises.specs.declared.Logged.TheVariants.{Stored, Settled}
use Rattle.promises.specs.Answers.{number_of, number_in, Reply, refuses, accepts, answered, log_answered}
use Rattle.promises.specs.Sums.{waiting_blocks}
use Rattle.promises.specs.LogStep.{LogSteps}
use Rattle.promises.specs.CleanStep.{CleanSteps}
use Rattle.promises.specs.Events.{World, Call, log_step, clean_step, Step, Logging, Cleaning}
use Rattle.promises.specs.Claim.{promised}
use Rattle.promises.proofs.Soundness.{Sound, sound-of}
use Rattle.promises.proofs.Replies.{number_by}
use Rattle.promises.proofs.Promised.{log-number}
use Rattle.promises.proofs.LogTurns.{log-turn, log-passed}
use Rattle.promises.proofs.CleanTurns.{stores_left, clean-turn, clean-passed}
use Rattle.waiting.specs.Waiting.{world_of, Until, refused, accepted}

-- ---- a call that is accepted: what is left is one less
pub record Turn (left : State → ℕ) (w : World) (a : Reply) (w' : World) : Type 0 where
  pub yes : accepts a ≡ true
  pub less : left w'.state + 1 ≡ left w.state
  pub few : left w.state ≤ 1024

-- of an accepted Log step
pub log-turned : (w : World) (a : Reply) (w' : World) (st : Logging w a w') → number_in (log_answered st.result.answer) ≡ 0 → Turn waiting_blocks w a w'
log-turned w a w' st e =
    let s = w.state in
    let passed = log-passed w (sym (log-number s w.log w.home w.frames w.staging st.result st.log' st.frames' st.promise) ∙ e) in
    let f : Sound s = sound-of s passed.is_sound in
    let turn = log-turn w a w' st passed in
    record { yes = turn.accepted; less = turn.less; few = omega (arith, f.slot_sum, f.slots) }

-- of an accepted Clean step
pub clean-turned : (w : World) (a : Reply) (w' : World) (st : Cleaning w a w') → number_in (answered st.result.answer) ≡ 0 → Turn stores_left w a w'
clean-turned w a w' st e =
    let s = w.state in
    let passed = clean-passed w (sym (number_by _ _ _ st.promise.answer_is refl) ∙ e) in
    let f : Sound s = sound-of s passed.is_sound in
    let turn = clean-turn w a w' st passed in
    record { yes = turn.accepted; less = turn.less; few = omega (arith, f.frame_sum, f.frames) }

-- ---- after so many accepted calls
pub record Turns (call : Call) (left : State → ℕ) (calls : ℕ) (w₀ w : World) : Type 0 where
  -- what the calls to come make, all of them make
  pub on : (n k : ℕ) (w' : World) → Until promised call n w k w' → Until promised call (calls + n) w₀ k w'
  pub few : (calls ≡ 0) ⊎ (calls + left w.state ≤ 1024)

pub few-calls : (call : Call) (left : State → ℕ) (calls : ℕ) (w₀ w : World) → Turns call left calls w₀ w → calls ≤ 1024
few-calls call left calls w₀ w g = ⊎_elim (λ (z : calls ≡ 0). omega arith) (λ (h : calls + left w.state ≤ 1024). omega arith) g.few

-- one call more is accepted
pub turns_next : (call : Call) (left : State → ℕ) (calls : ℕ) (w₀ w w' : World) (a : Reply) → Turns call left calls w₀ w
    → Step call w a w' → Turn left w a w' → Turns call left (calls + 1) w₀ w'
turns_next call left calls w₀ w w' a g st t = record {
  on = λ n k w'' c.
      let m : calls + suc n ≡ calls + 1 + n = omega arith in
      subst (λ (i : ℕ). Until promised call i w₀ k w'') m (g.on (suc n) k w'' (accepted a st t.yes c));
  few = inr (⊎_elim (λ (x : calls ≡ 0). omega (arith, t.less, t.few)) (λ (h : calls + left w.state ≤ 1024). omega (arith, t.less)) g.few);
}

-- the call that is refused ends them
turns-over : (call : Call) (left : State → ℕ) (calls k : ℕ) (w₀ w w' : World) → Turns call left calls w₀ w → Step call w (refuses k) w' → Until promised call calls w₀ k w'
turns-over call left calls k w₀ w w' g st =
    let m : calls + 0 ≡ calls = omega arith in
    subst (λ (i : ℕ). Until promised call i w₀ k w') m (g.on 0 k w' (refused st))

log-accepted : (a : Result Logged Refusal) (x : Logged) → a ≡ Ok x → number_in (log_answered a) ≡ 0
log-accepted (Ok Stored) x e = refl
log-accepted (Ok (Settled ticket)) x e = refl
log-accepted (Err refusal) x e = cc

-- ---- a turn of each loop: the call's promise, and what is left
module _ (s : State) (log home frames staging : List ℕ) (r : Outcome Logged Refusal) (log' frames' : List ℕ)
    (promise : LogSteps s log home frames staging r log' frames') where
  abbrev logged : Logging (world_of s log home frames staging) (log_answered r.answer) (world_of r.state log' home frames' staging)
  logged = record { result = r; log' = log'; frames' = frames'; promise = promise; reply_is = refl; after = refl }

  module _ (x : Logged) (ok : r.answer ≡ Ok x) where
    logged-turn : Turn waiting_blocks (world_of s log home frames staging) (log_answered r.answer) (world_of r.state log' home frames' staging)
    logged-turn = log-turned (world_of s log home frames staging) (log_answered r.answer) (world_of r.state log' home frames' staging) logged (log-accepted r.answer x ok)

    pub log-next : (s₀ : State) (log₀ frames₀ : List ℕ) (calls : ℕ) → Turns log_step waiting_blocks calls (world_of s₀ log₀ home frames₀ staging) (world_of s log home frames staging)
        → Turns log_step waiting_blocks (calls + 1) (world_of s₀ log₀ home frames₀ staging) (world_of r.state log' home frames' staging)
    log-next s₀ log₀ frames₀ calls g = turns_next log_step waiting_blocks calls (world_of s₀ log₀ home frames₀ staging) (world_of s log home frames staging) (world_of r.state log' home frames' staging)
        (log_answered r.answer) g logged logged-turn

    pub log-less : waiting_blocks r.state < waiting_blocks s
    log-less = omega (arith, logged-turn.less)

  pub log-over : (refusal : Refusal) → r.answer ≡ Err refusal → (s₀ : State) (log₀ frames₀ : List ℕ) (calls : ℕ)
      → Turns log_step waiting_blocks calls (world_of s₀ log₀ home frames₀ staging) (world_of s log home frames staging)
      → Until promised log_step calls (world_of s₀ log₀ home frames₀ staging) (number_of refusal) (world_of r.state log' home frames' staging)
  log-over refusal err s₀ log₀ frames₀ calls g = turns-over log_step waiting_blocks calls (number_of refusal) _ (world_of s log home frames staging) _ g
      (subst (λ (a : Reply). Logging (world_of s log home frames staging) a (world_of r.state log' home frames' staging)) (ap log_answered err) logged)

module _ (s : State) (log home frames staging : List ℕ) (r : Outcome (Unit {0}) Refusal) (log' home' : List ℕ)
    (promise : CleanSteps s log home frames r log' home') where
  abbrev cleaned : Cleaning (world_of s log home frames staging) (answered r.answer) (world_of r.state log' home' frames staging)
  cleaned = record { result = r; log' = log'; home' = home'; promise = promise; reply_is = refl; after = refl }

  module _ (x : Unit {0}) (ok : r.answer ≡ Ok x) where
    cleaned-turn : Turn stores_left (world_of s log home frames staging) (answered r.answer) (world_of r.state log' home' frames staging)
    cleaned-turn = clean-turned (world_of s log home frames staging) (answered r.answer) (world_of r.state log' home' frames staging) cleaned (ap (λ (a : Result (Unit {0}) Refusal). number_in (answered a)) ok)

    pub clean-next : (s₀ : State) (log₀ home₀ : List ℕ) (calls : ℕ) → Turns clean_step stores_left calls (world_of s₀ log₀ home₀ frames staging) (world_of s log home frames staging)
        → Turns clean_step stores_left (calls + 1) (world_of s₀ log₀ home₀ frames staging) (world_of r.state log' home' frames staging)
    clean-next s₀ log₀ home₀ calls g = turns_next clean_step stores_left calls (world_of s₀ log₀ home₀ frames staging) (world_of s log home frames staging) (world_of r.state log' home' frames staging)
        (answered r.answer) g cleaned cleaned-turn

    pub clean-less : stores_left r.state < stores_left s
    clean-less = omega (arith, cleaned-turn.less)

  pub clean-over : (refusal : Refusal) → r.answer ≡ Err refusal → (s₀ : State) (log₀ home₀ : List ℕ) (calls : ℕ)
      → Turns clean_step stores_left calls (world_of s₀ log₀ home₀ frames staging) (world_of s log home frames staging)
      → Until promised clean_step calls (world_of s₀ log₀ home₀ frames staging) (number_of refusal) (world_of r.state log' home' frames staging)
  clean-over refusal err s₀ log₀ home₀ calls g = turns-over clean_step stores_left calls (number_of refusal) _ (world_of s log home frames staging) _ g
      (subst (λ (a : Reply). Cleaning (world_of s log home frames staging) a (world_of r.state log' home' frames staging)) (ap answered err) cleaned)
