-- A refused Log step keeps its whole promise: it answers its refusal and leaves everything as it was.
-- Assumes nothing.
use mathlib.Core.Path.{◌≡◌, refl, ap, ◌∙◌}
use mathlib.Core.List.{List}
use Prim.Native.Nat.{ℕ}
use Rattle.std.specs.Prelude.{Err}
use Rattle.promises.specs.declared.State.{State}
use Rattle.promises.specs.declared.Refusal.{Refusal}
use Rattle.promises.specs.Answers.{refuses, number_of}
use Rattle.promises.specs.LogStep.{log_refusal_of, LogSteps}
use Rattle.promises.proofs.Replies.{numbered}

pub log-refused : (s : State) (log home frames staging : List ℕ) (refusal : Refusal) → number_of refusal ≡ log_refusal_of s log home frames staging
    → LogSteps s log home frames staging (record { state = s; answer = Err refusal }) log frames
log-refused s log home frames staging refusal e = record {
  refused = λ n. (ap refuses e, refl, refl, refl);
  accepted = λ z. absurd (numbered refusal (e ∙ z));
}
