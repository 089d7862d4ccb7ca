-- What a call hands back of its test: the refusal as it is, or what goes with an accepted one.
-- Assumes nothing.
use mathlib.Core.Path.{◌≡◌, sym, ap, ◌∙◌, subst}
use Rattle.std.specs.Prelude.{Result, Ok, Err, IsErrAnd, IfOk}
use Rattle.promises.specs.declared.Refusal.{Refusal}
use Rattle.promises.specs.Answers.{refusal_in}
use Rattle.promises.proofs.Replies.{refused-with, numbered}

module _ {X Y : Type 0} (tested : Result X Refusal) (r : Result Y Refusal) (refusal : Refusal) (was : tested ≡ Err refusal) (is : IsErrAnd r (λ e. e ≡ refusal)) where
  pub same-number : refusal_in r ≡ refusal_in tested
  same-number = refused-with r refusal is ∙ sym (ap refusal_in was)

  pub not-zero : refusal_in r ≡ 0 → ⊥
  not-zero z = numbered refusal (sym (refused-with r refusal is) ∙ z)

pub ok-has : {X E : Type 0} (r : Result X E) (x : X) (P : X → Type 0) → IfOk r P → r ≡ Ok x → P x
ok-has (Ok y) x P h e = let same : y ≡ x = cc in subst P same h
ok-has (Err refusal) x P h e = absurd cc
