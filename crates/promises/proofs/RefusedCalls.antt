-- A refused call: its reply gives the refusal, and the world is as it was.
-- Assumes nothing.
use mathlib.Core.Path.{◌≡◌, ap, ◌∙◌}
use Prim.Native.Nat.{ℕ}
use mathlib.Core.List.{List}
use lib.ListN.{length}
use Rattle.promises.specs.declared.State.{State}
use Rattle.promises.specs.Updates.{Update}
use Rattle.promises.specs.Begin.{begin_refusal}
use Rattle.promises.specs.Describe.{describe_refusal}
use Rattle.promises.specs.End.{end_refusal}
use Rattle.promises.specs.LogStep.{log_refusal_of}
use Rattle.promises.specs.CleanStep.{clean_refusal_of}
use Rattle.promises.specs.Events.{World, with_state, Beginning, Describing, Ending, Logging, Cleaning}
use Rattle.promises.specs.Answers.{Reply, refuses}
use Rattle.promises.proofs.Replies.{refused-by}

abbrev pub Refuses : ℕ → World → Reply → World → Type 0
Refuses number w a w' = (a ≡ refuses number) × (w' ≡ w)

module _ (w w' : World) (a : Reply) where
  pub begin-refused : (u : ℕ) → Beginning w u a w' → (begin_refusal w.state u ≡ 0 → ⊥) → Refuses (begin_refusal w.state u) w a w'
  begin-refused u st m = (
    st.reply_is ∙ refused-by _ _ _ st.promise.answer_is m,
    st.after ∙ ap (with_state w) (st.promise.refused m),
  )

  pub describe-refused : (u : Update) → Describing w u a w' → (describe_refusal w.state (length w.staging) u.page u.offset (length u.bytes) ≡ 0 → ⊥)
      → Refuses (describe_refusal w.state (length w.staging) u.page u.offset (length u.bytes)) w a w'
  describe-refused u st m =
      let k = st.promise.refused m in (
        st.reply_is ∙ refused-by _ _ _ st.promise.answer_is m,
        st.after ∙ ap (λ (x : State). record { state = x; log = w.log; home = w.home; frames = w.frames; staging = st.staging' }) k.0
            ∙ ap (λ (x : List ℕ). record { state = w.state; log = w.log; home = w.home; frames = w.frames; staging = x }) k.1,
      )

  pub end_refused : Ending w a w' → (end_refusal w.state ≡ 0 → ⊥) → Refuses (end_refusal w.state) w a w'
  end_refused st m = (
    st.reply_is ∙ refused-by _ _ _ st.promise.answer_is m,
    st.after ∙ ap (with_state w) (st.promise.refused m),
  )

  pub log-refused : Logging w a w' → (log_refusal_of w.state w.log w.home w.frames w.staging ≡ 0 → ⊥)
      → Refuses (log_refusal_of w.state w.log w.home w.frames w.staging) w a w'
  log-refused st m =
      let k = st.promise.refused m in (
        st.reply_is ∙ k.0,
        st.after ∙ ap (λ (x : State). record { state = x; log = st.log'; home = w.home; frames = st.frames'; staging = w.staging }) k.1
            ∙ ap (λ (x : List ℕ). record { state = w.state; log = x; home = w.home; frames = st.frames'; staging = w.staging }) k.2
            ∙ ap (λ (x : List ℕ). record { state = w.state; log = w.log; home = w.home; frames = x; staging = w.staging }) k.3,
      )

  pub clean-refused : Cleaning w a w' → (clean_refusal_of w.state w.log w.home w.frames ≡ 0 → ⊥)
      → Refuses (clean_refusal_of w.state w.log w.home w.frames) w a w'
  clean-refused st m =
      let k = st.promise.refused m in (
        st.reply_is ∙ refused-by _ _ _ st.promise.answer_is m,
        st.after ∙ ap (λ (x : State). record { state = x; log = st.log'; home = st.home'; frames = w.frames; staging = w.staging }) k.0
            ∙ ap (λ (x : List ℕ). record { state = w.state; log = x; home = st.home'; frames = w.frames; staging = w.staging }) k.1
            ∙ ap (λ (x : List ℕ). record { state = w.state; log = w.log; home = x; frames = w.frames; staging = w.staging }) k.2,
      )
