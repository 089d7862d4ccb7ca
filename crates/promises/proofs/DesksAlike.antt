-- TWO DESKS ALIKE: proved of every two stores that keep the promises, by going along both runs.
-- Assumes nothing.
use mathlib.Core.Path.{◌≡◌, refl, sym, ap, ◌∙◌, subst}
use mathlib.Core.Logic.{◌⊎◌, inl, inr, ⊎_elim}
use mathlib.Core.Bool.{Bool, true, false, cond, ◌&&◌}
use Prim.Native.Nat.{ℕ, ◌+◌, ◌*◌, ◌/◌}
use mathlib.Core.List.{List, [], ◌∷◌}
use native.Mathlib.Omega.{arith}
use lib.ListN.{length, replicate}
use lib.Dec.{eqb, leb, ltb}
use borrow.Author.Tests.{eqb-false, eq-eqb, le-leb}
use Rattle.block.specs.Sizes.{sequence_end}
use Rattle.block.specs.Legal.{legal_place}
use Rattle.std.specs.Prelude.{Result}
use Rattle.promises.specs.declared.Refusal.{Refusal}
use Rattle.promises.specs.declared.State.{State}
use Rattle.promises.specs.declared.Cleaning.{Cleaning}
use Rattle.promises.specs.declared.Cleaning.TheVariants.{Idle, First, Second, Third}
use Rattle.promises.specs.Areas.{staging_length, home_length, frames_length}
use Rattle.promises.specs.States.{all_zero_state}
use Rattle.promises.specs.Sums.{waiting_blocks, sequences_taken, dirty_count, last_ended}
use Rattle.promises.specs.Sound.{sound, readable}
use Rattle.promises.specs.Walk.{Finding, stops, stands}
use Rattle.promises.specs.Format.{format_refusal, Formats}
use Rattle.promises.specs.Open.{open_finding}
use Rattle.promises.specs.Begin.{begin_in_range, begin_has_room, begin_refusal}
use Rattle.promises.specs.Describe.{describe_refusal}
use Rattle.promises.specs.End.{end_refusal}
use Rattle.promises.specs.LogStep.{areas_fit, log_refusal}
use Rattle.promises.specs.CleanStep.{third_refusal, clean_refusal}
use Rattle.promises.specs.Read.{read_refusal}
use Rattle.promises.specs.Settled.{settled_refusal}
use Rattle.promises.specs.Book.{Book, blank}
use Rattle.promises.specs.Events.{Sizes, World, with_state, Call, opening, begin, describe, ending, log_step, clean_step, reading, settling, Step, Lent, left_by, fallen}
use Rattle.promises.specs.Answers.{Reply, refuses, settles, accepts, number_in}
use Rattle.promises.specs.Claim.{Steps, entered, cut_at, both, Run, formatted, called, unfit, cut, cut_unfit, found_by}
use Rattle.promises.specs.Alike.{Alike, asked, Event, calls, calls_unfit, cuts, cuts_unfit, events_of, replies_of, SameDesk, CallsAlike, DesksAlike}
use Rattle.promises.proofs.Ranges.{Ranged, ranged}
use Rattle.promises.proofs.Replies.{no-accept, same-refusal, number_by, read-refused-number}
use Rattle.promises.proofs.Promised.{log-number}
use Rattle.promises.proofs.Demand3.{Unfit, unfit-state}
use Rattle.promises.proofs.Refines.{Refines}
use Rattle.promises.proofs.OpenFindings.{open-refusals}
use Rattle.promises.proofs.Soundness.{readable-desk}
use Rattle.promises.proofs.AlikeSteps.{
  fall-alike,
  stay,
  opening-alike,
  beginning-alike,
  describing-alike,
  ending-alike,
  logging-alike,
  cleaning-alike,
  reading-alike,
  settling-alike,
}

-- ---- two calls with the same arguments
record IsOpening (c : Call) : Type 0 where
  frames : List ℕ
  staging : List ℕ
  is : c ≡ opening frames staging

opening-or-own : (c : Call) → IsOpening c ⊎ (asked c ≡ c)
opening-or-own (opening f s) = inl (record { frames = f; staging = s; is = refl })
opening-or-own (begin u) = inr refl
opening-or-own (describe u) = inr refl
opening-or-own ending = inr refl
opening-or-own log_step = inr refl
opening-or-own clean_step = inr refl
opening-or-own (reading p) = inr refl
opening-or-own (settling t) = inr refl

-- both are openings, or they are the same
by_call_lem : {X : Type 0} (c c' : Call) → asked c ≡ asked c' → (IsOpening c → IsOpening c' → X) → (c ≡ c' → X) → X
by_call_lem c c' e k l = ⊎_elim
    (λ (o : IsOpening c). ⊎_elim (λ (o' : IsOpening c'). k o o')
    (λ (q : asked c' ≡ c'). k o (record { frames = []; staging = []; is = sym q ∙ sym e ∙ ap asked o.is })) (opening-or-own c'))
    (λ (q : asked c ≡ c). ⊎_elim (λ (o' : IsOpening c'). k (record { frames = []; staging = []; is = sym q ∙ e ∙ ap asked o'.is }) o')
    (λ (q' : asked c' ≡ c'). l (sym q ∙ e ∙ q')) (opening-or-own c'))
    (opening-or-own c)

-- the book does not ask what Open was lent
entered-asked : (c : Call) (ok : Bool) (b : Book) → entered c ok b ≡ entered (asked c) ok b
entered-asked (opening f s) ok b = refl
entered-asked (begin u) ok b = refl
entered-asked (describe u) ok b = refl
entered-asked ending ok b = refl
entered-asked log_step ok b = refl
entered-asked clean_step ok b = refl
entered-asked (reading p) ok b = refl
entered-asked (settling t) ok b = refl

cut-asked : (c : Call) (stored : Bool) (b : Book) → cut_at c stored b ≡ cut_at (asked c) stored b
cut-asked (opening f s) stored b = refl
cut-asked (begin u) stored b = refl
cut-asked (describe u) stored b = refl
cut-asked ending stored b = refl
cut-asked log_step stored b = refl
cut-asked clean_step stored b = refl
cut-asked (reading p) stored b = refl
cut-asked (settling t) stored b = refl

-- ---- a call
same-call : (z : Sizes) (w v : World) → Alike w v → (c : Call) → Lent z c → (a b : Reply) (w' v' : World) → Step c w a w' → Step c v b v' → (a ≡ b) × Alike w' v'
same-call z w v al (opening f s) l a b w' v' st st' = opening-alike w v al f s f s refl refl a b w' v' st st'
same-call z w v al (begin u) l a b w' v' st st' = beginning-alike w v al u a b w' v' st st'
same-call z w v al (describe u) l a b w' v' st st' = describing-alike w v al u a b w' v' st st'
same-call z w v al ending l a b w' v' st st' = ending-alike w v al a b w' v' st st'
same-call z w v al log_step l a b w' v' st st' = logging-alike w v al a b w' v' st st'
same-call z w v al clean_step l a b w' v' st st' = cleaning-alike w v al a b w' v' st st'
same-call z w v al (reading p) l a b w' v' st st' = reading-alike w v al p a b w' v' st st'
same-call z w v al (settling t) l a b w' v' st st' = settling-alike w v al t a b w' v' st st'

call-alike : (z : Sizes) (w v : World) → Alike w v → (c c' : Call) → asked c ≡ asked c' → Lent z c → Lent z c' → (a b : Reply) (w' v' : World) → Step c w a w' → Step c' v b v'
    → (a ≡ b) × Alike w' v'
call-alike z w v al c c' e l l' a b w' v' st st' = by_call_lem c c' e
    (λ o o'.
    let m : Lent z (opening o.frames o.staging) = subst (Lent z) o.is l in
    let m' : Lent z (opening o'.frames o'.staging) = subst (Lent z) o'.is l' in
    opening-alike w v al o.frames o.staging o'.frames o'.staging (m.0 ∙ sym m'.0) (m.1 ∙ sym m'.1) a b w' v'
    (subst (λ (x : Call). Step x w a w') o.is st) (subst (λ (x : Call). Step x v b v') o'.is st'))
    (λ p. same-call z w v al c' l' a b w' v' (subst (λ (x : Call). Step x w a w') p st) st')

-- ---- a call that is lent other areas: the reply is 2 where the state is not sound, and else 1
abbrev unfit_reply : Call → Bool → Reply
unfit_reply (opening f s) ok = refuses 1
unfit_reply (begin u) ok = cond ok (refuses 1) (refuses 2)
unfit_reply (describe u) ok = cond ok (refuses 1) (refuses 2)
unfit_reply ending ok = cond ok (refuses 1) (refuses 2)
unfit_reply log_step ok = cond ok (refuses 1) (refuses 2)
unfit_reply clean_step ok = cond ok (refuses 1) (refuses 2)
unfit_reply (reading p) ok = cond ok (refuses 1) (refuses 2)
unfit_reply (settling t) ok = cond ok (refuses 1) (refuses 2)

unfit-reply-asked : (c : Call) (ok : Bool) → unfit_reply c ok ≡ unfit_reply (asked c) ok
unfit-reply-asked (opening f s) ok = refl
unfit-reply-asked (begin u) ok = refl
unfit-reply-asked (describe u) ok = refl
unfit-reply-asked ending ok = refl
unfit-reply-asked log_step ok = refl
unfit-reply-asked clean_step ok = refl
unfit-reply-asked (reading p) ok = refl
unfit-reply-asked (settling t) ok = refl

-- no other test gives 2
choice-not-two : (b : Bool) {x y : ℕ} → (x ≡ 2 → ⊥) → (y ≡ 2 → ⊥) → cond b x y ≡ 2 → ⊥
choice-not-two true h k e = h e
choice-not-two false h k e = k e

third-not-two : (s : State) (c : Cleaning) → third_refusal s c ≡ 2 → ⊥
third-not-two s Idle = eqb-false 0 2 refl
third-not-two s (First p) = eqb-false 0 2 refl
third-not-two s (Second p) = eqb-false 0 2 refl
third-not-two s (Third p) = choice-not-two (eqb s.stored 0) (choice-not-two (eqb (sequences_taken s) sequence_end) (eqb-false 6 2 refl) (eqb-false 0 2 refl)) (eqb-false 11 2 refl)

by-soundness : (ok : Bool) (x n : ℕ) (a : Reply) → (x ≡ 2 → ⊥) → n ≡ cond ok x 2 → ((k : ℕ) → a ≡ refuses k → n ≡ k) → (a ≡ refuses 1) ⊎ (a ≡ refuses 2)
    → a ≡ cond ok (refuses 1) (refuses 2)
by-soundness true x n a h e k r = ⊎_elim (λ (q : a ≡ refuses 1). q) (λ (q : a ≡ refuses 2). absurd (h (sym e ∙ k 2 q))) r
by-soundness false x n a h e k r = ⊎_elim (λ (q : a ≡ refuses 1). absurd (omega (arith, e, k 1 q))) (λ (q : a ≡ refuses 2). q) r

unfit-reply : (c : Call) (w : World) (a : Reply) (w' : World) → w.state.copy ≡ false → Step c w a w' → (a ≡ refuses 1) ⊎ (a ≡ refuses 2) → a ≡ unfit_reply c (sound w.state)
unfolding begin_refusal describe_refusal end_refusal log_refusal clean_refusal read_refusal settled_refusal
unfit-reply (opening f s) w a w' d st r = ⊎_elim (λ (q : a ≡ refuses 1). q) (λ (q : a ≡ refuses 2). go (open_finding w.log w.home (length f) (length s)) refl q) r
  where
    go : (x : Finding) → open_finding w.log w.home (length f) (length s) ≡ x → a ≡ refuses 2 → a ≡ refuses 1
    go (stops n j) e q =
        let h = open-refusals w.log w.home (length f) (length s) n j e in
        let o = st.promise.refused n j e in
        absurd (h.1 (same-refusal (sym o.answer_is ∙ sym st.reply_is ∙ q)))
    go (stands n v) e q =
        let k : refuses 2 ≡ settles v.ticket = sym q ∙ st.reply_is ∙ (st.promise.accepted n v e).answer_is in
        no-accept (ap accepts k)
unfit-reply (begin u) w a w' d st r =
    let s = w.state in
    by-soundness (sound s) _ _ a
    (choice-not-two (begin_in_range s u) (choice-not-two (eqb s.reserved 0) (choice-not-two (leb (s.next + waiting_blocks s + u + 1) sequence_end) (choice-not-two (begin_has_room s u) (eqb-false 0 2 refl) (eqb-false 5 2 refl)) (eqb-false 6 2 refl)) (eqb-false 4 2 refl)) (eqb-false 3 2 refl))
    (number_by _ _ _ st.promise.answer_is refl) (λ k q. ap number_in (sym st.reply_is ∙ q)) r
unfit-reply (describe u) w a w' d st r =
    let s = w.state in
    by-soundness (sound s) _ _ a
    (choice-not-two (eqb (length w.staging) (staging_length s.frames)) (choice-not-two (eqb s.reserved 0) (eqb-false 4 2 refl)
    (choice-not-two (legal_place s.pages u.page u.offset (length u.bytes)) (choice-not-two (ltb s.described s.reserved) (eqb-false 0 2 refl) (eqb-false 5 2 refl)) (eqb-false 3 2 refl))) (eqb-false 1 2 refl))
    (number_by _ _ _ st.promise.answer_is refl) (λ k q. ap number_in (sym st.reply_is ∙ q)) r
unfit-reply ending w a w' d st r =
    let s = w.state in
    by-soundness (sound s) _ _ a (choice-not-two (eqb s.reserved 0) (eqb-false 4 2 refl) (choice-not-two (eqb s.described 0) (eqb-false 10 2 refl) (eqb-false 0 2 refl)))
    (number_by _ _ _ st.promise.answer_is refl) (λ k q. ap number_in (sym st.reply_is ∙ q)) r
unfit-reply log_step w a w' d st r =
    let s = w.state in
    by-soundness (sound s) _ _ a
    (choice-not-two (areas_fit s (length w.log) (length w.home) (length w.frames) && eqb (length w.staging) (staging_length s.frames)) (choice-not-two (eqb s.queued 0) (eqb-false 10 2 refl) (eqb-false 0 2 refl)) (eqb-false 1 2 refl))
    (log-number _ _ _ _ _ _ _ _ st.promise) (λ k q. ap number_in (sym st.reply_is ∙ q)) r
unfit-reply clean_step w a w' d st r =
    let s = w.state in
    by-soundness (sound s) _ _ a
    (choice-not-two (areas_fit s (length w.log) (length w.home) (length w.frames)) (choice-not-two (eqb (dirty_count s) 0) (eqb-false 10 2 refl) (third-not-two s s.cleaning)) (eqb-false 1 2 refl))
    (number_by _ _ _ st.promise.answer_is refl) (λ k q. ap number_in (sym st.reply_is ∙ q)) r
unfit-reply (reading p) w a w' d st r =
    let s = w.state in
    by-soundness (readable s) _ _ a
    (choice-not-two (eqb (length st.home.now) (home_length s.pages) && eqb (length st.frames.now) (frames_length s.frames)) (choice-not-two (ltb p s.pages) (eqb-false 0 2 refl) (eqb-false 3 2 refl)) (eqb-false 1 2 refl))
    st.promise.refusal (λ k q. read-refused-number st.number k st.result.now (sym st.reply_is ∙ q)) r
    ∙ ap (λ (ok : Bool). cond ok (refuses 1) (refuses 2)) (readable-desk s d)
unfit-reply (settling t) w a w' d st r =
    let s = w.state in
    by-soundness (readable s) _ _ a (choice-not-two (leb 1 t && leb t (last_ended s)) (eqb-false 0 2 refl) (eqb-false 3 2 refl))
    (number_by _ _ _ st.promise.answer_is refl) (λ k q. ap number_in (sym st.reply_is ∙ q)) r
    ∙ ap (λ (ok : Bool). cond ok (refuses 1) (refuses 2)) (readable-desk s d)

-- its state is as it was, or all-zero after an Open
same-unfit : (w v : World) → Alike w v → (c : Call) (s t : State) → Unfit c w.state s → Unfit c v.state t → Alike (with_state w s) (with_state v t)
same-unfit w v al c s t = go c
  where
    zeroed : s ≡ all_zero_state → t ≡ all_zero_state → Alike (with_state w s) (with_state v t)
    zeroed e f = stay (fallen w w.frames w.staging) (fallen v v.frames v.staging) (with_state w s) (with_state v t)
        (fall-alike w v w.frames w.staging v.frames v.staging al.log_is al.home_is) (ap (with_state w) e) (ap (with_state v) f)

    kept : s ≡ w.state → t ≡ v.state → Alike (with_state w s) (with_state v t)
    kept e f = stay w v (with_state w s) (with_state v t) al (ap (with_state w) e) (ap (with_state v) f)

    go : (c : Call) → Unfit c w.state s → Unfit c v.state t → Alike (with_state w s) (with_state v t)
    go (opening f x) = zeroed
    go (begin u) = kept
    go (describe u) = kept
    go ending = kept
    go log_step = kept
    go clean_step = kept
    go (reading p) = kept
    go (settling k) = kept

unfit-alike : (w v : World) → Alike w v → (c c' : Call) → asked c ≡ asked c' → (s t : State) → Unfit c w.state s → Unfit c' v.state t → Alike (with_state w s) (with_state v t)
unfit-alike w v al c c' e s t x y = by_call_lem c c' e
    (λ o o'. same-unfit w v al (opening [] []) s t (subst (λ (k : Call). Unfit k w.state s) o.is x) (subst (λ (k : Call). Unfit k v.state t) o'.is y))
    (λ p. same-unfit w v al c' s t (subst (λ (k : Call). Unfit k w.state s) p x) y)

-- ---- one event on both desks
on-formatted : (z : Sizes) → Ranged z → (w v : World) (log log' home frames staging x x' home' frames' staging' : List ℕ) (a b : Result (Unit {0}) Refusal)
    → length log ≡ z.slots * 512 → length x ≡ z.slots * 512 → Formats log a log' → Formats x b x' → home ≡ home'
    → w ≡ record { state = all_zero_state; log = log'; home = home; frames = frames; staging = staging }
    → v ≡ record { state = all_zero_state; log = x'; home = home'; frames = frames'; staging = staging' } → Alike w v
on-formatted z range w v log log' home frames staging x x' home' frames' staging' a b l l' f f' h e e' =
    stay _ _ w v
    (fall-alike (record { state = all_zero_state; log = log'; home = home; frames = frames; staging = staging }) (record { state = all_zero_state; log = x'; home = home'; frames = frames'; staging = staging' })
    frames staging frames' staging' (f.accepted (fits log l) ∙ ap (λ (n : ℕ). replicate n 0) (l ∙ sym l') ∙ sym (f'.accepted (fits x l'))) h) e e'
  where
    fits : (y : List ℕ) → length y ≡ z.slots * 512 → format_refusal (length y) ≡ 0
    fits y k =
        let n : length y / 512 ≡ z.slots = omega arith in
        rw n (simp (eq-eqb (z.slots * 512) (length y) (sym k), le-leb 8 z.slots range.slots.0, le-leb z.slots 1024 range.slots.1))

on-unfit : (w v w' v' lent lent' mine mine' : World) (c c' : Call) (a b : Reply) → Alike w v → asked c ≡ asked c' → lent.state ≡ w.state → mine.state ≡ v.state
    → Step c lent a lent' → Step c' mine b mine' → (a ≡ refuses 1) ⊎ (a ≡ refuses 2) → (b ≡ refuses 1) ⊎ (b ≡ refuses 2)
    → w' ≡ with_state w lent'.state → v' ≡ with_state v mine'.state → (a ≡ b) × Alike w' v'
on-unfit w v w' v' lent lent' mine mine' c c' a b al e same same' st st' r r' is is' = (
  unfit-reply c lent a lent' (ap (λ (s : State). s.copy) same ∙ al.desks.0) st r ∙ unfit-reply-asked c _ ∙ ap (λ (s : State). unfit_reply (asked c) (sound s)) same ∙ ap (unfit_reply (asked c)) al.sound_is
      ∙ ap (λ (k : Call). unfit_reply k (sound v.state)) e
      ∙ sym (unfit-reply c' mine b mine' (ap (λ (s : State). s.copy) same' ∙ al.desks.1) st' r' ∙ unfit-reply-asked c' _ ∙ ap (λ (s : State). unfit_reply (asked c') (sound s)) same'),
  stay (with_state w lent'.state) (with_state v mine'.state) w' v' (unfit-alike w v al c c' e lent'.state mine'.state
      (subst (λ (s : State). Unfit c s lent'.state) same (state c a lent lent' st r)) (subst (λ (s : State). Unfit c' s mine'.state) same' (state c' b mine mine' st' r'))) is is',
)
  where
    state : (c : Call) (a : Reply) (lent lent' : World) → Step c lent a lent' → (a ≡ refuses 1) ⊎ (a ≡ refuses 2) → Unfit c lent.state lent'.state
    state c a lent lent' st r = ⊎_elim (λ (x : a ≡ refuses 1). unfit-state c 1 a lent lent' (omega arith) x st) (λ (x : a ≡ refuses 2). unfit-state c 2 a lent lent' (omega arith) x st) r

on-cut : (w v w' v' w'' v'' : World) (stored : Bool) (frames staging frames' staging' : List ℕ) → Alike w v → Alike w' v'
    → w'' ≡ fallen (left_by stored w w') frames staging → v'' ≡ fallen (left_by stored v v') frames' staging' → Alike w'' v''
on-cut w v w' v' w'' v'' true frames staging frames' staging' al al' e e' =
    stay _ _ w'' v'' (fall-alike w' v' frames staging frames' staging' al'.log_is al'.home_is) e e'
on-cut w v w' v' w'' v'' false frames staging frames' staging' al al' e e' =
    stay _ _ w'' v'' (fall-alike w v frames staging frames' staging' al.log_is al.home_is) e e'

book-entered : (c c' : Call) (ok ok' : Bool) (b b' b₁ b₁' : Book) → asked c ≡ asked c' → ok ≡ ok' → b ≡ b' → b₁ ≡ entered c ok b → b₁' ≡ entered c' ok' b' → b₁ ≡ b₁'
book-entered c c' ok ok' b b' b₁ b₁' e k q h h' =
    h ∙ entered-asked c ok b ∙ ap (λ (x : Call). entered x ok b) e ∙ ap (λ (x : Bool). entered (asked c') x b) k ∙ ap (entered (asked c') ok') q ∙ sym (h' ∙ entered-asked c' ok' b')

book-cut : (c c' : Call) (ok ok' : Bool) (b b' b₁ b₁' : Book) → asked c ≡ asked c' → ok ≡ ok' → b ≡ b' → b₁ ≡ cut_at c ok b → b₁' ≡ cut_at c' ok' b' → b₁ ≡ b₁'
book-cut c c' ok ok' b b' b₁ b₁' e k q h h' =
    h ∙ cut-asked c ok b ∙ ap (λ (x : Call). cut_at x ok b) e ∙ ap (λ (x : Bool). cut_at (asked c') x b) k ∙ ap (cut_at (asked c') ok') q ∙ sym (h' ∙ cut-asked c' ok' b')

-- ---- events
abbrev kind_of : List Event → ℕ
kind_of [] = 0
kind_of (calls c ∷ es) = 1
kind_of (calls_unfit c ∷ es) = 2
kind_of (cuts c stored ∷ es) = 3
kind_of (cuts_unfit c ∷ es) = 4

clash : {X : Type 0} (m n : ℕ) → eqb m n ≡ false → m ≡ n → X
clash m n h e = absurd (eqb-false m n h e)

same-calls : {c c' : Call} {es es' : List Event} → calls c ∷ es ≡ calls c' ∷ es' → (c ≡ c') × (es ≡ es')
same-calls e = (cc, cc)

same-unfits : {c c' : Call} {es es' : List Event} → calls_unfit c ∷ es ≡ calls_unfit c' ∷ es' → (c ≡ c') × (es ≡ es')
same-unfits e = (cc, cc)

same-cuts : {c c' : Call} {b b' : Bool} {es es' : List Event} → cuts c b ∷ es ≡ cuts c' b' ∷ es' → (c ≡ c') × (b ≡ b') × (es ≡ es')
same-cuts e = (cc, cc, cc)

same-cut-unfits : {c c' : Call} {es es' : List Event} → cuts_unfit c ∷ es ≡ cuts_unfit c' ∷ es' → (c ≡ c') × (es ≡ es')
same-cut-unfits e = (cc, cc)

-- ---- EVERY TWO RUNS
module _ (by by' : Steps) (r : Refines by) (r' : Refines by') (z : Sizes) (range : Ranged z) where
  along : (w v : World) (b b' : Book) (run : Run by z w b) (run' : Run by' z v b') → found_by run ≡ found_by run' → events_of run ≡ events_of run' → SameDesk run run'
  unfolding found_by events_of replies_of
  along w v b b' (formatted log₁ log₁' home₁ frames₁ staging₁ a₁ l₁ h₁ f₁ e₁ q₁) (formatted log₂ log₂' home₂ frames₂ staging₂ a₂ l₂ h₂ f₂ e₂ q₂) home events =
      record {
        alike = on-formatted z range w v log₁ log₁' home₁ frames₁ staging₁ log₂ log₂' home₂ frames₂ staging₂ a₁ a₂ l₁ l₂ (r.formats log₁ a₁ log₁' f₁) (r'.formats log₂ a₂ log₂' f₂) home e₁ e₂;
        books = q₁ ∙ ap blank home ∙ sym q₂;
        replies = refl;
      }
  along w v b b' (formatted _ _ _ _ _ _ _ _ _ _ _) (called _ _ _ _ _ _) home events = clash 0 1 refl (ap kind_of events)
  along w v b b' (formatted _ _ _ _ _ _ _ _ _ _ _) (unfit _ _ _ _ _ _ _ _ _ _) home events = clash 0 2 refl (ap kind_of events)
  along w v b b' (formatted _ _ _ _ _ _ _ _ _ _ _) (cut _ _ _ _ _ _ _ _ _ _ _) home events = clash 0 3 refl (ap kind_of events)
  along w v b b' (formatted _ _ _ _ _ _ _ _ _ _ _) (cut_unfit _ _ _ _ _ _ _ _ _ _ _ _) home events = clash 0 4 refl (ap kind_of events)
  along w v b b' (called _ _ _ _ _ _) (formatted _ _ _ _ _ _ _ _ _ _ _) home events = clash 1 0 refl (ap kind_of events)
  along w v b b' (called {world = w₁} {book = b₁} c₁ a₁ run₁ l₁ st₁ q₁) (called {world = w₂} {book = b₂} c₂ a₂ run₂ l₂ st₂ q₂) home events =
      let k = same-calls events in
      let ih = along w₁ w₂ b₁ b₂ run₁ run₂ home k.1 in
      let n = call-alike z w₁ w₂ ih.alike c₁ c₂ k.0 l₁ l₂ a₁ a₂ w v (r.steps c₁ w₁ a₁ w st₁) (r'.steps c₂ w₂ a₂ v st₂) in
      record {
        alike = n.1;
        books = book-entered c₁ c₂ (accepts a₁) (accepts a₂) b₁ b₂ b b' k.0 (ap accepts n.0) ih.books q₁ q₂;
        replies = ap (λ (y : Reply). y ∷ replies_of run₁) n.0 ∙ ap (λ (ys : List Reply). a₂ ∷ ys) ih.replies;
      }
  along w v b b' (called _ _ _ _ _ _) (unfit _ _ _ _ _ _ _ _ _ _) home events = clash 1 2 refl (ap kind_of events)
  along w v b b' (called _ _ _ _ _ _) (cut _ _ _ _ _ _ _ _ _ _ _) home events = clash 1 3 refl (ap kind_of events)
  along w v b b' (called _ _ _ _ _ _) (cut_unfit _ _ _ _ _ _ _ _ _ _ _ _) home events = clash 1 4 refl (ap kind_of events)
  along w v b b' (unfit _ _ _ _ _ _ _ _ _ _) (formatted _ _ _ _ _ _ _ _ _ _ _) home events = clash 2 0 refl (ap kind_of events)
  along w v b b' (unfit _ _ _ _ _ _ _ _ _ _) (called _ _ _ _ _ _) home events = clash 2 1 refl (ap kind_of events)
  along w v b b' (unfit {world = w₁} {book = b₁} c₁ a₁ lent₁ lent₁' run₁ same₁ st₁ x₁ e₁ q₁) (unfit {world = w₂} {book = b₂} c₂ a₂ lent₂ lent₂' run₂ same₂ st₂ x₂ e₂ q₂) home events =
      let k = same-unfits events in
      let ih = along w₁ w₂ b₁ b₂ run₁ run₂ home k.1 in
      let n = on-unfit w₁ w₂ w v lent₁ lent₁' lent₂ lent₂' c₁ c₂ a₁ a₂ ih.alike k.0 same₁ same₂ (r.steps c₁ lent₁ a₁ lent₁' st₁) (r'.steps c₂ lent₂ a₂ lent₂' st₂) x₁ x₂ e₁ e₂ in
      record {
        alike = n.1;
        books = book-entered c₁ c₂ false false b₁ b₂ b b' k.0 refl ih.books q₁ q₂;
        replies = ap (λ (y : Reply). y ∷ replies_of run₁) n.0 ∙ ap (λ (ys : List Reply). a₂ ∷ ys) ih.replies;
      }
  along w v b b' (unfit _ _ _ _ _ _ _ _ _ _) (cut _ _ _ _ _ _ _ _ _ _ _) home events = clash 2 3 refl (ap kind_of events)
  along w v b b' (unfit _ _ _ _ _ _ _ _ _ _) (cut_unfit _ _ _ _ _ _ _ _ _ _ _ _) home events = clash 2 4 refl (ap kind_of events)
  along w v b b' (cut _ _ _ _ _ _ _ _ _ _ _) (formatted _ _ _ _ _ _ _ _ _ _ _) home events = clash 3 0 refl (ap kind_of events)
  along w v b b' (cut _ _ _ _ _ _ _ _ _ _ _) (called _ _ _ _ _ _) home events = clash 3 1 refl (ap kind_of events)
  along w v b b' (cut _ _ _ _ _ _ _ _ _ _ _) (unfit _ _ _ _ _ _ _ _ _ _) home events = clash 3 2 refl (ap kind_of events)
  along w v b b' (cut {world = w₁} {book = b₁} c₁ a₁ w₁' stored₁ frames₁ staging₁ run₁ l₁ st₁ e₁ q₁) (cut {world = w₂} {book = b₂} c₂ a₂ w₂' stored₂ frames₂ staging₂ run₂ l₂ st₂ e₂ q₂) home events =
      let k = same-cuts events in
      let ih = along w₁ w₂ b₁ b₂ run₁ run₂ home k.2 in
      let n = call-alike z w₁ w₂ ih.alike c₁ c₂ k.0 l₁ l₂ a₁ a₂ w₁' w₂' (r.steps c₁ w₁ a₁ w₁' st₁) (r'.steps c₂ w₂ a₂ w₂' st₂) in
      record {
        alike = on-cut w₁ w₂ w₁' w₂' w v stored₂ frames₁ staging₁ frames₂ staging₂ ih.alike n.1
            (e₁ ∙ ap (λ (y : Bool). fallen (left_by y w₁ w₁') frames₁ staging₁) k.1) e₂;
        books = book-cut c₁ c₂ (both stored₁ (accepts a₁)) (both stored₂ (accepts a₂)) b₁ b₂ b b' k.0
            (ap (λ (y : Bool). both y (accepts a₁)) k.1 ∙ ap (λ (y : Reply). both stored₂ (accepts y)) n.0) ih.books q₁ q₂;
        replies = ih.replies;
      }
  along w v b b' (cut _ _ _ _ _ _ _ _ _ _ _) (cut_unfit _ _ _ _ _ _ _ _ _ _ _ _) home events = clash 3 4 refl (ap kind_of events)
  along w v b b' (cut_unfit _ _ _ _ _ _ _ _ _ _ _ _) (formatted _ _ _ _ _ _ _ _ _ _ _) home events = clash 4 0 refl (ap kind_of events)
  along w v b b' (cut_unfit _ _ _ _ _ _ _ _ _ _ _ _) (called _ _ _ _ _ _) home events = clash 4 1 refl (ap kind_of events)
  along w v b b' (cut_unfit _ _ _ _ _ _ _ _ _ _ _ _) (unfit _ _ _ _ _ _ _ _ _ _) home events = clash 4 2 refl (ap kind_of events)
  along w v b b' (cut_unfit _ _ _ _ _ _ _ _ _ _ _ _) (cut _ _ _ _ _ _ _ _ _ _ _) home events = clash 4 3 refl (ap kind_of events)
  along w v b b' (cut_unfit {world = w₁} {book = b₁} c₁ a₁ lent₁ lent₁' frames₁ staging₁ run₁ same₁ st₁ x₁ e₁ q₁) (cut_unfit {world = w₂} {book = b₂} c₂ a₂ lent₂ lent₂' frames₂ staging₂ run₂ same₂ st₂ x₂ e₂ q₂) home events =
      let k = same-cut-unfits events in
      let ih = along w₁ w₂ b₁ b₂ run₁ run₂ home k.1 in
      record {
        alike = stay _ _ w v (fall-alike w₁ w₂ frames₁ staging₁ frames₂ staging₂ ih.alike.log_is ih.alike.home_is) e₁ e₂;
        books = book-cut c₁ c₂ false false b₁ b₂ b b' k.0 refl ih.books q₁ q₂;
        replies = ih.replies;
      }

pub calls-alike : (by by' : Steps) → Refines by → Refines by' → CallsAlike by by'
calls-alike by by' r r' z w v al c c' e l l' a b w' v' st st' = call-alike z w v al c c' e l l' a b w' v' (r.steps c w a w' st) (r'.steps c' v b v' st')

pub desks-alike : (by by' : Steps) → Refines by → Refines by' → DesksAlike by by'
desks-alike by by' r r' z in_range w v b b' run run' home events = along by by' r r' z (ranged z in_range) w v b b' run run' home events
