-- The same call on two worlds that are alike: the same reply, and worlds that are alike.
-- Assumes nothing.
use mathlib.Core.Path.{◌≡◌, refl, sym, ap, ◌∙◌, subst}
use mathlib.Core.Bool.{true, ◌&&◌}
use Prim.Native.Nat.{ℕ, ◌+◌, ◌*◌, ◌-◌, ◌≤◌, ◌<◌}
use mathlib.Core.List.{List, [], ◌∷◌}
use native.Mathlib.Omega.{arith}
use lib.ListN.{length, get_or}
use lib.Dec.{eqb, leb}
use borrow.Author.Tests.{eqb-false}
use Rattle.area.proofs.Laws.{by-eq, either}
use Rattle.area.proofs.Parts.{length-splice}
use Rattle.block.specs.Legal.{legal_place}
use Rattle.block.proofs.Tests.{tests}
use Rattle.promises.specs.declared.State.{State}
use Rattle.promises.specs.declared.Cleaning.{Cleaning}
use Rattle.promises.specs.declared.Cleaning.TheVariants.{Idle, First, Second, Third}
use Rattle.promises.specs.Areas.{page_at, first_half, second_half, with_first_half, with_second_half, with_staged, pages_in, slots_in, frames_in}
use Rattle.promises.specs.Updates.{Update}
use Rattle.promises.specs.Blocks.{Kind, update, commit, clean, stored}
use Rattle.promises.specs.DirtyPages.{DirtyPage, Found, at, look_up, shown, without, apply_all, keep_from_of}
use Rattle.promises.specs.Contents.{Contents, contents_of, with_cleaning, dirty_from, dirty_of, queue_of, grouped}
use Rattle.promises.specs.States.{all_zero_state}
use Rattle.promises.specs.Sums.{group_start}
use Rattle.promises.specs.Sound.{sound}
use Rattle.promises.specs.Leaves.{Leaves}
use Rattle.promises.specs.Walk.{Finding, stops, stands}
use Rattle.promises.specs.Open.{open_finding, opened}
use Rattle.promises.specs.Begin.{begin_refusal, begun}
use Rattle.promises.specs.Describe.{describe_refusal, described}
use Rattle.promises.specs.End.{end_refusal, ended}
use Rattle.promises.specs.LogStep.{no_update, areas_fit, log_refusal, log_refusal_of, update_stored, commit_stored, UpdateStep, CommitStep}
use Rattle.promises.specs.CleanStep.{clean_refusal, clean_refusal_of, Takes, Store, clean_store, clean_stored}
use Rattle.promises.specs.Read.{read_refusal_of}
use Rattle.promises.specs.Settled.{settled_refusal}
use Rattle.promises.specs.Events.{World, Opening, Beginning, Describing, Ending, Logging, Reading, Settling, fallen}
use Rattle.promises.specs.Answers.{Reply, refuses, gives, settles, shows, says, read_answered}
use Rattle.promises.specs.Events as events
use Rattle.promises.specs.Alike.{Alike}
use Rattle.promises.proofs.Soundness.{sound-of, desk-of}
use Rattle.promises.proofs.SoundFacts.{distinct-dirty, length-queue}
use Rattle.promises.proofs.Changes.{pick-zero, pick_other, describe-passed}
use Rattle.promises.proofs.History.KeepFrom.{keep-applied}
use Rattle.promises.proofs.Demand3.{not_sound}
use Rattle.promises.proofs.History.WalkStart.{distinct_without}
use Rattle.promises.proofs.Replies.{refused-by, accepted-by, read-refused-reply, read-accepted-reply}
use Rattle.promises.proofs.Promised.{log-update, log-commit}
use Rattle.promises.proofs.RefusedCalls.{Refuses, begin-refused, describe-refused, end_refused, log-refused, clean-refused}
use Rattle.promises.proofs.CleaningOrder.{order-antisymmetric}
use Rattle.promises.proofs.SameDirty.{same-keep, same-without, same-all}
use Rattle.promises.proofs.Table.{same_at}
use Rattle.promises.proofs.AlikeRefusals.{queued-alike, begin-alike, describe-alike, end-alike, log-alike, clean-alike, read_alike, settled-alike}
use Rattle.promises.proofs.OpenFindings.{open-refusals}

-- ---- worlds that are alike
-- a fall leaves worlds alike whose logs and homes are the same
zero-dirty : (frames : List ℕ) → dirty_of all_zero_state frames ≡ []
unfolding dirty_from
zero-dirty frames = refl

zero-contents : (x y : List ℕ) → contents_of all_zero_state x ≡ contents_of all_zero_state y
unfolding grouped
zero-contents x y = refl

pub fall-alike : (w v : World) (frames staging frames' staging' : List ℕ) → w.log ≡ v.log → w.home ≡ v.home
    → Alike (fallen w frames staging) (fallen v frames' staging')
fall-alike w v frames staging frames' staging' l h = record {
  log_is = l;
  home_is = h;
  desks = (refl, refl);
  sound_is = refl;
  contents_are = zero-contents staging staging';
  dirty_are = λ p. ap (look_up p) (zero-dirty frames ∙ sym (zero-dirty frames'));
  frames_long = λ e. not_sound e;
  staging_long = λ e. not_sound e;
}

pub stay : (w v w' v' : World) → Alike w v → w' ≡ w → v' ≡ v → Alike w' v'
stay w v w' v' a e f = subst (λ (x : World). Alike x v') (sym e) (subst (Alike w) (sym f) a)

-- both are refused
both-refused : (w v w' v' : World) (a b : Reply) (m n : ℕ) → Alike w v → m ≡ n → Refuses m w a w' → Refuses n v b v' → (a ≡ b) × Alike w' v'
both-refused w v w' v' a b m n al e h k = (h.0 ∙ ap refuses e ∙ sym k.0, stay w v w' v' al h.1 k.1)

-- both are accepted or both are refused
by-refusal : {X : Type 0} (m n : ℕ) → m ≡ n → (m ≡ 0 → n ≡ 0 → X) → ((m ≡ 0 → ⊥) → (n ≡ 0 → ⊥) → X) → X
by-refusal m n e f g = by-eq m 0 (λ z. f z (sym e ∙ z)) (λ z. g z (λ y. z (e ∙ y)))

-- ---- Open
pub opening-alike : (w v : World) → Alike w v → (frames staging frames' staging' : List ℕ) → length frames ≡ length frames' → length staging ≡ length staging'
    → (a b : Reply) (w' v' : World) → Opening w frames staging a w' → Opening v frames' staging' b v' → (a ≡ b) × Alike w' v'
opening-alike w v al f s f' s' lf ls a b w' v' st st' = go (open_finding w.log w.home (length f) (length s)) refl
  where
    same : open_finding w.log w.home (length f) (length s) ≡ open_finding v.log v.home (length f') (length s')
    same = rw (al.log_is, al.home_is, lf, ls) refl

    go : (x : Finding) → open_finding w.log w.home (length f) (length s) ≡ x → (a ≡ b) × Alike w' v'
    go (stops n j) q =
        let o = st.promise.refused n j q in
        let o' = st'.promise.refused n j (sym same ∙ q) in
        let nz : n ≡ 0 → ⊥ = (open-refusals w.log w.home (length f) (length s) n j q).0 in (
          st.reply_is ∙ o.answer_is ∙ sym (st'.reply_is ∙ o'.answer_is),
          stay (fallen w st.frames' s) (fallen v st'.frames' s') w' v'
              (fall-alike w v st.frames' s st'.frames' s' al.log_is al.home_is)
              (st.after ∙ ap (λ (x : State). record { state = x; log = w.log; home = w.home; frames = st.frames'; staging = s }) o.state_is)
              (st'.after ∙ ap (λ (x : State). record { state = x; log = v.log; home = v.home; frames = st'.frames'; staging = s' }) o'.state_is),
        )
    go (stands n k) q =
        let o = st.promise.accepted n k q in
        let o' = st'.promise.accepted n k (sym same ∙ q) in
        let c : opened (pages_in (length w.home)) (slots_in (length w.log)) (frames_in (length f)) n k.ticket ≡ opened (pages_in (length v.home)) (slots_in (length v.log)) (frames_in (length f')) n k.ticket = rw (al.log_is, al.home_is, lf) refl in (
          st.reply_is ∙ o.answer_is ∙ sym (st'.reply_is ∙ o'.answer_is),
          rw (st.after, st'.after) (record {
            log_is = al.log_is;
            home_is = al.home_is;
            desks = (desk-of _ o.stays_sound, desk-of _ o'.stays_sound);
            sound_is = o.stays_sound ∙ sym o'.stays_sound;
            contents_are = o.contents_are s ∙ c ∙ sym (o'.contents_are s');
            dirty_are = λ p. o.dirty_are p ∙ sym (o'.dirty_are p);
            frames_long = λ e. o.frames_long ∙ lf ∙ sym o'.frames_long;
            staging_long = λ e. ls;
          }),
        )

module _ (w v : World) (al : Alike w v) where
  abbrev s : State
  s = w.state

  abbrev t : State
  t = v.state

  -- ---- calls that lend no frames
  leaves_alike : sound s ≡ true → (s' t' : State) (x y : List ℕ) (change : Contents → Contents) → Leaves s s' x (change (contents_of s w.staging))
      → Leaves t t' y (change (contents_of t v.staging)) → length x ≡ length y
      → Alike (record { state = s'; log = w.log; home = w.home; frames = w.frames; staging = x }) (record { state = t'; log = v.log; home = v.home; frames = v.frames; staging = y })
  leaves_alike so s' t' x y change k k' l = record {
    log_is = al.log_is;
    home_is = al.home_is;
    desks = (desk-of _ k.stays_sound, desk-of _ k'.stays_sound);
    sound_is = k.stays_sound ∙ sym k'.stays_sound;
    contents_are = k.contents_are ∙ ap change al.contents_are ∙ sym k'.contents_are;
    dirty_are = λ p. k.dirty_are w.frames p ∙ al.dirty_are p ∙ sym (k'.dirty_are v.frames p);
    frames_long = λ e. al.frames_long so;
    staging_long = λ e. l;
  }

  pub beginning-alike : (u : ℕ) (a b : Reply) (w' v' : World) → Beginning w u a w' → Beginning v u b v' → (a ≡ b) × Alike w' v'
  unfolding begin_refusal
  beginning-alike u a b w' v' st st' = by-refusal (begin_refusal s u) (begin_refusal t u) (begin-alike w v al u)
      (λ e f.
      let so : sound s ≡ true = (pick-zero (sound s) _ 2 (omega arith) e).0 in (
        st.reply_is ∙ accepted-by _ _ _ st.promise.answer_is e ∙ sym (accepted-by _ _ _ st'.promise.answer_is f) ∙ sym st'.reply_is,
        rw (st.after, st'.after) (leaves_alike so st.result.state st'.result.state w.staging v.staging (λ (c : Contents). begun c u)
            (st.promise.leaves e w.staging) (st'.promise.leaves f v.staging) (al.staging_long so)),
      ))
      (λ m n. both-refused w v w' v' a b _ _ al (begin-alike w v al u) (begin-refused w w' a u st m) (begin-refused v v' b u st' n))

  pub ending-alike : (a b : Reply) (w' v' : World) → Ending w a w' → Ending v b v' → (a ≡ b) × Alike w' v'
  unfolding end_refusal
  ending-alike a b w' v' st st' = by-refusal (end_refusal s) (end_refusal t) (end-alike w v al)
      (λ e f.
      let so : sound s ≡ true = (pick-zero (sound s) _ 2 (omega arith) e).0 in
      let tk : s.ticket ≡ t.ticket = ap (λ (c : Contents). c.ticket) al.contents_are in
      let n : s.ticket + s.queued + 1 ≡ t.ticket + t.queued + 1 = omega (arith, tk, queued-alike w v al so) in (
        st.reply_is ∙ accepted-by _ _ _ st.promise.answer_is e ∙ ap gives n ∙ sym (accepted-by _ _ _ st'.promise.answer_is f) ∙ sym st'.reply_is,
        rw (st.after, st'.after) (leaves_alike so st.result.state st'.result.state w.staging v.staging ended
            (st.promise.leaves e w.staging) (st'.promise.leaves f v.staging) (al.staging_long so)),
      ))
      (λ m n. both-refused w v w' v' a b _ _ al (end-alike w v al) (end_refused w w' a st m) (end_refused v v' b st' n))

  -- staging keeps its length, whichever area the update gets
  staged-long : (F area : ℕ) (x bytes : List ℕ) → length x ≡ F * 472 → area < F → length bytes ≤ 472 → length (with_staged x area (length bytes) bytes) ≡ length x
  staged-long F area x bytes l h k = length-splice x (area * 472) (length bytes) bytes (omega (arith, inside F area h)) refl
    where
      inside : (F area : ℕ) → area < F → area * 472 + 472 ≤ F * 472
      inside F area h = omega arith

  legal-short : (pages page offset count : ℕ) → legal_place pages page offset count ≡ true → count ≤ 472
  legal-short pages page offset count h = let l = simp tests at h in omega arith

  pub describing-alike : (u : Update) (a b : Reply) (w' v' : World) → Describing w u a w' → Describing v u b v' → (a ≡ b) × Alike w' v'
  describing-alike u a b w' v' st st' = by-refusal (describe_refusal s (length w.staging) u.page u.offset (length u.bytes))
      (describe_refusal t (length v.staging) u.page u.offset (length u.bytes)) (describe-alike w v al u.page u.offset (length u.bytes))
      (λ e f.
      let p = st.promise.accepted e in
      let p' = st'.promise.accepted f in
      let r = describe-passed s (length w.staging) u.page u.offset (length u.bytes) e in
      let r' = describe-passed t (length v.staging) u.page u.offset (length u.bytes) f in
      let short : length u.bytes ≤ 472 = legal-short s.pages u.page u.offset (length u.bytes) r.3 in
      let l : length st.staging' ≡ length w.staging = ap length p.staging_is ∙ staged-long s.frames p.area w.staging u.bytes r.1 p.area_below short in
      let l' : length st'.staging' ≡ length v.staging = ap length p'.staging_is ∙ staged-long t.frames p'.area v.staging u.bytes r'.1 p'.area_below short in (
        st.reply_is ∙ accepted-by _ _ _ st.promise.answer_is e ∙ sym (accepted-by _ _ _ st'.promise.answer_is f) ∙ sym st'.reply_is,
        rw (st.after, st'.after) (leaves_alike r.0 st.result.state st'.result.state st.staging' st'.staging' (λ (c : Contents). described c u)
            p.leaves p'.leaves (l ∙ al.staging_long r.0 ∙ sym l')),
      ))
      (λ m n. both-refused w v w' v' a b _ _ al (describe-alike w v al u.page u.offset (length u.bytes)) (describe-refused w w' a u st m) (describe-refused v v' b u st' n))

  -- ---- Log step
  keep-alike : sound s ≡ true → (n : ℕ) → keep_from_of n (dirty_of s w.frames) ≡ keep_from_of n (dirty_of t v.frames)
  keep-alike so n = same-keep n (dirty_of t v.frames) (dirty_of s w.frames)
      (distinct-dirty v.frames 0 t.dirty (sound-of t (sym al.sound_is ∙ so)).distinct_pages) (distinct-dirty w.frames 0 s.dirty (sound-of s so).distinct_pages) al.dirty_are

  start-alike : group_start s ≡ group_start t
  start-alike = ap (λ (c : Contents). c.next - c.stored) al.contents_are

  -- a block of the same kind, with a keep-from that is the same
  block-alike : sound s ≡ true → (kind : Kind) (up : ℕ → ℕ) → stored s.slots w.log s.next (record { kind = kind; keep_from = keep_from_of (group_start s) (dirty_of s w.frames); ticket = up s.ticket })
      ≡ stored t.slots v.log t.next (record { kind = kind; keep_from = keep_from_of (group_start t) (dirty_of t v.frames); ticket = up t.ticket })
  block-alike so kind up =
      ap (λ (k : ℕ). stored s.slots w.log s.next (record { kind = kind; keep_from = k; ticket = up s.ticket })) (keep-alike so (group_start s))
      ∙ ap (λ (c : Contents). stored c.slots w.log c.next (record { kind = kind; keep_from = keep_from_of (c.next - c.stored) (dirty_of t v.frames); ticket = up c.ticket })) al.contents_are
      ∙ ap (λ (l : List ℕ). stored t.slots l t.next (record { kind = kind; keep_from = keep_from_of (group_start t) (dirty_of t v.frames); ticket = up t.ticket })) al.log_is

  pub logging-alike : (a b : Reply) (w' v' : World) → Logging w a w' → Logging v b v' → (a ≡ b) × Alike w' v'
  unfolding log_refusal
  logging-alike a b w' v' st st' = by-refusal (log_refusal_of s w.log w.home w.frames w.staging) (log_refusal_of t v.log v.home v.frames v.staging) (log-alike w v al)
      (λ e f.
      let c2 = pick-zero (sound s) _ 2 (omega arith) e in
      let c1 = pick-zero (areas_fit s (length w.log) (length w.home) (length w.frames) && eqb (length w.staging) (s.frames * 472)) _ 1 (omega arith) c2.1 in
      let c10 = pick_other (eqb s.queued 0) _ 10 (omega arith) c1.1 in
      go e f c2.0 (eqb-false _ _ c10.0) (length-queue s w.staging (sound-of s c2.0).queued) (queue_of s w.staging) refl)
      (λ m n. both-refused w v w' v' a b _ _ al (log-alike w v al) (log-refused w w' a st m) (log-refused v v' b st' n))
    where
      stored_same : s.stored ≡ t.stored
      stored_same = ap (λ (c : Contents). c.stored) al.contents_are

      updates : sound s ≡ true → (g : List Update) → UpdateStep s g w.log w.frames w.staging st.result st.log' st.frames'
          → UpdateStep t g v.log v.frames v.staging st'.result st'.log' st'.frames' → (a ≡ b) × Alike w' v'
      updates so g u u' = (
        st.reply_is ∙ u.answer_is ∙ sym u'.answer_is ∙ sym st'.reply_is,
        rw (st.after, st'.after, u.frames_are, u'.frames_are) (record {
          log_is = u.log_is ∙ block-alike so (update (s.stored + 1) (get_or g s.stored no_update)) (λ n. n)
              ∙ ap (λ (n : ℕ). stored t.slots v.log t.next (record { kind = update (n + 1) (get_or g n no_update); keep_from = keep_from_of (group_start t) (dirty_of t v.frames); ticket = t.ticket })) stored_same
              ∙ sym u'.log_is;
          home_is = al.home_is;
          desks = (desk-of _ u.stays_sound, desk-of _ u'.stays_sound);
          sound_is = u.stays_sound ∙ sym u'.stays_sound;
          contents_are = u.contents_are ∙ ap update_stored al.contents_are ∙ sym u'.contents_are;
          dirty_are = λ p. u.dirty_are p ∙ al.dirty_are p ∙ sym (u'.dirty_are p);
          frames_long = λ x. al.frames_long so;
          staging_long = λ x. al.staging_long so;
        }),
      )

      commits : sound s ≡ true → (g : List Update) (q : List (List Update)) → CommitStep s g q w.log w.home w.frames w.staging st.result st.log' st.frames'
          → CommitStep t g q v.log v.home v.frames v.staging st'.result st'.log' st'.frames' → (a ≡ b) × Alike w' v'
      commits so g q u u' =
          let keep = keep-applied (group_start s) (page_at w.home) g (dirty_of s w.frames) in
          let keep' = keep-applied (group_start t) (page_at v.home) g (dirty_of t v.frames) in (
            st.reply_is ∙ u.answer_is ∙ ap (λ (c : Contents). settles (c.ticket + 1)) al.contents_are ∙ sym u'.answer_is ∙ sym st'.reply_is,
            rw (st.after, st'.after) (record {
              log_is = u.log_is ∙ ap (λ (k : ℕ). stored s.slots w.log s.next (record { kind = commit (length g); keep_from = k; ticket = s.ticket + 1 })) keep
                  ∙ block-alike so (commit (length g)) (λ n. n + 1)
                  ∙ sym (u'.log_is ∙ ap (λ (k : ℕ). stored t.slots v.log t.next (record { kind = commit (length g); keep_from = k; ticket = t.ticket + 1 })) keep');
              home_is = al.home_is;
              desks = (desk-of _ u.stays_sound, desk-of _ u'.stays_sound);
              sound_is = u.stays_sound ∙ sym u'.stays_sound;
              contents_are = u.contents_are ∙ ap (λ (c : Contents). commit_stored c g q) al.contents_are ∙ sym u'.contents_are;
              dirty_are = λ p. u.dirty_are p
                  ∙ ap (λ (n : ℕ). look_up p (apply_all n (page_at w.home) g (dirty_of s w.frames))) start-alike
                  ∙ ap (λ (h : List ℕ). look_up p (apply_all (group_start t) (page_at h) g (dirty_of s w.frames))) al.home_is
                  ∙ same-all (group_start t) (page_at v.home) g (dirty_of s w.frames) (dirty_of t v.frames) al.dirty_are p
                  ∙ sym (u'.dirty_are p);
              frames_long = λ x. u.frames_long ∙ al.frames_long so ∙ sym u'.frames_long;
              staging_long = λ x. al.staging_long so;
            }),
          )

      go : log_refusal_of s w.log w.home w.frames w.staging ≡ 0 → log_refusal_of t v.log v.home v.frames v.staging ≡ 0 → sound s ≡ true → (s.queued ≡ 0 → ⊥)
          → length (queue_of s w.staging) ≡ s.queued → (y : List (List Update)) → queue_of s w.staging ≡ y → (a ≡ b) × Alike w' v'
      go e f so nz ln [] q = absurd (nz (sym ln ∙ ap length q))
      go e f so nz ln (x ∷ y) q =
          let q' : queue_of t v.staging ≡ x ∷ y = ap (λ (c : Contents). c.queue) (sym al.contents_are) ∙ q in
          either s.stored (length x)
          (λ h. updates so x
          (log-update s w.log w.home w.frames w.staging st.result st.log' st.frames' e x y q st.promise h)
          (log-update t v.log v.home v.frames v.staging st'.result st'.log' st'.frames' f x y q' st'.promise (omega (arith, stored_same))))
          (λ h. commits so x y
          (log-commit s w.log w.home w.frames w.staging st.result st.log' st.frames' e x y q st.promise h)
          (log-commit t v.log v.home v.frames v.staging st'.result st'.log' st'.frames' f x y q' st'.promise (omega (arith, stored_same))))

  -- ---- Clean step
  -- the same page is taken
  page-alike : (c : Cleaning) (p q : ℕ) (e f : DirtyPage) → look_up p (dirty_of s w.frames) ≡ at e → look_up q (dirty_of t v.frames) ≡ at f
      → Takes c (dirty_of s w.frames) p e → Takes c (dirty_of t v.frames) q f → p ≡ q
  page-alike Idle p q e f h k m n = order-antisymmetric e.first p f.first q (m q f (al.dirty_are q ∙ k)) (n p e (sym (al.dirty_are p) ∙ h))
  page-alike (First r) p q e f h k m n = m ∙ sym n
  page-alike (Second r) p q e f h k m n = m ∙ sym n
  page-alike (Third r) p q e f h k m n = m ∙ sym n

  -- and the same is stored
  record Stores (c : Cleaning) (p : ℕ) (e : DirtyPage) : Type 0 where
    log : (clean_store c s w.log w.home (dirty_of s w.frames) (contents_of s []) p e).log ≡ (clean_store c t v.log v.home (dirty_of t v.frames) (contents_of t []) p e).log
    home : (clean_store c s w.log w.home (dirty_of s w.frames) (contents_of s []) p e).home ≡ (clean_store c t v.log v.home (dirty_of t v.frames) (contents_of t []) p e).home
    contents : (clean_store c s w.log w.home (dirty_of s w.frames) (contents_of s w.staging) p e).contents
        ≡ (clean_store c t v.log v.home (dirty_of t v.frames) (contents_of t v.staging) p e).contents
    dirty : (o : ℕ) → look_up o (clean_store c s w.log w.home (dirty_of s w.frames) (contents_of s []) p e).dirty_pages
        ≡ look_up o (clean_store c t v.log v.home (dirty_of t v.frames) (contents_of t []) p e).dirty_pages

  stores-alike : sound s ≡ true → (c : Cleaning) (p : ℕ) (e : DirtyPage) → Stores c p e
  unfolding clean_store
  stores-alike so Idle p e = record {
    log = al.log_is;
    home = ap (λ (h : List ℕ). with_first_half h p (first_half e.bytes)) al.home_is;
    contents = ap (λ (c : Contents). with_cleaning c (Second p)) al.contents_are;
    dirty = al.dirty_are;
  }
  stores-alike so (First r) p e = record {
    log = al.log_is;
    home = ap (λ (h : List ℕ). with_first_half h p (first_half e.bytes)) al.home_is;
    contents = ap (λ (c : Contents). with_cleaning c (Second p)) al.contents_are;
    dirty = al.dirty_are;
  }
  stores-alike so (Second r) p e = record {
    log = al.log_is;
    home = ap (λ (h : List ℕ). with_second_half h p (second_half e.bytes)) al.home_is;
    contents = ap (λ (c : Contents). with_cleaning c (Third p)) al.contents_are;
    dirty = al.dirty_are;
  }
  stores-alike so (Third r) p e =
      let d = distinct_without p (dirty_of s w.frames) (distinct-dirty w.frames 0 s.dirty (sound-of s so).distinct_pages) in
      let d' = distinct_without p (dirty_of t v.frames) (distinct-dirty v.frames 0 t.dirty (sound-of t (sym al.sound_is ∙ so)).distinct_pages) in
      let same = same-without p (dirty_of s w.frames) (dirty_of t v.frames) al.dirty_are in
      let k : keep_from_of s.next (without p (dirty_of s w.frames)) ≡ keep_from_of s.next (without p (dirty_of t v.frames)) =
      same-keep s.next (without p (dirty_of t v.frames)) (without p (dirty_of s w.frames)) d' d same in
      record {
        log =
            ap (λ (n : ℕ). stored s.slots w.log s.next (record { kind = clean p; keep_from = n; ticket = s.ticket })) k
            ∙ ap (λ (c : Contents). stored c.slots w.log c.next (record { kind = clean p; keep_from = keep_from_of c.next (without p (dirty_of t v.frames)); ticket = c.ticket })) al.contents_are
            ∙ ap (λ (l : List ℕ). stored t.slots l t.next (record { kind = clean p; keep_from = keep_from_of t.next (without p (dirty_of t v.frames)); ticket = t.ticket })) al.log_is;
        home = al.home_is;
        contents = ap clean_stored al.contents_are;
        dirty = same;
      }

  pub cleaning-alike : (a b : Reply) (w' v' : World) → events.Cleaning w a w' → events.Cleaning v b v' → (a ≡ b) × Alike w' v'
  unfolding clean_refusal
  cleaning-alike a b w' v' st st' = by-refusal (clean_refusal_of s w.log w.home w.frames) (clean_refusal_of t v.log v.home v.frames) (clean-alike w v al)
      (λ e f.
      let so : sound s ≡ true = (pick-zero (sound s) _ 2 (omega arith) e).0 in
      let u = st.promise.accepted e in
      let u' = st'.promise.accepted f in
      let same_cleaning : t.cleaning ≡ s.cleaning = ap (λ (c : Contents). c.cleaning) (sym al.contents_are) in
      let same_page : u.page ≡ u'.page = page-alike s.cleaning u.page u'.page u.entry u'.entry u.found u'.found u.takes
      (subst (λ (c : Cleaning). Takes c (dirty_of t v.frames) u'.page u'.entry) same_cleaning u'.takes) in
      let same_entry : u.entry ≡ u'.entry = same_at (sym u.found ∙ ap (λ (p : ℕ). look_up p (dirty_of s w.frames)) same_page ∙ al.dirty_are u'.page ∙ u'.found) in
      let k : Stores s.cleaning u.page u.entry = stores-alike so s.cleaning u.page u.entry in
      let turned : (x : List ℕ) → clean_store s.cleaning t v.log v.home (dirty_of t v.frames) (contents_of t x) u.page u.entry
      ≡ clean_store t.cleaning t v.log v.home (dirty_of t v.frames) (contents_of t x) u'.page u'.entry =
      λ x. ap (λ (c : Cleaning). clean_store c t v.log v.home (dirty_of t v.frames) (contents_of t x) u.page u.entry) (sym same_cleaning)
      ∙ ap (λ (p : ℕ). clean_store t.cleaning t v.log v.home (dirty_of t v.frames) (contents_of t x) p u.entry) same_page
      ∙ ap (λ (y : DirtyPage). clean_store t.cleaning t v.log v.home (dirty_of t v.frames) (contents_of t x) u'.page y) same_entry in (
        st.reply_is ∙ accepted-by _ _ _ st.promise.answer_is e ∙ sym (accepted-by _ _ _ st'.promise.answer_is f) ∙ sym st'.reply_is,
        rw (st.after, st'.after) (record {
          log_is = u.log_is ∙ k.log ∙ ap (λ (x : Store). x.log) (turned []) ∙ sym u'.log_is;
          home_is = u.home_is ∙ k.home ∙ ap (λ (x : Store). x.home) (turned []) ∙ sym u'.home_is;
          desks = (desk-of _ u.stays_sound, desk-of _ u'.stays_sound);
          sound_is = u.stays_sound ∙ sym u'.stays_sound;
          contents_are = u.contents_are w.staging ∙ k.contents ∙ ap (λ (x : Store). x.contents) (turned v.staging) ∙ sym (u'.contents_are v.staging);
          dirty_are = λ o. u.dirty_are o ∙ k.dirty o ∙ ap (λ (x : Store). look_up o x.dirty_pages) (turned []) ∙ sym (u'.dirty_are o);
          frames_long = λ x. al.frames_long so;
          staging_long = λ x. al.staging_long so;
        }),
      ))
      (λ m n. both-refused w v w' v' a b _ _ al (clean-alike w v al) (clean-refused w w' a st m) (clean-refused v v' b st' n))

  -- ---- Read
  pub reading-alike : (p : ℕ) (a b : Reply) (w' v' : World) → Reading w p a w' → Reading v p b v' → (a ≡ b) × Alike w' v'
  reading-alike p a b w' v' st st' = (st.reply_is ∙ reply ∙ sym st'.reply_is, stay w v w' v' al st.after st'.after)
    where
      numbers : read_refusal_of s st.home.now st.frames.now p ≡ read_refusal_of t st'.home.now st'.frames.now p
      numbers =
          ap (λ (x : List ℕ). read_refusal_of s x st.frames.now p) st.home_is ∙ ap (λ (x : List ℕ). read_refusal_of s w.home x p) st.frames_are
          ∙ read_alike w v al p
          ∙ sym (ap (λ (x : List ℕ). read_refusal_of t x st'.frames.now p) st'.home_is ∙ ap (λ (x : List ℕ). read_refusal_of t v.home x p) st'.frames_are)

      bytes : read_refusal_of s st.home.now st.frames.now p ≡ 0 → read_refusal_of t st'.home.now st'.frames.now p ≡ 0 → st.result.now ≡ st'.result.now
      bytes e f =
          st.promise.bytes_are e
          ∙ ap (λ (x : List ℕ). shown (look_up p (dirty_of s x)) (page_at st.home.now p)) st.frames_are
          ∙ ap (λ (x : List ℕ). shown (look_up p (dirty_of s w.frames)) (page_at x p)) (st.home_is ∙ al.home_is ∙ sym st'.home_is)
          ∙ ap (λ (x : Found). shown x (page_at st'.home.now p)) (al.dirty_are p)
          ∙ ap (λ (x : List ℕ). shown (look_up p (dirty_of t x)) (page_at st'.home.now p)) (sym st'.frames_are)
          ∙ sym (st'.promise.bytes_are f)

      reply : read_answered st.number st.result.now ≡ read_answered st'.number st'.result.now
      reply =
          ap (λ (n : ℕ). read_answered n st.result.now) st.promise.refusal
          ∙ by-refusal (read_refusal_of s st.home.now st.frames.now p) (read_refusal_of t st'.home.now st'.frames.now p) numbers
          (λ e f. read-accepted-reply _ st.result.now e ∙ ap shows (bytes e f) ∙ sym (read-accepted-reply _ st'.result.now f))
          (λ e f. read-refused-reply _ st.result.now e ∙ ap refuses numbers ∙ sym (read-refused-reply _ st'.result.now f))
          ∙ ap (λ (n : ℕ). read_answered n st'.result.now) (sym st'.promise.refusal)

  -- ---- Settled
  pub settling-alike : (k : ℕ) (a b : Reply) (w' v' : World) → Settling w k a w' → Settling v k b v' → (a ≡ b) × Alike w' v'
  settling-alike k a b w' v' st st' = (
    st.reply_is
        ∙ by-refusal (settled_refusal s k) (settled_refusal t k) (settled-alike w v al k)
        (λ e f. accepted-by _ _ _ st.promise.answer_is e ∙ ap (λ (c : Contents). says (leb k c.ticket)) al.contents_are ∙ sym (accepted-by _ _ _ st'.promise.answer_is f))
        (λ m n. refused-by _ _ _ st.promise.answer_is m ∙ ap refuses (settled-alike w v al k) ∙ sym (refused-by _ _ _ st'.promise.answer_is n))
        ∙ sym st'.reply_is,
    stay w v w' v' al st.after st'.after,
  )
