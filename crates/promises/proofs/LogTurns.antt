-- An accepted Log step takes one block off W and keeps all lengths, in every state.
-- Assumes nothing.
use mathlib.Core.Path.{◌≡◌, refl, sym, ap, ◌∙◌, subst}
use mathlib.Core.Bool.{true, ◌&&◌}
use Prim.Native.Nat.{ℕ, zero, suc, ◌+◌, ◌*◌, ◌-◌, ◌≤◌, ◌<◌}
use mathlib.Core.List.{List, [], ◌∷◌, map}
use native.Mathlib.Omega.{arith}
use native.Mathlib.Nat.{suc-add}
use lib.ListN.{length, take, drop, get_or, length-drop, length-map}
use lib.Seq.{length-take-le}
use lib.Dec.{eqb, leb, ltb}
use borrow.Author.Tests.{leb-true, eqb-true, eqb-false, eq-eqb, ne_eqb}
use Rattle.area.proofs.Laws.{and_both, either}
use Rattle.area.proofs.Parts.{length-part-most}
use Rattle.block.specs.Legal.{legal_place}
use Rattle.promises.specs.declared.State.{State}
use Rattle.promises.specs.declared.Staged.{Staged}
use Rattle.promises.specs.Updates.{Update}
use Rattle.promises.specs.Contents.{Contents, contents_of, grouped, groups_of, queue_of, total, waiting}
use Rattle.promises.specs.Sums.{block_count, waiting_blocks}
use Rattle.promises.specs.Sound.{sound, all_legal, staged_of, of_oldest}
use Rattle.promises.specs.LogStep.{no_update, areas_fit, log_refusal, log_refusal_of, update_stored, commit_stored}
use Rattle.promises.specs.Events.{World, Logging}
use Rattle.promises.specs.Answers.{Reply, accepts, log_answered}
use Rattle.promises.specs.Waiting.{Fitting}
use Rattle.promises.proofs.Promised.{log-update, log-commit}
use Rattle.promises.proofs.Changes.{pick-zero, pick_other}
use Rattle.promises.proofs.Soundness.{Sound, sound-of}
use Rattle.promises.proofs.SoundFacts.{and_left, and_right, length-queue}
use Rattle.promises.proofs.Slots.{length-stored}

-- ---- W by the queue
abbrev blocks_in : List (List Update) → ℕ
blocks_in [] = 0
blocks_in (g ∷ q) = length g + 1 + blocks_in q

blocks-grouped : (ns : List ℕ) (us : List Update) → total ns ≤ length us → blocks_in (grouped ns us) ≡ block_count ns
unfolding grouped
blocks-grouped [] us h = refl
blocks-grouped (n ∷ ns) us h = omega (arith, length-take-le n us (omega arith), blocks-grouped ns (drop n us) (omega (arith, length-drop n us)))

staged-for : (s : State) (staging : List ℕ) → Sound s → total (groups_of s) ≤ length (map (waiting staging) s.staged)
staged-for s staging f = omega (arith, f.staged, length-map s.staged (waiting staging))

waits-for : (s : State) (staging : List ℕ) → sound s ≡ true → waiting_blocks s ≡ blocks_in (queue_of s staging) - s.stored
waits-for s staging so =
    ap (λ (n : ℕ). n - s.stored) (sym (blocks-grouped (groups_of s) (map (waiting staging) s.staged) (staged-for s staging (sound-of s so))))

-- stored updates are the oldest group's
oldest-le : (c : ℕ) (ns : List ℕ) (us g : List Update) (q : List (List Update)) → grouped ns us ≡ g ∷ q → of_oldest c ns ≡ true → total ns ≤ length us → c ≤ length g
unfolding grouped
oldest-le c [] us g q e h l = let x : ◌≡◌ {A = ℕ} 0 1 = cc in absurd (omega arith)
oldest-le c (n ∷ ns) us g q e h l =
    let t : take n us ≡ g = cc in
    omega (arith, leb-true c n h, ap length t, length-take-le n us (omega arith))

-- ---- a queued update has at most 472 bytes
abbrev AllShort : List Update → Type 0
AllShort [] = Unit {0}
AllShort (u ∷ us) = (length u.bytes ≤ 472) × AllShort us

short-at : (us : List Update) (i : ℕ) → i < length us → AllShort us → length (get_or us i no_update).bytes ≤ 472
short-at [] i h a = absurd (omega arith)
short-at (u ∷ us) zero h a = a.0
short-at (u ∷ us) (suc i) h a = short-at us i (omega arith) a.1

short-front : (n k : ℕ) (staging : List ℕ) (xs : List Staged) → AllShort (map (waiting staging) (take (n + k) xs)) → AllShort (take n (map (waiting staging) xs))
short-front zero k staging xs a = tt
short-front (suc n) k staging [] a = tt
short-front (suc n) k staging (x ∷ xs) a =
    let b : AllShort (map (waiting staging) (take (suc (n + k)) (x ∷ xs))) = subst (λ (m : ℕ). AllShort (map (waiting staging) (take m (x ∷ xs)))) (suc-add n k) a in
    (b.0, short-front n k staging xs b.1)

short-staged : (staging : List ℕ) (P : ℕ) (xs : List Staged) → all_legal P xs ≡ true → AllShort (map (waiting staging) xs)
short-staged staging P [] h = tt
short-staged staging P (x ∷ xs) h =
    let a = and_both (legal_place P x.page x.offset x.length) (all_legal P xs) h in
    let c = and_left (leb (x.offset + x.length) 1024) a.0 in
    let d : x.length ≤ 472 = leb-true _ _ (and_right (ltb x.page P && leb 1 x.length) c) in
    (omega (arith, length-part-most staging (x.area * 472) x.length), short-staged staging P xs a.1)

short-head : (staging : List ℕ) (ns : List ℕ) (k : ℕ) (xs : List Staged) (g : List Update) (q : List (List Update)) → grouped ns (map (waiting staging) xs) ≡ g ∷ q
    → AllShort (map (waiting staging) (take (total ns + k) xs)) → AllShort g
unfolding grouped
short-head staging [] k xs g q e a = let x : ◌≡◌ {A = ℕ} 0 1 = cc in absurd (omega arith)
short-head staging (n ∷ ns) k xs g q e a =
    let t : take n (map (waiting staging) xs) ≡ g = cc in
    let m : n + total ns + k ≡ n + (total ns + k) = omega arith in
    subst AllShort t (short-front n (total ns + k) staging xs (subst (λ (i : ℕ). AllShort (map (waiting staging) (take i xs))) m a))

short-group : (s : State) (staging : List ℕ) (g : List Update) (q : List (List Update)) → Sound s → queue_of s staging ≡ g ∷ q → AllShort g
short-group s staging g q f e = short-head staging (groups_of s) s.described s.staged g q e (short-staged staging s.pages (staged_of s) f.places)

-- ---- what a Log step passed
pub record LogPassed (w : World) : Type 0 where
  pub is_sound : sound w.state ≡ true
  pub fits : Fitting w
  pub queued : w.state.queued ≡ 0 → ⊥

module _ (w : World) where
  pub log-accepts : LogPassed w → log_refusal_of w.state w.log w.home w.frames w.staging ≡ 0
  unfolding log_refusal
  log-accepts p =
      simp (p.is_sound, eq-eqb _ _ p.fits.log, eq-eqb _ _ p.fits.home, eq-eqb _ _ p.fits.frames, eq-eqb _ _ p.fits.staging, ne_eqb _ _ p.queued)

  pub log-passed : log_refusal_of w.state w.log w.home w.frames w.staging ≡ 0 → LogPassed w
  unfolding log_refusal
  log-passed e =
      let s = w.state in
      let c2 = pick-zero (sound s) _ 2 (omega arith) e in
      let c1 = pick-zero (areas_fit s (length w.log) (length w.home) (length w.frames) && eqb (length w.staging) (s.frames * 472)) _ 1 (omega arith) c2.1 in
      let c10 = pick_other (eqb s.queued 0) _ 10 (omega arith) c1.1 in
      let four = and_both (areas_fit s (length w.log) (length w.home) (length w.frames)) (eqb (length w.staging) (s.frames * 472)) c1.0 in
      let three = and_both (eqb (length w.log) (s.slots * 512) && eqb (length w.home) (s.pages * 1024)) (eqb (length w.frames) (s.frames * 1024)) four.0 in
      let two = and_both (eqb (length w.log) (s.slots * 512)) (eqb (length w.home) (s.pages * 1024)) three.0 in
      record {
        is_sound = c2.0;
        fits = record { log = eqb-true _ _ two.0; home = eqb-true _ _ two.1; frames = eqb-true _ _ three.1; staging = eqb-true _ _ four.1 };
        queued = eqb-false _ _ c10.0;
      }

  pub log-nothing : sound w.state ≡ true → Fitting w → w.state.queued ≡ 0 → log_refusal_of w.state w.log w.home w.frames w.staging ≡ 10
  unfolding log_refusal
  log-nothing so fit e =
      simp (so, eq-eqb _ _ fit.log, eq-eqb _ _ fit.home, eq-eqb _ _ fit.frames, eq-eqb _ _ fit.staging, eq-eqb _ _ e)

-- ---- what it leaves
pub record LogTurn (w : World) (a : Reply) (w' : World) : Type 0 where
  pub accepted : accepts a ≡ true
  pub stays_sound : sound w'.state ≡ true
  pub fits : Fitting w'
  pub less : waiting_blocks w'.state + 1 ≡ waiting_blocks w.state
  pub next : w'.state.next ≡ w.state.next + 1
  pub reserved : w'.state.reserved ≡ w.state.reserved
  pub slots : w'.state.slots ≡ w.state.slots
  pub frames : w'.state.frames ≡ w.state.frames

module _ (w : World) (a : Reply) (w' : World) (st : Logging w a w') (p : LogPassed w) where
  abbrev s : State
  s = w.state

  sounds : Sound s
  sounds = sound-of s p.is_sound

  -- what the new state says
  turned : (x : Contents) → accepts (log_answered st.result.answer) ≡ true → sound st.result.state ≡ true → contents_of st.result.state w.staging ≡ x
      → x.pages ≡ s.pages → x.slots ≡ s.slots → x.frames ≡ s.frames → x.next ≡ s.next + 1 → x.reserved ≡ s.reserved
      → blocks_in x.queue - x.stored + 1 ≡ blocks_in (queue_of s w.staging) - s.stored
      → length st.log' ≡ s.slots * 512 → length st.frames' ≡ length w.frames → LogTurn w a w'
  turned x ok so e e1 e2 e3 e4 e5 e6 l k =
      let t = st.result.state in
      let f1 : t.pages ≡ s.pages = ap (λ (y : Contents). y.pages) e ∙ e1 in
      let f2 : t.slots ≡ s.slots = ap (λ (y : Contents). y.slots) e ∙ e2 in
      let f3 : t.frames ≡ s.frames = ap (λ (y : Contents). y.frames) e ∙ e3 in
      let f4 : blocks_in (queue_of t w.staging) - t.stored ≡ blocks_in x.queue - x.stored = ap (λ (y : Contents). blocks_in y.queue - y.stored) e in
      let b : waiting_blocks t ≡ blocks_in (queue_of t w.staging) - t.stored = waits-for t w.staging so in
      let b₀ : waiting_blocks s ≡ blocks_in (queue_of s w.staging) - s.stored = waits-for s w.staging p.is_sound in
      rw st.after (record {
        accepted = ap accepts st.reply_is ∙ ok;
        stays_sound = so;
        fits = record {
          log = l ∙ ap (λ (i : ℕ). i * 512) (sym f2);
          home = p.fits.home ∙ ap (λ (i : ℕ). i * 1024) (sym f1);
          frames = k ∙ p.fits.frames ∙ ap (λ (i : ℕ). i * 1024) (sym f3);
          staging = p.fits.staging ∙ ap (λ (i : ℕ). i * 472) (sym f3);
        };
        less = omega (arith, b, b₀, f4, e6);
        next = ap (λ (y : Contents). y.next) e ∙ e4;
        reserved = ap (λ (y : Contents). y.reserved) e ∙ e5;
        slots = f2;
        frames = f3;
      })

  pub log-turn : LogTurn w a w'
  log-turn = go (queue_of s w.staging) refl
    where
      big : 0 < s.slots
      big = omega (arith, sounds.slots)

      ok : log_refusal_of s w.log w.home w.frames w.staging ≡ 0
      ok = log-accepts w p

      go : (q : List (List Update)) → queue_of s w.staging ≡ q → LogTurn w a w'
      go [] e = absurd (p.queued (sym (length-queue s w.staging sounds.queued) ∙ ap length e))
      go (g ∷ q) e =
          let half : s.stored ≤ length g = oldest-le s.stored (groups_of s) (map (waiting w.staging) s.staged) g q e sounds.stored (staged-for s w.staging sounds) in
          let all : blocks_in (queue_of s w.staging) ≡ length g + 1 + blocks_in q = ap blocks_in e in
          either s.stored (length g)
          (λ h.
          let u = log-update s w.log w.home w.frames w.staging st.result st.log' st.frames' ok g q e st.promise h in
          turned (update_stored (contents_of s w.staging)) (ap accepts u.answer_is) u.stays_sound u.contents_are refl refl refl refl refl (omega (arith, all))
          (ap length u.log_is ∙ length-stored s.slots s.next w.log _ big p.fits.log (short-at g s.stored h (short-group s w.staging g q sounds e)))
          (ap length u.frames_are))
          (λ h.
          let u = log-commit s w.log w.home w.frames w.staging st.result st.log' st.frames' ok g q e st.promise h in
          turned (commit_stored (contents_of s w.staging) g q) (ap accepts u.answer_is) u.stays_sound u.contents_are refl refl refl refl refl (omega (arith, all, half))
          (ap length u.log_is ∙ length-stored s.slots s.next w.log _ big p.fits.log (omega arith))
          u.frames_long)
