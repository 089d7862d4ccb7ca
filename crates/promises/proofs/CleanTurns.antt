-- An accepted Clean step makes one of the stores that are left, three for each dirty page, and keeps all lengths, in every state.
-- Assumes nothing.
use mathlib.Core.Path.{◌≡◌, refl, sym, ap, ◌∙◌, subst}
use mathlib.Core.Bool.{Bool, true, false, ◌&&◌}
use Prim.Native.Nat.{ℕ, suc, ◌+◌, ◌*◌, ◌-◌, ◌≤◌, ◌<◌}
use mathlib.Core.List.{List, [], ◌∷◌}
use native.Mathlib.Omega.{arith}
use lib.ListN.{length, drop}
use lib.Dec.{eqb}
use borrow.Author.Tests.{eqb-true, eqb-false, eq-eqb, ne_eqb}
use Rattle.area.proofs.Laws.{and_both, by-eq, either}
use Rattle.area.specs.Part.{splice}
use Rattle.area.proofs.Parts.{length-splice, length_part}
use Rattle.promises.specs.declared.State.{State}
use Rattle.promises.specs.declared.Dirty.{Dirty}
use Rattle.promises.specs.declared.Cleaning.{Cleaning}
use Rattle.promises.specs.declared.Cleaning.TheVariants.{Idle, First, Second, Third}
use Rattle.promises.specs.Areas.{page_at}
use Rattle.promises.specs.DirtyPages.{DirtyPage, at, look_up, without}
use Rattle.promises.specs.Contents.{unless, dirty_from, dirty_of, Contents, contents_of, queue_of}
use Rattle.promises.specs.Sums.{first_groups, dirty_count}
use Rattle.promises.specs.Sound.{sound}
use Rattle.promises.specs.LogStep.{areas_fit}
use Rattle.promises.specs.CleanStep.{third_refusal, clean_refusal, clean_refusal_of, clean_store}
use Rattle.promises.specs.Events.{World}
use Rattle.promises.specs.Answers.{Reply, accepts, answered}
use Rattle.promises.specs.Events as events
use Rattle.promises.specs.Waiting.{Fitting}
use Rattle.promises.proofs.Replies.{accepted-by}
use Rattle.promises.proofs.Changes.{pick-zero, pick_other}
use Rattle.promises.proofs.Soundness.{sound-of}
use Rattle.promises.proofs.SoundFacts.{Facts, facts, length-dirty, length-queue}
use Rattle.promises.proofs.SameDirty.{Same, same_count, count-without}
use Rattle.promises.proofs.Slots.{length-stored}
use Rattle.promises.proofs.History.WalkStart.{Distinct, distinct_without}
use Rattle.promises.proofs.History.Tally.{look_up-page}

-- ---- a dirty page's bytes are a frame's
frame-long : (F : ℕ) (frames : List ℕ) (f p : ℕ) (ds : List Dirty) (e : DirtyPage) → length frames ≡ F * 1024 → length (first_groups (drop (F - f) ds)) ≡ 0
    → look_up p (dirty_from frames f ds) ≡ at e → length e.bytes ≡ 1024
unfolding look_up dirty_from first_groups
frame-long F frames f p [] e l h q = let x : ◌≡◌ {A = ℕ} 0 1 = cc in absurd (omega arith)
frame-long F frames f p (d ∷ ds) e l h q = either f F (inside (λ x y. frame-long F frames (suc f) p ds e l x y)) (outside (λ x y. frame-long F frames (suc f) p ds e l x y))
  where
    Later : Type 0
    Later = length (first_groups (drop (F - suc f) ds)) ≡ 0 → look_up p (dirty_from frames (suc f) ds) ≡ at e → length e.bytes ≡ 1024

    entry : DirtyPage
    entry = record { page = d.page; first = d.first; bytes = page_at frames f }

    used : f < F → look_up p (entry ∷ dirty_from frames (suc f) ds) ≡ at e → (look_up p (dirty_from frames (suc f) ds) ≡ at e → length e.bytes ≡ 1024) → length e.bytes ≡ 1024
    used k q r = by-eq p d.page
        (λ x. let y : at entry ≡ at e = sym (simp (eq-eqb _ _ x)) ∙ q in
        let z : page_at frames f ≡ e.bytes = cc in
        ap length (sym z) ∙ length_part frames (f * 1024) 1024 (omega arith))
        (λ x. r (simp (ne_eqb _ _ x) at q))

    pick : f < F → Later → (b : Bool) → length (first_groups (drop (F - suc f) ds)) ≡ 0 → look_up p (unless b entry (dirty_from frames (suc f) ds)) ≡ at e → length e.bytes ≡ 1024
    pick k later true x q = later x q
    pick k later false x q = used k q (later x)

    inside : Later → f < F → length e.bytes ≡ 1024
    inside later k =
        let n : F - f ≡ suc (F - suc f) = omega arith in
        let x : length (first_groups (drop (F - suc f) ds)) ≡ 0 = subst (λ (m : ℕ). length (first_groups (drop m (d ∷ ds))) ≡ 0) n h in
        pick k later (eqb d.first 0) x q

    past : Later → F ≤ f → (b : Bool) → length (unless b d.first (first_groups ds)) ≡ 0 → look_up p (unless b entry (dirty_from frames (suc f) ds)) ≡ at e → length e.bytes ≡ 1024
    past later k true x q = let m : F - suc f ≡ 0 = omega arith in later (subst (λ (i : ℕ). length (first_groups (drop i ds)) ≡ 0) (sym m) x) q
    past later k false x q = absurd (omega arith)

    outside : Later → F ≤ f → length e.bytes ≡ 1024
    outside later k =
        let n : F - f ≡ 0 = omega arith in
        let x : length (first_groups (d ∷ ds)) ≡ 0 = subst (λ (m : ℕ). length (first_groups (drop m (d ∷ ds))) ≡ 0) n h in
        past later k (eqb d.first 0) x q

-- ---- the stores that are left
-- those that a cleaning has made of its page
abbrev pub stores_made : Cleaning → ℕ
stores_made Idle = 0
stores_made (First page) = 0
stores_made (Second page) = 1
stores_made (Third page) = 2

abbrev pub stores_left : State → ℕ
stores_left s = 3 * dirty_count s - stores_made s.cleaning

-- ---- what a Clean step passed; it is lent no staging
pub record CleanPassed (w : World) : Type 0 where
  pub is_sound : sound w.state ≡ true
  pub log_long : length w.log ≡ w.state.slots * 512
  pub home_long : length w.home ≡ w.state.pages * 1024
  pub frames_long : length w.frames ≡ w.state.frames * 1024
  pub dirty : dirty_count w.state ≡ 0 → ⊥
  pub third : third_refusal w.state w.state.cleaning ≡ 0

module _ (w : World) where
  pub clean-accepts : CleanPassed w → clean_refusal_of w.state w.log w.home w.frames ≡ 0
  unfolding clean_refusal
  clean-accepts p = simp (p.is_sound, eq-eqb _ _ p.log_long, eq-eqb _ _ p.home_long, eq-eqb _ _ p.frames_long, ne_eqb _ _ p.dirty) p.third

  pub clean-passed : clean_refusal_of w.state w.log w.home w.frames ≡ 0 → CleanPassed w
  unfolding clean_refusal
  clean-passed e =
      let s = w.state in
      let c2 = pick-zero (sound s) _ 2 (omega arith) e in
      let c1 = pick-zero (areas_fit s (length w.log) (length w.home) (length w.frames)) _ 1 (omega arith) c2.1 in
      let c10 = pick_other (eqb (dirty_count s) 0) _ 10 (omega arith) c1.1 in
      let three = and_both (eqb (length w.log) (s.slots * 512) && eqb (length w.home) (s.pages * 1024)) (eqb (length w.frames) (s.frames * 1024)) c1.0 in
      let two = and_both (eqb (length w.log) (s.slots * 512)) (eqb (length w.home) (s.pages * 1024)) three.0 in
      record {
        is_sound = c2.0;
        log_long = eqb-true _ _ two.0;
        home_long = eqb-true _ _ two.1;
        frames_long = eqb-true _ _ three.1;
        dirty = eqb-false _ _ c10.0;
        third = c10.1;
      }

  pub clean-nothing : sound w.state ≡ true → Fitting w → dirty_count w.state ≡ 0 → clean_refusal_of w.state w.log w.home w.frames ≡ 10
  unfolding clean_refusal
  clean-nothing so fit e = simp (so, eq-eqb _ _ fit.log, eq-eqb _ _ fit.home, eq-eqb _ _ fit.frames, eq-eqb _ _ e)

-- ---- what it leaves
pub record CleanTurn (w : World) (a : Reply) (w' : World) : Type 0 where
  pub accepted : accepts a ≡ true
  pub stays_sound : sound w'.state ≡ true
  pub log_long : length w'.log ≡ w'.state.slots * 512
  pub home_long : length w'.home ≡ w'.state.pages * 1024
  pub frames_are : w'.frames ≡ w.frames
  pub staging_is : w'.staging ≡ w.staging
  pub less : stores_left w'.state + 1 ≡ stores_left w.state
  pub next : w'.state.next + dirty_count w'.state ≡ w.state.next + dirty_count w.state
  pub queued : w'.state.queued ≡ w.state.queued
  pub stored : w'.state.stored ≡ w.state.stored
  pub reserved : w'.state.reserved ≡ w.state.reserved
  pub slots : w'.state.slots ≡ w.state.slots
  pub frames : w'.state.frames ≡ w.state.frames

module _ (w : World) (a : Reply) (w' : World) (st : events.Cleaning w a w') (p : CleanPassed w) where
  abbrev s : State
  s = w.state

  abbrev t : State
  t = st.result.state

  abbrev dirty₀ : List DirtyPage
  dirty₀ = dirty_of s w.frames

  f₀ : Facts s w.frames
  f₀ = facts s w.frames p.is_sound

  count₀ : length dirty₀ ≡ dirty_count s
  count₀ = length-dirty w.frames 0 s.dirty

  -- what the new state says: count is its D
  turned : (count : ℕ) (cl : Cleaning) (x : Contents) → accepts (answered st.result.answer) ≡ true → sound t ≡ true → contents_of t w.staging ≡ x
      → x.pages ≡ s.pages → x.slots ≡ s.slots → x.frames ≡ s.frames → x.reserved ≡ s.reserved → x.queue ≡ queue_of s w.staging → x.stored ≡ s.stored
      → x.cleaning ≡ cl → dirty_count t ≡ count → x.next + count ≡ s.next + dirty_count s → 3 * count - stores_made cl + 1 ≡ stores_left s
      → length st.log' ≡ s.slots * 512 → length st.home' ≡ s.pages * 1024 → CleanTurn w a w'
  turned count cl x ok so e e1 e2 e3 e4 e5 e6 e7 e8 e9 e10 l h =
      let f1 : t.pages ≡ s.pages = ap (λ (y : Contents). y.pages) e ∙ e1 in
      let f2 : t.slots ≡ s.slots = ap (λ (y : Contents). y.slots) e ∙ e2 in
      let f4 : t.next ≡ x.next = ap (λ (y : Contents). y.next) e in
      let f5 : stores_made t.cleaning ≡ stores_made cl = ap stores_made (ap (λ (y : Contents). y.cleaning) e ∙ e7) in
      rw st.after (record {
        accepted = ap accepts st.reply_is ∙ ok;
        stays_sound = so;
        log_long = l ∙ ap (λ (i : ℕ). i * 512) (sym f2);
        home_long = h ∙ ap (λ (i : ℕ). i * 1024) (sym f1);
        frames_are = refl;
        staging_is = refl;
        less = omega (arith, e8, e10, f5);
        next = omega (arith, e8, e9, f4);
        queued = sym (length-queue t w.staging (sound-of t so).queued) ∙ ap length (ap (λ (y : Contents). y.queue) e ∙ e5) ∙ length-queue s w.staging f₀.queued;
        stored = ap (λ (y : Contents). y.stored) e ∙ e6;
        reserved = ap (λ (y : Contents). y.reserved) e ∙ e4;
        slots = f2;
        frames = ap (λ (y : Contents). y.frames) e ∙ e3;
      })

  pub clean-turn : CleanTurn w a w'
  unfolding clean_store
  clean-turn =
      let c = st.promise.accepted (clean-accepts w p) in
      let inside : c.page < s.pages = look_up-page s.pages c.page c.entry dirty₀ c.found f₀.pages in
      let none : s.frames ≡ s.frames - 0 = omega arith in
      let long : length c.entry.bytes ≡ 1024 = frame-long s.frames w.frames 0 c.page s.dirty c.entry p.frames_long
      (subst (λ (i : ℕ). length (first_groups (drop i s.dirty)) ≡ 0) none (sound-of s p.is_sound).frames_below) c.found in
      by s.cleaning refl c.page c.entry c.found inside long (ap accepts (accepted-by _ _ _ st.promise.answer_is (clean-accepts w p))) c.stays_sound (c.contents_are w.staging) c.dirty_are c.log_is c.home_is
    where
      same : sound t ≡ true → (es : List DirtyPage) → Distinct es → Same (dirty_of t w.frames) es → dirty_count t ≡ length es
      same so es d h = sym (length-dirty w.frames 0 t.dirty) ∙ same_count es (dirty_of t w.frames) d (facts t w.frames so).distinct h

      half : (home : List ℕ) (start : ℕ) (bytes : List ℕ) → home ≡ splice w.home start 512 bytes → start + 512 ≤ s.pages * 1024 → length bytes ≡ 512 → length home ≡ s.pages * 1024
      half home start bytes e le l = ap length e ∙ length-splice w.home start 512 bytes (omega (arith, p.home_long)) l ∙ p.home_long

      by : (cl : Cleaning) → s.cleaning ≡ cl → (page : ℕ) (entry : DirtyPage) → look_up page dirty₀ ≡ at entry → page < s.pages → length entry.bytes ≡ 1024
          → accepts (answered st.result.answer) ≡ true → sound t ≡ true
          → contents_of t w.staging ≡ (clean_store cl s w.log w.home dirty₀ (contents_of s w.staging) page entry).contents
          → ((q : ℕ) → look_up q (dirty_of t w.frames) ≡ look_up q (clean_store cl s w.log w.home dirty₀ (contents_of s []) page entry).dirty_pages)
          → st.log' ≡ (clean_store cl s w.log w.home dirty₀ (contents_of s []) page entry).log
          → st.home' ≡ (clean_store cl s w.log w.home dirty₀ (contents_of s []) page entry).home → CleanTurn w a w'
      by Idle ec page entry fd inside long ok so cs dy li hi =
          turned (dirty_count s) (Second page) _ ok so cs refl refl refl refl refl refl refl (same so dirty₀ f₀.distinct dy ∙ count₀) refl (omega (arith, p.dirty, ap stores_made ec)) (ap length li ∙ p.log_long)
          (half st.home' (page * 1024) _ hi (omega arith) (length_part entry.bytes 0 512 (omega arith)))
      by (First x) ec page entry fd inside long ok so cs dy li hi =
          turned (dirty_count s) (Second page) _ ok so cs refl refl refl refl refl refl refl (same so dirty₀ f₀.distinct dy ∙ count₀) refl (omega (arith, p.dirty, ap stores_made ec)) (ap length li ∙ p.log_long)
          (half st.home' (page * 1024) _ hi (omega arith) (length_part entry.bytes 0 512 (omega arith)))
      by (Second x) ec page entry fd inside long ok so cs dy li hi =
          turned (dirty_count s) (Third page) _ ok so cs refl refl refl refl refl refl refl (same so dirty₀ f₀.distinct dy ∙ count₀) refl (omega (arith, p.dirty, ap stores_made ec)) (ap length li ∙ p.log_long)
          (half st.home' (page * 1024 + 512) _ hi (omega arith) (length_part entry.bytes 512 512 (omega arith)))
      by (Third x) ec page entry fd inside long ok so cs dy li hi =
          let less : length dirty₀ ≡ suc (length (without page dirty₀)) = count-without page entry dirty₀ f₀.distinct fd in
          let one : length (without page dirty₀) + 1 ≡ dirty_count s = omega (arith, less, count₀) in
          turned (length (without page dirty₀)) Idle _ ok so cs refl refl refl refl refl refl refl (same so (without page dirty₀) (distinct_without page dirty₀ f₀.distinct) dy) (omega (arith, one)) (omega (arith, one, ap stores_made ec))
          (ap length li ∙ length-stored s.slots s.next w.log _ (omega (arith, (sound-of s p.is_sound).slots)) p.log_long (omega arith)) (ap length hi ∙ p.home_long)
