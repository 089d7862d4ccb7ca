-- Clean step keeps the invariant.
-- Assumes nothing.
use mathlib.Core.Path.{◌≡◌, refl, sym, ap, ◌∙◌, subst}
use mathlib.Core.Bool.{true, false, cond}
use Prim.Native.Nat.{ℕ, ◌+◌, ◌*◌, ◌-◌, ◌^◌, ◌≤◌, ◌<◌}
use mathlib.Core.List.{List, [], ◌∷◌, ◌++◌}
use native.Mathlib.Omega.{arith}
use lib.ListN.{length, take, drop, length-take, length-drop}
use lib.Seq.{take_all}
use lib.Dec.{eqb}
use borrow.Author.Tests.{eqb-true, eqb-false}
use Rattle.area.proofs.Laws.{by-eq}
use Rattle.promises.specs.declared.State.{State}
use Rattle.promises.specs.declared.Cleaning.{Cleaning}
use Rattle.promises.specs.declared.Cleaning.TheVariants.{Idle, First, Second, Third}
use Rattle.area.specs.Part.{part}
use Rattle.promises.specs.Areas.{page_at, with_first_half, with_second_half}
use Rattle.promises.specs.Blocks.{clean, LogBlock, Slot, slots_of}
use Rattle.promises.specs.DirtyPages.{DirtyPage, Found, at, look_up, keep_from_of, without}
use Rattle.promises.specs.Contents.{contents_of, with_cleaning, dirty_of, queue_of}
use Rattle.promises.specs.Sound.{sound}
use Rattle.promises.specs.Sums.{sequences_taken, dirty_count}
use Rattle.promises.specs.Blocks.{stored}
use Rattle.promises.specs.LogStep.{areas_fit}
use Rattle.promises.specs.CleanStep.{third_refusal, clean_refusal, clean_refusal_of, Takes, clean_block, clean_store, clean_stored}
use Rattle.promises.proofs.Changes.{pick-zero, pick_other}
use Rattle.promises.proofs.History.Machine.{Live, idle, second, third, set_page, half_stored, World as Machine, up}
use Rattle.promises.proofs.History.Ledger as ledger
use Rattle.promises.proofs.History.Stored.{store}
use Rattle.promises.proofs.History.Sees.{Sees}
use Rattle.promises.proofs.History.Invariant.{Stage, frame_right, invariant-front, invariant-back, Disk, Alive, view, same-page, other-page}
use Rattle.promises.proofs.History.Tally.{look_up-page}
use Rattle.promises.proofs.History.Whole.{Kept, Runs, kept-clean, kept_half}
use Rattle.promises.specs.Book.{Book}
use Rattle.promises.specs.Events.{Sizes, World, clean_step}
use Rattle.promises.specs.Answers.{Reply, accepts}
use Rattle.promises.specs.Events as events
use Rattle.promises.specs.Stored.{stores_block, new_block, stored_in}
use Rattle.promises.proofs.Ranges.{Ranged}
use Rattle.area.proofs.Parts.{length-splice}
use Rattle.block.proofs.Facts.{NumberFacts}
use Rattle.promises.proofs.Pages.{first-half, second-half, first-other, second-other}
use Rattle.promises.proofs.Slots.{KindFits}
use Rattle.promises.proofs.SoundFacts.{Facts, facts}
use Rattle.promises.proofs.Soundness.{desk-of}
use Rattle.promises.proofs.Kept.{sizes_of, book_of, live_of, stage_of, Lives, Good, lives-from}
use Rattle.promises.proofs.Replies.{refused-not, accepted-by}
use Rattle.promises.proofs.LogSteps.{keep-facts, stored-long, stored-slots}
use Rattle.promises.proofs.StoredBlocks.{none-stored, one-stored}

pub part-front-is : (x : List ℕ) → part x 0 512 ≡ take 512 x
unfolding part
part-front-is x = refl

pub part-back-is : (x : List ℕ) → length x ≡ 1024 → part x 512 512 ≡ drop 512 x
unfolding part
part-back-is x h = take_all 512 (drop 512 x) (omega (arith, length-drop 512 x))

module _ (z : Sizes) (range : Ranged z) (w : World) (b : Book) {history : List LogBlock} (gd : Good z w b history) where
  abbrev s : State
  s = w.state

  abbrev k₀ : Live
  k₀ = live_of s w.frames w.staging

  abbrev slots₀ : List Slot
  slots₀ = slots_of z.slots z.pages w.log

  abbrev ledger₀ : ledger.Book
  ledger₀ = book_of gd.pages b

  abbrev at₀ : Machine
  at₀ = record { history = history; home = gd.home; live = up k₀ }

  -- what an accepted Clean step starts from
  pub record Ready (q : ℕ) (e : DirtyPage) : Type 0 where
    pub lives : Lives z w b history gd.home gd.pages
    pub fact : Facts s w.frames
    pub below : q < z.pages
    pub fits : q * 1024 + 1024 ≤ length w.home
    pub long : length e.bytes ≡ 1024
    pub runs : Runs (sizes_of z) gd.home ledger₀ history (length history + 1) k₀

  ready : (q : ℕ) (e : DirtyPage) → look_up q (dirty_of s w.frames) ≡ at e → sound s ≡ true → Ready q e
  ready q e f so =
      let l : Lives z w b history gd.home gd.pages = gd.live so in
      let r = l.runs in
      let h : q < z.pages = look_up-page z.pages q e (dirty_of s w.frames) f r.pages in
      let fr : e.bytes ≡ gd.pages q = frame_right _ _ e _ (subst (λ (x : Found). Sees (gd.home q) x (view history q).page) f (r.alive.sees q)) (gd.kept.disk.right q) in
      record {
        lives = l;
        fact = facts s w.frames so;
        below = h;
        fits = omega (arith, gd.home_long);
        long = ap length fr ∙ gd.kept.disk.wide q;
        runs = subst (λ (i : ℕ). Runs (sizes_of z) gd.home ledger₀ history i k₀) r.next r;
      }

  -- ---- half a page is stored
  half-good : (q : ℕ) (e : DirtyPage) (r : Ready q e) (home' : ℕ → List ℕ) (bytes : List ℕ) (c : Cleaning) (t : State) → t.copy ≡ false
      → Disk history home' gd.pages b.m
      → Alive history home' (record { ticket = s.ticket; queue = queue_of s w.staging; count = s.stored; dirty_pages = dirty_of s w.frames; cleaning = stage_of c }) ledger₀
      → length bytes ≡ length w.home → ((p : ℕ) → p < z.pages → home' p ≡ page_at bytes p)
      → (contents_of t w.staging ≡ with_cleaning (contents_of s w.staging) c) → ((p : ℕ) → look_up p (dirty_of t w.frames) ≡ look_up p (dirty_of s w.frames))
      → Good z (record { state = t; log = w.log; home = bytes; frames = w.frames; staging = w.staging }) b history
  half-good q e r home' bytes c t dk d a ln hi se dy =
      let l = r.lives in
      let k = kept_half (sizes_of z) slots₀ gd.home ledger₀ history k₀ (omega arith) gd.kept r.runs home' (stage_of c) d a in
      record {
        home = home';
        pages = gd.pages;
        kept = k.0;
        log_long = gd.log_long;
        home_long = ln ∙ gd.home_long;
        home_is = hi;
        pages_are = gd.pages_are;
        desk = dk;
        live = λ y. lives-from z (record { state = t; log = w.log; home = bytes; frames = w.frames; staging = w.staging }) b history home' gd.pages _
            (record { ticket = s.ticket; queue = queue_of s w.staging; count = s.stored; dirty_pages = dirty_of s w.frames; cleaning = stage_of c }) (length history + 1)
            (record { page_count = l.page_count; slot_count = l.slot_count; frame_count = l.frame_count; next = l.runs.next; ticket = refl; queue = refl; stored = refl; cleaning = refl; list = l.list })
            y se dy l.list_fits l.queue_fits k.1;
      }

  front-good : (q : ℕ) (e : DirtyPage) → look_up q (dirty_of s w.frames) ≡ at e → sound s ≡ true → (t : State) → t.copy ≡ false
      → (contents_of t w.staging ≡ with_cleaning (contents_of s w.staging) (Second q)) → ((p : ℕ) → look_up p (dirty_of t w.frames) ≡ look_up p (dirty_of s w.frames))
      → Good z (record { state = t; log = w.log; home = with_first_half w.home q (part e.bytes 0 512); frames = w.frames; staging = w.staging }) b history
  unfolding half_stored
  front-good q e f so t dk se dy =
      let r : Ready q e = ready q e f so in
      let x : List ℕ = take 512 e.bytes ++ drop 512 (gd.home q) in
      let i = invariant-front at₀ k₀ ledger₀ q e gd.kept.disk r.runs.alive f in
      let ln : length (part e.bytes 0 512) ≡ 512 = ap length (part-front-is e.bytes) ∙ length-take 512 e.bytes ∙ omega (arith, r.long) in
      half-good q e r (set_page q x gd.home) (with_first_half w.home q (part e.bytes 0 512)) (Second q) t dk i.disk i.lives
      (length-splice w.home (q * 1024) 512 (part e.bytes 0 512) (omega (arith, r.fits)) ln)
      (λ p h. by-eq p q
      (λ y. rw y (same-page q x gd.home ∙ sym (first-half w.home q r.fits (part e.bytes 0 512) ln ∙ rw (part-front-is e.bytes, ← (gd.home_is q r.below)) refl)))
      (λ n. other-page p q x gd.home n ∙ gd.home_is p h ∙ sym (first-other w.home q r.fits (part e.bytes 0 512) ln p n)))
      se dy

  back-good : (q : ℕ) (e : DirtyPage) → look_up q (dirty_of s w.frames) ≡ at e → sound s ≡ true → s.cleaning ≡ Second q → (t : State) → t.copy ≡ false
      → (contents_of t w.staging ≡ with_cleaning (contents_of s w.staging) (Third q)) → ((p : ℕ) → look_up p (dirty_of t w.frames) ≡ look_up p (dirty_of s w.frames))
      → Good z (record { state = t; log = w.log; home = with_second_half w.home q (part e.bytes 512 512); frames = w.frames; staging = w.staging }) b history
  unfolding half_stored
  back-good q e f so c t dk se dy =
      let r : Ready q e = ready q e f so in
      let x : List ℕ = take 512 (gd.home q) ++ drop 512 e.bytes in
      let sg : Stage gd.home gd.pages (second q) = subst (λ (y : Cleaning). Stage gd.home gd.pages (stage_of y)) c r.runs.alive.stage in
      let i = invariant-back at₀ k₀ ledger₀ q e gd.kept.disk r.runs.alive f sg in
      let ln : length (part e.bytes 512 512) ≡ 512 = ap length (part-back-is e.bytes r.long) ∙ length-drop 512 e.bytes ∙ omega (arith, r.long) in
      half-good q e r (set_page q x gd.home) (with_second_half w.home q (part e.bytes 512 512)) (Third q) t dk i.disk i.lives
      (length-splice w.home (q * 1024 + 512) 512 (part e.bytes 512 512) (omega (arith, r.fits)) ln)
      (λ p h. by-eq p q
      (λ y. rw y (same-page q x gd.home ∙ sym (second-half w.home q r.fits (part e.bytes 512 512) ln ∙ rw (part-back-is e.bytes r.long, ← (gd.home_is q r.below)) refl)))
      (λ n. other-page p q x gd.home n ∙ gd.home_is p h ∙ sym (second-other w.home q r.fits (part e.bytes 512 512) ln p n)))
      se dy

  -- ---- a clean block is stored
  abbrev clean_at : ℕ → ℕ → LogBlock
  clean_at q n = record { kind = clean q; keep_from = keep_from_of n (without q (dirty_of s w.frames)); ticket = s.ticket }

  abbrev clean_live : ℕ → Live
  clean_live q = record { ticket = s.ticket; queue = queue_of s w.staging; count = s.stored; dirty_pages = without q (dirty_of s w.frames); cleaning = idle }

  abbrev CleanKept : ℕ → ℕ → Type 0
  CleanKept q n = Kept (sizes_of z) (store z.slots n (clean_at q n) slots₀) gd.home ledger₀ (history ++ (clean_at q n ∷ []))
      × Runs (sizes_of z) gd.home ledger₀ (history ++ (clean_at q n ∷ [])) (n + 1) (clean_live q)

  clean-kept : (q : ℕ) (e : DirtyPage) → look_up q (dirty_of s w.frames) ≡ at e → Ready q e → s.cleaning ≡ Third q → s.stored ≡ 0 → CleanKept q s.next
  clean-kept q e f r c c0 =
      let nx : s.next ≡ length history + 1 = r.lives.runs.next in
      let sg : Stage gd.home gd.pages (third q) = subst (λ (y : Cleaning). Stage gd.home gd.pages (stage_of y)) c r.runs.alive.stage in
      let o : keep_from_of (s.next - s.stored) (dirty_of s w.frames) ≡ keep_from_of (length history + 1) (dirty_of s w.frames) = ap (λ (i : ℕ). keep_from_of i (dirty_of s w.frames)) (omega arith) in
      let n1 : s.slots ≡ z.slots = r.lives.slot_count in
      let k = kept-clean (sizes_of z) slots₀ gd.home ledger₀ history k₀ (omega arith) gd.kept r.runs q e f sg c0 (omega (arith, r.fact.slots, o, n1)) in
      subst (CleanKept q) (sym nx) (k.0, subst (λ (i : ℕ). Runs (sizes_of z) gd.home ledger₀ (history ++ (clean_at q (length history + 1) ∷ [])) i (clean_live q)) (omega arith) k.1)

  clean-good : (q : ℕ) (e : DirtyPage) → look_up q (dirty_of s w.frames) ≡ at e → sound s ≡ true → s.cleaning ≡ Third q → s.stored ≡ 0 → s.next < 2 ^ 48 → (t : State) → t.copy ≡ false
      → contents_of t w.staging ≡ clean_stored (contents_of s w.staging) → ((p : ℕ) → look_up p (dirty_of t w.frames) ≡ look_up p (without q (dirty_of s w.frames)))
      → Good z (record { state = t; log = stored s.slots w.log s.next (clean_block s q (dirty_of s w.frames)); home = w.home; frames = w.frames; staging = w.staging }) b (history ++ (clean_at q s.next ∷ []))
  clean-good q e f so c c0 bl t dk se dy =
      let r : Ready q e = ready q e f so in
      let l = r.lives in
      let nx : s.next ≡ length history + 1 = l.runs.next in
      let x : LogBlock = clean_at q s.next in
      let k : CleanKept q s.next = clean-kept q e f r c c0 in
      let kf = keep-facts (sizes_of z) _ gd.home _ history x k.0 in
      let tk : s.ticket < s.next - s.stored = r.fact.ticket in
      let cm : NumberFacts z.slots s.next x.keep_from x.ticket = record { one = omega arith; most = bl; keep_one = kf.0; keep-most = omega (arith, kf.1); near = omega (arith, kf.2); ticket-below = omega arith } in
      let fk : KindFits z.pages x.ticket x.kind = r.below in
      subst (λ (n : ℕ). Good z (record { state = t; log = stored n w.log s.next x; home = w.home; frames = w.frames; staging = w.staging }) b (history ++ (x ∷ []))) (sym l.slot_count)
      (record {
        home = gd.home;
        pages = gd.pages;
        kept = subst (λ (y : List Slot). Kept (sizes_of z) y gd.home ledger₀ (history ++ (x ∷ []))) (sym (stored-slots z range w.log gd.log_long s.next x fk cm)) k.0;
        log_long = stored-long z range w.log gd.log_long s.next x fk;
        home_long = gd.home_long;
        home_is = gd.home_is;
        pages_are = gd.pages_are;
        desk = dk;
        live = λ y. lives-from z (record { state = t; log = stored z.slots w.log s.next x; home = w.home; frames = w.frames; staging = w.staging }) b (history ++ (x ∷ [])) gd.home gd.pages _ (clean_live q) (s.next + 1)
            (record { page_count = l.page_count; slot_count = l.slot_count; frame_count = l.frame_count; next = refl; ticket = refl; queue = refl; stored = refl; cleaning = refl; list = l.list })
            y se dy l.list_fits l.queue_fits k.1;
      })

  -- ---- CLEAN STEP
  abbrev leaves : Cleaning → ℕ → DirtyPage → State → World
  leaves c q e t = record {
    state = t;
    log = (clean_store c s w.log w.home (dirty_of s w.frames) (contents_of s []) q e).log;
    home = (clean_store c s w.log w.home (dirty_of s w.frames) (contents_of s []) q e).home;
    frames = w.frames;
    staging = w.staging;
  }

  pub do-clean : (a : Reply) (w' : World) → events.Cleaning w a w' → Good z w' b (history ++ stored_in z clean_step (accepts a) w w')
  unfolding clean_refusal clean_store
  do-clean a w' st = by-eq (clean_refusal_of s w.log w.home w.frames) 0
      (λ e.
      let c2 = pick-zero (sound s) _ 2 (omega arith) e in
      let c1 = pick-zero (areas_fit s (length w.log) (length w.home) (length w.frames)) _ 1 (omega arith) c2.1 in
      let c10 = pick_other (eqb (dirty_count s) 0) _ 10 (omega arith) c1.1 in
      let p = st.promise.accepted e in
      rw (st.reply_is, accepted-by _ _ _ st.promise.answer_is e, st.after, p.log_is, p.home_is) (go s.cleaning refl c2.0 c10.1 p.page p.entry p.found p.takes st.result.state (desk-of _ p.stays_sound) (p.contents_are w.staging) p.dirty_are))
      (λ n. let k = st.promise.refused n in
      rw (st.reply_is, st.after, refused-not _ _ _ st.promise.answer_is n, k.1, k.2)
      (subst (λ (x : State). Good z (record { state = x; log = w.log; home = w.home; frames = w.frames; staging = w.staging }) b (history ++ [])) (sym k.0) (none-stored gd)))
    where
      go : (c : Cleaning) → s.cleaning ≡ c → sound s ≡ true → third_refusal s c ≡ 0 → (q : ℕ) (e : DirtyPage) → look_up q (dirty_of s w.frames) ≡ at e → Takes c (dirty_of s w.frames) q e → (t : State) → t.copy ≡ false
          → contents_of t w.staging ≡ (clean_store c s w.log w.home (dirty_of s w.frames) (contents_of s w.staging) q e).contents
          → ((p : ℕ) → look_up p (dirty_of t w.frames) ≡ look_up p (clean_store c s w.log w.home (dirty_of s w.frames) (contents_of s []) q e).dirty_pages)
          → Good z (leaves c q e t) b (history ++ cond (stores_block c) (new_block z w (leaves c q e t)) [])
      go Idle ec so h q e f tk t dk se dy = none-stored (front-good q e f so t dk se dy)
      go (First p) ec so h q e f tk t dk se dy = none-stored (front-good q e f so t dk se dy)
      go (Second p) ec so h q e f tk t dk se dy = none-stored (back-good q e f so (ec ∙ ap Second (sym tk)) t dk se dy)
      go (Third p) ec so h q e f tk t dk se dy =
          let a = pick-zero (eqb s.stored 0) _ 11 (omega arith) h in
          let c = pick_other (eqb (sequences_taken s) (2 ^ 48)) _ 6 (omega arith) a.1 in
          let ne : sequences_taken s ≡ 2 ^ 48 → ⊥ = eqb-false _ _ c.0 in
          let most : sequences_taken s ≤ 2 ^ 48 = (facts s w.frames so).sequences in
          let lt : sequences_taken s < 2 ^ 48 = omega arith in
          one-stored z range w (leaves (Third p) q e t) b history (clean_at q s.next) (gd.live so).runs.next
          (clean-good q e f so (ec ∙ ap Third (sym tk)) (eqb-true _ _ a.0) (omega arith) t dk se dy)
