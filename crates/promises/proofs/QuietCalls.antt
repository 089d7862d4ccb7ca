-- Begin, Describe, End, Settled and Read keep the invariant and answer what the book says.
-- Assumes nothing.
use mathlib.Core.Path.{◌≡◌, refl, sym, ap, ◌∙◌, subst}
use mathlib.Core.Bool.{true, ◌&&◌}
use Prim.Native.Nat.{ℕ, ◌+◌, ◌*◌, ◌<◌}
use mathlib.Core.List.{List, [], ◌∷◌, ◌++◌}
use native.Mathlib.Omega.{arith}
use lib.ListN.{length, length-append}
use lib.Dec.{eqb, leb, ltb}
use borrow.Author.Tests.{leb-true, ltb-true, eqb-false}
use Rattle.area.proofs.Laws.{by-eq}
use Rattle.promises.specs.declared.State.{State}
use Rattle.promises.specs.Updates.{Update}
use Rattle.promises.specs.Blocks.{LogBlock}
use Rattle.promises.specs.Contents.{queue_of}
use Rattle.promises.specs.Sound.{sound, readable}
use Rattle.block.specs.Legal.{legal_place}
use Rattle.promises.specs.Begin.{begin_refusal}
use Rattle.promises.specs.Describe.{describe_refusal}
use Rattle.promises.specs.End.{end_refusal}
use Rattle.promises.specs.Settled.{settled_refusal}
use Rattle.promises.specs.Read.{read_refusal, read_refusal_of}
use Rattle.promises.proofs.Changes.{pick-zero, pick_other, describe-passed}
use Rattle.promises.proofs.History.Machine.{Live}
use Rattle.promises.proofs.History.Sizes.{enqueue}
use Rattle.promises.proofs.History.Recovered.{alive-end, shown-right}
use Rattle.promises.proofs.History.Whole.{Runs, same-book, places-append}
use Rattle.promises.specs.Book.{Book, begun, described, ended, ticket_given}
use Rattle.promises.specs.Events.{Sizes, World, with_state, begin, describe, ending, Beginning, Describing, Ending, Reading, Settling}
use Rattle.promises.specs.Answers.{Reply, gives, shows, says, accepts}
use Rattle.promises.specs.Claim.{entered}
use Rattle.promises.proofs.Replies.{refused-not, accepted-by, no-accept, read-accepted-reply, read-refused-reply}
use Rattle.promises.proofs.SoundFacts.{and_left, and_right, Facts, facts, length-list, length-queue}
use Rattle.promises.proofs.Soundness.{desk-of, readable-desk}
use Rattle.promises.proofs.Kept.{sizes_of, book_of, live_of, Fit, Lives, Good, fits-legal, fits-updates, fits_more, all_more, lives-from}

-- ---- Begin
module _ (z : Sizes) (w : World) (b : Book) {history : List LogBlock} (g : Good z w b history) where
  abbrev s : State
  s = w.state

  pub do-begin : (u : ℕ) (a : Reply) (w' : World) → Beginning w u a w' → Good z w' (entered (begin u) (accepts a) b) history
  unfolding begin_refusal
  do-begin u a w' st = rw (st.reply_is, st.after) (by-eq (begin_refusal s u) 0
      (λ e.
      let so : sound s ≡ true = (pick-zero (sound s) _ 2 (omega arith) e).0 in
      let l : Lives z w b history g.home g.pages = g.live so in
      let lv = st.promise.leaves e w.staging in
      rw (accepted-by _ _ _ st.promise.answer_is e) (record {
        home = g.home;
        pages = g.pages;
        kept = g.kept;
        log_long = g.log_long;
        home_long = g.home_long;
        home_is = g.home_is;
        pages_are = g.pages_are;
        desk = desk-of _ lv.stays_sound;
        live = λ x. lives-from z (with_state w st.result.state) (begun b) history g.home g.pages _ (live_of s w.frames w.staging) s.next
            (record { page_count = l.page_count; slot_count = l.slot_count; frame_count = l.frame_count; next = refl; ticket = refl; queue = refl; stored = refl; cleaning = refl; list = refl })
            x lv.contents_are (lv.dirty_are w.frames) tt l.queue_fits l.runs;
      }))
      (λ n. rw (refused-not _ _ _ st.promise.answer_is n) (subst (λ (x : State). Good z (with_state w x) b history) (sym (st.promise.refused n)) g)))

  -- ---- Describe
  fit_of : (P page offset : ℕ) (bytes : List ℕ) → legal_place P page offset (length bytes) ≡ true → Fit P (record { page = page; offset = offset; bytes = bytes })
  fit_of P page offset bytes e =
      let n = length bytes in
      let c = and_left (leb (offset + n) 1024) e in
      let d = and_left (leb n 472) c in
      (ltb-true _ _ (and_left (leb 1 n) d), leb-true _ _ (and_right (ltb page P) d), leb-true _ _ (and_right (ltb page P && leb 1 n) c), leb-true _ _ (and_right (ltb page P && leb 1 n && leb n 472) e))

  pub do-describe : (u : Update) (a : Reply) (w' : World) → Describing w u a w' → Good z w' (entered (describe u) (accepts a) b) history
  do-describe u a w' st = rw (st.reply_is, st.after) (by-eq (describe_refusal s (length w.staging) u.page u.offset (length u.bytes)) 0
      (λ e.
      let r = describe-passed s (length w.staging) u.page u.offset (length u.bytes) e in
      let l : Lives z w b history g.home g.pages = g.live r.0 in
      let ft : Fit z.pages u = subst (λ (p : ℕ). Fit p u) l.page_count (fit_of s.pages u.page u.offset u.bytes r.3) in
      let step = st.promise.accepted e in
      let lv = step.leaves in
      rw (accepted-by _ _ _ st.promise.answer_is e) (record {
        home = g.home;
        pages = g.pages;
        kept = g.kept;
        log_long = g.log_long;
        home_long = g.home_long;
        home_is = g.home_is;
        pages_are = g.pages_are;
        desk = desk-of _ lv.stays_sound;
        live = λ x. lives-from z (record { state = st.result.state; log = w.log; home = w.home; frames = w.frames; staging = st.staging' }) (described u b) history g.home g.pages _ (live_of s w.frames w.staging) s.next
            (record { page_count = l.page_count; slot_count = l.slot_count; frame_count = l.frame_count; next = refl; ticket = refl; queue = refl; stored = refl; cleaning = refl; list = ap (λ (x : List Update). x ++ (u ∷ [])) l.list })
            x lv.contents_are (lv.dirty_are w.frames) (fits_more z.pages b.list u l.list_fits ft) l.queue_fits l.runs;
      }))
      (λ n. let k = st.promise.refused n in
      rw (refused-not _ _ _ st.promise.answer_is n, k.1)
      (subst (λ (x : State). Good z (with_state w x) b history) (sym k.0) g)))

  -- ---- End
  pub do-ending : (a : Reply) (w' : World) → Ending w a w' → Good z w' (entered ending (accepts a) b) history
  unfolding end_refusal
  do-ending a w' st = rw (st.reply_is, st.after) (by-eq (end_refusal s) 0
      (λ e.
      let c2 = pick-zero (sound s) _ 2 (omega arith) e in
      let c4 = pick_other (eqb s.reserved 0) _ 4 (omega arith) c2.1 in
      let c10 = pick_other (eqb s.described 0) _ 10 (omega arith) c4.1 in
      let nz : s.described ≡ 0 → ⊥ = eqb-false _ _ c10.0 in
      let l : Lives z w b history g.home g.pages = g.live c2.0 in
      let f : Facts s w.frames = facts s w.frames c2.0 in
      let ln : length b.list ≡ s.described = ap length (sym l.list) ∙ length-list s w.staging f.staged in
      let lv = st.promise.leaves e w.staging in
      let k : Live = live_of s w.frames w.staging in
      let al = alive-end history g.home k (book_of g.pages b) b.list (omega arith, fits-legal z.pages b.list l.list_fits) l.runs.alive in
      let r : Runs (sizes_of z) g.home (book_of g.pages (ended b)) history s.next (enqueue k b.list) =
      record { next = l.runs.next; alive = al; pages = l.runs.pages; places = places-append z.pages (queue_of s w.staging) b.list l.runs.places (fits-updates z.pages b.list l.list_fits) } in
      rw (accepted-by _ _ _ st.promise.answer_is e) (record {
        home = g.home;
        pages = g.pages;
        kept = same-book refl refl g.kept;
        log_long = g.log_long;
        home_long = g.home_long;
        home_is = g.home_is;
        pages_are = g.pages_are;
        desk = desk-of _ lv.stays_sound;
        live = λ x. lives-from z (with_state w st.result.state) (ended b) history g.home g.pages _ (enqueue k b.list) s.next
            (record {
              page_count = l.page_count;
              slot_count = l.slot_count;
              frame_count = l.frame_count;
              next = refl;
              ticket = refl;
              queue = ap (λ (y : List Update). queue_of s w.staging ++ (y ∷ [])) l.list;
              stored = refl;
              cleaning = refl;
              list = refl;
            })
            x lv.contents_are (lv.dirty_are w.frames) tt (all_more z.pages b.queue b.list l.queue_fits l.list_fits (omega arith)) r;
      }))
      (λ n. rw (refused-not _ _ _ st.promise.answer_is n) (subst (λ (x : State). Good z (with_state w x) b history) (sym (st.promise.refused n)) g)))

  pub answer-ending : (a : Reply) (w' : World) → Ending w a w' → accepts a ≡ true → a ≡ gives (ticket_given b)
  unfolding end_refusal
  answer-ending a w' st ok = by-eq (end_refusal s) 0
      (λ e.
      let c2 = pick-zero (sound s) _ 2 (omega arith) e in
      let l : Lives z w b history g.home g.pages = g.live c2.0 in
      let f : Facts s w.frames = facts s w.frames c2.0 in
      let q : length b.queue ≡ s.queued = ap length (sym l.runs.alive.queue) ∙ length-queue s w.staging f.queued in
      let t : s.ticket ≡ b.m = l.runs.alive.ticket in
      st.reply_is ∙ accepted-by _ _ _ st.promise.answer_is e ∙ ap gives (omega (arith, length-append b.queue (b.list ∷ []))))
      (λ n. no-accept (sym (refused-not _ _ _ st.promise.answer_is n) ∙ ap accepts (sym st.reply_is) ∙ ok))

  -- ---- Settled
  pub answer-settling : (t : ℕ) (a : Reply) (w' : World) → Settling w t a w' → accepts a ≡ true → a ≡ says (leb t b.m)
  unfolding settled_refusal
  answer-settling t a w' st ok = by-eq (settled_refusal s t) 0
      (λ e.
      let c2 = pick-zero (readable s) _ 2 (omega arith) e in
      let l : Lives z w b history g.home g.pages = g.live (sym (readable-desk s g.desk) ∙ c2.0) in
      st.reply_is ∙ accepted-by _ _ _ st.promise.answer_is e ∙ ap (λ (n : ℕ). says (leb t n)) l.runs.alive.ticket)
      (λ n. no-accept (sym (refused-not _ _ _ st.promise.answer_is n) ∙ ap accepts (sym st.reply_is) ∙ ok))

  -- ---- Read
  pub answer-reading : (p : ℕ) (a : Reply) (w' : World) → Reading w p a w' → accepts a ≡ true → a ≡ shows (b.pages p)
  unfolding read_refusal
  answer-reading p a w' st ok = by-eq (read_refusal_of s st.home.now st.frames.now p) 0
      (λ e.
      let c2 = pick-zero (readable s) _ 2 (omega arith) e in
      let c1 = pick-zero (eqb (length st.home.now) (s.pages * 1024) && eqb (length st.frames.now) (s.frames * 1024)) _ 1 (omega arith) c2.1 in
      let c3 = pick-zero (ltb p s.pages) _ 3 (omega arith) c1.1 in
      let l : Lives z w b history g.home g.pages = g.live (sym (readable-desk s g.desk) ∙ c2.0) in
      let h : p < z.pages = rw (← l.page_count) (ltb-true _ _ c3.0) in
      let r = shown-right history g.home (live_of s w.frames w.staging) (book_of g.pages b) g.kept.disk l.runs.alive p in
      let bytes : st.result.now ≡ b.pages p = st.promise.bytes_are e ∙ rw (st.home_is, st.frames_are, ← (g.home_is p h)) (r ∙ g.pages_are p h) in
      st.reply_is ∙ read-accepted-reply st.number st.result.now (st.promise.refusal ∙ e) ∙ ap shows bytes)
      (λ n. no-accept (sym (ap accepts (read-refused-reply st.number st.result.now (λ q. n (sym st.promise.refusal ∙ q)))) ∙ ap accepts (sym st.reply_is) ∙ ok))
