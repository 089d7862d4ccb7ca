-- A copy's opening, Read and Settled: the opening is accepted, reports m and keeps the invariant; what is read is the book's.
-- Assumes nothing.
use mathlib.Core.Path.{◌≡◌, refl, sym, ap, ◌∙◌, subst}
use mathlib.Core.Bool.{true, ◌&&◌}
use Prim.Native.Nat.{ℕ, ◌+◌, ◌*◌, ◌/◌, ◌<◌}
use mathlib.Core.List.{List, []}
use native.Mathlib.Omega.{arith}
use lib.ListN.{length}
use lib.Dec.{eqb, leb, ltb}
use borrow.Author.Tests.{le-leb, eq-eqb, lt-ltb, ltb-true}
use Rattle.promises.specs.declared.State.{State}
use Rattle.promises.specs.Updates.{redo}
use Rattle.promises.specs.Blocks.{LogBlock, Slot, slots_of}
use Rattle.promises.specs.DirtyPages.{Found, look_up, shown}
use Rattle.promises.specs.Walk.{Walk, stands, finding}
use Rattle.promises.specs.Contents.{dirty_of}
use Rattle.promises.specs.Sound.{readable}
use Rattle.promises.specs.Feed.{span_fits}
use Rattle.promises.specs.CopyOpen.{kept_ending, copy_finding, CopyStands}
use Rattle.promises.specs.Read.{read_refusal, read_refusal_of}
use Rattle.promises.specs.Settled.{settled_refusal}
use Rattle.promises.specs.Book.{Book}
use Rattle.promises.specs.Events.{Sizes, World, Reading, Settling}
use Rattle.promises.specs.Copy.{CopyBook, made_from, CopyOpening}
use Rattle.promises.proofs.History.Views.{Page, updates_of}
use Rattle.promises.proofs.History.Sees.{Sees, clear, held, by-eq}
use Rattle.promises.proofs.History.Invariant.{view, Stage}
use Rattle.promises.proofs.History.Reopened.{vw, reports}
use Rattle.promises.proofs.History.Resumed.{resumed, spans}
use Rattle.promises.proofs.History.FedTurn.{follows-as}
use Rattle.promises.proofs.Changes.{pick-zero}
use Rattle.promises.proofs.Ranges.{Ranged}
use Rattle.promises.proofs.Replies.{no-accept, accepted-by, refused-not, read-accepted-reply, read-refused-reply}
use Rattle.promises.proofs.Soundness.{all-zero-unsound}
use Rattle.promises.proofs.Kept.{sizes_of, stage_of, Good}
use Rattle.promises.proofs.Openings.{finding₀}
use Rattle.promises.proofs.CopyFacts.{readable-copy, zero-no-copy}
use Rattle.promises.proofs.Taken.{half-view}
use Rattle.promises.proofs.Copies.{ledger_of, CopyGood, CopyGoodIn}
use Rattle.promises.specs.States.{all_zero_state}
use Rattle.promises.specs.Answers.{Reply, settles, shows, says, accepts}

-- ---- a copy and the desk that it was made from hold the same
abbrev pub desk_book : CopyBook → Book
desk_book b = record { pages = b.pages; m = b.m; list = []; queue = []; count = 0 }

-- log and home alone, as a desk's
as-desk : (z : Sizes) (s : State) (log home frames : List ℕ) (b : CopyBook) {history : List LogBlock} → CopyGood z s log home frames b history
    → Good z (record { state = all_zero_state; log = log; home = home; frames = frames; staging = [] }) (desk_book b) history
as-desk z s log home frames b g = record {
  home = g.home_pages;
  pages = g.pages;
  kept = g.kept;
  log_long = g.log_long;
  home_long = g.home_long;
  home_is = g.home_is;
  pages_are = g.pages_are;
  live = λ e. no-accept (sym all-zero-unsound ∙ e);
  desk = refl;
}

-- MADE FROM OUR LOG AND HOME
pub made-good : (z : Sizes) (w : World) (b : Book) {history : List LogBlock} (frames : List ℕ) → Good z w b history → CopyGood z all_zero_state w.log w.home frames (made_from b history) history
made-good z w b {history} frames g =
    let k = g.kept in
    record {
      home_pages = g.home;
      pages = g.pages;
      kept = record { holds = k.holds; based = k.based; half = k.half; formed = k.formed; ruled = k.ruled; total = k.total; roomy = k.roomy; disk = k.disk };
      log_long = g.log_long;
      home_long = g.home_long;
      home_is = g.home_is;
      pages_are = g.pages_are;
      half = half-view history 0;
      live = λ e. no-accept (sym zero-no-copy ∙ e);
      copy = λ e. no-accept (sym all-zero-unsound ∙ e);
    }

-- a cut leaves log and home
pub copy_falls : (z : Sizes) (s : State) (log home frames : List ℕ) (b : CopyBook) {history : List LogBlock} (frames' : List ℕ) → CopyGood z s log home frames b history
    → CopyGood z all_zero_state log home frames' b history
copy_falls z s log home frames b frames' g = record {
  home_pages = g.home_pages;
  pages = g.pages;
  kept = g.kept;
  log_long = g.log_long;
  home_long = g.home_long;
  home_is = g.home_is;
  pages_are = g.pages_are;
  half = g.half;
  live = λ e. no-accept (sym zero-no-copy ∙ e);
  copy = λ e. no-accept (sym all-zero-unsound ∙ e);
}

-- what shows of a page
sees-shown : (h x : List ℕ) (f : Found) (c : Page) → Sees h f c → redo (updates_of c) h ≡ x → shown f h ≡ x
unfolding redo
sees-shown h x f c clear e = e
sees-shown h x f c (held q) e = q ∙ e

module _ (z : Sizes) (range : Ranged z) (w : World) (b : CopyBook) {history : List LogBlock} (g : CopyGoodIn z w b history) where
  abbrev s : State
  s = w.state

  abbrev slots₀ : List Slot
  slots₀ = slots_of z.slots z.pages w.log

  big : 0 < z.slots
  big = omega arith

  -- ---- Read
  pub copy-reading : (p : ℕ) (a : Reply) (w' : World) → Reading w p a w' → accepts a ≡ true → a ≡ shows (b.pages p)
  unfolding read_refusal
  copy-reading p a w' st ok = by-eq (read_refusal_of s st.home.now st.frames.now p) 0
      (λ e.
      let c2 = pick-zero (readable s) _ 2 (omega arith) e in
      let c1 = pick-zero (eqb (length st.home.now) (s.pages * 1024) && eqb (length st.frames.now) (s.frames * 1024)) _ 1 (omega arith) c2.1 in
      let c3 = pick-zero (ltb p s.pages) _ 3 (omega arith) c1.1 in
      let l = g.live (g.copy c2.0) in
      let h : p < z.pages = rw (← l.page_count) (ltb-true _ _ c3.0) in
      let r : shown (look_up p (dirty_of s w.frames)) (g.home_pages p) ≡ g.pages p = sees-shown (g.home_pages p) (g.pages p) (look_up p (dirty_of s w.frames)) (view history p).page (l.follows.tells p).sees (g.kept.disk.right p) in
      let bytes : st.result.now ≡ b.pages p = st.promise.bytes_are e ∙ rw (st.home_is, st.frames_are, ← (g.home_is p h)) (r ∙ g.pages_are p h) in
      st.reply_is ∙ read-accepted-reply st.number st.result.now (st.promise.refusal ∙ e) ∙ ap shows bytes)
      (λ n. no-accept (sym (ap accepts (read-refused-reply st.number st.result.now (λ q. n (sym st.promise.refusal ∙ q)))) ∙ ap accepts (sym st.reply_is) ∙ ok))

  -- ---- Settled
  pub copy-asking : (t : ℕ) (a : Reply) (w' : World) → Settling w t a w' → accepts a ≡ true → a ≡ says (leb t b.m)
  unfolding settled_refusal
  copy-asking t a w' st ok = by-eq (settled_refusal s t) 0
      (λ e.
      let c2 = pick-zero (readable s) _ 2 (omega arith) e in
      let l = g.live (g.copy c2.0) in
      st.reply_is ∙ accepted-by _ _ _ st.promise.answer_is e ∙ ap (λ (n : ℕ). says (leb t n)) l.follows.ticket)
      (λ n. no-accept (sym (refused-not _ _ _ st.promise.answer_is n) ∙ ap accepts (sym st.reply_is) ∙ ok))

  -- ---- the opening
  module _ (frames : List ℕ) (ef : length frames ≡ z.frames * 1024) where
    desk : Good z (record { state = all_zero_state; log = w.log; home = w.home; frames = w.frames; staging = [] }) (desk_book b) history
    desk = as-desk z s w.log w.home w.frames b g

    abbrev next : ℕ
    next = length history + 1

    abbrev walked : Walk
    walked = vw (sizes_of z) slots₀ g.home_pages (ledger_of g.pages b.m) history big g.kept

    finding₁ : finding z.slots z.pages z.frames w.log w.home ≡ stands next walked
    unfolding desk as-desk
    finding₁ = finding₀ z range (record { state = all_zero_state; log = w.log; home = w.home; frames = w.frames; staging = [] }) (desk_book b) desk

    span₁ : span_fits z.slots next walked ≡ true
    span₁ = le-leb _ _ (spans (sizes_of z) slots₀ g.home_pages (ledger_of g.pages b.m) history big g.kept)

    ended₁ : kept_ending z.slots (finding z.slots z.pages z.frames w.log w.home) ≡ stands next walked
    ended₁ = ap (kept_ending z.slots) finding₁ ∙ simp span₁

    -- IT FINDS THE HISTORY, ITS HALF GROUP TOO
    found : copy_finding w.log w.home (length frames) ≡ stands next walked
    unfolding copy_finding
    found =
        let l1 : length w.log / 512 ≡ z.slots = omega (arith, g.log_long) in
        let l2 : length w.home / 1024 ≡ z.pages = omega (arith, g.home_long) in
        let l3 : length frames / 1024 ≡ z.frames = omega arith in
        rw (l1, l2, l3) (simp (
          eq-eqb (z.slots * 512) (length w.log) (sym g.log_long),
          eq-eqb (z.pages * 1024) (length w.home) (sym g.home_long),
          eq-eqb (z.frames * 1024) (length frames) (sym ef),
          le-leb 8 z.slots range.slots.0,
          le-leb z.slots 1024 range.slots.1,
          le-leb 1 z.pages range.pages.0,
          le-leb z.pages 4096 range.pages.1,
          le-leb 1 z.frames range.frames.0,
          le-leb z.frames 32 range.frames.1,
        ) ended₁)

    module _ (a : Reply) (w' : World) (st : CopyOpening w frames a w') where
      opened : CopyStands next walked w.log w.home frames st.result st.frames'
      opened = st.promise.accepted next walked found

      pub copy-opens : a ≡ settles b.m
      copy-opens = st.reply_is ∙ opened.answer_is ∙ ap settles (reports (sizes_of z) slots₀ g.home_pages (ledger_of g.pages b.m) history big g.kept)

      opened-good : CopyGood z st.result.state w.log w.home st.frames' b history
      opened-good =
          let o = opened in
          let ce = o.state_is in
          let e1 : st.result.state.slots ≡ z.slots = ap (λ (c : State). c.slots) ce ∙ omega (arith, g.log_long) in
          let e2 : st.result.state.pages ≡ z.pages = ap (λ (c : State). c.pages) ce ∙ omega (arith, g.home_long) in
          let e3 : st.result.state.next ≡ length history + 1 = ap (λ (c : State). c.next) ce in
          record {
            home_pages = g.home_pages;
            pages = g.pages;
            kept = g.kept;
            log_long = g.log_long;
            home_long = g.home_long;
            home_is = g.home_is;
            pages_are = g.pages_are;
            half = g.half;
            live = λ y. record {
              page_count = e2;
              slot_count = e1;
              frame_count = ap (λ (c : State). c.frames) ce ∙ omega arith;
              frames_long = o.frames_long ∙ ef;
              next = e3;
              follows = follows-as (sizes_of z) slots₀ g.home_pages (ledger_of g.pages b.m) history walked g.kept (resumed (sizes_of z) slots₀ g.home_pages (ledger_of g.pages b.m) history big g.kept)
                  st.result.state st.frames' o.stays_sound e1 e2 e3 (ap (λ (c : State). c.stored) ce) (ap (λ (c : State). c.ticket) ce) o.dirty_are;
              stage = subst (λ c. Stage g.home_pages g.pages (stage_of c)) (sym (ap (λ (c : State). c.cleaning) ce)) tt;
            };
            copy = λ y. o.stays_sound;
          }

      pub do-copy-open : CopyGoodIn z w' b history
      do-copy-open = rw st.after opened-good

      -- after it every page is shown
      read_number : (p : ℕ) → p < z.pages → read_refusal st.result.state (length w.home) (length st.frames') p ≡ 0
      unfolding read_refusal
      read_number p h =
          let o = opened in
          let e1 : st.result.state.pages ≡ z.pages = ap (λ (c : State). c.pages) o.state_is ∙ omega (arith, g.home_long) in
          let e2 : st.result.state.frames ≡ z.frames = ap (λ (c : State). c.frames) o.state_is ∙ omega arith in
          let l1 : length w.home ≡ st.result.state.pages * 1024 = omega (arith, g.home_long) in
          let l2 : length st.frames' ≡ st.result.state.frames * 1024 = omega (arith, o.frames_long) in
          let l3 : p < st.result.state.pages = omega arith in
          simp (readable-copy st.result.state o.stays_sound, eq-eqb _ _ l1, eq-eqb _ _ l2, lt-ltb _ _ l3)

      pub accepts-read : (p : ℕ) (x : Reply) (w'' : World) → p < z.pages → Reading w' p x w'' → accepts x ≡ true
      accepts-read p x w'' h rd =
          let e : read_refusal_of w'.state w'.home w'.frames p ≡ 0 = rw st.after (read_number p h) in
          let n : rd.number ≡ 0 = rd.promise.refusal ∙ rw (rd.home_is, rd.frames_are) e in
          ap accepts (rd.reply_is ∙ read-accepted-reply rd.number rd.result.now n)
