-- Open is accepted on what a run left, reports m, and keeps the invariant; a refused one is harmless.
-- Assumes nothing.
use mathlib.Core.Path.{◌≡◌, refl, sym, ap, ◌∙◌, subst}
use mathlib.Core.Bool.{true}
use Prim.Native.Nat.{ℕ, zero, suc, ◌+◌, ◌*◌, ◌-◌, ◌<◌}
use mathlib.Core.List.{List, [], ◌∷◌}
use native.Mathlib.Omega.{arith}
use lib.ListN.{length, drop}
use lib.Dec.{leb}
use borrow.Author.Tests.{le-leb, eq-eqb, lt-ltb}
use Rattle.area.proofs.Laws.{and_both}
use Rattle.promises.specs.Areas.{page_at}
use Rattle.promises.specs.Blocks.{Kind, update, commit, clean, LogBlock, Slot, slots_of}
use Rattle.promises.specs.DirtyPages.{DirtyPage, apply_all}
use Rattle.promises.specs.Newest.{newest, keep_of}
use Rattle.promises.specs.Walk.{Walk, believed, start_with, walk_block, in_order, framed, stands, ending, walk_from, walk_gathered, finding}
use Rattle.promises.specs.Contents.{Contents}
use Rattle.promises.specs.Open.{open_finding, OpenStands}
use Rattle.promises.specs.Read.{read_refusal, read_refusal_of}
use Rattle.promises.proofs.Replies.{read-accepted-reply}
use Rattle.promises.proofs.History.Machine.{last_keep, walk}
use Rattle.promises.proofs.History.Views.{no_view}
use Rattle.promises.proofs.History.Stands.{block_stands, all_stand}
use Rattle.promises.proofs.History.Ledger as ledger
use Rattle.promises.proofs.History.Sizes as full
use Rattle.promises.proofs.History.WalkStart.{BeginsAt, commits, is_commit}
use Rattle.promises.proofs.History.Invariant.{view, Keep, empty, from}
use Rattle.promises.proofs.History.Accepted.{Ups, Views, Formed, after, step-updates, formed-append}
use Rattle.promises.proofs.History.Recovered.{rest}
use Rattle.promises.proofs.History.HalfEnd.{begins-le}
use Rattle.promises.proofs.History.Whole.{same-book}
use Rattle.promises.proofs.History.Reopened.{last-keep_from, newest-is, gathered-is, okay, fitting, reports, running}
use Rattle.promises.specs.Book.{Book, gone}
use Rattle.promises.specs.Events.{Sizes, World, Opening, Reading}
use Rattle.promises.specs.Answers.{Reply, settles, shows, accepts}
use Rattle.promises.proofs.Ranges.{Ranged}
use Rattle.promises.proofs.OpenFindings.{open-finds}
use Rattle.promises.specs.Sound.{readable}
use Rattle.promises.proofs.Soundness.{desk-of, readable-desk}
use Rattle.promises.proofs.Kept.{sizes_of, book_of, Good, apply-all-cong, lives-from}
use Rattle.promises.proofs.QuietCalls.{answer-reading}

-- ---- a walk without a refusal
pub ok-parts : (F : ℕ) (home : ℕ → List ℕ) (k : Kind) (t : ℕ) (v : Walk) → block_stands F home k t v ≡ true → (in_order k t v ≡ true) × (framed F home k v ≡ true)
unfolding block_stands in_order framed
ok-parts F home (update i u) t v e = (e, refl)
ok-parts F home (commit n) t v e = and_both _ (leb (length (apply_all v.start home v.group v.dirty_pages)) F) e
ok-parts F home (clean q) t v e = (e, refl)

walk-ok : (N F next : ℕ) (home : ℕ → List ℕ) (j : ℕ) (bs : List LogBlock) (v : Walk) → all_stand F home j bs v ≡ true → walk_from N F home next j bs v ≡ ending N next (walk home j bs v)
unfolding all_stand walk_from walk
walk-ok N F next home j [] v e = refl
walk-ok N F next home j (b ∷ bs) v e =
    let c = and_both (block_stands F home b.kind b.ticket v) (all_stand F home (suc j) bs (walk_block home j b.kind v)) e in
    let d = ok-parts F home b.kind b.ticket v c.0 in
    rw (d.0, d.1) (walk-ok N F next home (suc j) bs (walk_block home j b.kind v) c.1)

-- ---- the walk reads home only at pages that are there
pub framed-cong : (P F : ℕ) (home home' : ℕ → List ℕ) (k : Kind) (v : Walk) → ((p : ℕ) → p < P → home p ≡ home' p) → Ups P v.group → framed F home k v ≡ framed F home' k v
unfolding framed
framed-cong P F home home' (update i u) v h l = refl
framed-cong P F home home' (commit n) v h l = ap (λ (x : List DirtyPage). leb (length x) F) (apply-all-cong P v.start home home' v.group v.dirty_pages h l)
framed-cong P F home home' (clean q) v h l = refl

pub block_cong : (P j : ℕ) (home home' : ℕ → List ℕ) (k : Kind) (v : Walk) → ((p : ℕ) → p < P → home p ≡ home' p) → Ups P v.group → walk_block home j k v ≡ walk_block home' j k v
unfolding walk_block
block_cong P j home home' (update i u) v h l = refl
block_cong P j home home' (commit n) v h l = ap (λ (x : List DirtyPage). record { group = []; start = 0; ticket = v.ticket + 1; dirty_pages = x }) (apply-all-cong P v.start home home' v.group v.dirty_pages h l)
block_cong P j home home' (clean q) v h l = refl

walk-cong : (N F P next j m : ℕ) (home home' : ℕ → List ℕ) (bs : List LogBlock) (v : Walk) (ts : Views) → ((p : ℕ) → p < P → home p ≡ home' p) → Formed F P j m ts bs → Ups P v.group
    → walk_from N F home next j bs v ≡ walk_from N F home' next j bs v
unfolding walk_from
walk-cong N F P next j m home home' [] v ts h f l = refl
walk-cong N F P next j m home home' (b ∷ bs) v ts h f l =
    let e : framed F home b.kind v ≡ framed F home' b.kind v = framed-cong P F home home' b.kind v h l in
    let d : walk_block home j b.kind v ≡ walk_block home' j b.kind v = block_cong P j home home' b.kind v h l in
    let ih = walk-cong N F P next (suc j) (m + is_commit b.kind) home home' bs (walk_block home j b.kind v) (after j b.kind ts) h f.1 (step-updates F P j m b.ticket home b.kind v ts f.0 l) in
    let ih' : walk_from N F home next (suc j) bs (walk_block home j b.kind v) ≡ walk_from N F home' next (suc j) bs (walk_block home' j b.kind v) = ih ∙ ap (walk_from N F home' next (suc j) bs) d in
    rw (e, ih') refl

module _ (z : Sizes) (range : Ranged z) (w : World) (b : Book) {history : List LogBlock} (gd : Good z w b history) where
  abbrev slots₀ : List Slot
  slots₀ = slots_of z.slots z.pages w.log

  abbrev ledger₀ : ledger.Book
  ledger₀ = book_of gd.pages b

  abbrev kf : ℕ
  kf = last_keep history

  abbrev bs : List LogBlock
  bs = drop (kf - 1) history

  abbrev vw : Walk
  vw = walk gd.home kf bs (start_with (believed bs))

  abbrev nx : ℕ
  nx = length history + 1

  big : 0 < z.slots
  big = omega arith

  newest₀ : newest slots₀ ≡ length history
  newest₀ = newest-is (sizes_of z) slots₀ gd.home ledger₀ history big gd.kept

  -- the newest block's keep-from
  keep₀ : BeginsAt history b.m kf → keep_of z.slots slots₀ ≡ kf
  keep₀ g =
      let l = begins-le g in
      let r = gd.kept.holds.recent (length history) (omega (arith, l, gd.kept.based)) (omega arith) (omega arith) in
      rw (newest₀, r) (last-keep_from history (omega (arith, l)))

  walk₀ : walk_from z.slots z.frames (page_at w.home) nx (keep_of z.slots slots₀) bs (start_with (believed bs)) ≡ walk_from z.slots z.frames gd.home nx kf bs (start_with (believed bs))
  unfolding walk_from
  walk₀ = go gd.kept.disk.keep_from
    where
      none : (x : List LogBlock) (j i : ℕ) → x ≡ [] → walk_from z.slots z.frames (page_at w.home) nx j x (start_with (believed x)) ≡ walk_from z.slots z.frames gd.home nx i x (start_with (believed x))
      none x j i e = rw e refl

      no_drop : (n : ℕ) (x : List LogBlock) → x ≡ [] → drop n x ≡ []
      no_drop n x e = rw e (drop-none n)
        where
          drop-none : (n : ℕ) → ◌≡◌ {A = List LogBlock} (drop n []) []
          drop-none zero = refl
          drop-none (suc n) = refl

      go : Keep history b.m → walk_from z.slots z.frames (page_at w.home) nx (keep_of z.slots slots₀) bs (start_with (believed bs)) ≡ walk_from z.slots z.frames gd.home nx kf bs (start_with (believed bs))
      go (empty e m) = none bs (keep_of z.slots slots₀) kf (no_drop (kf - 1) history e)
      go (from g) = ap (λ (j : ℕ). walk_from z.slots z.frames (page_at w.home) nx j bs (start_with (believed bs))) (keep₀ g)
          ∙ walk-cong z.slots z.frames z.pages nx kf (0 + commits g.pre) (page_at w.home) gd.home bs (start_with (believed bs)) (view g.pre) (λ p h. sym (gd.home_is p h))
          (subst (Formed z.frames z.pages kf (0 + commits g.pre) (view g.pre)) (sym (rest history b.m kf g))
          (subst (λ (n : ℕ). Formed z.frames z.pages n (0 + commits g.pre) (view g.pre) (g.block ∷ g.post)) g.place
          (formed-append z.frames z.pages 1 0 (λ p. no_view) g.pre (g.block ∷ g.post) (subst (λ (x : List LogBlock). Formed z.frames z.pages 1 0 (λ p. no_view) x) g.split gd.kept.formed)))) tt

  ends₀ : ending z.slots nx vw ≡ stands nx vw
  ends₀ = simp (le-leb _ _ (fitting (sizes_of z) slots₀ gd.home ledger₀ history big gd.kept))

  pub finding₀ : finding z.slots z.pages z.frames w.log w.home ≡ stands nx vw
  unfolding finding
  finding₀ =
      ap (walk_gathered z.slots z.frames (page_at w.home) slots₀) (gathered-is (sizes_of z) slots₀ gd.home ledger₀ history big gd.kept)
      ∙ ap (λ (n : ℕ). walk_from z.slots z.frames (page_at w.home) (n + 1) (keep_of z.slots slots₀) bs (start_with (believed bs))) newest₀
      ∙ walk₀
      ∙ walk-ok z.slots z.frames nx gd.home kf bs (start_with (believed bs)) (okay (sizes_of z) slots₀ gd.home ledger₀ history big gd.kept)
      ∙ ends₀

  -- OPEN FINDS THE HISTORY
  found : (frames staging : ℕ) → frames ≡ z.frames * 1024 → staging ≡ z.frames * 472 → open_finding w.log w.home frames staging ≡ stands nx vw
  found frames staging ef es = open-finds z range w.log w.home frames staging gd.log_long gd.home_long ef es ∙ finding₀

  module _ (frames staging : List ℕ) (ef : length frames ≡ z.frames * 1024) (es : length staging ≡ z.frames * 472) (a : Reply) (w' : World) (st : Opening w frames staging a w') where
    opened : OpenStands nx vw w.log w.home frames st.result st.frames'
    opened = st.promise.accepted nx vw (found (length frames) (length staging) ef es)

    -- it is accepted and reports m
    pub opens-right : a ≡ settles b.m
    opens-right = st.reply_is ∙ opened.answer_is ∙ ap settles (reports (sizes_of z) slots₀ gd.home ledger₀ history big gd.kept)

    pub do-open : Good z w' (gone b) history
    do-open =
        let o = opened in
        let k = gd.kept in
        rw st.after (record {
          home = gd.home;
          pages = gd.pages;
          kept = same-book refl refl k;
          log_long = gd.log_long;
          home_long = gd.home_long;
          home_is = gd.home_is;
          pages_are = gd.pages_are;
          desk = desk-of _ o.stays_sound;
          live = λ y. lives-from z (record { state = st.result.state; log = w.log; home = w.home; frames = st.frames'; staging = staging }) (gone b) history gd.home gd.pages _ (full.opened vw) nx
              (record { page_count = omega (arith, gd.home_long); slot_count = omega (arith, gd.log_long); frame_count = omega arith; next = refl; ticket = refl; queue = refl; stored = refl; cleaning = refl; list = refl })
              y (o.contents_are staging) o.dirty_are tt tt (running (sizes_of z) slots₀ gd.home ledger₀ history big k);
        })

    -- after it every page is shown
    read_number : (p : ℕ) → p < z.pages → read_refusal st.result.state (length w.home) (length st.frames') p ≡ 0
    unfolding read_refusal
    read_number p h =
        let o = opened in
        let e1 : st.result.state.pages ≡ z.pages = ap (λ (v : Contents). v.pages) (o.contents_are staging) ∙ omega (arith, gd.home_long) in
        let e2 : st.result.state.frames ≡ z.frames = ap (λ (v : Contents). v.frames) (o.contents_are staging) ∙ omega arith in
        let l1 : length w.home ≡ st.result.state.pages * 1024 = omega (arith, gd.home_long) in
        let l2 : length st.frames' ≡ st.result.state.frames * 1024 = omega (arith, o.frames_long) in
        let l3 : p < st.result.state.pages = omega arith in
        let so : readable st.result.state ≡ true = readable-desk _ (desk-of _ o.stays_sound) ∙ o.stays_sound in
        simp (so, eq-eqb _ _ l1, eq-eqb _ _ l2, lt-ltb _ _ l3)

    pub reads-right : (p : ℕ) (x : Reply) (w'' : World) → p < z.pages → Reading w' p x w'' → x ≡ shows (b.pages p)
    reads-right p x w'' h rd =
        let e : read_refusal_of w'.state w'.home w'.frames p ≡ 0 = rw st.after (read_number p h) in
        let n : rd.number ≡ 0 = rd.promise.refusal ∙ rw (rd.home_is, rd.frames_are) e in
        answer-reading z w' (gone b) do-open p x w'' rd (ap accepts (rd.reply_is ∙ read-accepted-reply rd.number rd.result.now n))
