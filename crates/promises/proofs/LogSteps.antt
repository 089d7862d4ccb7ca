-- Log step keeps the invariant and answers what the book says.
-- Assumes nothing.
use mathlib.Core.Path.{◌≡◌, refl, sym, ap, ◌∙◌, subst}
use mathlib.Core.Bool.{true, cond, ◌&&◌}
use Prim.Native.Nat.{ℕ, ◌+◌, ◌*◌, ◌-◌, ◌^◌, ◌≤◌, ◌<◌, min}
use mathlib.Core.List.{List, [], ◌∷◌, ◌++◌, map}
use native.Mathlib.Omega.{arith}
use lib.ListN.{length, take, get_or, length-take, length-append}
use lib.Dec.{eqb, ltb}
use borrow.Author.Tests.{leb-true, eqb-false, lt-ltb, le-ltb}
use Rattle.area.proofs.Laws.{by-eq, either}
use Rattle.promises.specs.declared.State.{State}
use Rattle.promises.specs.Areas.{page_at}
use Rattle.promises.specs.Updates.{Update, redo, of_page}
use Rattle.promises.specs.Blocks.{update, commit, LogBlock, Slot, slots_of}
use Rattle.promises.specs.DirtyPages.{look_up, keep_from_of, apply_all}
use Rattle.promises.specs.Contents.{dirty_of, groups_of, grouped, queue_of, waiting, total}
use Rattle.promises.specs.Sound.{sound, of_oldest}
use Rattle.promises.specs.Sums.{block_count}
use Rattle.promises.specs.Blocks.{stored}
use Rattle.promises.specs.Sums.{group_start}
use Rattle.promises.specs.LogStep.{areas_fit, log_refusal, log_refusal_of, UpdateStep, CommitStep}
use Rattle.promises.proofs.Changes.{pick-zero, pick_other}
use Rattle.promises.proofs.History.Machine.{Live, last_keep}
use Rattle.promises.proofs.History.Machine as machine
use Rattle.promises.proofs.History.Ledger as ledger
use Rattle.promises.proofs.History.Sizes as full
use Rattle.promises.proofs.History.Stored.{store}
use Rattle.promises.proofs.History.WalkStart.{last_keep-snoc}
use Rattle.promises.proofs.History.Invariant.{Keep, empty, from, Wells}
use Rattle.promises.proofs.History.HalfEnd.{begins-le}
use Rattle.promises.proofs.History.KeepFrom.{keep-applied}
use Rattle.promises.proofs.History.Whole.{Kept, Runs, Room, kept-update, kept-commit, count-le}
use Rattle.promises.specs.Book.{Book, counted, committed, stepped, stepped_over}
use Rattle.promises.specs.Events.{Sizes, World, log_step, Logging}
use Rattle.promises.specs.Answers.{Reply, done, settles, accepts}
use Rattle.promises.specs.Claim.{entered}
use Rattle.promises.specs.Stored.{new_block, stored_in}
use Rattle.promises.proofs.Ranges.{Ranged}
use Rattle.block.proofs.Facts.{NumberFacts}
use Rattle.promises.proofs.Slots.{KindFits, carried-few, slots-store, length-stored}
use Rattle.promises.proofs.SoundFacts.{Facts, facts, length-queue}
use Rattle.promises.proofs.Soundness.{desk-of}
use Rattle.promises.proofs.Kept.{sizes_of, book_of, live_of, stage_of, Fit, Fits, FitsAll, Lives, Good, fits-updates, fits-at, apply-all-cong, lives-from, cleaning-after}
use Rattle.promises.proofs.StoredBlocks.{none-stored, one-stored}
use Rattle.promises.proofs.Replies.{no-accept}
use Rattle.promises.proofs.Promised.{log-update, log-commit}

-- keep-from of the newest block
pub keep-facts : (z : full.Sizes) (log : List Slot) (home : ℕ → List ℕ) (b : ledger.Book) (history : List LogBlock) (x : LogBlock) → Kept z log home b (history ++ (x ∷ []))
    → (1 ≤ x.keep_from) × (x.keep_from ≤ length history + 1) × (length history + 1 - x.keep_from < z.N)
keep-facts z log home b history x k = go k.disk.keep_from
  where
    ln : length (history ++ (x ∷ [])) ≡ length history + 1
    ln = length-append history (x ∷ [])

    go : Keep (history ++ (x ∷ [])) b.m → (1 ≤ x.keep_from) × (x.keep_from ≤ length history + 1) × (length history + 1 - x.keep_from < z.N)
    go (empty e m) = absurd (omega (arith, ln, ap length e))
    go (from g) =
        let h : last_keep (history ++ (x ∷ [])) ≡ x.keep_from = last_keep-snoc history x in
        let b1 = begins-le g in
        (omega (arith, h, b1), omega (arith, h, b1, ln), omega (arith, h, b1, ln, k.roomy))

-- what the oldest group's size says
pub record Head (c : ℕ) (ns : List ℕ) (g : List Update) : Type 0 where
  pub more : length g + 1 ≤ block_count ns
  pub sized : length g ≤ total ns
  pub behind : c + 1 ≤ block_count ns

heads : (c : ℕ) (ns : List ℕ) (us g : List Update) (q : List (List Update)) → grouped ns us ≡ g ∷ q → of_oldest c ns ≡ true → Head c ns g
unfolding grouped
heads c [] us g q e h = let x : ◌≡◌ {A = ℕ} 0 1 = cc in absurd (omega arith)
heads c (n ∷ ns) us g q e h =
    let t : take n us ≡ g = cc in
    let l : length g ≡ min n (length us) = ap length (sym t) ∙ length-take n us in
    let k : c ≤ n = leb-true _ _ h in
    record { more = omega arith; sized = omega arith; behind = omega arith }

-- a store into the log: its length, and its slots
module _ (z : Sizes) (range : Ranged z) (log : List ℕ) (long : length log ≡ z.slots * 512) (n : ℕ) (x : LogBlock) (fits : KindFits z.pages x.ticket x.kind) where
  pub stored-long : length (stored z.slots log n x) ≡ z.slots * 512
  stored-long = length-stored z.slots n log x (omega arith) long (carried-few z.pages x.ticket x.kind fits)

  pub stored-slots : NumberFacts z.slots n x.keep_from x.ticket → slots_of z.slots z.pages (stored z.slots log n x) ≡ store z.slots n x (slots_of z.slots z.pages log)
  stored-slots c = slots-store z.slots z.pages n log x (omega arith) (omega arith) long c fits

module _ (z : Sizes) (range : Ranged z) (w : World) (b : Book) {history : List LogBlock} (gd : Good z w b history) where
  abbrev s : State
  s = w.state

  abbrev k₀ : Live
  k₀ = live_of s w.frames w.staging

  abbrev slots₀ : List Slot
  slots₀ = slots_of z.slots z.pages w.log

  abbrev ledger₀ : ledger.Book
  ledger₀ = book_of gd.pages b

  -- what an accepted Log step starts from
  pub record Ready (g : List Update) (q : List (List Update)) : Type 0 where
    pub lives : Lives z w b history gd.home gd.pages
    pub fact : Facts s w.frames
    pub head : Head s.stored (groups_of s) g
    pub fits : Fits z.pages g
    pub few : length g ≤ 16
    pub rest : FitsAll z.pages q
    pub some : 0 < length g
    pub half : s.stored ≤ length g
    pub room : Room (sizes_of z) s.next k₀ g
    pub queue : b.queue ≡ g ∷ q
    pub below : s.next < 2 ^ 48

  pub ready : (g : List Update) (q : List (List Update)) → queue_of s w.staging ≡ g ∷ q → sound s ≡ true → Ready g q
  ready g q e so =
      let l : Lives z w b history gd.home gd.pages = gd.live so in
      let f : Facts s w.frames = facts s w.frames so in
      let h : Head s.stored (groups_of s) g = heads s.stored (groups_of s) (map (waiting w.staging) s.staged) g q e f.half in
      let bq : b.queue ≡ g ∷ q = sym l.runs.alive.queue ∙ e in
      let fq : FitsAll z.pages (g ∷ q) = subst (FitsAll z.pages) bq l.queue_fits in
      let ws : Wells (g ∷ q) = subst Wells e l.runs.alive.wells in
      let le : s.stored ≤ length g = count-le history b.m s.stored g (queue_of s w.staging) q e l.runs.alive.half in
      let n1 : s.slots ≡ z.slots = l.slot_count in
      let n2 : s.frames ≡ z.frames = l.frame_count in
      record {
        lives = l;
        fact = f;
        head = h;
        fits = fq.0.0;
        few = fq.0.1;
        rest = fq.1;
        some = ws.0.0;
        half = le;
        room = record { slots = omega (arith, f.slots, h.more, h.sized, n1); frames = omega (arith, f.room, h.sized, n2) };
        queue = bq;
        below = omega (arith, f.sequences, h.behind);
      }

  -- ---- an update is stored
  abbrev update_at : List Update → ℕ → LogBlock
  update_at g n = record { kind = update (s.stored + 1) (get_or g s.stored machine.no_update); keep_from = keep_from_of (n - s.stored) (dirty_of s w.frames); ticket = s.ticket }

  abbrev update_live : Live
  update_live = record { ticket = s.ticket; queue = queue_of s w.staging; count = s.stored + 1; dirty_pages = dirty_of s w.frames; cleaning = stage_of s.cleaning }

  abbrev UpdateKept : List Update → ℕ → Type 0
  UpdateKept g n = Kept (sizes_of z) (store z.slots n (update_at g n) slots₀) gd.home (book_of gd.pages (counted b)) (history ++ (update_at g n ∷ []))
      × Runs (sizes_of z) gd.home (book_of gd.pages (counted b)) (history ++ (update_at g n ∷ [])) (n + 1) update_live

  update-kept : (g : List Update) (q : List (List Update)) → queue_of s w.staging ≡ g ∷ q → Ready g q → s.stored < length g → UpdateKept g s.next
  update-kept g q e r h =
      let nx : s.next ≡ length history + 1 = r.lives.runs.next in
      let rn : Runs (sizes_of z) gd.home ledger₀ history (length history + 1) k₀ = subst (λ (i : ℕ). Runs (sizes_of z) gd.home ledger₀ history i k₀) nx r.lives.runs in
      let rm : Room (sizes_of z) (length history + 1) k₀ g = subst (λ (i : ℕ). Room (sizes_of z) i k₀ g) nx r.room in
      let k = kept-update (sizes_of z) slots₀ gd.home ledger₀ history k₀ (omega arith) gd.kept rn g q e h rm in
      subst (UpdateKept g) (sym nx) (k.0, subst (λ (i : ℕ). Runs (sizes_of z) gd.home (book_of gd.pages (counted b)) (history ++ (update_at g (length history + 1) ∷ [])) i update_live) (omega arith) k.1)

  pub do-update : (g : List Update) (q : List (List Update)) → queue_of s w.staging ≡ g ∷ q → sound s ≡ true → s.stored < length g
      → (a : Reply) (w' : World) (st : Logging w a w') → UpdateStep s g w.log w.frames w.staging st.result st.log' st.frames' → Good z w' (counted b) (history ++ (update_at g s.next ∷ []))
  do-update g q e so h a w' st u =
      let r : Ready g q = ready g q e so in
      let l = r.lives in
      let nx : s.next ≡ length history + 1 = l.runs.next in
      let x : LogBlock = update_at g s.next in
      let k : UpdateKept g s.next = update-kept g q e r h in
      let kf = keep-facts (sizes_of z) _ gd.home _ history x k.0 in
      let tk : s.ticket < s.next - s.stored = r.fact.ticket in
      let cm : NumberFacts z.slots s.next x.keep_from x.ticket = record { one = omega arith; most = r.below; keep_one = kf.0; keep-most = omega (arith, kf.1); near = omega (arith, kf.2); ticket-below = omega arith } in
      let fu : Fit z.pages (get_or g s.stored machine.no_update) = fits-at z.pages g s.stored machine.no_update h r.fits in
      let few : length g ≤ 16 = r.few in
      let fk : KindFits z.pages x.ticket x.kind =
      record { index-one = omega arith; index-most = omega arith; page-below = fu.0; length-one = fu.1; length_most = fu.2; end = fu.3 } in
      let le : st.log' ≡ stored z.slots w.log s.next x = u.log_is ∙ ap (λ (n : ℕ). stored n w.log s.next x) l.slot_count in
      let se : slots_of z.slots z.pages st.log' ≡ store z.slots s.next x slots₀ = ap (slots_of z.slots z.pages) le ∙ stored-slots z range w.log gd.log_long s.next x fk cm in
      rw st.after (record {
        home = gd.home;
        pages = gd.pages;
        kept = subst (λ (y : List Slot). Kept (sizes_of z) y gd.home (book_of gd.pages (counted b)) (history ++ (x ∷ []))) (sym se) k.0;
        log_long = ap length le ∙ stored-long z range w.log gd.log_long s.next x fk;
        home_long = gd.home_long;
        home_is = gd.home_is;
        pages_are = gd.pages_are;
        desk = desk-of _ u.stays_sound;
        live = λ y. lives-from z (record { state = st.result.state; log = st.log'; home = w.home; frames = st.frames'; staging = w.staging }) (counted b) (history ++ (x ∷ [])) gd.home gd.pages _ update_live (s.next + 1)
            (record { page_count = l.page_count; slot_count = l.slot_count; frame_count = l.frame_count; next = refl; ticket = refl; queue = refl; stored = refl; cleaning = refl; list = l.list })
            y u.contents_are (λ p. rw u.frames_are (u.dirty_are p)) l.list_fits l.queue_fits k.1;
      })

  -- ---- a commit is stored
  abbrev pub commit_at : List Update → ℕ → LogBlock
  commit_at g n = record { kind = commit (length g); keep_from = keep_from_of (n - s.stored) (dirty_of s w.frames); ticket = s.ticket + 1 }

  abbrev commit_live : List Update → List (List Update) → ℕ → Live
  commit_live g q n = record { ticket = s.ticket + 1; queue = q; count = 0; dirty_pages = apply_all (n - s.stored) gd.home g (dirty_of s w.frames); cleaning = machine.cleaning_after g (stage_of s.cleaning) }

  abbrev new_pages : List Update → ℕ → List ℕ
  new_pages g p = redo (of_page p g) (gd.pages p)

  abbrev CommitKept : List Update → List (List Update) → ℕ → Type 0
  CommitKept g q n = Kept (sizes_of z) (store z.slots n (commit_at g n) slots₀) gd.home (book_of (new_pages g) (committed b g q)) (history ++ (commit_at g n ∷ []))
      × Runs (sizes_of z) gd.home (book_of (new_pages g) (committed b g q)) (history ++ (commit_at g n ∷ [])) (n + 1) (commit_live g q n)

  commit-kept : (g : List Update) (q : List (List Update)) → queue_of s w.staging ≡ g ∷ q → Ready g q → length g ≤ s.stored → CommitKept g q s.next
  commit-kept g q e r h =
      let nx : s.next ≡ length history + 1 = r.lives.runs.next in
      let hf : s.stored ≤ length g = r.half in
      let rn : Runs (sizes_of z) gd.home ledger₀ history (length history + 1) k₀ = subst (λ (i : ℕ). Runs (sizes_of z) gd.home ledger₀ history i k₀) nx r.lives.runs in
      let rm : Room (sizes_of z) (length history + 1) k₀ g = subst (λ (i : ℕ). Room (sizes_of z) i k₀ g) nx r.room in
      let k = kept-commit (sizes_of z) slots₀ gd.home ledger₀ history k₀ (omega arith) gd.kept rn g q e (omega arith) rm in
      subst (CommitKept g q) (sym nx) (k.0, subst (λ (i : ℕ). Runs (sizes_of z) gd.home (book_of (new_pages g) (committed b g q)) (history ++ (commit_at g (length history + 1) ∷ [])) i (commit_live g q (length history + 1))) (omega arith) k.1)

  pub do-commit : (g : List Update) (q : List (List Update)) → queue_of s w.staging ≡ g ∷ q → sound s ≡ true → length g ≤ s.stored
      → (a : Reply) (w' : World) (st : Logging w a w') → CommitStep s g q w.log w.home w.frames w.staging st.result st.log' st.frames' → Good z w' (committed b g q) (history ++ (commit_at g s.next ∷ []))
  do-commit g q e so h a w' st u =
      let r : Ready g q = ready g q e so in
      let l = r.lives in
      let nx : s.next ≡ length history + 1 = l.runs.next in
      let x : LogBlock = commit_at g s.next in
      let k : CommitKept g q s.next = commit-kept g q e r h in
      let kf = keep-facts (sizes_of z) _ gd.home _ history x k.0 in
      let tk : s.ticket < s.next - s.stored = r.fact.ticket in
      let sm : 0 < length g = r.some in
      let cm : NumberFacts z.slots s.next x.keep_from x.ticket = record { one = omega arith; most = r.below; keep_one = kf.0; keep-most = omega (arith, kf.1); near = omega (arith, kf.2); ticket-below = omega arith } in
      let fk : KindFits z.pages x.ticket x.kind = record { updates-one = omega arith; updates-most = r.few; ticket-one = omega arith } in
      let kp : keep_from_of (group_start s) (apply_all (group_start s) (page_at w.home) g (dirty_of s w.frames)) ≡ keep_from_of (group_start s) (dirty_of s w.frames) =
      keep-applied (group_start s) (page_at w.home) g (dirty_of s w.frames) in
      let le : st.log' ≡ stored z.slots w.log s.next x =
      u.log_is
      ∙ ap (λ (i : ℕ). stored s.slots w.log s.next (record { kind = commit (length g); keep_from = i; ticket = s.ticket + 1 })) kp
      ∙ ap (λ (n : ℕ). stored n w.log s.next x) l.slot_count in
      let se : slots_of z.slots z.pages st.log' ≡ store z.slots s.next x slots₀ = ap (slots_of z.slots z.pages) le ∙ stored-slots z range w.log gd.log_long s.next x fk cm in
      let tc : apply_all (group_start s) gd.home g (dirty_of s w.frames) ≡ apply_all (group_start s) (page_at w.home) g (dirty_of s w.frames) =
      apply-all-cong z.pages (group_start s) gd.home (page_at w.home) g (dirty_of s w.frames) gd.home_is (fits-updates z.pages g r.fits) in
      rw st.after (record {
        home = gd.home;
        pages = new_pages g;
        kept = subst (λ (y : List Slot). Kept (sizes_of z) y gd.home (book_of (new_pages g) (committed b g q)) (history ++ (x ∷ []))) (sym se) k.0;
        log_long = ap length le ∙ stored-long z range w.log gd.log_long s.next x fk;
        home_long = gd.home_long;
        home_is = gd.home_is;
        pages_are = λ p i. ap (redo (of_page p g)) (gd.pages_are p i);
        desk = desk-of _ u.stays_sound;
        live = λ y. lives-from z (record { state = st.result.state; log = st.log'; home = w.home; frames = st.frames'; staging = w.staging }) (committed b g q) (history ++ (x ∷ [])) gd.home (new_pages g) _ (commit_live g q s.next) (s.next + 1)
            (record { page_count = l.page_count; slot_count = l.slot_count; frame_count = l.frame_count; next = refl; ticket = refl; queue = refl; stored = refl; cleaning = cleaning-after g s.cleaning; list = l.list })
            y u.contents_are (λ p. u.dirty_are p ∙ ap (look_up p) (sym tc)) l.list_fits r.rest k.1;
      })

  -- ---- LOG STEP
  pub log-cases : (a : Reply) (w' : World) (X : Type 0) (st : Logging w a w')
      → ((g : List Update) (q : List (List Update)) → queue_of s w.staging ≡ g ∷ q → sound s ≡ true → s.stored < length g → UpdateStep s g w.log w.frames w.staging st.result st.log' st.frames' → X)
      → ((g : List Update) (q : List (List Update)) → queue_of s w.staging ≡ g ∷ q → sound s ≡ true → length g ≤ s.stored → CommitStep s g q w.log w.home w.frames w.staging st.result st.log' st.frames' → X)
      → ((log_refusal_of s w.log w.home w.frames w.staging ≡ 0 → ⊥) → X) → X
  unfolding log_refusal
  log-cases a w' X st f c n = by-eq (log_refusal_of s w.log w.home w.frames w.staging) 0
      (λ e.
      let c2 = pick-zero (sound s) _ 2 (omega arith) e in
      let c1 = pick-zero (areas_fit s (length w.log) (length w.home) (length w.frames) && eqb (length w.staging) (s.frames * 472)) _ 1 (omega arith) c2.1 in
      let c10 = pick_other (eqb s.queued 0) _ 10 (omega arith) c1.1 in
      go e c2.0 (eqb-false _ _ c10.0) (length-queue s w.staging (facts s w.frames c2.0).queued) (queue_of s w.staging) refl)
      n
    where
      go : log_refusal_of s w.log w.home w.frames w.staging ≡ 0 → sound s ≡ true → (s.queued ≡ 0 → ⊥) → length (queue_of s w.staging) ≡ s.queued
          → (y : List (List Update)) → queue_of s w.staging ≡ y → X
      go e so nz ln [] q = absurd (nz (sym ln ∙ ap length q))
      go e so nz ln (x ∷ y) q = either s.stored (length x)
          (λ h. f x y q so h (log-update s w.log w.home w.frames w.staging st.result st.log' st.frames' e x y q st.promise h))
          (λ h. c x y q so h (log-commit s w.log w.home w.frames w.staging st.result st.log' st.frames' e x y q st.promise h))

  pub do-log : (a : Reply) (w' : World) → Logging w a w' → Good z w' (entered log_step (accepts a) b) (history ++ stored_in z log_step (accepts a) w w')
  do-log a w' st = log-cases a w' (Good z w' (entered log_step (accepts a) b) (history ++ stored_in z log_step (accepts a) w w')) st
      (λ g q e so h u.
      let r : Ready g q = ready g q e so in
      let ct : s.stored ≡ b.count = r.lives.runs.alive.count in
      rw (st.reply_is, u.answer_is) (subst (λ (y : List (List Update)). Good z w' (stepped_over b y) (history ++ new_block z w w')) (sym r.queue) (simp (le-ltb (length g) (b.count + 1) (omega arith)) (one-stored z range w w' (counted b) history (update_at g s.next) r.lives.runs.next (do-update g q e so h a w' st u)))))
      (λ g q e so h u.
      let r : Ready g q = ready g q e so in
      let ct : s.stored ≡ b.count = r.lives.runs.alive.count in
      rw (st.reply_is, u.answer_is) (subst (λ (y : List (List Update)). Good z w' (stepped_over b y) (history ++ new_block z w w')) (sym r.queue) (simp (lt-ltb (length g) (b.count + 1) (omega arith)) (one-stored z range w w' (committed b g q) history (commit_at g s.next) r.lives.runs.next (do-commit g q e so h a w' st u)))))
      (λ n. let k = st.promise.refused n in
      rw (st.reply_is, st.after, ap accepts k.0, k.2, k.3)
      (subst (λ (x : State). Good z (record { state = x; log = w.log; home = w.home; frames = w.frames; staging = w.staging }) b (history ++ [])) (sym k.1) (none-stored gd)))

  pub answer-log : (a : Reply) (w' : World) → Logging w a w' → accepts a ≡ true → a ≡ cond (ltb b.m (stepped b).m) (settles (stepped b).m) done
  answer-log a w' st ok = log-cases a w' (a ≡ cond (ltb b.m (stepped b).m) (settles (stepped b).m) done) st
      (λ g q e so h u.
      let r : Ready g q = ready g q e so in
      let ct : s.stored ≡ b.count = r.lives.runs.alive.count in
      st.reply_is ∙ u.answer_is ∙ rw r.queue (simp (le-ltb (length g) (b.count + 1) (omega arith), le-ltb b.m b.m (omega arith))))
      (λ g q e so h u.
      let r : Ready g q = ready g q e so in
      let ct : s.stored ≡ b.count = r.lives.runs.alive.count in
      let tk : s.ticket ≡ b.m = r.lives.runs.alive.ticket in
      st.reply_is ∙ u.answer_is ∙ rw r.queue (simp (lt-ltb (length g) (b.count + 1) (omega arith), lt-ltb b.m (b.m + 1) (omega arith)) (ap (λ (n : ℕ). settles (n + 1)) tk)))
      (λ n. no-accept (sym (ap accepts (st.promise.refused n).0) ∙ ap accepts (sym st.reply_is) ∙ ok))
