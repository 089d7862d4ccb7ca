-- THE CRASH THEOREM, proved from the calls' own promises. To read before it: Kept (the invariant), QuietCalls, LogSteps, CleanSteps and Openings
-- (each call keeps it, and answers what the book says).
-- Assumes nothing.
use mathlib.Core.Path.{◌≡◌, refl, sym, ap, ◌∙◌, subst}
use mathlib.Core.Logic.{◌⊎◌, ⊎_elim}
use mathlib.Core.Bool.{Bool, true, false, cond}
use Prim.Native.Nat.{ℕ, ◌*◌, ◌/◌, ◌<◌}
use mathlib.Core.List.{List, [], ◌++◌}
use native.Mathlib.Omega.{arith}
use lib.ListN.{length, replicate, length-replicate}
use lib.Dec.{ltb}
use borrow.Author.Tests.{le-leb, eq-eqb, lt-ltb, le-ltb}
use Rattle.area.proofs.Laws.{either}
use Rattle.area.proofs.Parts.{length_part}
use Rattle.std.specs.Prelude.{Result}
use Rattle.promises.specs.declared.Refusal.{Refusal}
use Rattle.promises.specs.declared.State.{State}
use Rattle.promises.specs.Areas.{page_at}
use Rattle.promises.specs.Blocks.{LogBlock}
use Rattle.promises.specs.Walk.{Finding, stops, stands}
use Rattle.promises.specs.States.{all_zero_state}
use Rattle.promises.specs.Sound.{sound}
use Rattle.promises.specs.Format.{format_refusal, Formats}
use Rattle.promises.specs.Open.{open_finding}
use Rattle.promises.specs.Book.{Book, blank, gone}
use Rattle.promises.specs.Events.{Sizes, World, with_state, Call, opening, begin, describe, ending, log_step, clean_step, reading, settling, Step, Lent, fallen}
use Rattle.promises.specs.Answers.{Reply, refuses, settles, accepts, number_in}
use Rattle.promises.specs.Claim.{booked_by, is_open, entered, cut_at, both, promised, Run, formatted, called, unfit, cut, cut_unfit, Right, Claim}
use Rattle.promises.proofs.History.Machine.{last_keep}
use Rattle.promises.proofs.History.Views.{view_from}
use Rattle.promises.proofs.History.HalfEnd.{none}
use Rattle.promises.proofs.History.Tally.{tally}
use Rattle.promises.proofs.History.Recovered.{invariant-start}
use Rattle.promises.proofs.History.Rules.{ruled-none}
use Rattle.promises.proofs.History.Whole.{same-book, tally-none}
use Rattle.promises.proofs.Soundness.{all-zero-unsound}
use Rattle.promises.proofs.Slots.{size-slots, blank-slots}
use Rattle.promises.proofs.Ranges.{Ranged, ranged}
use Rattle.promises.proofs.Replies.{no-accept, number_by, accepted-is}
use Rattle.promises.proofs.Promised.{log-number}
use Rattle.promises.proofs.Kept.{Good}
use Rattle.promises.proofs.QuietCalls.{do-begin, do-describe, do-ending, answer-ending, answer-settling, answer-reading}
use Rattle.promises.specs.Stored.{stored_in, stored_by}
use Rattle.promises.proofs.StoredBlocks.{none-stored}
use Rattle.promises.proofs.LogSteps.{do-log, answer-log}
use Rattle.promises.proofs.CleanSteps.{do-clean}
use Rattle.promises.proofs.Openings.{opens-right, do-open, reads-right}

-- ---- a call

-- a book that is the same, accepted or refused
either_way : (z : Sizes) (w : World) (b : Book) {h : List LogBlock} (ok : Bool) → Good z w b h → Good z w (cond ok b b) h
either_way z w b true g = g
either_way z w b false g = g

pub do-call : (z : Sizes) (range : Ranged z) (w : World) (b : Book) {h : List LogBlock} → Good z w b h → (c : Call) (a : Reply) (w' : World) → Lent z c → Step c w a w'
    → Good z w' (entered c (accepts a) b) (h ++ stored_in z c (accepts a) w w')
do-call z range w b g (opening frames staging) a w' l st = none-stored (either_way z w' (gone b) (accepts a) (do-open z range w b g frames staging l.0 l.1 a w' st))
do-call z range w b g (begin u) a w' l st = none-stored (do-begin z w b g u a w' st)
do-call z range w b g (describe u) a w' l st = none-stored (do-describe z w b g u a w' st)
do-call z range w b g ending a w' l st = none-stored (do-ending z w b g a w' st)
do-call z range w b g log_step a w' l st = do-log z range w b g a w' st
do-call z range w b g clean_step a w' l st = either_way z w' b (accepts a) (do-clean z range w b g a w' st)
do-call z range w b {h} g (reading p) a w' l st = none-stored (either_way z w' b (accepts a) (subst (λ (v : World). Good z v b h) (sym st.after) g))
do-call z range w b {h} g (settling t) a w' l st = none-stored (either_way z w' b (accepts a) (subst (λ (v : World). Good z v b h) (sym st.after) g))

-- ---- a cut: only log and home are left, and what the book keeps of them
pub not_sound : {X : Type 0} → sound all_zero_state ≡ true → X
not_sound e = no-accept (sym all-zero-unsound ∙ e)

fall : (z : Sizes) (w : World) (b : Book) (frames staging : List ℕ) {h : List LogBlock} → Good z w b h → Good z (fallen w frames staging) (gone b) h
fall z w b frames staging g =
    record {
      home = g.home;
      pages = g.pages;
      kept = same-book refl refl g.kept;
      log_long = g.log_long;
      home_long = g.home_long;
      home_is = g.home_is;
      pages_are = g.pages_are;
      desk = refl;
      live = λ e. not_sound e;
    }

do-cut : (z : Sizes) (range : Ranged z) (w : World) (b : Book) {h : List LogBlock} → Good z w b h → (c : Call) (a : Reply) (w' : World) (stored : Bool) (frames staging : List ℕ) → Lent z c → Step c w a w'
    → Good z (fallen (cond stored w' w) frames staging) (cut_at c (both stored (accepts a)) b) (h ++ stored_in z c (both stored (accepts a)) w w')
do-cut z range w b {h} g c a w' false frames staging l st = go c
  where
    go : (c : Call) → Good z (fallen w frames staging) (cut_at c false b) (h ++ stored_in z c false w w')
    go (opening f s) = none-stored (fall z w b frames staging g)
    go (begin u) = none-stored (fall z w b frames staging g)
    go (describe u) = none-stored (fall z w b frames staging g)
    go ending = none-stored (fall z w b frames staging g)
    go log_step = none-stored (fall z w b frames staging g)
    go clean_step = none-stored (fall z w b frames staging g)
    go (reading p) = none-stored (fall z w b frames staging g)
    go (settling t) = none-stored (fall z w b frames staging g)
do-cut z range w b {h} g c a w' true frames staging l st = go c (accepts a) (do-call z range w b g c a w' l st)
  where
    go : (c : Call) (ok : Bool) → Good z w' (entered c ok b) (h ++ stored_in z c ok w w') → Good z (fallen w' frames staging) (cut_at c ok b) (h ++ stored_in z c ok w w')
    go c true x = fall z w' (booked_by c b) frames staging x
    go c false x = by (is_open c) x
      where
        by : (o : Bool) → Good z w' (cond o (gone b) b) (h ++ stored_in z c false w w') → Good z (fallen w' frames staging) (gone b) (h ++ stored_in z c false w w')
        by true x = fall z w' (gone b) frames staging x
        by false x = fall z w' b frames staging x

-- ---- a call that is lent other areas
-- its state is as it was, or all-zero after an Open
abbrev pub Unfit : Call → State → State → Type 0
Unfit (opening frames staging) s t = t ≡ all_zero_state
Unfit (begin u) s t = t ≡ s
Unfit (describe u) s t = t ≡ s
Unfit ending s t = t ≡ s
Unfit log_step s t = t ≡ s
Unfit clean_step s t = t ≡ s
Unfit (reading p) s t = t ≡ s
Unfit (settling t') s t = t ≡ s

pub unfit-state : (c : Call) (n : ℕ) (a : Reply) (w w' : World) → 0 < n → a ≡ refuses n → Step c w a w' → Unfit c w.state w'.state
unfit-state (opening frames staging) n a w w' h e st = go (open_finding w.log w.home (length frames) (length staging)) refl
  where
    go : (x : Finding) → open_finding w.log w.home (length frames) (length staging) ≡ x → w'.state ≡ all_zero_state
    go (stops m j) q = ap (λ (v : World). v.state) st.after ∙ (st.promise.refused m j q).state_is
    go (stands m v) q =
        let k : refuses n ≡ settles v.ticket = sym e ∙ st.reply_is ∙ (st.promise.accepted m v q).answer_is in
        no-accept (ap accepts k)
unfit-state (begin u) n a w w' h e st =
    let r = sym (number_by _ _ _ st.promise.answer_is refl) ∙ ap number_in (sym st.reply_is ∙ e) in
    ap (λ (v : World). v.state) st.after ∙ st.promise.refused (λ q. absurd (omega (arith, r)))
unfit-state (describe u) n a w w' h e st =
    let r = sym (number_by _ _ _ st.promise.answer_is refl) ∙ ap number_in (sym st.reply_is ∙ e) in
    ap (λ (v : World). v.state) st.after ∙ (st.promise.refused (λ q. absurd (omega (arith, r)))).0
unfit-state ending n a w w' h e st =
    let r = sym (number_by _ _ _ st.promise.answer_is refl) ∙ ap number_in (sym st.reply_is ∙ e) in
    ap (λ (v : World). v.state) st.after ∙ st.promise.refused (λ q. absurd (omega (arith, r)))
unfit-state log_step n a w w' h e st =
    let r = sym (log-number _ _ _ _ _ _ _ _ st.promise) ∙ ap number_in (sym st.reply_is ∙ e) in
    ap (λ (v : World). v.state) st.after ∙ (st.promise.refused (λ q. absurd (omega (arith, r)))).1
unfit-state clean_step n a w w' h e st =
    let r = sym (number_by _ _ _ st.promise.answer_is refl) ∙ ap number_in (sym st.reply_is ∙ e) in
    ap (λ (v : World). v.state) st.after ∙ (st.promise.refused (λ q. absurd (omega (arith, r)))).0
unfit-state (reading p) n a w w' h e st = ap (λ (v : World). v.state) st.after
unfit-state (settling t) n a w w' h e st = ap (λ (v : World). v.state) st.after

do-unfit : (z : Sizes) (w : World) (b : Book) {h : List LogBlock} → Good z w b h → (c : Call) (t : State) → Unfit c w.state t → Good z (with_state w t) (entered c false b) h
do-unfit z w b g (opening frames staging) t e = rw e (fall z w b w.frames w.staging g)
do-unfit z w b g (begin u) t e = rw e g
do-unfit z w b g (describe u) t e = rw e g
do-unfit z w b g ending t e = rw e g
do-unfit z w b g log_step t e = rw e g
do-unfit z w b g clean_step t e = rw e g
do-unfit z w b g (reading p) t e = rw e g
do-unfit z w b g (settling t') t e = rw e g

-- ---- Format's end
-- home's pages, as a function on all numbers
paged : ℕ → List ℕ → ℕ → List ℕ
paged P home p = cond (ltb p P) (page_at home p) (replicate 1024 0)

paged-is : (P : ℕ) (home : List ℕ) (p : ℕ) → p < P → paged P home p ≡ page_at home p
unfolding paged
paged-is P home p h = simp (lt-ltb p P h)

paged-long : (P : ℕ) (home : List ℕ) → length home ≡ P * 1024 → (p : ℕ) → length (paged P home p) ≡ 1024
unfolding paged
paged-long P home e p = either p P
    (λ h. simp (lt-ltb p P h) (length_part home (p * 1024) 1024 (omega arith)))
    (λ h. simp (le-ltb p P h))

at-start : (z : Sizes) (range : Ranged z) (log home frames staging : List ℕ) → length log ≡ z.slots * 512 → length home ≡ z.pages * 1024
    → Good z (record { state = all_zero_state; log = replicate (length log) 0; home = home; frames = frames; staging = staging }) (blank home) []
unfolding last_keep tally view_from
at-start z range log home frames staging l h =
    let i = invariant-start (paged z.pages home) (paged-long z.pages home h) in
    subst (λ (n : ℕ). Good z (record { state = all_zero_state; log = replicate n 0; home = home; frames = frames; staging = staging }) (blank home) []) (sym l)
    (record {
      home = paged z.pages home;
      pages = paged z.pages home;
      kept = record {
        holds = record { size = size-slots z.slots z.pages (replicate (z.slots * 512) 0); begun = omega arith; recent = λ j x y v. absurd (omega arith); past = λ j. rw (blank-slots z.slots z.pages j) tt };
        based = omega arith;
        half = none refl;
        formed = tt;
        ruled = ruled-none z.slots z.frames z.pages 1;
        total = refl;
        roomy = omega (arith, tally-none z.pages);
        disk = i.disk;
      };
      log_long = length-replicate (z.slots * 512) 0;
      home_long = h;
      home_is = λ p q. paged-is z.pages home p q;
      pages_are = λ p q. paged-is z.pages home p q;
      desk = refl;
      live = λ e. not_sound e;
    })

-- ---- every run
on-formatted : (z : Sizes) (range : Ranged z) (w : World) (b : Book) (log log' home frames staging : List ℕ) (r : Result (Unit {0}) Refusal) → length log ≡ z.slots * 512 → length home ≡ z.pages * 1024
    → Formats log r log' → w ≡ record { state = all_zero_state; log = log'; home = home; frames = frames; staging = staging } → b ≡ blank home → Good z w b []
on-formatted z range w b log log' home frames staging r l h f e q =
    let n : length log / 512 ≡ z.slots = omega arith in
    let ok : format_refusal (length log) ≡ 0 = rw n (simp (eq-eqb (z.slots * 512) (length log) (sym l), le-leb 8 z.slots range.slots.0, le-leb z.slots 1024 range.slots.1)) in
    rw (e, q, f.accepted ok) (at-start z range log home frames staging l h)

on-called : (z : Sizes) (range : Ranged z) (w w' : World) (b b' : Book) {h : List LogBlock} (c : Call) (a : Reply) → Good z w b h → Lent z c → Step c w a w' → b' ≡ entered c (accepts a) b
    → Good z w' b' (h ++ stored_in z c (accepts a) w w')
on-called z range w w' b b' {h} c a g l st e = subst (λ (x : Book). Good z w' x (h ++ stored_in z c (accepts a) w w')) (sym e) (do-call z range w b g c a w' l st)

on-unfit : (z : Sizes) (w w' : World) (b b' : Book) {h : List LogBlock} (c : Call) (a : Reply) (lent lent' : World) → Good z w b h → lent.state ≡ w.state → Step c lent a lent'
    → (a ≡ refuses 1) ⊎ (a ≡ refuses 2) → w' ≡ with_state w lent'.state → b' ≡ entered c false b → Good z w' b' h
on-unfit z w w' b b' {h} c a lent lent' g same st r e q =
    let u : Unfit c lent.state lent'.state = ⊎_elim (λ (x : a ≡ refuses 1). unfit-state c 1 a lent lent' (omega arith) x st) (λ (x : a ≡ refuses 2). unfit-state c 2 a lent lent' (omega arith) x st) r in
    subst (λ (v : World). Good z v b' h) (sym e) (subst (λ (x : Book). Good z (with_state w lent'.state) x h) (sym q) (do-unfit z w b g c lent'.state (subst (λ (s : State). Unfit c s lent'.state) same u)))

on-cut : (z : Sizes) (range : Ranged z) (w w'' : World) (b b'' : Book) {h : List LogBlock} (c : Call) (a : Reply) (w' : World) (stored : Bool) (frames staging : List ℕ) → Good z w b h → Lent z c → Step c w a w'
    → w'' ≡ fallen (cond stored w' w) frames staging → b'' ≡ cut_at c (both stored (accepts a)) b → Good z w'' b'' (h ++ stored_in z c (both stored (accepts a)) w w')
on-cut z range w w'' b b'' {h} c a w' stored frames staging g l st e q =
    subst (λ (v : World). Good z v b'' (h ++ stored_in z c (both stored (accepts a)) w w')) (sym e)
    (subst (λ (x : Book). Good z (fallen (cond stored w' w) frames staging) x (h ++ stored_in z c (both stored (accepts a)) w w')) (sym q) (do-cut z range w b g c a w' stored frames staging l st))

on-cut-unfit : (z : Sizes) (w w'' : World) (b b'' : Book) {h : List LogBlock} (c : Call) (frames staging : List ℕ) → Good z w b h → w'' ≡ fallen w frames staging
    → b'' ≡ cut_at c false b → Good z w'' b'' h
on-cut-unfit z w w'' b b'' {h} c frames staging g e q =
    subst (λ (v : World). Good z v b'' h) (sym e) (subst (λ (x : Book). Good z (fallen w frames staging) x h) (sym q) (fall z w b frames staging g))

-- THE HISTORY IS THE LIST OF THE BLOCKS THAT THE RUN STORED
pub good : (z : Sizes) → Ranged z → (w : World) (b : Book) (run : Run promised z w b) → Good z w b (stored_by run)
unfolding stored_by
good z range w b (formatted log log' home frames staging r l h f e q) = on-formatted z range w b log log' home frames staging r l h f e q
good z range w b (called {world = w₀} {book = b₀} c a run l st e) = on-called z range w₀ w b₀ b c a (good z range w₀ b₀ run) l st e
good z range w b (unfit {world = w₀} {book = b₀} c a lent lent' run same st r e q) = on-unfit z w₀ w b₀ b c a lent lent' (good z range w₀ b₀ run) same st r e q
good z range w b (cut {world = w₀} {book = b₀} c a w' stored frames staging run l st e q) = on-cut z range w₀ w b₀ b c a w' stored frames staging (good z range w₀ b₀ run) l st e q
good z range w b (cut_unfit {world = w₀} {book = b₀} c a lent lent' frames staging run same st r e q) =
    on-cut-unfit z w₀ w b₀ b c frames staging (good z range w₀ b₀ run) e q

-- ---- the answers
answer : (z : Sizes) (range : Ranged z) (w : World) (b : Book) {h : List LogBlock} → Good z w b h → (c : Call) (a : Reply) (w' : World) → Lent z c → Step c w a w' → accepts a ≡ true → Right c a b
answer z range w b g (opening frames staging) a w' l st ok = opens-right z range w b g frames staging l.0 l.1 a w' st
answer z range w b g (begin u) a w' l st ok = st.reply_is ∙ accepted-is _ _ _ st.promise.answer_is (ap accepts (sym st.reply_is) ∙ ok)
answer z range w b g (describe u) a w' l st ok = st.reply_is ∙ accepted-is _ _ _ st.promise.answer_is (ap accepts (sym st.reply_is) ∙ ok)
answer z range w b g ending a w' l st ok = answer-ending z w b g a w' st ok
answer z range w b g log_step a w' l st ok = answer-log z range w b g a w' st ok
answer z range w b g clean_step a w' l st ok = st.reply_is ∙ accepted-is _ _ _ st.promise.answer_is (ap accepts (sym st.reply_is) ∙ ok)
answer z range w b g (reading p) a w' l st ok = answer-reading z w b g p a w' st ok
answer z range w b g (settling t) a w' l st ok = answer-settling z w b g t a w' st ok

-- the crash theorem
pub demand-three : Claim promised
demand-three z in_range w b run =
    let range = ranged z in_range in
    let g = good z range w b run in
    record {
      answers = answer z range w b g;
      opens = λ frames staging a w' l st. opens-right z range w b g frames staging l.0 l.1 a w' st;
      reads = λ frames staging a w' l st. reads-right z range w b g frames staging l.0 l.1 a w' st;
    }
