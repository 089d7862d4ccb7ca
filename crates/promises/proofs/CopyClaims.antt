-- The cut rule of a copy over the blocks taken, and its agreement with the origin, from the calls' own promises.
-- Assumes nothing.
use mathlib.Core.Path.{◌≡◌, refl, sym, ap, ◌∙◌, subst, subst₂}
use mathlib.Core.Logic.{◌⊎◌, ⊎_elim}
use mathlib.Core.Bool.{Bool, true, false, cond}
use Prim.Native.Nat.{ℕ, ◌+◌, ◌<◌}
use mathlib.Core.List.{List, [], ◌++◌, append-nil, append_assoc}
use native.Mathlib.Omega.{arith}
use lib.ListN.{length, get_or, length-append}
use lib.Seq.{ext_get_or, get_or-append-add}
use Rattle.promises.specs.declared.State.{State}
use Rattle.promises.specs.Blocks.{LogBlock, slots_of, no_block}
use Rattle.promises.specs.Newest.{newest}
use Rattle.promises.specs.Walk as walking
use Rattle.promises.specs.Answers.{Reply, refuses, shows, accepts}
use Rattle.promises.specs.Feed.{Feeding, stops, had, first, second, takes, feeding}
use Rattle.promises.specs.CopyOpen.{copy_finding}
use Rattle.promises.specs.Book.{Book}
use Rattle.promises.specs.Events.{Sizes, World, with_state, reading, fallen}
use Rattle.promises.specs.Claim.{promised, Run}
use Rattle.promises.specs.Stored.{stored_by}
use Rattle.promises.specs.Copy.{CopyBook, took_all, made_from, CopyCall, opens, feeds, reads, asks, CopyStep, copy_promised, taken_in, CopyLent, CopyRun, made, copy_called, copy_unfit, copy_cut, copy_cut_unfit, book_of, CopyClaim, Agreement}
use Rattle.promises.proofs.History.Reopened.{newest-is}
use Rattle.promises.proofs.Ranges.{Ranged, ranged}
use Rattle.promises.proofs.Replies.{no-accept}
use Rattle.promises.proofs.Kept.{sizes_of}
use Rattle.promises.proofs.Demand3.{good, demand-three}
use Rattle.promises.proofs.Taken.{Since, took-append, run-leads}
use Rattle.promises.proofs.Copies.{CopyGoodIn, do-feed}
use Rattle.promises.proofs.CopyCalls.{made-good, copy_falls, copy-reading, copy-asking, copy-opens, do-copy-open, accepts-read}
use Rattle.promises.specs.States.{all_zero_state}

-- ---- a call
quiet : (z : Sizes) (w : World) (b : CopyBook) (h : List LogBlock) → CopyGoodIn z w b h → CopyGoodIn z w (took_all [] b) (h ++ [])
unfolding took_all
quiet z w b h g = subst (CopyGoodIn z w b) (sym (append-nil h)) g

do-copy-call : (z : Sizes) (range : Ranged z) (w : World) (b : CopyBook) {h : List LogBlock} → CopyGoodIn z w b h → (c : CopyCall) (a : Reply) (w' : World) → CopyLent z c → CopyStep c w a w'
    → CopyGoodIn z w' (took_all (taken_in z c a) b) (h ++ taken_in z c a)
do-copy-call z range w b {h} g (opens frames) a w' l st = quiet z w' b h (do-copy-open z range w b g frames l a w' st)
do-copy-call z range w b {h} g (feeds bytes) a w' l st = do-feed z range w b g bytes a w' st
do-copy-call z range w b {h} g (reads p) a w' l st = quiet z w' b h (rw st.after g)
do-copy-call z range w b {h} g (asks t) a w' l st = quiet z w' b h (rw st.after g)

-- ---- a call that is lent other areas: its state is as it was, or all-zero after an opening
abbrev Unfit : CopyCall → State → State → Type 0
Unfit (opens frames) s t = t ≡ all_zero_state
Unfit (feeds bytes) s t = t ≡ s
Unfit (reads p) s t = t ≡ s
Unfit (asks n) s t = t ≡ s

not-accepted : {X : Type 0} (n : ℕ) (a : Reply) → a ≡ refuses n → accepts a ≡ true → X
not-accepted n a r e = no-accept (ap accepts (sym r) ∙ e)

unfit-state : (c : CopyCall) (n : ℕ) (a : Reply) (w w' : World) → a ≡ refuses n → CopyStep c w a w' → Unfit c w.state w'.state
unfit-state (opens frames) n a w w' r st = go (copy_finding w.log w.home (length frames)) refl
  where
    go : (x : walking.Finding) → copy_finding w.log w.home (length frames) ≡ x → w'.state ≡ all_zero_state
    go (walking.stops m j) q = ap (λ (v : World). v.state) st.after ∙ (st.promise.refused m j q).state_is
    go (walking.stands m v) q = not-accepted n a r (ap accepts (st.reply_is ∙ (st.promise.accepted m v q).answer_is))
unfit-state (feeds bytes) n a w w' r st = go (feeding w.state w.log w.home w.frames bytes) refl
  where
    go : (x : Feeding) → feeding w.state w.log w.home w.frames bytes ≡ x → w'.state ≡ w.state
    go (stops m j) q = ap (λ (v : World). v.state) st.after ∙ (st.promise.refused m j q).2.state_is
    go had q = ap (λ (v : World). v.state) st.after ∙ (st.promise.already_had q).1.state_is
    go (first p e) q = not-accepted n a r (ap accepts (st.reply_is ∙ (st.promise.first_halved p e q).answer_is))
    go (second p e) q = not-accepted n a r (ap accepts (st.reply_is ∙ (st.promise.second_halved p e q).answer_is))
    go (takes x) q = not-accepted n a r (ap accepts (st.reply_is ∙ (st.promise.taken x q).answer_is))
unfit-state (reads p) n a w w' r st = ap (λ (v : World). v.state) st.after
unfit-state (asks t) n a w w' r st = ap (λ (v : World). v.state) st.after

do-unfit : (z : Sizes) (w : World) (b : CopyBook) {h : List LogBlock} → CopyGoodIn z w b h → (c : CopyCall) (t : State) → Unfit c w.state t → CopyGoodIn z (with_state w t) b h
do-unfit z w b g (opens frames) t e = rw e (copy_falls z w.state w.log w.home w.frames b w.frames g)
do-unfit z w b g (feeds bytes) t e = rw e g
do-unfit z w b g (reads p) t e = rw e g
do-unfit z w b g (asks n) t e = rw e g

-- ---- every run of a copy
module _ (z : Sizes) (range : Ranged z) {origin : World} {book : Book} (run : Run promised z origin book) where
  abbrev At : World → List LogBlock → Type 0
  At w blocks = CopyGoodIn z w (book_of run blocks) (stored_by run ++ blocks)

  grown : (w : World) (blocks more : List LogBlock) → CopyGoodIn z w (took_all more (book_of run blocks)) ((stored_by run ++ blocks) ++ more) → At w (blocks ++ more)
  grown w blocks more g = subst₂ (λ (b : CopyBook) (h : List LogBlock). CopyGoodIn z w b h) (sym (took-append blocks more (made_from book (stored_by run)))) (append_assoc (stored_by run) blocks more) g

  fall : (w : World) (blocks : List LogBlock) (frames : List ℕ) → At w blocks → At (fallen w frames []) blocks
  fall w blocks frames g = copy_falls z w.state w.log w.home w.frames (book_of run blocks) frames g

  on-made : (w : World) (blocks : List LogBlock) (frames : List ℕ) → w ≡ record { state = all_zero_state; log = origin.log; home = origin.home; frames = frames; staging = [] } → blocks ≡ [] → At w blocks
  unfolding took_all
  on-made w blocks frames e q = rw (e, q, append-nil (stored_by run)) (made-good z origin book frames (good z range origin book run))

  on-called : (w w' : World) (blocks blocks' : List LogBlock) (c : CopyCall) (a : Reply) → At w blocks → CopyLent z c → CopyStep c w a w' → blocks' ≡ blocks ++ taken_in z c a → At w' blocks'
  on-called w w' blocks blocks' c a g l st e = subst (At w') (sym e) (grown w' blocks (taken_in z c a) (do-copy-call z range w (book_of run blocks) g c a w' l st))

  on-unfit : (w w' : World) (blocks : List LogBlock) (c : CopyCall) (a : Reply) (lent lent' : World) → At w blocks → lent.state ≡ w.state → CopyStep c lent a lent'
      → (a ≡ refuses 1) ⊎ (a ≡ refuses 2) → w' ≡ with_state w lent'.state → At w' blocks
  on-unfit w w' blocks c a lent lent' g same st r e =
      let u : Unfit c lent.state lent'.state = ⊎_elim (λ (x : a ≡ refuses 1). unfit-state c 1 a lent lent' x st) (λ (x : a ≡ refuses 2). unfit-state c 2 a lent lent' x st) r in
      subst (λ (v : World). At v blocks) (sym e) (do-unfit z w (book_of run blocks) g c lent'.state (subst (λ (s : State). Unfit c s lent'.state) same u))

  on-cut : (w w'' : World) (blocks blocks'' : List LogBlock) (c : CopyCall) (a : Reply) (w' : World) (stored : Bool) (frames : List ℕ) → At w blocks → CopyLent z c → CopyStep c w a w'
      → w'' ≡ fallen (cond stored w' w) frames [] → blocks'' ≡ blocks ++ cond stored (taken_in z c a) [] → At w'' blocks''
  on-cut w w'' blocks blocks'' c a w' true frames g l st e q = subst (λ (v : World). At v blocks'') (sym e) (fall w' blocks'' frames (on-called w w' blocks blocks'' c a g l st q))
  on-cut w w'' blocks blocks'' c a w' false frames g l st e q =
      subst (λ (v : World). At v blocks'') (sym e) (subst (At (fallen w frames [])) (sym (q ∙ append-nil blocks)) (fall w blocks frames g))

  pub copy-good : (w : World) (blocks : List LogBlock) → CopyRun promised copy_promised z run w blocks → At w blocks
  copy-good w blocks (made frames e q) = on-made w blocks frames e q
  copy-good w blocks (copy_called {world = w₀} {blocks = blocks₀} c a r l st e) = on-called w₀ w blocks₀ blocks c a (copy-good w₀ blocks₀ r) l st e
  copy-good w blocks (copy_unfit {world = w₀} c a lent lent' r same st rf e) = on-unfit w₀ w blocks c a lent lent' (copy-good w₀ blocks r) same st rf e
  copy-good w blocks (copy_cut {world = w₀} {blocks = blocks₀} c a w' stored frames r l st e q) = on-cut w₀ w blocks₀ blocks c a w' stored frames (copy-good w₀ blocks₀ r) l st e q
  copy-good w blocks (copy_cut_unfit {world = w₀} c a lent lent' frames r same st rf e) = subst (λ (v : World). At v blocks) (sym e) (fall w₀ blocks frames (copy-good w₀ blocks r))

-- THE CUT RULE OF A COPY
pub copy-demand : CopyClaim promised copy_promised
copy-demand z in_range origin book run w blocks r =
    let range = ranged z in_range in
    let g = copy-good z range run w blocks r in
    let b : CopyBook = book_of run blocks in
    record {
      opens_right = λ frames a w' l st. copy-opens z range w b g frames l a w' st;
      reads_right = λ frames a w' l st p x w'' h rd.
          copy-reading z range w' b (do-copy-open z range w b g frames l a w' st) p x w'' rd (accepts-read z range w b g frames l a w' st p x w'' h rd);
      shows_right = λ p x w' rd ok. copy-reading z range w b g p x w' rd ok;
      says_right = λ t x w' st ok. copy-asking z range w b g t x w' st ok;
    }

-- AGREEMENT
pub agrees : Agreement promised copy_promised
agrees z in_range origin book run origin' book' run' begins w blocks r ours nw p a x w₁ w₂ rd ok st ok' =
    let range = ranged z in_range in
    let big : 0 < z.slots = omega arith in
    let g = copy-good z range run w blocks r in
    let g' = good z range origin' book' run' in
    let s : Since book (stored_by run) book' (stored_by run') = run-leads z range begins in
    let l1 : newest (slots_of z.slots z.pages w.log) ≡ length (stored_by run ++ blocks) = newest-is (sizes_of z) _ g.home_pages _ (stored_by run ++ blocks) big g.kept in
    let l2 : newest (slots_of z.slots z.pages origin'.log) ≡ length (stored_by run') = newest-is (sizes_of z) _ g'.home _ (stored_by run') big g'.kept in
    let l3 : length (stored_by run') ≡ length (stored_by run) + length s.more = ap length s.grew ∙ length-append (stored_by run) s.more in
    let ln : length blocks ≡ length s.more = omega (arith, l1, l2, l3, nw, length-append (stored_by run) blocks) in
    let eq : blocks ≡ s.more = ext_get_or no_block blocks s.more ln (λ i h. ours i h ∙ ap (λ (y : List LogBlock). get_or y (length (stored_by run) + i) no_block) s.grew ∙ get_or-append-add (stored_by run) s.more i no_block) in
    let mine : a ≡ shows (book'.pages p) = (demand-three z in_range origin' book' run').answers (reading p) a w₁ tt rd ok in
    let his : x ≡ shows ((book_of run blocks).pages p) = (copy-demand z in_range origin book run w blocks r).shows_right p x w₂ st ok' in
    let same : book'.pages p ≡ (book_of run blocks).pages p = s.leads.pages p ∙ ap (λ (y : List LogBlock). (took_all y (made_from book (stored_by run))).pages p) (sym eq) in
    his ∙ ap shows (sym same) ∙ sym mine
