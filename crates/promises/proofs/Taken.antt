-- What a run makes of the book is what a copy's book makes of the blocks that the run stored.
-- Assumes nothing.
use mathlib.Core.Path.{◌≡◌, refl, sym, ap, ◌∙◌, subst}
use mathlib.Core.Bool.{Bool, true, false, cond}
use Prim.Native.Nat.{ℕ, suc, ◌+◌}
use mathlib.Core.List.{List, [], ◌∷◌, ◌++◌, append-nil, append_assoc}
use native.Mathlib.Omega.{arith}
use lib.ListN.{length}
use lib.Dec.{eqb}
use borrow.Author.Tests.{lt-ltb, le-ltb}
use Rattle.promises.specs.Updates.{Update, redo, of_page}
use Rattle.promises.specs.Blocks.{Kind, update, commit, clean, LogBlock}
use Rattle.promises.specs.Contents.{queue_of}
use Rattle.promises.specs.Book.{Book, counted, committed, stepped_over, begun, described, ended, gone}
use Rattle.promises.specs.Events.{Sizes, World, Call, opening, begin, describe, ending, log_step, clean_step, reading, settling, Step, Lent, Logging}
use Rattle.promises.specs.Claim.{promised, entered, cut_at, both, Run}
use Rattle.promises.specs.Corollaries.{Begins, itself, by_call, by_unfit, by_cut, by_cut_unfit}
use Rattle.promises.specs.Stored.{new_block, stored_in, stored_by}
use Rattle.promises.specs.Copy.{CopyBook, took, took_all, half_of, made_from}
use Rattle.promises.proofs.History.Views.{View, no_view, view_block, view_from}
use Rattle.promises.proofs.History.WalkStart.{is_commit, commits, commits-append}
use Rattle.promises.proofs.History.Invariant.{view, full}
use Rattle.promises.proofs.Ranges.{Ranged}
use Rattle.promises.proofs.Kept.{Good}
use Rattle.promises.proofs.LogSteps.{commit_at, log-cases, ready, do-commit, do-log}
use Rattle.promises.proofs.StoredBlocks.{new-block}
use Rattle.promises.proofs.CleanSteps.{do-clean}
use Rattle.promises.proofs.Demand3.{good}
use Rattle.promises.specs.Answers.{Reply, accepts}

-- ---- two copies' books say the same
pub record Alike (a b : CopyBook) : Type 0 where
  pub pages : (p : ℕ) → a.pages p ≡ b.pages p
  pub m : a.m ≡ b.m
  pub group : a.group ≡ b.group

pub alike_same : (a : CopyBook) → Alike a a
alike_same a = record { pages = λ p. refl; m = refl; group = refl }

pub alike-trans : {a b c : CopyBook} → Alike a b → Alike b c → Alike a c
alike-trans h k = record { pages = λ p. h.pages p ∙ k.pages p; m = h.m ∙ k.m; group = h.group ∙ k.group }

alike-took : (k : Kind) (a b : CopyBook) → Alike a b → Alike (took k a) (took k b)
alike-took (update i u) a b h = record { pages = h.pages; m = h.m; group = ap (λ (us : List Update). cond (eqb i 1) (u ∷ []) (us ++ (u ∷ []))) h.group }
alike-took (commit n) a b h = record { pages = λ p. ap (λ (us : List Update). redo (of_page p us) (a.pages p)) h.group ∙ ap (redo (of_page p b.group)) (h.pages p); m = ap (λ (n : ℕ). n + 1) h.m; group = refl }
alike-took (clean q) a b h = record { pages = h.pages; m = h.m; group = cc h.group }

pub alike_all : (bs : List LogBlock) (a b : CopyBook) → Alike a b → Alike (took_all bs a) (took_all bs b)
unfolding took_all
alike_all [] a b h = h
alike_all (x ∷ bs) a b h = alike_all bs (took x.kind a) (took x.kind b) (alike-took x.kind a b h)

pub took-append : (xs ys : List LogBlock) (a : CopyBook) → took_all (xs ++ ys) a ≡ took_all ys (took_all xs a)
unfolding took_all
took-append [] ys a = refl
took-append (x ∷ xs) ys a = took-append xs ys (took x.kind a)

-- the half group goes by the half group alone
group-took : (k : Kind) (a b : CopyBook) → a.group ≡ b.group → (took k a).group ≡ (took k b).group
group-took (update i u) a b e = ap (λ (us : List Update). cond (eqb i 1) (u ∷ []) (us ++ (u ∷ []))) e
group-took (commit n) a b e = refl
group-took (clean q) a b e = cc e

group-all : (bs : List LogBlock) (a b : CopyBook) → a.group ≡ b.group → (took_all bs a).group ≡ (took_all bs b).group
unfolding took_all
group-all [] a b e = e
group-all (x ∷ bs) a b e = group-all bs (took x.kind a) (took x.kind b) (group-took x.kind a b e)

-- and is the one of the views
pub group-step : (p j : ℕ) (k : Kind) (a : CopyBook) (t : View) → a.group ≡ t.group → (took k a).group ≡ (view_block p j k t).group
unfolding view_block
group-step p j (update i u) a t e = go (eqb i 1)
  where
    go : (c : Bool) → cond c (u ∷ []) (a.group ++ (u ∷ []))
        ≡ (cond {A = View} c (record { group = u ∷ []; start = j; page = t.page }) (record { group = t.group ++ (u ∷ []); start = t.start; page = t.page })).group
    go true = refl
    go false = ap (λ (us : List Update). us ++ (u ∷ [])) e
group-step p j (commit n) a t e = refl
group-step p j (clean q) a t e = refl

group-view : (p j : ℕ) (bs : List LogBlock) (a : CopyBook) (t : View) → a.group ≡ t.group → (took_all bs a).group ≡ (view_from p j bs t).group
unfolding took_all view_from
group-view p j [] a t e = e
group-view p j (x ∷ bs) a t e = group-view p (suc j) bs (took x.kind a) (view_block p j x.kind t) (group-step p j x.kind a t e)

pub half-view : (history : List LogBlock) (p : ℕ) → half_of history ≡ (view history p).group
half-view history p = group-view p 1 history (record { pages = λ page. []; m = 0; group = [] }) no_view refl

-- ---- a book leads to another over blocks
abbrev pub Leads : Book → List LogBlock → Book → List LogBlock → Type 0
Leads b history b' more = Alike (made_from b' (history ++ more)) (took_all more (made_from b history))

half-leads : (history more : List LogBlock) (b : Book) → half_of (history ++ more) ≡ (took_all more (made_from b history)).group
half-leads history more b =
    ap (λ (x : CopyBook). x.group) (took-append history more (record { pages = λ page. []; m = 0; group = [] }))
    ∙ group-all more (took_all history (record { pages = λ page. []; m = 0; group = [] })) (made_from b history) refl

pub leads-trans : (b b' b'' : Book) (history xs ys : List LogBlock) → Leads b history b' xs → Leads b' (history ++ xs) b'' ys → Leads b history b'' (xs ++ ys)
leads-trans b b' b'' history xs ys h k =
    subst (λ (l : List LogBlock). Alike (made_from b'' l) (took_all (xs ++ ys) (made_from b history))) (append_assoc history xs ys)
    (subst (Alike (made_from b'' ((history ++ xs) ++ ys))) (sym (took-append xs ys (made_from b history)))
    (alike-trans k (alike_all ys (made_from b' (history ++ xs)) (took_all xs (made_from b history)) h)))

-- blocks without a commit leave pages and m
quiet-took : (k : Kind) (a : CopyBook) → is_commit k ≡ 0 → ((p : ℕ) → (took k a).pages p ≡ a.pages p) × ((took k a).m ≡ a.m)
quiet-took (update i u) a e = (λ p. refl, refl)
quiet-took (commit n) a e = absurd (omega arith)
quiet-took (clean q) a e = (λ p. refl, refl)

quiet_all : (bs : List LogBlock) (a : CopyBook) → commits bs ≡ 0 → ((p : ℕ) → (took_all bs a).pages p ≡ a.pages p) × ((took_all bs a).m ≡ a.m)
unfolding took_all
quiet_all [] a e = (λ p. refl, refl)
quiet_all (x ∷ bs) a e =
    let h = quiet-took x.kind a (omega arith) in
    let k = quiet_all bs (took x.kind a) (omega arith) in
    (λ p. k.0 p ∙ h.0 p, k.1 ∙ h.1)

pub quiet-leads : (b b' : Book) (history more : List LogBlock) → ((p : ℕ) → b'.pages p ≡ b.pages p) → b'.m ≡ b.m → commits more ≡ 0 → Leads b history b' more
quiet-leads b b' history more hp hm e =
    let k = quiet_all more (made_from b history) e in
    record { pages = λ p. hp p ∙ sym (k.0 p); m = hm ∙ sym k.1; group = half-leads history more b }

-- a book with the same pages and m is led to as well
pub leads-as : (b b₁ b₂ : Book) (history more : List LogBlock) → ((p : ℕ) → b₂.pages p ≡ b₁.pages p) → b₂.m ≡ b₁.m → Leads b history b₁ more → Leads b history b₂ more
leads-as b b₁ b₂ history more hp hm h = record { pages = λ p. hp p ∙ h.pages p; m = hm ∙ h.m; group = h.group }

-- ---- a call
module _ (z : Sizes) (range : Ranged z) (w : World) (b : Book) {history : List LogBlock} (g : Good z w b history) where
  -- the blocks that leave m as it was have no commit
  none-committed : {w' : World} {b' : Book} (more : List LogBlock) → b'.m ≡ b.m → Good z w' b' (history ++ more) → commits more ≡ 0
  none-committed more e g' = omega (arith, commits-append history more, g.kept.total, g'.kept.total)

  commit-leads : (us : List Update) (q : List (List Update)) (x : LogBlock) → half_of history ≡ us → x.kind ≡ commit (length us) → Leads b history (committed b us q) (x ∷ [])
  unfolding took_all
  commit-leads us q x e k = record {
    pages = λ p. rw (k, e) refl;
    m = rw k refl;
    group = half-leads history (x ∷ []) b;
  }

  log-leads : (a : Reply) (w' : World) → Logging w a w' → Leads b history (entered log_step (accepts a) b) (stored_in z log_step (accepts a) w w')
  log-leads a w' st = log-cases z range w b g a w' (Leads b history (entered log_step (accepts a) b) (stored_in z log_step (accepts a) w w')) st
      (λ us q e so h u.
      let r = ready z range w b g us q e so in
      let ct : w.state.stored ≡ b.count = r.lives.runs.alive.count in
      let g' : Good z w' (entered log_step (accepts a) b) (history ++ stored_in z log_step (accepts a) w w') = do-log z range w b g a w' st in
      let eb : entered log_step (accepts a) b ≡ counted b = rw (st.reply_is, u.answer_is) (ap (stepped_over b) r.queue ∙ simp (le-ltb (length us) (b.count + 1) (omega arith))) in
      quiet-leads b (entered log_step (accepts a) b) history (stored_in z log_step (accepts a) w w') (λ p. ap (λ (x : Book). x.pages p) eb) (ap (λ (x : Book). x.m) eb)
      (none-committed (stored_in z log_step (accepts a) w w') (ap (λ (x : Book). x.m) eb) g'))
      (λ us q e so h u.
      let r = ready z range w b g us q e so in
      let ct : w.state.stored ≡ b.count = r.lives.runs.alive.count in
      let x : LogBlock = commit_at z range w b g us w.state.next in
      let nb : new_block z w w' ≡ x ∷ [] = new-block z range w w' (committed b us q) history x r.lives.runs.next (do-commit z range w b g us q e so h a w' st u) in
      let hf : half_of history ≡ us = half-view history 0 ∙ (full history b.m w.state.stored us (queue_of w.state w.staging) q e r.some h r.lives.runs.alive.half).pd 0 in
      let eb : stepped_over b b.queue ≡ committed b us q = ap (stepped_over b) r.queue ∙ simp (lt-ltb (length us) (b.count + 1) (omega arith)) in
      rw (st.reply_is, u.answer_is) (subst (λ (y : List LogBlock). Leads b history (stepped_over b b.queue) y) (sym nb)
      (subst (λ (y : Book). Leads b history y (x ∷ [])) (sym eb) (commit-leads us q x hf refl))))
      (λ n. rw (st.reply_is, (st.promise.refused n).0) (quiet-leads b b history [] (λ p. refl) refl refl))

  none-stored : Leads b history b []
  none-stored = quiet-leads b b history [] (λ p. refl) refl refl

  -- accepted or refused, it is led to
  either-leads : (b₁ b₂ : Book) (ok : Bool) (more : List LogBlock) → Leads b history b₁ more → Leads b history b₂ more → Leads b history (cond ok b₁ b₂) more
  either-leads b₁ b₂ true more h k = h
  either-leads b₁ b₂ false more h k = k

  call-leads : (c : Call) (a : Reply) (w' : World) → Lent z c → Step c w a w' → Leads b history (entered c (accepts a) b) (stored_in z c (accepts a) w w')
  call-leads (opening frames staging) a w' l st = either-leads (gone b) (gone b) (accepts a) [] none-stored none-stored
  call-leads (begin u) a w' l st = either-leads (begun b) b (accepts a) [] none-stored none-stored
  call-leads (describe u) a w' l st = either-leads (described u b) b (accepts a) [] none-stored none-stored
  call-leads ending a w' l st = either-leads (ended b) b (accepts a) [] none-stored none-stored
  call-leads log_step a w' l st = log-leads a w' st
  call-leads clean_step a w' l st =
      let more : List LogBlock = stored_in z clean_step (accepts a) w w' in
      let quiet : Leads b history b more = quiet-leads b b history more (λ p. refl) refl (none-committed more refl (do-clean z range w b g a w' st)) in
      either-leads b b (accepts a) more quiet quiet
  call-leads (reading p) a w' l st = either-leads b b (accepts a) [] none-stored none-stored
  call-leads (settling t) a w' l st = either-leads b b (accepts a) [] none-stored none-stored

  -- a call that is refused, and a cut at one
  refused-leads : (c : Call) → Leads b history (entered c false b) []
  refused-leads (opening frames staging) = none-stored
  refused-leads (begin u) = none-stored
  refused-leads (describe u) = none-stored
  refused-leads ending = none-stored
  refused-leads log_step = none-stored
  refused-leads clean_step = none-stored
  refused-leads (reading p) = none-stored
  refused-leads (settling t) = none-stored

  -- a cut takes no more than list, queue and count
  cut_as : (c : Call) (ok : Bool) (more : List LogBlock) → Leads b history (entered c ok b) more → Leads b history (cut_at c ok b) more
  cut_as (opening frames staging) true more h = h
  cut_as (opening frames staging) false more h = h
  cut_as (begin u) true more h = h
  cut_as (begin u) false more h = h
  cut_as (describe u) true more h = h
  cut_as (describe u) false more h = h
  cut_as ending true more h = h
  cut_as ending false more h = h
  cut_as log_step true more h = h
  cut_as log_step false more h = h
  cut_as clean_step true more h = h
  cut_as clean_step false more h = h
  cut_as (reading p) true more h = h
  cut_as (reading p) false more h = h
  cut_as (settling t) true more h = h
  cut_as (settling t) false more h = h

  none_in : (c : Call) (w' : World) → stored_in z c false w w' ≡ []
  none_in (opening frames staging) w' = refl
  none_in (begin u) w' = refl
  none_in (describe u) w' = refl
  none_in ending w' = refl
  none_in log_step w' = refl
  none_in clean_step w' = refl
  none_in (reading p) w' = refl
  none_in (settling t) w' = refl

  cut-leads : (c : Call) (a : Reply) (w' : World) (stored : Bool) → Lent z c → Step c w a w'
      → Leads b history (cut_at c (both stored (accepts a)) b) (stored_in z c (both stored (accepts a)) w w')
  cut-leads c a w' true l st = cut_as c (accepts a) (stored_in z c (accepts a) w w') (call-leads c a w' l st)
  cut-leads c a w' false l st = subst (Leads b history (cut_at c false b)) (sym (none_in c w')) (cut_as c false [] (refused-leads c))

-- ---- a run that goes on
pub record Since (b : Book) (history : List LogBlock) (b' : Book) (history' : List LogBlock) : Type 0 where
  pub more : List LogBlock
  pub grew : history' ≡ history ++ more
  pub leads : Leads b history b' more

goes_on_lem : (b b₁ b₂ : Book) (history h₁ more : List LogBlock) → Since b history b₁ h₁ → Leads b₁ h₁ b₂ more → Since b history b₂ (h₁ ++ more)
goes_on_lem b b₁ b₂ history h₁ more s l = record {
  more = s.more ++ more;
  grew = ap (λ (x : List LogBlock). x ++ more) s.grew ∙ append_assoc history s.more more;
  leads = leads-trans b b₁ b₂ history s.more more s.leads (subst (λ (x : List LogBlock). Leads b₁ x b₂ more) s.grew l);
}

goes_none : (b b₁ b₂ : Book) (history h₁ : List LogBlock) → Since b history b₁ h₁ → Leads b₁ h₁ b₂ [] → Since b history b₂ h₁
goes_none b b₁ b₂ history h₁ s l = subst (Since b history b₂) (append-nil h₁) (goes_on_lem b b₁ b₂ history h₁ [] s l)

since-as : (b b₁ b₂ : Book) (history h₁ : List LogBlock) → b₂ ≡ b₁ → Since b history b₁ h₁ → Since b history b₂ h₁
since-as b b₁ b₂ history h₁ e s = subst (λ (x : Book). Since b history x h₁) (sym e) s

-- THE BOOK OF A RUN THAT GOES ON IS WHAT A COPY'S BOOK MAKES OF THE BLOCKS STORED SINCE
pub run-leads : (z : Sizes) (range : Ranged z) {w : World} {b : Book} {run : Run promised z w b} {w' : World} {b' : Book} {run' : Run promised z w' b'} → Begins run w' b' run'
    → Since b (stored_by run) b' (stored_by run')
unfolding stored_by
run-leads z range {b = b} {run = run} itself = record { more = []; grew = sym (append-nil (stored_by run)); leads = quiet-leads b b (stored_by run) [] (λ p. refl) refl refl }
run-leads z range {b = b} {run = run} {b' = b'} (by_call {before = w₁} {after = w₂} {book₁ = b₁} {more = more} s c a l st e) =
    since-as b (entered c (accepts a) b₁) b' (stored_by run) (stored_by more ++ stored_in z c (accepts a) w₁ w₂) e
    (goes_on_lem b b₁ (entered c (accepts a) b₁) (stored_by run) (stored_by more) (stored_in z c (accepts a) w₁ w₂) (run-leads z range s) (call-leads z range w₁ b₁ (good z range w₁ b₁ more) c a w₂ l st))
run-leads z range {b = b} {run = run} {b' = b'} (by_unfit {before = w₁} {book₁ = b₁} {more = more} s c a lent lent' same st r wi e) =
    since-as b (entered c false b₁) b' (stored_by run) (stored_by more) e
    (goes_none b b₁ (entered c false b₁) (stored_by run) (stored_by more) (run-leads z range s) (refused-leads z range w₁ b₁ (good z range w₁ b₁ more) c))
run-leads z range {b = b} {run = run} {b' = b'} (by_cut {before = w₁} {book₁ = b₁} {more = more} s c a w₂ stored frames staging l st wi e) =
    since-as b (cut_at c (both stored (accepts a)) b₁) b' (stored_by run) (stored_by more ++ stored_in z c (both stored (accepts a)) w₁ w₂) e
    (goes_on_lem b b₁ (cut_at c (both stored (accepts a)) b₁) (stored_by run) (stored_by more) (stored_in z c (both stored (accepts a)) w₁ w₂) (run-leads z range s)
    (cut-leads z range w₁ b₁ (good z range w₁ b₁ more) c a w₂ stored l st))
run-leads z range {b = b} {run = run} {b' = b'} (by_cut_unfit {before = w₁} {book₁ = b₁} {more = more} s c a lent lent' frames staging same st r wi e) =
    since-as b (cut_at c false b₁) b' (stored_by run) (stored_by more) e
    (goes_none b b₁ (cut_at c false b₁) (stored_by run) (stored_by more) (run-leads z range s)
    (cut_as z range w₁ b₁ (good z range w₁ b₁ more) c false [] (refused-leads z range w₁ b₁ (good z range w₁ b₁ more) c)))
