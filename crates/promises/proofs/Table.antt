-- The table of frames when one entry and its frame change: what looking a page up finds. Commit, Open and the clean block change it so.
-- Assumes nothing.
use mathlib.Core.Path.{◌≡◌, refl, sym, ap, ◌∙◌, subst}
use mathlib.Core.Bool.{Bool, true, false, cond, not, ◌&&◌}
use Prim.Native.Nat.{ℕ, zero, suc, ◌+◌, ◌≤◌, ◌<◌}
use mathlib.Core.List.{List, [], ◌∷◌}
use native.Mathlib.Omega.{arith}
use lib.ListN.{length, get_or, set}
use lib.Seq.{set-get_or}
use lib.Dec.{eqb}
use borrow.Author.Tests.{eqb-true, eqb-false, ne_eqb}
use Rattle.area.proofs.Laws.{and_both, by_cases, or-false}
use Rattle.promises.specs.declared.Dirty.{Dirty}
use Rattle.promises.specs.Areas.{page_at}
use Rattle.promises.specs.Updates.{Update, put}
use Rattle.promises.specs.States.{free}
use Rattle.promises.specs.DirtyPages.{DirtyPage, Found, absent, at, look_up, apply, without}
use Rattle.promises.specs.Contents.{unless, dirty_from}
use Rattle.promises.specs.Sound.{member, dirty_numbers}

-- ---- what a look-up finds

-- one page at most
pub same_at : {e f : DirtyPage} → at e ≡ at f → e ≡ f
same_at h = cc

-- no page is found and absent
pub found-absent : {X : Type 0} (e : DirtyPage) → at e ≡ absent → X
found-absent e h = let z : ◌≡◌ {A = ℕ} 0 1 = cc in absurd (omega arith)

-- ---- an entry and its frame

-- this entry, looked up as page p, before the others
abbrev pub entry_or : ℕ → Dirty → List ℕ → Found → Found
entry_or p d bytes rest = cond (not (eqb d.first 0) && eqb p d.page) (at (record { page = d.page; first = d.first; bytes = bytes })) rest

-- frames that agree from frame f on
dirty-cong : (frames frames' : List ℕ) (f : ℕ) (ds : List Dirty) → ((g : ℕ) → f ≤ g → page_at frames' g ≡ page_at frames g) → dirty_from frames' f ds ≡ dirty_from frames f ds
unfolding dirty_from
dirty-cong frames frames' f [] h = refl
dirty-cong frames frames' f (d ∷ ds) h = rw (h f (omega arith), dirty-cong frames frames' (suc f) ds (λ g l. h g (omega arith))) refl

-- what an entry before the changed one does: it is not the changed page
swap : (p : ℕ) (b c : Bool) (x y r : Found) → (c ≡ true → b ≡ false) → cond b x (cond c y r) ≡ cond c y (cond b x r)
swap p true true x y r h = let e : ◌≡◌ {A = Bool} true false = h refl in let z : ◌≡◌ {A = ℕ} 0 1 = cc in absurd (omega arith)
swap p true false x y r h = refl
swap p false true x y r h = refl
swap p false false x y r h = refl

not-false : (a : Bool) → not a ≡ true → a ≡ false
not-false true e = let z : ◌≡◌ {A = ℕ} 0 1 = cc in absurd (omega arith)
not-false false e = refl

-- ONE ENTRY CHANGES: entry i becomes d and frame f + i other bytes
pub look_up-set : (p : ℕ) (frames frames' : List ℕ) (f i : ℕ) (ds : List Dirty) (d : Dirty) → i < length ds
    → ((g : ℕ) → (g ≡ f + i → ⊥) → page_at frames' g ≡ page_at frames g)
    → (eqb d.first 0 ≡ false → member d.page (dirty_numbers (set ds i free)) ≡ false)
    → look_up p (dirty_from frames' f (set ds i d)) ≡ entry_or p d (page_at frames' (f + i)) (look_up p (dirty_from frames f (set ds i free)))
unfolding dirty_from dirty_numbers look_up
look_up-set p frames frames' f i [] d h a n = absurd (omega arith)
look_up-set p frames frames' f zero (x ∷ ds) d h a n =
    let e : dirty_from frames' (suc f) ds ≡ dirty_from frames (suc f) ds = dirty-cong frames frames' (suc f) ds (λ g l. a g (λ q. omega arith)) in
    let z : f + 0 ≡ f = omega arith in
    rw (e, z) (go (eqb d.first 0) (dirty_from frames (suc f) ds))
  where
    go : (b : Bool) (es : List DirtyPage) → look_up p (unless b (record { page = d.page; first = d.first; bytes = page_at frames' f }) es)
        ≡ cond (not b && eqb p d.page) (at (record { page = d.page; first = d.first; bytes = page_at frames' f })) (look_up p es)
    go true es = refl
    go false es = refl
look_up-set p frames frames' f (suc i) (x ∷ ds) d h a n =
    let k : suc f + i ≡ f + suc i = omega arith in
    let ih : (eqb d.first 0 ≡ false → member d.page (dirty_numbers (set ds i free)) ≡ false)
    → look_up p (dirty_from frames' (suc f) (set ds i d)) ≡ entry_or p d (page_at frames' (suc f + i)) (look_up p (dirty_from frames (suc f) (set ds i free))) =
    λ m. look_up-set p frames frames' (suc f) i ds d (omega arith) (λ g q. a g (λ r. q (omega arith))) m in
    let hd : page_at frames' f ≡ page_at frames f = a f (λ q. omega arith) in
    rw hd (go (eqb x.first 0) n (λ m. ih m ∙ ap (λ (j : ℕ). entry_or p d (page_at frames' j) (look_up p (dirty_from frames (suc f) (set ds i free)))) k))
  where
    go : (b : Bool) → (eqb d.first 0 ≡ false → member d.page (unless b x.page (dirty_numbers (set ds i free))) ≡ false)
        → ((eqb d.first 0 ≡ false → member d.page (dirty_numbers (set ds i free)) ≡ false) → look_up p (dirty_from frames' (suc f) (set ds i d)) ≡ entry_or p d (page_at frames' (f + suc i)) (look_up p (dirty_from frames (suc f) (set ds i free))))
        → look_up p (unless b (record { page = x.page; first = x.first; bytes = page_at frames f }) (dirty_from frames' (suc f) (set ds i d)))
        ≡ entry_or p d (page_at frames' (f + suc i)) (look_up p (unless b (record { page = x.page; first = x.first; bytes = page_at frames f }) (dirty_from frames (suc f) (set ds i free))))
    go true n ih = ih n
    go false n ih =
        let tl : eqb d.first 0 ≡ false → member d.page (dirty_numbers (set ds i free)) ≡ false = λ e. (or-false (eqb d.page x.page) (member d.page (dirty_numbers (set ds i free))) (n e)).1 in
        ap (λ (r : Found). cond (eqb p x.page) (at (record { page = x.page; first = x.first; bytes = page_at frames f })) r) (ih tl)
        ∙ swap p (eqb p x.page) (not (eqb d.first 0) && eqb p d.page) _ _ _
        (λ c. let y = and_both (not (eqb d.first 0)) (eqb p d.page) c in
        let q : p ≡ d.page = eqb-true p d.page y.1 in
        let z : eqb d.page x.page ≡ false = (or-false (eqb d.page x.page) (member d.page (dirty_numbers (set ds i free))) (n (not-false (eqb d.first 0) y.0))).0 in
        ne_eqb p x.page (λ r. eqb-false d.page x.page z (sym q ∙ r)))

-- ---- the three changes
pub apply-new : (s : ℕ) (home : ℕ → List ℕ) (u : Update) (es : List DirtyPage) (p : ℕ) → look_up u.page es ≡ absent
    → look_up p (apply s home u es) ≡ cond (eqb p u.page) (at (record { page = u.page; first = s; bytes = put u (home u.page) })) (look_up p es)
unfolding apply look_up
apply-new s home u [] p e = refl
apply-new s home u (x ∷ es) p e = by_cases (eqb u.page x.page)
    (λ t. let c : at x ≡ absent = rw t at e in let z : ◌≡◌ {A = ℕ} 0 1 = cc in absurd (omega arith))
    (λ t. rw t (ap (λ (r : Found). cond (eqb p x.page) (at x) r) (apply-new s home u es p (rw t at e))
    ∙ swap p (eqb p x.page) (eqb p u.page) _ _ _ (λ c. ne_eqb p x.page (λ q. eqb-false u.page x.page t (sym (eqb-true p u.page c) ∙ q)))))

pub apply-old : (s : ℕ) (home : ℕ → List ℕ) (u : Update) (es : List DirtyPage) (p : ℕ) (y : DirtyPage) → look_up u.page es ≡ at y
    → look_up p (apply s home u es) ≡ cond (eqb p u.page) (at (record { page = y.page; first = y.first; bytes = put u y.bytes })) (look_up p es)
unfolding apply look_up
apply-old s home u [] p y e = let z : ◌≡◌ {A = ℕ} 0 1 = cc in absurd (omega arith)
apply-old s home u (x ∷ es) p y e = by_cases (eqb u.page x.page)
    (λ t. let c : x ≡ y = same_at (rw t at e) in
    let m : eqb p u.page ≡ eqb p x.page = ap (eqb p) (eqb-true u.page x.page t) in
    rw t (subst (λ (b : Bool). cond b (at (more x)) (look_up p es) ≡ cond (eqb p u.page) (at (more y)) (cond b (at x) (look_up p es))) m (fin (eqb p u.page) (ap (λ (v : DirtyPage). at (more v)) c))))
    (λ t. rw t (ap (λ (r : Found). cond (eqb p x.page) (at x) r) (apply-old s home u es p y (rw t at e))
    ∙ swap p (eqb p x.page) (eqb p u.page) _ _ _ (λ c. ne_eqb p x.page (λ q. eqb-false u.page x.page t (sym (eqb-true p u.page c) ∙ q)))))
  where
    more : DirtyPage → DirtyPage
    more v = record { page = v.page; first = v.first; bytes = put u v.bytes }

    fin : (b : Bool) → at (more x) ≡ at (more y) → cond b (at (more x)) (look_up p es) ≡ cond b (at (more y)) (cond b (at x) (look_up p es))
    fin true e = e
    fin false e = refl

-- ---- a clean block frees its page's frame
pub look_up-without : (p q : ℕ) (es : List DirtyPage) → look_up p (without q es) ≡ cond (eqb p q) absent (look_up p es)
unfolding look_up without
look_up-without p q [] = by_cases (eqb p q) (λ t. rw t refl) (λ t. rw t refl)
look_up-without p q (x ∷ es) = by_cases (eqb q x.page)
    (λ t. rw t (look_up-without p q es ∙ by_cases (eqb p q)
    (λ r. rw r refl)
    (λ r. let n : eqb p x.page ≡ false = ne_eqb p x.page (λ e. eqb-false p q r (e ∙ sym (eqb-true q x.page t))) in rw (r, n) refl)))
    (λ t. rw t (ap (λ (y : Found). cond (eqb p x.page) (at x) y) (look_up-without p q es)
    ∙ swap p (eqb p x.page) (eqb p q) _ _ _ (λ c. ne_eqb p x.page (λ e. eqb-false q x.page t (sym (eqb-true p q c) ∙ e)))))

-- a page that is not found is not taken out
pub without-none : (q : ℕ) (es : List DirtyPage) → look_up q es ≡ absent → without q es ≡ es
unfolding look_up without
without-none q [] h = refl
without-none q (e ∷ es) h = by_cases (eqb q e.page)
    (λ t. found-absent e (rw t at h))
    (λ t. rw t (ap (λ (l : List DirtyPage). e ∷ l) (without-none q es (rw t at h))))

pub look_up-none : (p : ℕ) (frames : List ℕ) (f : ℕ) (ds : List Dirty) → member p (dirty_numbers ds) ≡ false → look_up p (dirty_from frames f ds) ≡ absent
unfolding dirty_from dirty_numbers look_up
look_up-none p frames f [] h = refl
look_up-none p frames f (d ∷ ds) h = go (look_up-none p frames (suc f) ds) (eqb d.first 0) h
  where
    go : (member p (dirty_numbers ds) ≡ false → look_up p (dirty_from frames (suc f) ds) ≡ absent) → (b : Bool) → member p (unless b d.page (dirty_numbers ds)) ≡ false
        → look_up p (unless b (record { page = d.page; first = d.first; bytes = page_at frames f }) (dirty_from frames (suc f) ds)) ≡ absent
    go ih true h = ih h
    go ih false h = let e = or-false (eqb p d.page) (member p (dirty_numbers ds)) h in rw e.0 (ih e.1)

pub look_up-freed : (p : ℕ) (frames : List ℕ) (f i : ℕ) (ds : List Dirty) → i < length ds → eqb (get_or ds i free).first 0 ≡ false → member (get_or ds i free).page (dirty_numbers (set ds i free)) ≡ false
    → look_up p (dirty_from frames f (set ds i free)) ≡ look_up p (without (get_or ds i free).page (dirty_from frames f ds))
look_up-freed p frames f i ds h z n =
    let x : Dirty = get_or ds i free in
    let l : look_up p (dirty_from frames f ds) ≡ entry_or p x (page_at frames (f + i)) (look_up p (dirty_from frames f (set ds i free))) =
    ap (λ (y : List Dirty). look_up p (dirty_from frames f y)) (sym (set-get_or ds i free)) ∙ look_up-set p frames frames f i ds x h (λ g q. refl) (λ e. n) in
    sym (look_up-without p x.page (dirty_from frames f ds)
    ∙ by_cases (eqb p x.page)
    (λ t. rw t (sym (ap (λ (y : ℕ). look_up y (dirty_from frames f (set ds i free))) (eqb-true p x.page t) ∙ look_up-none x.page frames f (set ds i free) n)))
    (λ t. rw t (l ∙ rw (z, t) refl)))
