-- Keep-from: the same from any list of dirty pages that sees the views, not changed by the commit's own pages, and never going back.
use mathlib.Core.Path.{◌≡◌, refl, sym, ap, ◌∙◌, subst}
use Prim.Native.Nat.{ℕ, zero, suc, ◌+◌, ◌-◌, ◌≤◌, ◌<◌, min}
use native.Mathlib.Omega.{arith}
use mathlib.Core.Bool.{Bool, true, false, cond}
use mathlib.Core.List.{List, [], ◌∷◌}
use lib.ListN.{length}
use lib.Seq.{length-take-le}
use lib.Dec.{eqb}
use borrow.Author.Tests.{ne_eqb}
use Rattle.promises.specs.Blocks.{LogBlock}
use Rattle.promises.specs.Updates.{Update, put}
use Rattle.promises.specs.DirtyPages.{DirtyPage, Found, absent, at, look_up, apply, apply_all, keep_from_of}
use Rattle.promises.proofs.History.Views.{Page, tidy, dirty}
use Rattle.promises.proofs.History.Machine.{last_keep}
use Rattle.promises.proofs.History.Since.{AtLeast}
use Rattle.promises.proofs.History.Sees.{Sees, clear, held, by-eq}
use Rattle.promises.proofs.History.WalkStart.{Distinct, min-or, look_up-head, keep_from-le, keep_from-least}
use Rattle.promises.proofs.History.Invariant.{view, Disk, Keep, empty, from, Half, whole, part}
use Rattle.promises.proofs.History.Tally.{Pages, look_up-page}
use Rattle.promises.proofs.History.HalfEnd.{HalfEnd, none, some, begins-le}

-- all first groups are at least k
keep_from-ge : (k d : ℕ) (es : List DirtyPage) → Distinct es → ((p : ℕ) (e : DirtyPage) → look_up p es ≡ at e → k ≤ e.first) → k ≤ d → k ≤ keep_from_of d es
unfolding keep_from_of look_up
keep_from-ge k d [] u g h = h
keep_from-ge k d (e ∷ es) u g h = min-or (λ n. k ≤ n) e.first (keep_from_of d es) (g e.page e (look_up-head e es))
    (keep_from-ge k d es u.1 (λ p x q. by-eq p e.page
    (λ y. let c : ◌≡◌ {A = Found} absent (at x) = sym u.0 ∙ ap (λ (n : ℕ). look_up n es) (sym y) ∙ q in let n : ◌≡◌ {A = ℕ} 0 1 = cc in absurd (omega arith))
    (λ n. g p x (simp (ne_eqb _ _ n) q))) h)

first-ge : {k : ℕ} {h : List ℕ} {x : Found} {c : Page} → AtLeast k c → Sees h x c → (e : DirtyPage) → x ≡ at e → k ≤ e.first
first-ge a clear e q = let n : ◌≡◌ {A = ℕ} 0 1 = cc in absurd (omega arith)
first-ge {k} (AtLeast.some g) (held {e = y} f) e q = let s : y ≡ e = cc in subst (λ (t : DirtyPage). k ≤ t.first) s g

-- ---- keep-from, of views: the smallest first group over the pages below P, and the block's own number
abbrev first_in : ℕ → Page → ℕ
first_in own tidy = own
first_in own (dirty f us) = f

unfoldable pub least_of : ℕ → ℕ → (ℕ → Page) → ℕ
least_of zero own c = own
least_of (suc P) own c = min (first_in own (c P)) (least_of P own c)

first_of : {k own : ℕ} {c : Page} → k ≤ own → AtLeast k c → k ≤ first_in own c
first_of h AtLeast.none = h
first_of h (AtLeast.some g) = g

least-ge : (k P own : ℕ) (c : ℕ → Page) → k ≤ own → ((p : ℕ) → AtLeast k (c p)) → k ≤ least_of P own c
unfolding least_of
least-ge k zero own c h a = h
least-ge k (suc P) own c h a = min-or (λ n. k ≤ n) (first_in own (c P)) (least_of P own c) (first_of h (a P)) (least-ge k P own c h a)

least-own : (P own : ℕ) (c : ℕ → Page) → least_of P own c ≤ own
unfolding least_of
least-own zero own c = omega arith
least-own (suc P) own c = omega (arith, least-own P own c)

least-le : (P own : ℕ) (c : ℕ → Page) (p : ℕ) → p < P → least_of P own c ≤ first_in own (c p)
unfolding least_of
least-le zero own c p h = absurd (omega arith)
least-le (suc P) own c p h = by-eq p P (λ e. rw e (omega arith)) (λ n. omega (arith, least-le P own c p (omega arith)))

seen_first : {h : List ℕ} {x : Found} {c : Page} (n own : ℕ) (e : DirtyPage) → Sees h x c → x ≡ at e → n ≤ first_in own c → n ≤ e.first
seen_first n own e clear q l = let z : ◌≡◌ {A = ℕ} 0 1 = cc in absurd (omega arith)
seen_first n own e (held {e = y} f) q l = let s : y ≡ e = cc in subst (λ (t : DirtyPage). n ≤ t.first) s l

-- a list of dirty pages that sees the views gives the same keep-from
pub least-is : (P own : ℕ) (home : ℕ → List ℕ) (es : List DirtyPage) (c : ℕ → Page) → Distinct es → Pages P es → ((p : ℕ) → Sees (home p) (look_up p es) (c p))
    → keep_from_of own es ≡ least_of P own c
least-is P own home es c d b s =
    let le : keep_from_of own es ≤ least_of P own c = least-ge (keep_from_of own es) P own c (keep_from-le own es) (λ p. keep_from-least (home p) own p es (c p) (s p)) in
    let ge : least_of P own c ≤ keep_from_of own es = keep_from-ge (least_of P own c) own es d
    (λ p e q. seen_first (least_of P own c) own e (s p) q (least-le P own c p (look_up-page P p e es q b))) (least-own P own c) in
    omega arith

-- the pages that a commit makes dirty have its group's own start as first group, which counts anyway
keep-apply : (start : ℕ) (home : ℕ → List ℕ) (u : Update) (es : List DirtyPage) → keep_from_of start (apply start home u es) ≡ keep_from_of start es
unfolding keep_from_of apply
keep-apply start home u [] = omega arith
keep-apply start home u (e ∷ es) = go (eqb u.page e.page) (keep-apply start home u es)
  where
    go : (b : Bool) → keep_from_of start (apply start home u es) ≡ keep_from_of start es
        → keep_from_of start (cond b (record { page = e.page; first = e.first; bytes = put u e.bytes } ∷ es) (e ∷ apply start home u es))
        ≡ keep_from_of start (e ∷ es)
    go true h = refl
    go false h = ap (min e.first) h

pub keep-applied : (start : ℕ) (home : ℕ → List ℕ) (us : List Update) (es : List DirtyPage) → keep_from_of start (apply_all start home us es) ≡ keep_from_of start es
unfolding apply_all
keep-applied start home [] es = refl
keep-applied start home (u ∷ us) es = keep-applied start home us (apply start home u es) ∙ keep-apply start home u es

-- ---- keep-from along a history

pub keep-le : (history : List LogBlock) (m : ℕ) → Keep history m → last_keep history ≤ length history + 1
unfolding last_keep
keep-le history m (empty e z) = rw e (omega arith)
keep-le history m (from g) = omega (arith, begins-le g)

-- the oldest queued group starts at keep-from or later
pub own-ge : (P : ℕ) (history : List LogBlock) (m n : ℕ) (q : List (List Update)) → Keep history m → HalfEnd P history m → Half history m n q → last_keep history ≤ length history + 1 - n
own-ge P history m n q kp hf (whole z) = omega (arith, keep-le history m kp)
own-ge P history m n q kp hf (part g r e z le pd st bg) = go hf
  where
    go : HalfEnd P history m → last_keep history ≤ length history + 1 - n
    go (none y) = let l : length (view history 0).group ≡ n = ap length (pd 0) ∙ length-take-le n g le in absurd (omega (arith, ap length y))
    go (some y s b2 lk lg us sd) = omega (arith, st 0)

-- KEEP-FROM NEVER GOES BACK
pub keep-grows : (history : List LogBlock) (home pages : ℕ → List ℕ) (m own : ℕ) (es : List DirtyPage) → Disk history home pages m → Distinct es
    → ((p : ℕ) → Sees (home p) (look_up p es) (view history p).page) → last_keep history ≤ own → last_keep history ≤ keep_from_of own es
keep-grows history home pages m own es d u s h = keep_from-ge (last_keep history) own es u (λ p e q. first-ge (d.least p) (s p) e q) h
