-- A walk from keep-from on sees what the walk of the whole log sees.
use mathlib.Core.Path.{◌≡◌, refl, ap, ◌∙◌, subst}
use Prim.Native.Nat.{ℕ, suc, ◌+◌, ◌≤◌, ◌<◌}
use native.Mathlib.Omega.{arith}
use native.Mathlib.Nat.{zero-add}
use mathlib.Core.Bool.{Bool, true, false, cond}
use mathlib.Core.List.{List, [], ◌∷◌, ◌++◌}
use lib.ListN.{length}
use lib.Dec.{eqb}
use native.Mathlib.Decide.{ℕ_discrete}
use borrow.Author.Tests.{eq-eqb, ne_eqb}
use Rattle.promises.specs.Updates.{Update}
use Rattle.promises.proofs.History.Views.{Page, tidy, dirty, View, no_view, committed_over, view_block, view_from, Begins, first, cleans}
use Rattle.promises.specs.Blocks.{Kind, update, commit, clean, LogBlock}
use Rattle.promises.specs.Updates.{of_page}

-- two numbers are the same or not
pub by-eq {ℓ} : {X : Type ℓ} (a b : ℕ) → (a ≡ b → X) → ((a ≡ b → ⊥) → X) → X
by-eq a b f g = elim (ℕ_discrete a b) [ yes e ↦ f e | no n ↦ g n ]

-- two views: the same, but that the longer one's page may be dirty since before k
pub data Same (k : ℕ) : Page → Page → Type 0 where
  same : {c : Page} → Same k c c
  stale : {f : ℕ} {us : List Update} {c : Page} → f < k → Same k (dirty f us) c

pub record Sim (k : ℕ) (t s : View) : Type 0 where
  pub group : t.group ≡ s.group
  pub start : t.start ≡ s.start
  pub page : Same k t.page s.page

same-committed : {k : ℕ} (s : ℕ) (us : List Update) {c d : Page} → Same k c d → Same k (committed_over s us c) (committed_over s us d)
unfolding committed_over
same-committed s us same = same
same-committed s [] (stale h) = stale h
same-committed s (u ∷ us) (stale h) = stale h

same_cond : {k : ℕ} (b : Bool) {c d : Page} → Same k c d → Same k (cond b tidy c) (cond b tidy d)
same_cond true m = same
same_cond false m = m

pub sim-step : {k : ℕ} (p j : ℕ) (b : Kind) (t s : View) → Sim k t s → Sim k (view_block p j b t) (view_block p j b s)
unfolding view_block
sim-step {k} p j (update i u) t s m = go (eqb i 1)
  where
    go : (b : Bool) → Sim k (cond b (record { group = u ∷ []; start = j; page = t.page }) (record { group = t.group ++ (u ∷ []); start = t.start; page = t.page }))
        (cond b (record { group = u ∷ []; start = j; page = s.page }) (record { group = s.group ++ (u ∷ []); start = s.start; page = s.page }))
    go true = record { group = refl; start = refl; page = m.page }
    go false = record { group = ap (λ (l : List Update). l ++ (u ∷ [])) m.group; start = m.start; page = m.page }
sim-step {k} p j (commit n) t s m = record { group = refl; start = refl; page = rw (m.group, m.start) (same-committed s.start (of_page p s.group) m.page) }
sim-step p j (clean q) t s m = record { group = refl; start = refl; page = same_cond (eqb p q) m.page }

pub sim-track : {k : ℕ} (p j : ℕ) (bs : List LogBlock) (t s : View) → Sim k t s → Sim k (view_from p j bs t) (view_from p j bs s)
unfolding view_from
sim-track p j [] t s m = m
sim-track p j (b ∷ bs) t s m = sim-track p (suc j) bs (view_block p j b.kind t) (view_block p j b.kind s) (sim-step p j b.kind t s m)

-- a page's first group, if it has one, is at least k / below k
pub data AtLeast (k : ℕ) : Page → Type 0 where
  none : AtLeast k tidy
  some : {f : ℕ} {us : List Update} → k ≤ f → AtLeast k (dirty f us)

pub data Below (k : ℕ) : Page → Type 0 where
  none : Below k tidy
  some : {f : ℕ} {us : List Update} → f < k → Below k (dirty f us)

below-same : {k : ℕ} {c : Page} → Below k c → Same k c tidy
below-same none = same
below-same (some h) = stale h

-- the first block of the walk takes any older view and the empty one to views that are the same but for what is stale
pub sim-begin : {k : ℕ} (p j : ℕ) (b : Kind) (t : View) → Begins b → Below k t.page → Sim k (view_block p j b t) (view_block p j b no_view)
unfolding view_block
sim-begin p j (update i u) t first l = record { group = refl; start = refl; page = below-same l }
sim-begin p j (commit n) t begins l = elim begins [ ]
sim-begin p j (clean q) t cleans l = record { group = refl; start = refl; page = same_cond (eqb p q) (below-same l) }

pub track-append : (p j : ℕ) (xs ys : List LogBlock) (t : View) → view_from p j (xs ++ ys) t ≡ view_from p (length xs + j) ys (view_from p j xs t)
unfolding view_from
track-append p j [] ys t = simp zero-add
track-append p j (x ∷ xs) ys t = track-append p (suc j) xs ys (view_block p j x.kind t) ∙ ap (λ (n : ℕ). view_from p n ys (view_from p (suc j) xs (view_block p j x.kind t))) (omega arith)

same_end : {k : ℕ} {c d : Page} → AtLeast k c → Same k c d → c ≡ d
same_end none same = refl
same_end (some g) same = refl
same_end (some g) (stale h) = absurd (omega arith)

-- PREFIX IRRELEVANCE: where the page's first group is not before k, the walk from k alone gives the page's updates
pub from-keep_from : (p k : ℕ) (xs : List LogBlock) (b : LogBlock) (ys : List LogBlock) → length xs + 1 ≡ k → Begins b.kind
    → Below k (view_from p 1 xs no_view).page
    → AtLeast k (view_from p 1 (xs ++ (b ∷ ys)) no_view).page
    → (view_from p 1 (xs ++ (b ∷ ys)) no_view).page ≡ (view_from p k (b ∷ ys) no_view).page
unfolding view_from
from-keep_from p k xs b ys e g l m =
    let r : Sim k (view_from p (suc k) ys (view_block p k b.kind (view_from p 1 xs no_view))) (view_from p (suc k) ys (view_block p k b.kind no_view)) = sim-track p (suc k) ys _ _ (sim-begin p k b.kind (view_from p 1 xs no_view) g l) in
    let q : view_from p 1 (xs ++ (b ∷ ys)) no_view ≡ view_from p (suc k) ys (view_block p k b.kind (view_from p 1 xs no_view)) = track-append p 1 xs (b ∷ ys) no_view ∙ ap (λ (n : ℕ). view_from p n (b ∷ ys) (view_from p 1 xs no_view)) e in
    rw q (same_end (rw q at m) r.page)

-- each first group lies before the next block
below_up : {j : ℕ} {c : Page} → Below j c → Below (suc j) c
below_up none = Below.none
below_up (some {f = f} h) = Below.some {f = f} (omega arith)

below-committed : {j : ℕ} (s : ℕ) (us : List Update) (c : Page) → s < j → Below j c → Below j (committed_over s us c)
unfolding committed_over
below-committed s [] c h b = b
below-committed s (u ∷ us) tidy h b = Below.some h
below-committed s (u ∷ us) (dirty f vs) h (some g) = Below.some g

below-cond : {j : ℕ} (b : Bool) (c : Page) → Below j c → Below j (cond b tidy c)
below-cond true c h = Below.none
below-cond false c h = h

below_step : (p j : ℕ) (b : Kind) (t : View) → 0 < j → t.start < j → Below j t.page → ((view_block p j b t).start < suc j) × Below (suc j) (view_block p j b t).page
unfolding view_block
below_step p j (update i u) t z s h = by-eq i 1 (λ e. simp (eq-eqb _ _ e) (omega arith, below_up h)) (λ n. simp (ne_eqb _ _ n) (omega arith, below_up h))
below_step p j (commit n) t z s h = (omega arith, below-committed t.start (of_page p t.group) t.page (omega arith) (below_up h))
below_step p j (clean q) t z s h = (omega arith, below-cond (eqb p q) t.page (below_up h))

pub below-track : (p j : ℕ) (bs : List LogBlock) (t : View) → 0 < j → t.start < j → Below j t.page → Below (length bs + j) (view_from p j bs t).page
unfolding view_from
below-track p j [] t z s h = rw zero-add h
below-track p j (b ∷ bs) t z s h =
    let r = below_step p j b.kind t z s h in
    subst (λ (n : ℕ). Below n (view_from p (suc j) bs (view_block p j b.kind t)).page) (omega arith) (below-track p (suc j) bs (view_block p j b.kind t) (omega arith) r.0 r.1)
