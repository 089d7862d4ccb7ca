-- How far back first groups lie: a half group begins after all of them, so H + D with and without it can be compared.
use mathlib.Core.Path.{◌≡◌, refl, sym, ap, ◌∙◌, subst}
use Prim.Native.Nat.{ℕ, suc, ◌+◌, ◌-◌, ◌≤◌, ◌<◌, min}
use native.Mathlib.Omega.{arith}
use native.Mathlib.Decide.{dec_le}
use mathlib.Core.List.{List, [], ◌∷◌, ◌++◌}
use lib.ListN.{length, get_or, length-append}
use lib.Seq.{get_or-append_seam}
use borrow.Author.Tests.{eq-eqb, ne_eqb}
use Rattle.promises.specs.Updates.{Update}
use Rattle.promises.specs.Blocks.{Kind, update, commit, clean, LogBlock, no_block}
use Rattle.promises.specs.DirtyPages.{DirtyPage, Found, absent, at, look_up, apply, apply_all, keep_from_of}
use Rattle.promises.proofs.History.Views.{Page, View, no_view, view_block, view_from, Begins, first, cleans}
use Rattle.promises.proofs.History.Machine.{no_update}
use Rattle.promises.proofs.History.Sees.{Sees, clear, held, by-eq}
use Rattle.promises.proofs.History.WalkStart.{BeginsAt, Distinct, look_up-head}
use Rattle.promises.proofs.History.Invariant.{view, First, some}
use Rattle.promises.proofs.History.HalfEnd.{Stands, begins-le}

-- keep-from with a smaller number of one's own
pub keep-cut : (d d' : ℕ) (es : List DirtyPage) → d ≤ d' → keep_from_of d es ≡ min d (keep_from_of d' es)
unfolding keep_from_of
keep-cut d d' [] h = omega arith
keep-cut d d' (e ∷ es) h = omega (arith, keep-cut d d' es h)

-- every first group is at most k
abbrev pub Firsts : ℕ → List DirtyPage → Type 0
Firsts k [] = Unit {0}
Firsts k (e ∷ es) = (e.first ≤ k) × Firsts k es

firsts-of : (k : ℕ) (es : List DirtyPage) → Distinct es → ((p : ℕ) (e : DirtyPage) → look_up p es ≡ at e → e.first ≤ k) → Firsts k es
unfolding look_up
firsts-of k [] u g = tt
firsts-of k (e ∷ es) u g = (
  g e.page e (look_up-head e es),
  firsts-of k es u.1 (λ p x q. by-eq p e.page
      (λ y. let c : ◌≡◌ {A = Found} absent (at x) = sym u.0 ∙ ap (λ (n : ℕ). look_up n es) (sym y) ∙ q in let n : ◌≡◌ {A = ℕ} 0 1 = cc in absurd (omega arith))
      (λ n. g p x (simp (ne_eqb _ _ n) q))),
)

seen-begins : {history : List LogBlock} {m : ℕ} {h : List ℕ} {x : Found} {c : Page} → Sees h x c → First history m c → (e : DirtyPage) → x ≡ at e → BeginsAt history m e.first
seen-begins clear f e q = let n : ◌≡◌ {A = ℕ} 0 1 = cc in absurd (omega arith)
seen-begins {history} {m} (held {e = y} g) (some b) e q = let s : y ≡ e = cc in subst (λ (t : DirtyPage). BeginsAt history m t.first) s b

module _ (history : List LogBlock) (m : ℕ) (home : ℕ → List ℕ) (es : List DirtyPage) (d : Distinct es) (s : (p : ℕ) → Sees (home p) (look_up p es) (view history p).page)
    (f : (p : ℕ) → First history m (view history p).page) where
  pub firsts-past : Firsts (length history) es
  firsts-past = firsts-of (length history) es d (λ p e q. (begins-le (seen-begins (s p) (f p) e q)).1)

  no-begin : {X : Type 0} (i : ℕ) (u : Update) (k : Kind) → 0 < i → Begins k → k ≡ update (i + 1) u → X
  no-begin i u k h first e = let n : 1 ≡ i + 1 = cc in absurd (omega arith)
  no-begin i u k h cleans e = let n : ◌≡◌ {A = ℕ} 0 1 = cc in absurd (omega arith)

  -- a block that begins a walk is not inside the half group
  begins-before : (start : ℕ) (us : List Update) → 0 < start → start + length us ≡ length history + 1 → Stands history start us → (x : ℕ) → BeginsAt history m x → x ≤ start
  begins-before start us z e sd x b = elim (dec_le x start) [
    | yes h ↦ h
    | no n ↦
        let l = begins-le b in
        let i : ℕ = x - start in
        let k : (get_or history (start + i - 1) no_block).kind ≡ update (i + 1) (get_or us i no_update) = sd i (omega (arith, l)) in
        let g : get_or history (start + i - 1) no_block ≡ b.block =
        ap (λ (j : ℕ). get_or history j no_block) (omega (arith, b.place)) ∙ ap (λ (xs : List LogBlock). get_or xs (length b.pre) no_block) b.split ∙ get_or-append_seam b.pre b.block b.post no_block in
        no-begin i (get_or us i no_update) b.block.kind (omega arith) b.begins (ap (λ (y : LogBlock). y.kind) (sym g) ∙ k)
  ]

  pub firsts-before : (start : ℕ) (us : List Update) → 0 < start → start + length us ≡ length history + 1 → Stands history start us → Firsts start es
  firsts-before start us z e sd = firsts-of start es d (λ p x q. begins-before start us z e sd x.first (seen-begins (s p) (f p) x q))

-- ---- once a group is committed, some first group is at most its start
keep-apply-le : (d start : ℕ) (home : ℕ → List ℕ) (u : Update) (es : List DirtyPage) → Firsts start es → keep_from_of d (apply start home u es) ≤ start
unfolding keep_from_of apply
keep-apply-le d start home u [] f = omega arith
keep-apply-le d start home u (e ∷ es) f = by-eq u.page e.page
    (λ q. simp (eq-eqb _ _ q) (omega (arith, f.0)))
    (λ n. simp (ne_eqb _ _ n) (omega (arith, keep-apply-le d start home u es f.1)))

keep-apply-less : (d start : ℕ) (home : ℕ → List ℕ) (u : Update) (es : List DirtyPage) → keep_from_of d (apply start home u es) ≤ keep_from_of d es
unfolding keep_from_of apply
keep-apply-less d start home u [] = omega arith
keep-apply-less d start home u (e ∷ es) = by-eq u.page e.page
    (λ q. simp (eq-eqb _ _ q) (omega arith))
    (λ n. simp (ne_eqb _ _ n) (omega (arith, keep-apply-less d start home u es)))

keep-all-less : (d start : ℕ) (home : ℕ → List ℕ) (us : List Update) (es : List DirtyPage) → keep_from_of d (apply_all start home us es) ≤ keep_from_of d es
unfolding apply_all
keep-all-less d start home [] es = omega arith
keep-all-less d start home (u ∷ us) es = omega (arith, keep-all-less d start home us (apply start home u es), keep-apply-less d start home u es)

pub keep-committed : (d start : ℕ) (home : ℕ → List ℕ) (us : List Update) (es : List DirtyPage) → 0 < length us → Firsts start es → keep_from_of d (apply_all start home us es) ≤ start
unfolding apply_all
keep-committed d start home [] es h f = absurd (omega arith)
keep-committed d start home (u ∷ us) es h f = omega (arith, keep-all-less d start home us (apply start home u es), keep-apply-le d start home u es f)

-- no half group: no start
none-start : (p j : ℕ) (bs : List LogBlock) (t : View) → (t.group ≡ [] → t.start ≡ 0) → (view_from p j bs t).group ≡ [] → (view_from p j bs t).start ≡ 0
unfolding view_from view_block
none-start p j [] t h = h
none-start p j (b ∷ bs) t h = none-start p (suc j) bs (view_block p j b.kind t) (go b.kind)
  where
    full : {X : Type 0} (us : List Update) (u : Update) → us ++ (u ∷ []) ≡ [] → X
    full us u e = absurd (omega (arith, length-append us (u ∷ []), ap length e))

    go : (k : Kind) → (view_block p j k t).group ≡ [] → (view_block p j k t).start ≡ 0
    go (update i u) = by-eq i 1 (λ e. simp (eq-eqb _ _ e) (λ q. full [] u q)) (λ n. simp (ne_eqb _ _ n) (λ q. full t.group u q))
    go (commit n) = λ q. refl
    go (clean q) = λ e. refl

pub whole-start : (history : List LogBlock) (p : ℕ) → (view history p).group ≡ [] → (view history p).start ≡ 0
whole-start history p e = none-start p 1 history no_view (λ q. refl) e
