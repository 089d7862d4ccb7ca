-- The list of dirty pages, in the machine and in Open's walk, agrees with each page's own view of the log.
use mathlib.Core.Path.{◌≡◌, refl, sym, ap, ◌∙◌}
use Prim.Native.Nat.{ℕ, suc}
use mathlib.Core.Bool.{cond}
use mathlib.Core.List.{List, [], ◌∷◌, ◌++◌, append_assoc}
use lib.Dec.{eqb}
use native.Mathlib.Decide.{ℕ_discrete}
use borrow.Author.Tests.{eq-eqb, ne_eqb}
use Rattle.promises.specs.Updates.{Update, put, redo}
use Rattle.promises.proofs.History.Views.{Page, tidy, dirty, View, committed_over, view_block, view_from}
use Rattle.promises.specs.Blocks.{Kind, update, commit, clean, LogBlock}
use Rattle.promises.specs.Updates.{of_page}
use Rattle.promises.proofs.History.Machine.{walk}
use Rattle.promises.specs.DirtyPages.{DirtyPage, Found, absent, at, look_up, apply, apply_all, without}
use Rattle.promises.specs.Walk.{Walk, walk_block}

-- what the list finds of a page whose home bytes are h, and its view
pub data Sees (h : List ℕ) : Found → Page → Type 0 where
  clear : Sees h absent tidy
  held : {e : DirtyPage} {us : List Update} → e.bytes ≡ redo us h → Sees h (at e) (dirty e.first us)

pub redo-append : (us vs : List Update) (h : List ℕ) → redo (us ++ vs) h ≡ redo vs (redo us h)
unfolding redo
redo-append [] vs h = refl
redo-append (u ∷ us) vs h = redo-append us vs (put u h)

-- two numbers are the same or not
pub by-eq {ℓ} : {X : Type ℓ} (a b : ℕ) → (a ≡ b → X) → ((a ≡ b → ⊥) → X) → X
by-eq a b f g = elim (ℕ_discrete a b) [ yes e ↦ f e | no n ↦ g n ]

held_more : (s : ℕ) (u : Update) (h : List ℕ) (x : DirtyPage) (c : Page) → Sees h (at x) c
    → Sees h (at (record { page = x.page; first = x.first; bytes = put u x.bytes })) (committed_over s (u ∷ []) c)
unfolding committed_over redo
held_more s u h x c (held {us = us} q) = held (ap (put u) q ∙ sym (redo-append us (u ∷ []) h))

fresh : (s : ℕ) (u : Update) (h h' : List ℕ) (c : Page) → h ≡ h' → Sees h absent c
    → Sees h (at (record { page = u.page; first = s; bytes = put u h' })) (committed_over s (u ∷ []) c)
unfolding committed_over redo
fresh s u h h' c e clear = held (ap (put u) (sym e))

-- one update
look_up-of_page : (s : ℕ) (home : ℕ → List ℕ) (u : Update) (p : ℕ) (es : List DirtyPage) (c : Page) → p ≡ u.page → Sees (home p) (look_up p es) c
    → Sees (home p) (look_up p (apply s home u es)) (committed_over s (u ∷ []) c)
unfolding look_up apply
look_up-of_page s home u p [] c e m = simp (eq-eqb _ _ e) (fresh s u (home p) (home u.page) c (ap home e) m)
look_up-of_page s home u p (x ∷ es) c e m = by-eq u.page x.page
    (λ f. let f' : p ≡ x.page = e ∙ f in simp (eq-eqb _ _ f, eq-eqb _ _ f') (held_more s u (home p) x c (simp (eq-eqb _ _ f') at m)))
    (λ n. let n' : p ≡ x.page → ⊥ = λ q. n (sym e ∙ q) in simp (ne_eqb _ _ n, ne_eqb _ _ n') (look_up-of_page s home u p es c e (simp (ne_eqb _ _ n') at m)))

pub look_up-other : (s : ℕ) (home : ℕ → List ℕ) (u : Update) (p : ℕ) (es : List DirtyPage) → (p ≡ u.page → ⊥) → look_up p (apply s home u es) ≡ look_up p es
unfolding look_up apply
look_up-other s home u p [] n = simp (ne_eqb _ _ n)
look_up-other s home u p (x ∷ es) n = by-eq u.page x.page
    (λ f. let n' : p ≡ x.page → ⊥ = λ q. n (q ∙ sym f) in simp (eq-eqb _ _ f, ne_eqb _ _ n'))
    (λ g. simp (ne_eqb _ _ g, look_up-other s home u p es n))

pub look_up-without-same : (p : ℕ) (es : List DirtyPage) → look_up p (without p es) ≡ absent
unfolding look_up without
look_up-without-same p [] = refl
look_up-without-same p (x ∷ es) = by-eq p x.page
    (λ e. simp (eq-eqb _ _ e) (look_up-without-same p es))
    (λ n. simp (ne_eqb _ _ n) (look_up-without-same p es))

pub look_up-without-other : (p q : ℕ) (es : List DirtyPage) → (p ≡ q → ⊥) → look_up p (without q es) ≡ look_up p es
unfolding look_up without
look_up-without-other p q [] n = refl
look_up-without-other p q (x ∷ es) n = by-eq q x.page
    (λ e. let n' : p ≡ x.page → ⊥ = λ f. n (f ∙ sym e) in simp (eq-eqb _ _ e, ne_eqb _ _ n') (look_up-without-other p q es n))
    (λ g. simp (ne_eqb _ _ g, look_up-without-other p q es n))

committed-cons : (s : ℕ) (u : Update) (us : List Update) (c : Page) → committed_over s (u ∷ us) c ≡ committed_over s us (committed_over s (u ∷ []) c)
unfolding committed_over
committed-cons s u [] c = refl
committed-cons s u (v ∷ us) tidy = refl
committed-cons s u (v ∷ us) (dirty f vs) = ap (dirty f) (sym (append_assoc vs (u ∷ []) (v ∷ us)))

-- a group's updates
pub sees-all : (s : ℕ) (home : ℕ → List ℕ) (p : ℕ) (us : List Update) (es : List DirtyPage) (c : Page) → Sees (home p) (look_up p es) c
    → Sees (home p) (look_up p (apply_all s home us es)) (committed_over s (of_page p us) c)
unfolding apply_all of_page committed_over
sees-all s home p [] es c m = m
sees-all s home p (u ∷ us) es c m = by-eq p u.page
    (λ e. simp (eq-eqb _ _ e) (rw (committed-cons s u (of_page p us) c) (sees-all s home p us (apply s home u es) (committed_over s (u ∷ []) c) (look_up-of_page s home u p es c e m))))
    (λ n. simp (ne_eqb _ _ n) (sees-all s home p us (apply s home u es) c (rw (look_up-other s home u p es n) m)))

pub sees-without : (h : List ℕ) (p q : ℕ) (es : List DirtyPage) (c : Page) → Sees h (look_up p es) c → Sees h (look_up p (without q es)) (cond (eqb p q) tidy c)
sees-without h p q es c m = by-eq p q
    (λ e. simp (eq-eqb _ _ e) (rw (sym e, look_up-without-same) clear))
    (λ n. simp (ne_eqb _ _ n, look_up-without-other p q es n) m)

-- ---- the walk, block by block
pub record Tells (home : ℕ → List ℕ) (p : ℕ) (v : Walk) (t : View) : Type 0 where
  pub group : v.group ≡ t.group
  pub start : v.start ≡ t.start
  pub sees : Sees (home p) (look_up p v.dirty_pages) t.page

pub tells-step : (home : ℕ → List ℕ) (p j : ℕ) (b : Kind) (v : Walk) (t : View) → Tells home p v t → Tells home p (walk_block home j b v) (view_block p j b t)
unfolding walk_block view_block
tells-step home p j (update i u) v t m = by-eq i 1
    (λ e. simp (eq-eqb _ _ e) (record { group = refl; start = refl; sees = m.sees }))
    (λ n. simp (ne_eqb _ _ n) (record { group = ap (λ (l : List Update). l ++ (u ∷ [])) m.group; start = m.start; sees = m.sees }))
tells-step home p j (commit n) v t m = record {
  group = refl;
  start = refl;
  sees = rw (← m.group, ← m.start) (sees-all v.start home p v.group v.dirty_pages t.page m.sees);
}
tells-step home p j (clean q) v t m = record { group = refl; start = refl; sees = sees-without (home p) p q v.dirty_pages t.page m.sees }

pub tells-walk : (home : ℕ → List ℕ) (p j : ℕ) (bs : List LogBlock) (v : Walk) (t : View) → Tells home p v t → Tells home p (walk home j bs v) (view_from p j bs t)
unfolding walk view_from
tells-walk home p j [] v t m = m
tells-walk home p j (b ∷ bs) v t m = tells-walk home p (suc j) bs _ _ (tells-step home p j b.kind v t m)
