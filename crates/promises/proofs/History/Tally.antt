-- How many pages are dirty: the list's length is a count over the pages, and a count is monotone.
use mathlib.Core.Path.{◌≡◌, refl, ◌∙◌}
use Prim.Native.Nat.{ℕ, zero, suc, ◌+◌, ◌≤◌, ◌<◌}
use native.Mathlib.Omega.{arith}
use mathlib.Core.Bool.{Bool, true, false}
use mathlib.Core.List.{List, [], ◌∷◌}
use lib.ListN.{length}
use lib.Dec.{eqb}
use borrow.Author.Tests.{eq-eqb, ne_eqb}
use Rattle.promises.proofs.History.Views.{Page, tidy, dirty}
use Rattle.promises.specs.DirtyPages.{DirtyPage, Found, absent, at, look_up}
use Rattle.promises.proofs.History.Since.{Same, same, stale}
use Rattle.promises.proofs.History.Sees.{Sees, clear, held, by-eq}
use Rattle.promises.proofs.History.WalkStart.{Distinct}

unfoldable pub tally : ℕ → (ℕ → ℕ) → ℕ
tally zero f = 0
tally (suc n) f = f n + tally n f

pub tally-mono : (n : ℕ) (f g : ℕ → ℕ) → ((p : ℕ) → f p ≤ g p) → tally n f ≤ tally n g
unfolding tally
tally-mono zero f g h = omega arith
tally-mono (suc n) f g h = omega (arith, h n, tally-mono n f g h)

pub tally-same : (n : ℕ) (f g : ℕ → ℕ) → ((p : ℕ) → f p ≡ g p) → tally n f ≡ tally n g
unfolding tally
tally-same zero f g h = refl
tally-same (suc n) f g h = omega (arith, h n, tally-same n f g h)

tally-add : (n : ℕ) (f g : ℕ → ℕ) → tally n (λ p. f p + g p) ≡ tally n f + tally n g
unfolding tally
tally-add zero f g = refl
tally-add (suc n) f g = omega (arith, tally-add n f g)

one : Bool → ℕ
one true = 1
one false = 0

tally-off : (n q : ℕ) → n ≤ q → tally n (λ p. one (eqb p q)) ≡ 0
unfolding tally one
tally-off zero q l = refl
tally-off (suc n) q l = simp (ne_eqb n q (omega arith)) (omega (arith, tally-off n q (omega arith)))

tally-one : (n q : ℕ) → q < n → tally n (λ p. one (eqb p q)) ≡ 1
unfolding tally one
tally-one zero q l = absurd (omega arith)
tally-one (suc n) q l = by-eq n q
    (λ e. simp (eq-eqb n q e) (omega (arith, tally-off n q (omega arith))))
    (λ d. simp (ne_eqb n q d) (omega (arith, tally-one n q (omega arith))))

abbrev pub here : Found → ℕ
here absent = 0
here (at e) = 1

abbrev pub Pages : ℕ → List DirtyPage → Type 0
Pages P [] = Unit {0}
Pages P (e ∷ es) = (e.page < P) × Pages P es

-- a page that is found is a page
pub look_up-page : (P q : ℕ) (e : DirtyPage) (es : List DirtyPage) → look_up q es ≡ at e → Pages P es → q < P
unfolding look_up
look_up-page P q e [] f p = let x : ◌≡◌ {A = ℕ} 0 1 = cc in absurd (omega arith)
look_up-page P q e (y ∷ es) f p = by-eq q y.page (λ x. rw x p.0) (λ n. look_up-page P q e es (simp (ne_eqb _ _ n) at f) p.1)

here-cons : (p : ℕ) (e : DirtyPage) (es : List DirtyPage) → look_up e.page es ≡ absent → here (look_up p (e ∷ es)) ≡ one (eqb p e.page) + here (look_up p es)
unfolding look_up one
here-cons p e es d = by-eq p e.page
    (λ q. simp (eq-eqb _ _ q) (rw (q, d) refl))
    (λ n. simp (ne_eqb _ _ n) (omega arith))

pub tally-zero : (n : ℕ) → tally n (λ p. 0) ≡ 0
unfolding tally
tally-zero zero = refl
tally-zero (suc n) = omega (arith, tally-zero n)

pub tally-look_up : (P : ℕ) (es : List DirtyPage) → Distinct es → Pages P es → tally P (λ p. here (look_up p es)) ≡ length es
unfolding look_up
tally-look_up P [] d b = tally-zero P
tally-look_up P (e ∷ es) d b = tally-same P _ _ (λ p. here-cons p e es d.0) ∙ tally-add P _ _ ∙ omega (arith, tally-one P e.page b.0, tally-look_up P es d.1 b.1)

abbrev pub is_dirty : Page → ℕ
is_dirty tidy = 0
is_dirty (dirty f us) = 1

pub sees-here : {h : List ℕ} {x : Found} {c : Page} → Sees h x c → here x ≡ is_dirty c
sees-here clear = refl
sees-here (held q) = refl

-- a walk from keep-from has no more pages dirty than the history had
pub same-le : {k : ℕ} {c d : Page} → Same k c d → is_dirty d ≤ is_dirty c
same-le same = omega arith
same-le (stale {c = tidy} h) = omega arith
same-le (stale {c = dirty f us} h) = omega arith
