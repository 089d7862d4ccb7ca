-- Where a walk may begin, and that keep-from is such a place.
use mathlib.Core.Path.{◌≡◌, refl, sym, ap, ◌∙◌, subst}
use Prim.Native.Nat.{ℕ, ◌+◌, ◌≤◌, min}
use native.Mathlib.Omega.{arith}
use native.Mathlib.Nat.{zero-add}
use native.Mathlib.Decide.{dec_le}
use mathlib.Core.List.{List, [], ◌∷◌, ◌++◌, append_assoc}
use lib.ListN.{length}
use borrow.Author.Tests.{eq-eqb, ne_eqb}
use Rattle.promises.specs.Updates.{Update}
use Rattle.promises.proofs.History.Views.{Page, Begins}
use Rattle.promises.specs.Blocks.{Kind, update, commit, clean, LogBlock}
use Rattle.promises.proofs.History.Machine.{last_keep}
use Rattle.promises.specs.DirtyPages.{DirtyPage, Found, absent, at, look_up, apply, apply_all, without, keep_from_of}
use Rattle.promises.proofs.History.Since.{AtLeast}
use Rattle.promises.proofs.History.Sees.{Sees, clear, held, by-eq, look_up-without-same, look_up-without-other, look_up-other}

abbrev pub is_commit : Kind → ℕ
is_commit (update i u) = 0
is_commit (commit n) = 1
is_commit (clean q) = 0

abbrev pub commits : List LogBlock → ℕ
commits [] = 0
commits (b ∷ bs) = is_commit b.kind + commits bs

pub commits-append : (xs ys : List LogBlock) → commits (xs ++ ys) ≡ commits xs + commits ys
commits-append [] ys = sym (zero-add _)
commits-append (x ∷ xs) ys = omega (arith, commits-append xs ys)

-- block f begins a walk, and the tickets from there on add up to m
pub record BeginsAt (history : List LogBlock) (m f : ℕ) : Type 0 where
  pub pre : List LogBlock
  pub block : LogBlock
  pub post : List LogBlock
  pub split : history ≡ pre ++ (block ∷ post)
  pub place : length pre + 1 ≡ f
  pub begins : Begins block.kind
  pub tick : block.ticket + commits (block ∷ post) ≡ m

pub begins-append : {history : List LogBlock} {m f : ℕ} (b : LogBlock) → BeginsAt history m f → BeginsAt (history ++ (b ∷ [])) (m + is_commit b.kind) f
begins-append b g = record {
  pre = g.pre;
  block = g.block;
  post = g.post ++ (b ∷ []);
  split = ap (λ (l : List LogBlock). l ++ (b ∷ [])) g.split ∙ append_assoc g.pre (g.block ∷ g.post) (b ∷ []);
  place = g.place;
  begins = g.begins;
  tick = omega (arith, commits-append g.post (b ∷ []), g.tick);
}

pub begins-last : (history : List LogBlock) (m : ℕ) (b : LogBlock) → Begins b.kind → b.ticket + is_commit b.kind ≡ m → BeginsAt (history ++ (b ∷ [])) m (length history + 1)
begins-last history m b g t = record { pre = history; block = b; post = []; split = refl; place = refl; begins = g; tick = omega arith }

-- ---- the list of dirty pages has each page once
abbrev pub Distinct : List DirtyPage → Type 0
Distinct [] = Unit {0}
Distinct (e ∷ es) = (look_up e.page es ≡ absent) × Distinct es

abbrev pub Good : List LogBlock → ℕ → Found → Type 0
Good history m absent = Unit {0}
Good history m (at e) = BeginsAt history m e.first

pub min-or : (P : ℕ → Type 0) (a b : ℕ) → P a → P b → P (min a b)
min-or P a b x y = elim (dec_le a b) [ yes h ↦ subst P (omega arith) x | no h ↦ subst P (omega arith) y ]

pub look_up-head : (e : DirtyPage) (es : List DirtyPage) → look_up e.page (e ∷ es) ≡ at e
unfolding look_up
look_up-head e es = simp (eq-eqb e.page e.page refl)

good-tail : (history : List LogBlock) (m : ℕ) (e : DirtyPage) (es : List DirtyPage) → look_up e.page es ≡ absent → ((p : ℕ) → Good history m (look_up p (e ∷ es))) → (p : ℕ) → Good history m (look_up p es)
unfolding look_up
good-tail history m e es d g p = by-eq p e.page
    (λ q. rw (q, d) tt)
    (λ n. simp (ne_eqb _ _ n) at (g p))

pub keep_from-begins : (history : List LogBlock) (m d : ℕ) (es : List DirtyPage) → Distinct es → ((p : ℕ) → Good history m (look_up p es)) → BeginsAt history m d → BeginsAt history m (keep_from_of d es)
unfolding keep_from_of
keep_from-begins history m d [] u g b = b
keep_from-begins history m d (e ∷ es) u g b = min-or (BeginsAt history m) e.first (keep_from_of d es)
    (rw (look_up-head e es) at (g e.page))
    (keep_from-begins history m d es u.1 (good-tail history m e es u.0 g) b)

pub keep_from-le : (d : ℕ) (es : List DirtyPage) → keep_from_of d es ≤ d
unfolding keep_from_of
keep_from-le d [] = omega arith
keep_from-le d (e ∷ es) = omega (arith, keep_from-le d es)

-- keep-from is at most each page's first group
pub keep_from-least : (h : List ℕ) (d p : ℕ) (es : List DirtyPage) (c : Page) → Sees h (look_up p es) c → AtLeast (keep_from_of d es) c
unfolding keep_from_of look_up
keep_from-least h d p [] c clear = AtLeast.none
keep_from-least h d p (e ∷ es) c m = by-eq p e.page
    (λ q. head (simp (eq-eqb _ _ q) at m))
    (λ n. lower (keep_from-least h d p es c (simp (ne_eqb _ _ n) at m)))
  where
    head : {c : Page} → Sees h (at e) c → AtLeast (min e.first (keep_from_of d es)) c
    head (held q) = AtLeast.some {f = e.first} (omega arith)

    lower : {c : Page} → AtLeast (keep_from_of d es) c → AtLeast (min e.first (keep_from_of d es)) c
    lower AtLeast.none = AtLeast.none
    lower (AtLeast.some {f = f} k) = AtLeast.some {f = f} (omega arith)

-- ---- distinct pages stay so
apply-absent : (s : ℕ) (home : ℕ → List ℕ) (u : Update) (q : ℕ) (es : List DirtyPage) → (q ≡ u.page → ⊥) → look_up q es ≡ absent → look_up q (apply s home u es) ≡ absent
apply-absent s home u q es n d = look_up-other s home u q es n ∙ d

pub distinct-apply : (s : ℕ) (home : ℕ → List ℕ) (u : Update) (es : List DirtyPage) → Distinct es → Distinct (apply s home u es)
unfolding apply look_up
distinct-apply s home u [] d = (refl, tt)
distinct-apply s home u (e ∷ es) d = by-eq u.page e.page
    (λ q. simp (eq-eqb _ _ q) (d.0, d.1))
    (λ n. simp (ne_eqb _ _ n) (apply-absent s home u e.page es (λ q. n (sym q)) d.0, distinct-apply s home u es d.1))

pub distinct-all : (s : ℕ) (home : ℕ → List ℕ) (us : List Update) (es : List DirtyPage) → Distinct es → Distinct (apply_all s home us es)
unfolding apply_all
distinct-all s home [] es d = d
distinct-all s home (u ∷ us) es d = distinct-all s home us (apply s home u es) (distinct-apply s home u es d)

without-absent : (p q : ℕ) (es : List DirtyPage) → look_up p es ≡ absent → look_up p (without q es) ≡ absent
without-absent p q es d = by-eq p q (λ e. rw (sym e) (look_up-without-same p es)) (λ n. look_up-without-other p q es n ∙ d)

pub distinct_without : (q : ℕ) (es : List DirtyPage) → Distinct es → Distinct (without q es)
unfolding without
distinct_without q [] d = tt
distinct_without q (e ∷ es) d = by-eq q e.page
    (λ x. simp (eq-eqb _ _ x) (distinct_without q es d.1))
    (λ n. simp (ne_eqb _ _ n) (without-absent e.page q es d.0, distinct_without q es d.1))

pub last_keep-snoc : (history : List LogBlock) (b : LogBlock) → last_keep (history ++ (b ∷ [])) ≡ b.keep_from
unfolding last_keep
last_keep-snoc [] b = refl
last_keep-snoc (x ∷ []) b = refl
last_keep-snoc (x ∷ y ∷ history) b = last_keep-snoc (y ∷ history) b
