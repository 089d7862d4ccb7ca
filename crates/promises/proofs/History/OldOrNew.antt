-- A page of which each byte is old or new; redo ends at the same page from it.
use mathlib.Core.Path.{◌≡◌, refl, ap}
use Prim.Native.Nat.{ℕ, zero, suc, ◌+◌, ◌≤◌}
use native.Mathlib.Nat.{le_of_suc-le-suc, not-suc-le-zero, zero-add, suc-add}
use native.Mathlib.Omega.{arith}
use mathlib.Core.List.{List, [], ◌∷◌, ◌++◌}
use lib.ListN.{length, take, drop}
use Rattle.promises.proofs.History.Legal.{Legal}
use Rattle.promises.specs.Updates.{Update, put, redo}

pub data Mix : List ℕ → List ℕ → List ℕ → Type 0 where
  none : Mix [] [] []
  old : {a b : ℕ} {p f h : List ℕ} → Mix p f h → Mix (a ∷ p) (b ∷ f) (a ∷ h)
  new : {a b : ℕ} {p f h : List ℕ} → Mix p f h → Mix (a ∷ p) (b ∷ f) (b ∷ h)

-- a page mixed with an equal one
mixed-with : {p f h : List ℕ} → Mix p f h → f ≡ p → h ≡ p
mixed-with none e = refl
mixed-with (old {a = a} {b = b} {p = p} {f = f} m) e = let tails : f ≡ p = cc in ap (λ (l : List ℕ). a ∷ l) (mixed-with m tails)
mixed-with (new {a = a} {b = b} {p = p} {f = f} {h = h} m) e =
    let tails : f ≡ p = cc in
    let heads : b ≡ a = cc in
    let same : h ≡ p = mixed-with m tails in
    cc

-- a page mixed with itself
pub mixed-self : {p h : List ℕ} → Mix p p h → h ≡ p
mixed-self m = mixed-with m refl

pub mixed-old : (p f : List ℕ) → length p ≡ length f → Mix p f p
mixed-old [] [] e = none
mixed-old [] (b ∷ f) e = absurd (omega arith)
mixed-old (a ∷ p) [] e = absurd (omega arith)
mixed-old (a ∷ p) (b ∷ f) e = old (mixed-old p f (omega arith))

pub mixed-new : (p f : List ℕ) → length p ≡ length f → Mix p f f
mixed-new [] [] e = none
mixed-new [] (b ∷ f) e = absurd (omega arith)
mixed-new (a ∷ p) [] e = absurd (omega arith)
mixed-new (a ∷ p) (b ∷ f) e = new (mixed-new p f (omega arith))

-- the first n bytes from the frame
pub mixed-front : (n : ℕ) (p f : List ℕ) → length p ≡ length f → Mix p f (take n f ++ drop n p)
mixed-front zero p f e = mixed-old p f e
mixed-front (suc n) [] [] e = none
mixed-front (suc n) [] (b ∷ f) e = absurd (omega arith)
mixed-front (suc n) (a ∷ p) [] e = absurd (omega arith)
mixed-front (suc n) (a ∷ p) (b ∷ f) e = new (mixed-front n p f (omega arith))

pub mixed-back : (n : ℕ) (p f : List ℕ) → length p ≡ length f → Mix p f (take n p ++ drop n f)
mixed-back zero p f e = mixed-new p f e
mixed-back (suc n) [] [] e = none
mixed-back (suc n) [] (b ∷ f) e = absurd (omega arith)
mixed-back (suc n) (a ∷ p) [] e = absurd (omega arith)
mixed-back (suc n) (a ∷ p) (b ∷ f) e = old (mixed-back n p f (omega arith))

pub mixed-length : {p f h : List ℕ} → Mix p f h → (length p ≡ length f) × (length h ≡ length f)
mixed-length none = (refl, refl)
mixed-length (old m) = (ap suc (mixed-length m).0, ap suc (mixed-length m).1)
mixed-length (new m) = (ap suc (mixed-length m).0, ap suc (mixed-length m).1)

-- the bytes at the front are put on
mixed-put0 : (bs : List ℕ) {p f h : List ℕ} → length bs ≤ length f → Mix p f h
    → Mix (bs ++ drop (length bs) p) f (bs ++ drop (length bs) h)
mixed-put0 [] l m = m
mixed-put0 (b ∷ bs) l none = absurd (not-suc-le-zero l)
mixed-put0 (b ∷ bs) l (old m) = old (mixed-put0 bs (le_of_suc-le-suc l) m)
mixed-put0 (b ∷ bs) l (new m) = old (mixed-put0 bs (le_of_suc-le-suc l) m)

mixed-put_at : (n : ℕ) (bs : List ℕ) {p f h : List ℕ} → n + length bs ≤ length f → Mix p f h
    → Mix (take n p ++ (bs ++ drop (n + length bs) p)) f (take n h ++ (bs ++ drop (n + length bs) h))
mixed-put_at zero bs l m = rw zero-add (mixed-put0 bs (omega arith) m)
mixed-put_at (suc n) bs l none = absurd (omega arith)
mixed-put_at (suc n) bs l (old m) = rw suc-add (old (mixed-put_at n bs (omega arith) m))
mixed-put_at (suc n) bs l (new m) = rw suc-add (new (mixed-put_at n bs (omega arith) m))

pub mixed-put : (u : Update) {p f h : List ℕ} → u.offset + length u.bytes ≤ length f → Mix p f h → Mix (put u p) f (put u h)
unfolding put
mixed-put u l m = mixed-put_at u.offset u.bytes l m

-- REDO AGAIN: a page each of whose bytes is the old one or the one that redo leaves, comes out the same
pub redo-mixed : (us : List Update) (p h : List ℕ) → Legal (length (redo us p)) us → Mix p (redo us p) h → redo us h ≡ redo us p
unfolding redo Legal
redo-mixed [] p h l m = mixed-self m
redo-mixed (u ∷ us) p h l m = redo-mixed us (put u p) (put u h) l.1 (mixed-put u l.0 m)
