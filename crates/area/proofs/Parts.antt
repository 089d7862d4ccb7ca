-- Laws of parts and splices, for every crate above: lengths, the same part, other parts, parts of parts, two splices in a row,
-- and what a loan of a part leaves.
-- Assumes nothing.
use mathlib.Core.Path.{◌≡◌, refl, sym, ap, ◌∙◌}
use mathlib.Core.List.{List, [], ◌∷◌, ◌++◌, append_assoc}
use Prim.Native.Nat.{ℕ, zero, suc, ◌+◌, ◌-◌, ◌*◌, ◌≤◌}
use native.Mathlib.Omega.{arith}
use native.Mathlib.Nat.{add-sub_cancel_left, mul-le-mul_right}
use lib.ListN.{length, take, drop, length-append, length-take, length-drop, take-append-drop}
use lib.Seq.{take_at, drop_at, take_all, take-take, length-take-le, drop-drop, drop-append-le, take-append-le, take-add}
use borrow.Rule.Slice.PartMut.{put_mid}
use Rattle.area.proofs.Laws.{either}
use Rattle.area.specs.Part.{part, splice}

-- ---- what a loan leaves

-- the borrow checker's value of a slice after a part of it was lent
pub lent : (list : List ℕ) (start count : ℕ) (ys zs : List ℕ) → ys ≡ zs → put_mid start (start + count - start) list ys ≡ splice list start count zs
unfolding splice
lent list start count ys zs e = rw (add-sub_cancel_left, e)

-- a part from its start to its end
pub from-to : (list : List ℕ) (start count : ℕ) → take (start + count - start) (drop start list) ≡ part list start count
unfolding part
from-to list start count = rw add-sub_cancel_left

-- ---- parts

pub length_part : (list : List ℕ) (start count : ℕ) → start + count ≤ length list → length (part list start count) ≡ count
unfolding part
length_part list start count h = simp (length-take, length-drop) (omega arith)

pub length-part-most : (list : List ℕ) (start count : ℕ) → length (part list start count) ≤ count
unfolding part
length-part-most list start count = omega (arith, length-take count (drop start list))

pub part-all : (list : List ℕ) (count : ℕ) → length list ≤ count → part list 0 count ≡ list
unfolding part
part-all list count h = take_all count list h

-- a part of a part
pub part-part : (list : List ℕ) (start count start' count' : ℕ) → start' + count' ≤ count
    → part (part list start count) start' count' ≡ part list (start + start') count'
unfolding part
part-part list start count start' count' h =
    ap (take count') (drop-take start' count (drop start list))
    ∙ take-take count' (count - start') (drop start' (drop start list)) (omega arith)
    ∙ ap (take count') (drop-drop start' start list)
  where
    drop-take : (n m : ℕ) (l : List ℕ) → drop n (take m l) ≡ take (m - n) (drop n l)
    drop-take zero m l = let e : m - 0 ≡ m = omega arith in rw e
    drop-take (suc n) zero l = let e : 0 - suc n ≡ 0 = omega arith in rw e
    drop-take (suc n) (suc m) [] = let e : suc m - suc n ≡ m - n = omega arith in rw e (sym (take-nil (m - n)))
      where
        take-nil : (k : ℕ) → ◌≡◌ {A = List ℕ} (take k []) []
        take-nil zero = refl
        take-nil (suc k) = refl
    drop-take (suc n) (suc m) (x ∷ l) = let e : suc m - suc n ≡ m - n = omega arith in rw e (drop-take n m l)

-- two parts in a row
pub part-append : (list : List ℕ) (start count count' : ℕ) → part list start count ++ part list (start + count) count' ≡ part list start (count + count')
unfolding part
part-append list start count count' =
    ap (λ (l : List ℕ). take count (drop start list) ++ take count' l) (sym (drop-drop count start list))
    ∙ sym (take-add count count' (drop start list))

-- a part of the first of two lists
pub part-front : (front back : List ℕ) (start count : ℕ) → start + count ≤ length front → part (front ++ back) start count ≡ part front start count
unfolding part
part-front front back start count h =
    let h1 : start ≤ length front = omega arith in
    let h2 : count ≤ length (drop start front) = simp length-drop (omega arith) in
    rw (drop-append-le start front back, take-append-le count (drop start front) back)

-- ---- splices

module _ (list : List ℕ) (start count : ℕ) (others : List ℕ) (fits : start + count ≤ length list) (long : length others ≡ count) where
  pub length-splice : length (splice list start count others) ≡ length list
  unfolding splice
  length-splice = simp (length-append, length-take, length-drop) (omega arith)

  -- the same part
  pub part_same : part (splice list start count others) start count ≡ others
  unfolding splice part
  part_same =
      ap (take count) (drop_at (take start list) (others ++ drop count (drop start list)) start (length-take-le start list (omega arith)))
      ∙ take_at others (drop count (drop start list)) count long

  -- a part that lies before
  pub part-before : (start' count' : ℕ) → start' + count' ≤ start → part (splice list start count others) start' count' ≡ part list start' count'
  unfolding splice
  part-before start' count' h =
      let h1 : start' + count' ≤ length (take start list) = simp length-take (omega arith) in
      part-front (take start list) (others ++ drop count (drop start list)) start' count' h1
      ∙ sym (part-front (take start list) (drop start list) start' count' h1)
      ∙ ap (λ (l : List ℕ). part l start' count') (take-append-drop start list)

  pub drop-end : drop (start + count) (splice list start count others) ≡ drop (start + count) list
  unfolding splice
  drop-end =
      sym (drop-drop count start (take start list ++ (others ++ drop count (drop start list))))
      ∙ ap (drop count) (drop_at (take start list) (others ++ drop count (drop start list)) start (length-take-le start list (omega arith)))
      ∙ drop_at others (drop count (drop start list)) count long
      ∙ drop-drop count start list

  -- a part that lies after
  pub part-after : (start' count' : ℕ) → start + count ≤ start' → part (splice list start count others) start' count' ≡ part list start' count'
  unfolding part
  part-after start' count' h =
      let e : start' ≡ start + count + (start' - (start + count)) = omega arith in
      ap (take count')
      (ap (λ (i : ℕ). drop i (splice list start count others)) e
      ∙ sym (drop-drop (start' - (start + count)) (start + count) (splice list start count others))
      ∙ ap (drop (start' - (start + count))) drop-end
      ∙ drop-drop (start' - (start + count)) (start + count) list
      ∙ ap (λ (i : ℕ). drop i list) (sym e))

-- the front of a splice, up to its end
take-end : (list : List ℕ) (start count : ℕ) (others : List ℕ) → start + count ≤ length list → length others ≡ count
    → take (start + count) (splice list start count others) ≡ take start list ++ others
unfolding splice
take-end list start count others h e =
    ap (take (start + count)) (sym (append_assoc (take start list) others (drop count (drop start list))))
    ∙ take_at (take start list ++ others) (drop count (drop start list)) (start + count)
    (simp (length-append, length-take-le start list (omega arith), e))

in_parts : (list : List ℕ) (start count : ℕ) (others front back : List ℕ) → take start list ≡ front → drop start list ≡ back
    → splice list start count others ≡ front ++ (others ++ drop count back)
unfolding splice
in_parts list start count others front back p q = rw (p, q)

as-splice : (list : List ℕ) (start count : ℕ) (others : List ℕ) → take start list ++ (others ++ drop count (drop start list)) ≡ splice list start count others
unfolding splice
as-splice list start count others = refl

-- two splices in a row are one
pub splice-splice : (list : List ℕ) (start count count' : ℕ) (xs ys : List ℕ) → start + count ≤ length list → length xs ≡ count
    → splice (splice list start count xs) (start + count) count' ys ≡ splice list start (count + count') (xs ++ ys)
splice-splice list start count count' xs ys h e =
    in_parts (splice list start count xs) (start + count) count' ys (take start list ++ xs) (drop (start + count) list)
    (take-end list start count xs h e) (drop-end list start count xs h e)
    ∙ ap (λ (l : List ℕ). take start list ++ xs ++ (ys ++ l)) (drop-drop count' (start + count) list)
    ∙ ap (λ (i : ℕ). take start list ++ xs ++ (ys ++ drop i list)) (sums start count count')
    ∙ ap (λ (l : List ℕ). take start list ++ xs ++ (ys ++ l)) (sym (drop-drop (count + count') start list))
    ∙ append_assoc (take start list) xs (ys ++ drop (count + count') (drop start list))
    ∙ ap (λ (l : List ℕ). take start list ++ l) (sym (append_assoc xs ys (drop (count + count') (drop start list))))
    ∙ as-splice list start (count + count') (xs ++ ys)
  where
    sums : (a b c : ℕ) → a + b + c ≡ a + (b + c)
    sums a b c = omega arith

-- ---- areas of one width, side by side: storing one leaves the others

pub area-other : (width : ℕ) (list : List ℕ) (a b : ℕ) (others : List ℕ) → a * width + width ≤ length list → length others ≡ width
    → (a ≡ b → ⊥) → part (splice list (a * width) width others) (b * width) width ≡ part list (b * width) width
area-other width list a b others h e ne =
    either b a
    (λ l. part-before list (a * width) width others h e (b * width) width (omega (arith, mul-le-mul_right width l)))
    (λ l. part-after list (a * width) width others h e (b * width) width (omega (arith, mul-le-mul_right width (above l))))
  where
    above : a ≤ b → suc a ≤ b
    above l = omega arith
