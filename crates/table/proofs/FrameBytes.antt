-- The bytes of frames when an update or a whole page goes to one of them.
-- Assumes nothing.
use mathlib.Core.Path.{◌≡◌, refl, sym, ap, ◌∙◌}
use mathlib.Core.List.{List, ◌++◌, append_assoc}
use Prim.Native.Nat.{ℕ, ◌+◌, ◌-◌, ◌*◌, ◌≤◌, ◌<◌}
use native.Mathlib.Omega.{arith}
use lib.ListN.{length, take, drop, length-append, length-take, length-drop, take-append-drop}
use lib.Seq.{take-append-le, drop-append-le, take-append-add, drop-append-add, take_at, drop_at, length-take-le, drop-drop}
use Rattle.area.proofs.Laws.{either}
use Rattle.area.specs.Part.{part, splice}
use Rattle.area.proofs.Parts.{part-before, part-after}
use Rattle.promises.specs.Areas.{page_at}
use Rattle.promises.specs.Updates.{Update, put}

within-three : (A B C ys : List ℕ) (a w o n : ℕ) → length A ≡ a → length B ≡ w → o + n ≤ w → length ys ≡ n
    → part (splice (A ++ (B ++ C)) (a + o) n ys) a w ≡ splice B o n ys
unfolding part splice
within-three A B C ys a w o n p q h e =
    let k : o ≤ length B = omega arith in
    let m : n ≤ length (drop o B) = simp length-drop (omega arith) in
    let whole : take (a + o) (A ++ (B ++ C)) ++ (ys ++ drop n (drop (a + o) (A ++ (B ++ C)))) ≡ A ++ ((take o B ++ (ys ++ drop n (drop o B))) ++ C) =
    rw (sym p, take-append-add A (B ++ C) o, drop-append-add A (B ++ C) o, take-append-le o B C k, drop-append-le o B C k, drop-append-le n (drop o B) C m)
    (simp append_assoc) in
    let long : length (take o B ++ (ys ++ drop n (drop o B))) ≡ w = simp (length-append, length-take, length-drop) (omega arith) in
    ap (λ (r : List ℕ). take w (drop a r)) whole
    ∙ ap (take w) (drop_at A ((take o B ++ (ys ++ drop n (drop o B))) ++ C) a p)
    ∙ take_at (take o B ++ (ys ++ drop n (drop o B))) C w long

-- a splice within a part is a splice of the part
pub part-within : (xs : List ℕ) (a w o n : ℕ) (ys : List ℕ) → a + w ≤ length xs → o + n ≤ w → length ys ≡ n
    → part (splice xs (a + o) n ys) a w ≡ splice (part xs a w) o n ys
unfolding part
part-within xs a w o n ys f h e =
    let g : length (drop a xs) ≡ length xs - a = length-drop a xs in
    let three : take a xs ++ (take w (drop a xs) ++ drop w (drop a xs)) ≡ xs =
    ap (λ (r : List ℕ). take a xs ++ r) (take-append-drop w (drop a xs)) ∙ take-append-drop a xs in
    ap (λ (r : List ℕ). part (splice r (a + o) n ys) a w) (sym three)
    ∙ within-three (take a xs) (take w (drop a xs)) (drop w (drop a xs)) ys a w o n (length-take-le a xs (omega arith))
    (length-take-le w (drop a xs) (omega arith)) h e

-- an update put over a page is a splice of it
pub put-splice : (u : Update) (page : List ℕ) → splice page u.offset (length u.bytes) u.bytes ≡ put u page
unfolding put splice
put-splice u page = ap (λ (l : List ℕ). take u.offset page ++ (u.bytes ++ l)) (drop-drop (length u.bytes) u.offset page)

-- the frame that an update goes to
module _ (frames : List ℕ) (i : ℕ) (u : Update) (h : i * 1024 + 1024 ≤ length frames) (k : u.offset + length u.bytes ≤ 1024) where
  pub put_same : page_at (splice frames (i * 1024 + u.offset) (length u.bytes) u.bytes) i ≡ put u (page_at frames i)
  put_same = part-within frames (i * 1024) 1024 u.offset (length u.bytes) u.bytes h k refl ∙ put-splice u (page_at frames i)

  -- and the others
  pub put_other : (j : ℕ) → (j ≡ i → ⊥) → page_at (splice frames (i * 1024 + u.offset) (length u.bytes) u.bytes) j ≡ page_at frames j
  put_other j ne =
      either j i
      (λ l. part-before frames (i * 1024 + u.offset) (length u.bytes) u.bytes (omega arith) refl (j * 1024) 1024 (omega arith))
      (λ l. let m : i < j = omega arith in
      part-after frames (i * 1024 + u.offset) (length u.bytes) u.bytes (omega arith) refl (j * 1024) 1024 (omega arith))
