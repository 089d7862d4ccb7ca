-- Numbers stored and read byte by byte, the header number by number, a block built up from zeros, and its check copied.
-- Assumes nothing.
use Rattle.std.specs.Int.{w64, from_le_bytes}
use Rattle.std.proofs.Common.{◌≡◌, ℕ, zero, suc, ◌+◌, ◌-◌, ◌*◌, ◌/◌, ◌%◌, ◌^◌, ◌<◌, ◌≤◌, List, [], ◌∷◌, ◌++◌, length, get_or, drop, set, replicate, sym, refl, ap, ◌∙◌, ap₂, append_assoc, append-nil, add-one, arith, length-append, drop_of_length-le, take_all, drop-cons, take_at, drop_at}
use lib.ListN.{length-replicate, replicate-append-replicate}
use lib.Seq.{sets, sets-eq}
use Rattle.area.specs.Part.{part, splice}
use Rattle.area.proofs.Parts.{length_part, part-append}
use Rattle.block.specs.Sizes.{block_size, new_bytes_most, header_size, body_size}
use Rattle.block.specs.Number.{to_bytes, from_bytes}
use Rattle.block.specs.Check.{check_a, check_b, modulus}
use Rattle.block.specs.Layout.{middle, header, body, check, layout}
use Rattle.block.specs.Slot.{number_at}
use Rattle.block.specs.Kind.{fields_of}
use Rattle.block.specs.declared.Block.{Block}
use Rattle.block.specs.declared.Fields.{Fields}
use Rattle.block.proofs.Lengths.{length-header, length-to_bytes, length-body}
use Rattle.block.proofs.Numbers.{from_bytes-append}

-- ---- a number stored

-- one byte more, least first
pub put-turn : (list : List ℕ) (place i width left : ℕ) → i < width
    → sets list (place + i) (to_bytes (width - i) left)
    ≡ sets (set list (place + i) (left % 256)) (place + (i + 1)) (to_bytes (width - (i + 1)) (left / 256))
unfolding to_bytes
put-turn list place i width left h =
    let e : width - i ≡ suc (width - (i + 1)) = omega arith in
    let f : place + (i + 1) ≡ suc (place + i) = omega arith in
    rw (e, f)

-- after the last byte
pub put-end : (list : List ℕ) (place i width left : ℕ) → width ≤ i → sets list place (to_bytes (width - i) left) ≡ list
unfolding to_bytes
put-end list place i width left h = let e : width - i ≡ 0 = omega arith in rw e

-- ---- a number read

-- the number in one byte
pub one-law : (list : List ℕ) (place : ℕ) → place < length list → get_or list place 0 ≡ number_at list place 1
unfolding number_at part from_bytes
one-law list place h = rw (drop-cons list place 0 h) (omega arith)

-- the number in two bytes
pub pair-law : (list : List ℕ) (place : ℕ) → place + 2 ≤ length list → get_or list place 0 + get_or list (place + 1) 0 * 256 ≡ number_at list place 2
unfolding number_at part from_bytes
pair-law list place h =
    rw (drop-cons list place 0 (omega arith), add-one, drop-cons list (suc place) 0 (omega arith)) (omega arith)

-- the number in eight bytes
pub long-law : (list : List ℕ) (place : ℕ) → place + 8 ≤ length list → from_le_bytes w64 (part list place 8) ≡ number_at list place 8
unfolding number_at part from_bytes
long-law list place h =
    rw (
      drop-cons list place 0 (omega arith),
      drop-cons list (suc place) 0 (omega arith),
      drop-cons list (suc (suc place)) 0 (omega arith),
      drop-cons list (suc (suc (suc place))) 0 (omega arith),
      drop-cons list (suc (suc (suc (suc place)))) 0 (omega arith),
      drop-cons list (suc (suc (suc (suc (suc place))))) 0 (omega arith),
      drop-cons list (suc (suc (suc (suc (suc (suc place)))))) 0 (omega arith),
      drop-cons list (suc (suc (suc (suc (suc (suc (suc place))))))) 0 (omega arith),
    )
    (omega arith)

-- a number of two parts, the lower first
pub number_at-append : (list : List ℕ) (place low high : ℕ) → place + low ≤ length list
    → number_at list place (low + high) ≡ number_at list place low + 256 ^ low * number_at list (place + low) high
unfolding number_at
number_at-append list place low high h =
    ap from_bytes (sym (part-append list place low high))
    ∙ from_bytes-append (part list place low) (part list (place + low) high)
    ∙ ap (λ (n : ℕ). from_bytes (part list place low) + 256 ^ n * from_bytes (part list (place + low) high)) (length_part list place low h)

-- ---- the header

-- seven numbers stored in a row are bytes 16 to 27
pub middle-law : (list : List ℕ) (fields : Fields)
    → sets (sets (sets (sets (sets (sets (sets list 16 (to_bytes 1 fields.kind)) 17 (to_bytes 1 0)) 18 (to_bytes 2 fields.index))
    20 (to_bytes 2 fields.page)) 22 (to_bytes 2 fields.offset)) 24 (to_bytes 2 fields.length)) 26 (to_bytes 2 0)
    ≡ sets list 16 (middle fields)
unfolding middle to_bytes
middle-law list fields = refl

-- with the sequence and keep-from before them and the ticket behind, they are the header
pub header-law : (list : List ℕ) (block : Block)
    → sets (sets (sets (sets list 0 (to_bytes 8 block.sequence)) 8 (to_bytes 8 block.keep_from)) 16 (middle (fields_of block.kind))) 28 (to_bytes 8 block.ticket)
    ≡ sets list 0 (header block)
unfolding header middle to_bytes
header-law list block = refl

-- ---- a block built up from zeros

-- bytes stored in a row
sets-append : (xs list ys : List ℕ) (i j : ℕ) → j ≡ i + length xs → sets (sets list i xs) j ys ≡ sets list i (xs ++ ys)
sets-append [] list ys i j e = let f : j ≡ i = omega arith in rw f
sets-append (x ∷ xs) list ys i j e = sets-append xs (set list i x) ys (suc i) j (omega arith)

drop-zeros : (k n : ℕ) → drop k (replicate {A = ℕ} n 0) ≡ replicate (n - k) 0
drop-zeros zero n = let e : n - 0 ≡ n = omega arith in rw e
drop-zeros (suc k) zero = let e : 0 - suc k ≡ 0 = omega arith in rw e
drop-zeros (suc k) (suc n) = let e : suc n - suc k ≡ n - k = omega arith in rw e (drop-zeros k n)

-- bytes stored over zeros
sets-zeros : (n : ℕ) (bytes : List ℕ) → length bytes ≤ n → sets (replicate n 0) 0 bytes ≡ bytes ++ replicate (n - length bytes) 0
sets-zeros n bytes h =
    let k : 0 + length bytes ≤ length {A = ℕ} (replicate n 0) = omega (arith, length-replicate {A = ℕ} n 0) in
    let e : 0 + length bytes ≡ length bytes = omega arith in
    sets-eq bytes (replicate n 0) 0 k ∙ ap (λ (l : List ℕ). bytes ++ l) (rw e (drop-zeros (length bytes) n))

-- bytes copied over the first of the zeros behind others
splice-zeros : (front new : List ℕ) (start n : ℕ) → length front ≡ start
    → splice (front ++ replicate n 0) start (length new) new ≡ front ++ (new ++ replicate (n - length new) 0)
unfolding splice
splice-zeros front new start n e =
    ap (λ (l : List ℕ). l ++ (new ++ drop (length new) (drop start (front ++ replicate n 0)))) (take_at front (replicate n 0) start e)
    ∙ ap (λ (l : List ℕ). front ++ (new ++ drop (length new) l)) (drop_at front (replicate n 0) start e)
    ∙ ap (λ (l : List ℕ). front ++ (new ++ l)) (drop-zeros (length new) n)

-- bytes stored over zeros, others copied behind them, and what is left of the zeros in two runs
filled : (n start : ℕ) (front new : List ℕ) (left more : ℕ) → length front ≡ start → start ≤ n → n - start - length new ≡ left + more
    → splice (sets (replicate n 0) 0 front) start (length new) new ≡ front ++ new ++ replicate left 0 ++ replicate more 0
filled n start front new left more e h f =
    let k : n - length front ≡ n - start = omega arith in
    ap (λ (l : List ℕ). splice l start (length new) new) (sets-zeros n front (omega arith) ∙ ap (λ (m : ℕ). front ++ replicate m 0) k)
    ∙ splice-zeros front new start (n - start) e
    ∙ ap (λ (m : ℕ). front ++ (new ++ replicate m 0)) f
    ∙ ap (λ (l : List ℕ). front ++ (new ++ l)) (sym (replicate-append-replicate left more 0))
    ∙ regroup front new (replicate left 0) (replicate more 0)
  where
    regroup : (a b c d : List ℕ) → a ++ (b ++ (c ++ d)) ≡ a ++ b ++ c ++ d
    regroup a b c d = sym (simp append_assoc)

-- the header stored over zeros, and the new bytes copied behind it: bytes 0 to 507, and four zeros
pub body-stored : (block : Block) (new : List ℕ) → length new ≤ new_bytes_most
    → splice (sets (replicate block_size 0) 0 (header block)) header_size (length new) new ≡ body block new ++ replicate 4 0
unfolding body
body-stored block new h =
    filled block_size header_size (header block) new (new_bytes_most - length new) 4 (length-header block) (omega arith) (omega arith)

-- and the check stored over the four zeros
pub layout-stored : (block : Block) (new : List ℕ) (a b : ℕ) → length new ≤ new_bytes_most
    → a ≡ check_a modulus (body block new) → b ≡ check_b modulus (body block new)
    → sets (sets (body block new ++ replicate 4 0) 508 (to_bytes 2 a)) 510 (to_bytes 2 b) ≡ layout block new
unfolding layout check
layout-stored block new a b h p q =
    over (body block new) (length-body block new h) ∙ ap₂ (λ (x y : ℕ). body block new ++ (to_bytes 2 x ++ to_bytes 2 y)) p q
  where
    over : (bytes : List ℕ) → length bytes ≡ body_size
        → sets (sets (bytes ++ replicate 4 0) 508 (to_bytes 2 a)) 510 (to_bytes 2 b) ≡ bytes ++ (to_bytes 2 a ++ to_bytes 2 b)
    over bytes e =
        let n : length (bytes ++ replicate 4 0) ≡ 512 = simp (length-append, e) in
        let m : length (to_bytes 2 a ++ to_bytes 2 b) ≡ 4 = simp (length-append, length-to_bytes) in
        let w : 508 + length (to_bytes 2 a ++ to_bytes 2 b) ≡ 512 = omega arith in
        sets-append (to_bytes 2 a) (bytes ++ replicate 4 0) (to_bytes 2 b) 508 510 (omega (arith, length-to_bytes 2 a))
        ∙ sets-eq (to_bytes 2 a ++ to_bytes 2 b) (bytes ++ replicate 4 0) 508 (omega arith)
        ∙ ap (λ (l : List ℕ). l ++ (to_bytes 2 a ++ to_bytes 2 b) ++ drop (508 + length (to_bytes 2 a ++ to_bytes 2 b)) (bytes ++ replicate 4 0)) (take_at bytes (replicate 4 0) 508 e)
        ∙ ap (λ (l : List ℕ). bytes ++ (to_bytes 2 a ++ to_bytes 2 b) ++ l) (drop_of_length-le (bytes ++ replicate 4 0) {i = 508 + length (to_bytes 2 a ++ to_bytes 2 b)} (omega arith))
        ∙ append-nil (bytes ++ (to_bytes 2 a ++ to_bytes 2 b))

-- the check copied to a slot that holds all the rest
pub check-copied : (block : Block) (new : List ℕ) → length new ≤ new_bytes_most
    → splice (body block new ++ replicate 4 0) body_size 4 (part (layout block new) body_size 4) ≡ layout block new
unfolding layout check part splice
check-copied block new h =
    let bytes = body block new in
    let a = to_bytes 2 (check_a modulus bytes) in
    let b = to_bytes 2 (check_b modulus bytes) in
    let n : length bytes ≡ body_size = length-body block new h in
    let m : length (a ++ b) ≤ 4 = simp (length-append, length-to_bytes) (omega arith) in
    rw (drop_at bytes (a ++ b) body_size n, take_all 4 (a ++ b) m, take_at bytes (replicate 4 0) body_size n, drop_at bytes (replicate 4 0) body_size n)
    (ap (λ (l : List ℕ). bytes ++ l) (append-nil (a ++ b)))
