-- Any change of one byte of a valid slot is found, and so is any change of exactly two bytes among 0 to 507 that lie fewer than 257
-- places apart: the slot is damaged.
-- Assumes nothing.
use mathlib.Core.Path.{◌≡◌, sym, ap, ◌∙◌}
use mathlib.Core.Bool.{true}
use mathlib.Core.List.{List, ◌++◌}
use Prim.Native.Nat.{ℕ, ◌+◌, ◌-◌, ◌≤◌, ◌<◌}
use native.Mathlib.Omega.{arith}
use lib.ListN.{length, get_or, drop, set}
use lib.Seq.{take-set-le, take-set-lt, drop-set-lt, drop-set-add, get_or-set_same, get_or-take}
use Rattle.area.proofs.Laws.{either}
use Rattle.area.specs.Part.{part}
use Rattle.area.proofs.Parts.{length_part, part-append, part-all}
use Rattle.block.specs.Sizes.{block_size, new_bytes_most, body_size}
use Rattle.block.specs.Check.{check_a, check_b, modulus}
use Rattle.block.specs.Kind.{length_of}
use Rattle.block.specs.Layout.{check, layout}
use Rattle.block.specs.Slot.{all_zero, number_at, new_bytes_at, judged}
use Rattle.block.specs.declared.Block.{Block}
use Rattle.block.specs.declared.Judged.TheVariants.{Damaged, Valid}
use Rattle.block.proofs.Numbers.{Bytes}
use Rattle.block.proofs.Places.{kind-number, body_back, check-back, check-a, check-b}
use Rattle.block.proofs.Facts.{facts}
use Rattle.block.proofs.ReadBack.{valid-holds, unused-zeros, zero_number, told-numbers, only-damaged}
use Rattle.damage.proofs.Changes.{one-changed, two-changed}

-- ---- a number that a change does not touch

-- the change lies before it
before : (bytes : List ℕ) (i v place width : ℕ) → i < place → number_at (set bytes i v) place width ≡ number_at bytes place width
unfolding number_at part
before bytes i v place width h = rw (drop-set-lt place bytes i v h)

-- the change lies after it
after : (bytes : List ℕ) (i v place width : ℕ) → place + width ≤ i → number_at (set bytes i v) place width ≡ number_at bytes place width
unfolding number_at part
after bytes i v place width h =
    let e : i ≡ place + (i - place) = omega arith in
    let d : drop place (set bytes i v) ≡ set (drop place bytes) (i - place) v =
    ap (λ (n : ℕ). drop place (set bytes n v)) e ∙ drop-set-add place bytes (i - place) v in
    rw (d, take-set-le width (drop place bytes) (i - place) v (omega arith))

-- ---- what is known of a valid slot

-- its numbers are at least 1, and its last four bytes are the check of the others
record Sealed (bytes : List ℕ) : Type 0 where
  sequence : 1 ≤ number_at bytes 0 8
  keep-from : 1 ≤ number_at bytes 8 8
  kind : 1 ≤ number_at bytes 16 1
  long : length bytes ≡ block_size
  right : part bytes body_size 4 ≡ check (part bytes 0 body_size)

sealed : (slots pages slot : ℕ) (bytes : List ℕ) (block : Block) → judged slots pages slot bytes ≡ Valid block → Sealed bytes
sealed slots pages slot bytes block h =
    let held = valid-holds slots pages slot bytes block h in
    let f = facts slots pages block held.is-legal in
    let new = new_bytes_at bytes (length_of block.kind) in
    let e : bytes ≡ layout block new = held.laid_out in
    let m : length new ≤ new_bytes_most = omega (arith, f.length, held.new-long) in
    let n = told-numbers bytes block held.told in
    record {
      sequence = omega (arith, n.0, f.one);
      keep-from = omega (arith, n.1, f.keep_one);
      kind = omega (arith, ap (λ (l : List ℕ). number_at l 16 1) e, kind-number block new (omega (arith, f.kind-most)), f.kind-one);
      long = held.long;
      right =
          ap (λ (l : List ℕ). part l body_size 4) e
          ∙ check-back block new m
          ∙ ap check (sym (ap (λ (l : List ℕ). part l 0 body_size) e ∙ body_back block new m));
    }

-- two slots with the same check bytes have the same sums
same-a : (a b : List ℕ) → Sealed a → Sealed b → number_at a 508 2 ≡ number_at b 508 2
    → check_a modulus (part a 0 body_size) ≡ check_a modulus (part b 0 body_size)
same-a a b s t e = sym (check-a a (part a 0 body_size) s.right) ∙ e ∙ check-a b (part b 0 body_size) t.right

same-b : (a b : List ℕ) → Sealed a → Sealed b → number_at a 510 2 ≡ number_at b 510 2
    → check_b modulus (part a 0 body_size) ≡ check_b modulus (part b 0 body_size)
same-b a b s t e = sym (check-b a (part a 0 body_size) s.right) ∙ e ∙ check-b b (part b 0 body_size) t.right

-- the body of a slot
body-byte : (bytes : List ℕ) (i : ℕ) → i < body_size → get_or (part bytes 0 body_size) i 0 ≡ get_or bytes i 0
unfolding part
body-byte bytes i h = get_or-take body_size bytes i 0 h

body-long : (bytes : List ℕ) → Sealed bytes → length (part bytes 0 body_size) ≡ body_size
body-long bytes s = length_part bytes 0 body_size (omega (arith, s.long))

-- a change of the body
body-set : (bytes : List ℕ) (i v : ℕ) → i < body_size → part (set bytes i v) 0 body_size ≡ set (part bytes 0 body_size) i v
unfolding part
body-set bytes i v h = take-set-lt body_size bytes i v h

-- a change of the check bytes
body_kept : (bytes : List ℕ) (i v : ℕ) → body_size ≤ i → part (set bytes i v) 0 body_size ≡ part bytes 0 body_size
unfolding part
body_kept bytes i v h = take-set-le body_size bytes i v h

whole : (bytes : List ℕ) → Sealed bytes → bytes ≡ part bytes 0 body_size ++ check (part bytes 0 body_size)
whole bytes s =
    sym (part-all bytes 512 (omega (arith, s.long)))
    ∙ sym (part-append bytes 0 body_size 4)
    ∙ ap (λ (l : List ℕ). part bytes 0 body_size ++ l) s.right

-- ---- one byte

one-sealed : (bytes : List ℕ) (i v : ℕ) → Bytes bytes → i < block_size → v < 256 → Sealed bytes → Sealed (set bytes i v) → v ≡ get_or bytes i 0
one-sealed bytes i v small h hv s t =
    either i body_size
    (λ l.
    let old : get_or (part bytes 0 body_size) i 0 ≡ get_or bytes i 0 = body-byte bytes i l in
    let size : length (part bytes 0 body_size) ≡ body_size = body-long bytes s in
    let sums = ap (check_a modulus) (sym (body-set bytes i v l)) ∙ same-a (set bytes i v) bytes t s (before bytes i v 508 2 l) in
    one-changed modulus (part bytes 0 body_size) i v (omega arith) (omega arith) (omega (arith, small i)) hv sums ∙ old)
    (λ l.
    let e : set bytes i v ≡ bytes =
    whole (set bytes i v) t ∙ ap (λ (l : List ℕ). l ++ check l) (body_kept bytes i v l) ∙ sym (whole bytes s) in
    sym (get_or-set_same bytes i v 0 (omega (arith, s.long))) ∙ ap (λ (l : List ℕ). get_or l i 0) e)

one_not_zero : (bytes : List ℕ) (i v : ℕ) → Sealed bytes → all_zero (set bytes i v) ≡ true → ⊥
one_not_zero bytes i v s z =
    either i 8
    (λ l. omega (arith, s.keep-from, before bytes i v 8 8 l, zero_number (set bytes i v) 8 8 z))
    (λ l. omega (arith, s.sequence, after bytes i v 0 8 (omega arith), zero_number (set bytes i v) 0 8 z))

-- any change of one byte of a valid slot is found
pub one_byte : (slots pages slot : ℕ) (bytes : List ℕ) (block : Block) (i v : ℕ) → judged slots pages slot bytes ≡ Valid block → Bytes bytes
    → i < block_size → v < 256 → (v ≡ get_or bytes i 0 → ⊥) → judged slots pages slot (set bytes i v) ≡ Damaged
one_byte slots pages slot bytes block i v h small hi hv other =
    let s = sealed slots pages slot bytes block h in
    let changed = set bytes i v in
    only-damaged (judged slots pages slot changed)
    (λ u. one_not_zero bytes i v s (unused-zeros slots pages slot changed u))
    (λ b u. other (one-sealed bytes i v small hi hv s (sealed slots pages slot changed b u)))

-- ---- two bytes

module _ (bytes : List ℕ) (i j v w : ℕ) (small : Bytes bytes) (order : i < j) (hj : j < body_size) (hv : v < 256) (s : Sealed bytes) where
  two-body : part (set (set bytes i v) j w) 0 body_size ≡ set (set (part bytes 0 body_size) i v) j w
  two-body = body-set (set bytes i v) j w hj ∙ ap (λ (l : List ℕ). set l j w) (body-set bytes i v (omega arith))

  two-kept : (place width : ℕ) → body_size ≤ place → number_at (set (set bytes i v) j w) place width ≡ number_at bytes place width
  two-kept place width h = before (set bytes i v) j w place width (omega arith) ∙ before bytes i v place width (omega arith)

  two-not-zero : all_zero (set (set bytes i v) j w) ≡ true → ⊥
  two-not-zero z =
      let once = set bytes i v in
      let zeros = zero_number (set once j w) in
      either i 8
      (λ l. either j 16
      (λ k. omega (arith, s.kind, before once j w 16 1 k, before bytes i v 16 1 (omega arith), zeros 16 1 z))
      (λ k. omega (arith, s.keep-from, after once j w 8 8 k, before bytes i v 8 8 l, zeros 8 8 z)))
      (λ l. omega (arith, s.sequence, after once j w 0 8 (omega arith), after bytes i v 0 8 l, zeros 0 8 z))

-- any change of exactly two bytes among 0 to 507 that lie fewer than 257 places apart is found
pub two_bytes : (slots pages slot : ℕ) (bytes : List ℕ) (block : Block) (i j v w : ℕ) → judged slots pages slot bytes ≡ Valid block → Bytes bytes
    → i < j → j < body_size → j - i < 257 → v < 256 → w < 256 → (v ≡ get_or bytes i 0 → ⊥) → (w ≡ get_or bytes j 0 → ⊥)
    → judged slots pages slot (set (set bytes i v) j w) ≡ Damaged
two_bytes slots pages slot bytes block i j v w h small order hj near hv hw other-v other-w =
    let changed = set (set bytes i v) j w in
    only-damaged (judged slots pages slot changed)
    (λ u. two-not-zero bytes i j v w small order hj hv (sealed slots pages slot bytes block h) (unused-zeros slots pages slot changed u))
    (λ b u. other-v (two-sealed (sealed slots pages slot bytes block h) (sealed slots pages slot changed b u)))
  where
    two-sealed : Sealed bytes → Sealed (set (set bytes i v) j w) → v ≡ get_or bytes i 0
    two-sealed s t =
        let front = part bytes 0 body_size in
        let changed = set (set bytes i v) j w in
        let k = j - i in
        let e : j ≡ i + k = omega arith in
        let old : get_or front i 0 ≡ get_or bytes i 0 = body-byte bytes i (omega arith) in
        let size : length front ≡ body_size = body-long bytes s in
        let body = two-body bytes i j v w small order hj hv s in
        let kept = two-kept bytes i j v w small order hj hv s in
        let a : check_a modulus (set (set front i v) j w) ≡ check_a modulus front =
        ap (check_a modulus) (sym body) ∙ same-a changed bytes t s (kept 508 2 (omega arith)) in
        let b : check_b modulus (set (set front i v) j w) ≡ check_b modulus front =
        ap (check_b modulus) (sym body) ∙ same-b changed bytes t s (kept 510 2 (omega arith)) in
        let at-k = ap (λ (n : ℕ). set (set front i v) n w) e in
        two-changed modulus front i k v w (omega arith) (omega arith) (omega arith) (omega (arith, small i)) hv
        (ap (check_a modulus) (sym at-k) ∙ a) (ap (check_b modulus) (sym at-k) ∙ b)
        ∙ old
