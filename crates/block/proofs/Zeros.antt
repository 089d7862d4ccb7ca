-- All bytes are zero: of a part, of a number, and as the loops of judging test it.
-- Assumes nothing.
use Rattle.std.proofs.Common.{◌≡◌, ℕ, zero, suc, ◌+◌, ◌-◌, ◌*◌, ◌<◌, ◌≤◌, max, Bool, true, false, ◌&&◌, eqb, List, [], ◌∷◌, ◌++◌, length, get_or, take, drop, sym, refl, ap, ◌∙◌, add-one, arith, take-append-drop, drop_of_length-le, drop-cons, drop-drop, eq-eqb, eqb-true}
use Rattle.std.specs.List.{list_all}
use mathlib.Core.Bool.{and-true, and_assoc}
use native.Mathlib.Nat.{add-sub_cancel_left}
use Rattle.area.specs.Part.{part}
use Rattle.area.proofs.Parts.{part-append, part-all}
use Rattle.block.specs.Number.{from_bytes}
use Rattle.block.specs.Slot.{all_zero, number_at}
use Rattle.block.proofs.Tests.{tests, and-iff, bool-ext}

-- ---- parts and numbers

pub all_zero-append : (xs ys : List ℕ) → all_zero (xs ++ ys) ≡ (all_zero xs && all_zero ys)
unfolding all_zero
all_zero-append [] ys = refl
all_zero-append (x ∷ xs) ys = ap (λ (t : Bool). eqb x 0 && t) (all_zero-append xs ys) ∙ sym (and_assoc (eqb x 0) (all_zero xs) (all_zero ys))

pub all_zero-take : (n : ℕ) (bytes : List ℕ) → all_zero bytes ≡ true → all_zero (take n bytes) ≡ true
unfolding all_zero
all_zero-take zero bytes h = refl
all_zero-take (suc n) [] h = refl
all_zero-take (suc n) (byte ∷ bytes) h =
    let g = (and-iff (eqb byte 0) (all_zero bytes)).0 h in
    (and-iff (eqb byte 0) (all_zero (take n bytes))).1 (g.0, all_zero-take n bytes g.1)

pub all_zero-drop : (n : ℕ) (bytes : List ℕ) → all_zero bytes ≡ true → all_zero (drop n bytes) ≡ true
unfolding all_zero
all_zero-drop zero bytes h = h
all_zero-drop (suc n) [] h = refl
all_zero-drop (suc n) (byte ∷ bytes) h = all_zero-drop n bytes ((and-iff (eqb byte 0) (all_zero bytes)).0 h).1

-- a part and the one behind it
parts-zero : (bytes : List ℕ) (place n m : ℕ) → (all_zero (part bytes place n) && all_zero (part bytes (place + n) m)) ≡ all_zero (part bytes place (n + m))
parts-zero bytes place n m = sym (all_zero-append (part bytes place n) (part bytes (place + n) m)) ∙ ap all_zero (part-append bytes place n m)

-- a number is 0 where all its bytes are
pub number-zero : (bytes : List ℕ) → eqb (from_bytes bytes) 0 ≡ all_zero bytes
unfolding all_zero from_bytes
number-zero [] = refl
number-zero (byte ∷ bytes) =
    bool-ext (eqb (byte + 256 * from_bytes bytes) 0) (eqb byte 0 && all_zero bytes)
    (λ h.
    let g : byte + 256 * from_bytes bytes ≡ 0 = eqb-true (byte + 256 * from_bytes bytes) 0 h in
    (and-iff (eqb byte 0) (all_zero bytes)).1 (eq-eqb byte 0 (omega arith), sym (number-zero bytes) ∙ eq-eqb (from_bytes bytes) 0 (omega arith)))
    (λ h.
    let g = (and-iff (eqb byte 0) (all_zero bytes)).0 h in
    eq-eqb (byte + 256 * from_bytes bytes) 0 (omega (arith, eqb-true byte 0 g.0, eqb-true (from_bytes bytes) 0 (number-zero bytes ∙ g.1))))

-- four numbers of eight bytes, and four parts of 32
pub numbers-zero : (bytes : List ℕ) (place a b c d : ℕ)
    → a ≡ number_at bytes place 8 → b ≡ number_at bytes (place + 8) 8 → c ≡ number_at bytes (place + 16) 8 → d ≡ number_at bytes (place + 24) 8
    → (eqb a 0 && eqb b 0 && eqb c 0 && eqb d 0) ≡ all_zero (part bytes place 32)
unfolding number_at
numbers-zero bytes place a b c d p q r s =
    rw (
      p,
      q,
      r,
      s,
      number-zero (part bytes place 8),
      number-zero (part bytes (place + 8) 8),
      number-zero (part bytes (place + 16) 8),
      number-zero (part bytes (place + 24) 8),
      parts-zero bytes place 8 8,
      parts-zero bytes place 16 8,
      parts-zero bytes place 24 8,
    )
    refl

pub quarters-zero : (bytes : List ℕ) (a b c d : Bool) → length bytes ≡ 128
    → a ≡ all_zero (part bytes 0 32) → b ≡ all_zero (part bytes 32 32) → c ≡ all_zero (part bytes 64 32) → d ≡ all_zero (part bytes 96 32)
    → (a && b && c && d) ≡ all_zero bytes
quarters-zero bytes a b c d h p q r s =
    rw (p, q, r, s) (rw (parts-zero bytes 0 32 32, parts-zero bytes 0 64 32, parts-zero bytes 0 96 32) (ap all_zero (part-all bytes 128 (omega arith))))

-- ---- byte by byte

-- as a test of each byte
pub each-zero : (bytes : List ℕ) → list_all (λ byte. eqb byte 0) bytes ≡ all_zero bytes
unfolding all_zero
each-zero [] = refl
each-zero (byte ∷ bytes) = ap (λ (t : Bool). eqb byte 0 && t) (each-zero bytes)

-- the byte at i and those after it
step : (bytes : List ℕ) (i : ℕ) → i < length bytes → all_zero (drop i bytes) ≡ (eqb (get_or bytes i 0) 0 && all_zero (drop (i + 1) bytes))
unfolding all_zero
step bytes i h = rw (add-one, drop-cons bytes i 0 h)

-- past the last byte
pub zeros-end : (bytes : List ℕ) (i : ℕ) → length bytes ≤ i → all_zero (drop i bytes) ≡ true
unfolding all_zero
zeros-end bytes i h = rw (drop_of_length-le bytes h)

-- the larger of two numbers is zero where both are
larger-zero : (a b : ℕ) → eqb (max a b) 0 ≡ (eqb a 0 && eqb b 0)
larger-zero a b =
    bool-ext (eqb (max a b) 0) (eqb a 0 && eqb b 0)
    (λ h. let g = simp tests at h in simp tests (omega arith))
    (λ h. let g = simp tests at h in simp tests (omega arith))

-- the byte at i goes from the bytes left to the largest of those read
pub most-turn : (bytes : List ℕ) (i most : ℕ) → i < length bytes
    → (eqb most 0 && all_zero (drop i bytes)) ≡ (eqb (max most (get_or bytes i 0)) 0 && all_zero (drop (i + 1) bytes))
most-turn bytes i most h =
    let byte = get_or bytes i 0 in
    let rest = all_zero (drop (i + 1) bytes) in
    ap (λ (t : Bool). eqb most 0 && t) (step bytes i h)
    ∙ sym (and_assoc (eqb most 0) (eqb byte 0) rest)
    ∙ ap (λ (t : Bool). t && rest) (sym (larger-zero most byte))

-- past the last byte the largest tells
pub most-end : (bytes : List ℕ) (i most : ℕ) → length bytes ≤ i → (eqb most 0 && all_zero (drop i bytes)) ≡ eqb most 0
most-end bytes i most h = ap (λ (t : Bool). eqb most 0 && t) (zeros-end bytes i h) ∙ and-true (eqb most 0)

-- ---- row by row

-- a row from i on that is zero is passed, another decides
row_zero : (bytes : List ℕ) (i n : ℕ) → all_zero (drop i bytes) ≡ (all_zero (take (i + n - i) (drop i bytes)) && all_zero (drop (i + n) bytes))
row_zero bytes i n =
    rw (add-sub_cancel_left i n) (ap all_zero (sym (take-append-drop n (drop i bytes))) ∙ all_zero-append (take n (drop i bytes)) (drop n (drop i bytes)) ∙ rw (drop-drop n i bytes) refl)

pub row-passed : (bytes : List ℕ) (i n : ℕ) → all_zero (take (i + n - i) (drop i bytes)) ≡ true → all_zero (drop i bytes) ≡ all_zero (drop (i + n) bytes)
row-passed bytes i n h = row_zero bytes i n ∙ ap (λ (t : Bool). t && all_zero (drop (i + n) bytes)) h

pub row-not : (bytes : List ℕ) (i n : ℕ) → all_zero (take (i + n - i) (drop i bytes)) ≡ false → all_zero (drop i bytes) ≡ false
row-not bytes i n h = row_zero bytes i n ∙ ap (λ (t : Bool). t && all_zero (drop (i + n) bytes)) h

-- where the bytes before i are zero, those from a place before i on tell
pub rest-zero : (bytes : List ℕ) (last i : ℕ) → last ≤ i → all_zero bytes ≡ all_zero (drop i bytes) → all_zero (drop last bytes) ≡ all_zero bytes
rest-zero bytes last i h e =
    bool-ext (all_zero (drop last bytes)) (all_zero bytes)
    (λ z.
    let f : last + (i - last) ≡ i = omega arith in
    e ∙ rw (drop-drop (i - last) last bytes, f) at (all_zero-drop (i - last) (drop last bytes) z))
    (all_zero-drop last bytes)
