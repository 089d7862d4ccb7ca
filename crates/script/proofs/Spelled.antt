-- Decimal numbers, a digit at a time.
-- Assumes nothing.
use mathlib.Core.Path.{◌≡◌, refl, ap, ◌∙◌}
use mathlib.Core.Bool.{Bool, true, false, ◌&&◌, ◌||◌}
use mathlib.Core.List.{List, [], ◌∷◌}
use Prim.Native.Nat.{ℕ, ◌+◌, ◌*◌, ◌-◌, ◌^◌, ◌≤◌, ◌<◌}
use native.Mathlib.Omega.{arith}
use lib.Dec.{ltb}
use borrow.Author.Tests.{le-leb, lt-ltb, le-ltb}
use Rattle.script.specs.Lines.{is_digit, all_digits, spelled_from, is_number_from}

-- ---- tests

pub or-true : (a : Bool) → (a || true) ≡ true
or-true true = refl
or-true false = refl

pub second-fails : (a b c : Bool) → b ≡ false → (a && b && c) ≡ false
second-fails true true c e = cc
second-fails true false c e = refl
second-fails false true c e = refl
second-fails false false c e = refl

pub third-fails : (a b c : Bool) → c ≡ false → (a && b && c) ≡ false
third-fails true true c e = e
third-fails true false c e = refl
third-fails false true c e = refl
third-fails false false c e = refl

-- `0` to `9` are digits
pub is_digit_lem : (byte : ℕ) → 48 ≤ byte → byte ≤ 57 → is_digit byte ≡ true
is_digit_lem byte l h = rw (le-leb 48 byte l, le-leb byte 57 h)

-- ---- numbers

-- digits that follow make a number no smaller
spelled_grows : (value : ℕ) (word : List ℕ) → value ≤ spelled_from value word
unfolding spelled_from
spelled_grows value [] = omega arith
spelled_grows value (digit ∷ word) = omega (arith, spelled_grows (value * 10 + (digit - 48)) word)

-- a number ends
pub number-ends : (value : ℕ) → value < 2 ^ 64 → is_number_from value true [] ≡ true
unfolding is_number_from all_digits spelled_from
number-ends value h = lt-ltb value (2 ^ 64) h

-- no digit where there must be one
pub number-empty : (value : ℕ) → is_number_from value false [] ≡ false
unfolding is_number_from
number-empty value = refl

-- a byte that is no digit
pub number-breaks : (value : ℕ) (digits : Bool) (byte : ℕ) (word : List ℕ) → is_digit byte ≡ false → is_number_from value digits (byte ∷ word) ≡ false
unfolding is_number_from all_digits
number-breaks value digits byte word e =
    second-fails (digits || true) (is_digit byte && all_digits word) (ltb (spelled_from value (byte ∷ word)) (2 ^ 64))
    (ap (λ (t : Bool). t && all_digits word) e)

-- a number that grows too large
pub number-overflows : (value : ℕ) (digits : Bool) (byte : ℕ) (word : List ℕ) → 2 ^ 64 ≤ value * 10 + (byte - 48)
    → is_number_from value digits (byte ∷ word) ≡ false
unfolding is_number_from spelled_from
number-overflows value digits byte word h =
    third-fails (digits || true) (all_digits (byte ∷ word)) (ltb (spelled_from (value * 10 + (byte - 48)) word) (2 ^ 64))
    (le-ltb (spelled_from (value * 10 + (byte - 48)) word) (2 ^ 64) (omega (arith, spelled_grows (value * 10 + (byte - 48)) word)))

-- a digit more
pub number-goes-on : (value : ℕ) (digits : Bool) (byte : ℕ) (word : List ℕ) → is_digit byte ≡ true
    → is_number_from value digits (byte ∷ word) ≡ is_number_from (value * 10 + (byte - 48)) true word
unfolding is_number_from spelled_from all_digits
number-goes-on value digits byte word e =
    ap (λ (t : Bool). t && (is_digit byte && all_digits word) && ltb (spelled_from (value * 10 + (byte - 48)) word) (2 ^ 64)) (or-true digits)
    ∙ ap (λ (t : Bool). true && (t && all_digits word) && ltb (spelled_from (value * 10 + (byte - 48)) word) (2 ^ 64)) e
