-- The two sums of bytes after others.
-- Assumes nothing.
use Rattle.std.proofs.Common.{◌≡◌, ℕ, ◌+◌, ◌*◌, List, [], ◌∷◌, ◌++◌, length, arith, length-append}
use Rattle.block.specs.Check.{plain, weighted}

pub plain-append : (xs ys : List ℕ) → plain (xs ++ ys) ≡ plain xs + plain ys
unfolding plain
plain-append [] ys = omega arith
plain-append (x ∷ xs) ys = omega (arith, plain-append xs ys)

-- each byte more counts those before it once more
pub weighted-append : (xs ys : List ℕ) → weighted (xs ++ ys) ≡ weighted xs + length ys * plain xs + weighted ys
unfolding plain weighted
weighted-append [] ys = omega arith
weighted-append (x ∷ xs) ys = rw (length-append xs ys) (omega (arith, weighted-append xs ys))

-- ---- zeros before the first byte count nothing

pub plain-front : (bytes : List ℕ) → plain (0 ∷ 0 ∷ 0 ∷ 0 ∷ bytes) ≡ plain bytes
unfolding plain
plain-front bytes = omega arith

pub weighted-front : (bytes : List ℕ) → weighted (0 ∷ 0 ∷ 0 ∷ 0 ∷ bytes) ≡ weighted bytes
unfolding weighted
weighted-front bytes = omega arith
