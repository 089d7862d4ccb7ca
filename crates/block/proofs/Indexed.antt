-- The two sums as docs/FORMAT.md has them, over the index of each byte: `check-a-indexed` and `check-b-indexed` are its two sentences, for
-- any modulus.
-- Assumes nothing.
use Rattle.std.proofs.Common.{◌≡◌, ℕ, zero, suc, ◌+◌, ◌-◌, ◌*◌, ◌%◌, ◌<◌, List, [], ◌∷◌, length, get_or, sym, refl, ap, ◌∙◌, add-one, arith}
use Rattle.block.specs.Sizes.{body_size}
use Rattle.block.specs.Check.{plain, weighted, check_a, check_b}
use Rattle.block.specs.Lanes.{sum_below}

-- ---- laws of `sum_below`

-- the first summand taken out
sum_first : (n : ℕ) (f : ℕ → ℕ) → sum_below (suc n) f ≡ f 0 + sum_below n (λ i. f (suc i))
unfolding sum_below
sum_first zero f = omega arith
sum_first (suc n) f = omega (arith, sum_first n f)

-- one summand more
pub sum-next : (n : ℕ) (f : ℕ → ℕ) → sum_below (n + 1) f ≡ sum_below n f + f n
unfolding sum_below
sum-next n f = rw add-one refl

-- equal summands, equal sums
pub sum_same : (n : ℕ) (f g : ℕ → ℕ) → ((i : ℕ) → i < n → f i ≡ g i) → sum_below n f ≡ sum_below n g
unfolding sum_below
sum_same zero f g e = refl
sum_same (suc n) f g e = omega (arith, sum_same n f g (λ i h. e i (omega arith)), e n (omega arith))

-- the sum of sums, and of multiples
pub sum-plus : (n : ℕ) (f g : ℕ → ℕ) → sum_below n (λ i. f i + g i) ≡ sum_below n f + sum_below n g
unfolding sum_below
sum-plus zero f g = refl
sum-plus (suc n) f g = omega (arith, sum-plus n f g)

pub sum-times : (n m : ℕ) (f : ℕ → ℕ) → sum_below n (λ i. m * f i) ≡ m * sum_below n f
unfolding sum_below
sum-times zero m f = omega arith
sum-times (suc n) m f = omega (arith, sum-times n m f)

-- two summands at a time
pub sum-pairs : (n : ℕ) (f : ℕ → ℕ) → sum_below (2 * n) f ≡ sum_below n (λ i. f (2 * i) + f (2 * i + 1))
unfolding sum_below
sum-pairs zero f = refl
sum-pairs (suc n) f =
    let e : 2 * suc n ≡ suc (suc (2 * n)) = omega arith in
    let o : suc (2 * n) ≡ 2 * n + 1 = omega arith in
    rw (e, o) (omega (arith, sum-pairs n f))

-- ---- the two sums

-- A before its remainder: the sum of the bytes
pub plain-indexed : (list : List ℕ) → plain list ≡ sum_below (length list) (λ i. get_or list i 0)
unfolding plain sum_below
plain-indexed [] = refl
plain-indexed (x ∷ xs) = ap (λ (n : ℕ). x + n) (plain-indexed xs) ∙ sym (sum_first (length xs) (λ i. get_or (x ∷ xs) i 0))

-- B before its remainder: byte i counts length - i times
pub weighted-indexed : (list : List ℕ) → weighted list ≡ sum_below (length list) (λ i. (length list - i) * get_or list i 0)
unfolding weighted sum_below
weighted-indexed [] = refl
weighted-indexed (x ∷ xs) =
    let n = length xs in
    let f : ℕ → ℕ = λ i. (suc n - i) * get_or (x ∷ xs) i 0 in
    let less : (i : ℕ) → i < n → (n - i) * get_or xs i 0 ≡ (suc n - suc i) * get_or xs i 0 =
    λ i h. let e : n - i ≡ suc n - suc i = omega arith in ap (λ (k : ℕ). k * get_or xs i 0) e in
    let first : suc n * x ≡ (suc n - 0) * x = let e : suc n ≡ suc n - 0 = omega arith in ap (λ (k : ℕ). k * x) e in
    let rest : weighted xs ≡ sum_below n (λ i. f (suc i)) = weighted-indexed xs ∙ sum_same n (λ i. (n - i) * get_or xs i 0) (λ i. f (suc i)) less in
    omega (arith, first, rest, sum_first n f)

-- A is the sum of bytes 0 to 507, modulo the modulus
pub check-a-indexed : (modulus : ℕ) (bytes : List ℕ) → length bytes ≡ body_size → check_a modulus bytes ≡ sum_below 508 (λ i. get_or bytes i 0) % modulus
unfolding check_a
check-a-indexed modulus bytes h =
    ap (λ (n : ℕ). n % modulus) (plain-indexed bytes ∙ ap (λ (n : ℕ). sum_below n (λ i. get_or bytes i 0)) h)

-- B is the sum of (508 - i) times byte i, modulo the modulus
pub check-b-indexed : (modulus : ℕ) (bytes : List ℕ) → length bytes ≡ body_size
    → check_b modulus bytes ≡ sum_below 508 (λ i. (508 - i) * get_or bytes i 0) % modulus
unfolding check_b
check-b-indexed modulus bytes h =
    ap (λ (n : ℕ). n % modulus) (weighted-indexed bytes ∙ ap (λ (n : ℕ). sum_below n (λ i. (n - i) * get_or bytes i 0)) h)
