-- What a changed byte does to the two sums, over any modulus: one changed byte changes A; two changed bytes that lie near each other
-- cannot leave both A and B as they were.
-- Assumes nothing.
use mathlib.Core.Path.{◌≡◌, sym, ap, ap₂, ◌∙◌}
use mathlib.Core.List.{List, [], ◌∷◌}
use Prim.Native.Nat.{ℕ, zero, suc, ◌+◌, ◌*◌, ◌-◌, ◌/◌, ◌%◌, ◌≤◌, ◌<◌}
use native.Mathlib.Omega.{arith}
use native.Mathlib.Nat.{mul-le-mul, eq_of_mul-eq-mul_left, le_of_suc-le-suc, mod-eq_of_lt, div-add-mod', mul-add-mod_self_right}
use lib.ListN.{length, get_or, set, length-set}
use lib.Seq.{get_or-set_other}
use Rattle.block.specs.Check.{plain, weighted, check_a, check_b}

-- ---- the sums after a change

pub plain-set : (list : List ℕ) (i v : ℕ) → i < length list → plain (set list i v) + get_or list i 0 ≡ plain list + v
unfolding plain
plain-set [] i v h = omega arith
plain-set (x ∷ xs) zero v h = omega arith
plain-set (x ∷ xs) (suc i) v h = omega (arith, plain-set xs i v (le_of_suc-le-suc h))

pub weighted-set : (list : List ℕ) (i v : ℕ) → i < length list
    → weighted (set list i v) + (length list - i) * get_or list i 0 ≡ weighted list + (length list - i) * v
unfolding weighted
weighted-set [] i v h = omega arith
weighted-set (x ∷ xs) zero v h = let e : suc (length xs) - 0 ≡ suc (length xs) = omega arith in rw e (omega arith)
weighted-set (x ∷ xs) (suc i) v h =
    let e : suc (length xs) - suc i ≡ length xs - i = omega arith in
    rw (e, length-set xs i v) (omega (arith, weighted-set xs i v (le_of_suc-le-suc h)))

-- ---- remainders

-- equal sums of two numbers with the same remainder and two small ones: the small ones are equal
pub small-equal : (modulus a b x y : ℕ) → a % modulus ≡ b % modulus → a + x ≡ b + y → x < modulus → y < modulus → x ≡ y
small-equal modulus a b x y r e hx hy =
    let s : a / modulus * modulus + x ≡ b / modulus * modulus + y = omega (arith, div-add-mod' a modulus, div-add-mod' b modulus) in
    sym (mul-add-mod_self_right (a / modulus) modulus x ∙ mod-eq_of_lt hx)
    ∙ ap (λ (n : ℕ). n % modulus) s
    ∙ mul-add-mod_self_right (b / modulus) modulus y
    ∙ mod-eq_of_lt hy

-- the remainder of b + n * a, from those of a and b
sum-mod : (modulus n a b : ℕ) → (b + n * a) % modulus ≡ (b % modulus + n * (a % modulus)) % modulus
sum-mod modulus n a b =
    let p : b ≡ b / modulus * modulus + b % modulus = sym (div-add-mod' b modulus) in
    let q : n * a ≡ n * (a / modulus * modulus + a % modulus) = ap (λ (z : ℕ). n * z) (sym (div-add-mod' a modulus)) in
    let e : b + n * a ≡ (b / modulus + n * (a / modulus)) * modulus + (b % modulus + n * (a % modulus)) = omega (arith, p, q) in
    ap (λ (z : ℕ). z % modulus) e ∙ mul-add-mod_self_right (b / modulus + n * (a / modulus)) modulus (b % modulus + n * (a % modulus))

-- ---- one byte

pub one-changed : (modulus : ℕ) (list : List ℕ) (i v : ℕ) → 255 < modulus → i < length list → get_or list i 0 < 256 → v < 256
    → check_a modulus (set list i v) ≡ check_a modulus list → v ≡ get_or list i 0
unfolding check_a
one-changed modulus list i v m h p q e =
    sym (small-equal modulus (plain (set list i v)) (plain list) (get_or list i 0) v e (plain-set list i v h) (omega arith) (omega arith))

-- ---- two bytes

-- the arithmetic of two: x and y become v and w, k places apart, with n bytes from the second to the end; a and b are the sums
-- before, a' and b' those after
two-sums : (modulus n k x y v w a a' b b' : ℕ) → x < 256 → v < 256 → 0 < k → 255 * k < modulus
    → a' + x + y ≡ a + v + w → b' + (n + k) * x + n * y ≡ b + (n + k) * v + n * w
    → a' % modulus ≡ a % modulus → b' % modulus ≡ b % modulus → x ≡ v
two-sums modulus n k x y v w a a' b b' hx hv k0 m ea eb ra rb =
    let t : n * (a' + x + y) ≡ n * (a + v + w) = ap (λ (z : ℕ). n * z) ea in
    let s : b' + n * a + k * x ≡ b + n * a' + k * v = omega (arith, t, eb) in
    let p : k * x ≤ k * 255 = mul-le-mul {n₁ = k} {m₁ = x} {n₂ = k} {m₂ = 255} (omega arith) (omega arith) in
    let q : k * v ≤ k * 255 = mul-le-mul {n₁ = k} {m₁ = v} {n₂ = k} {m₂ = 255} (omega arith) (omega arith) in
    let remainders : (b' + n * a) % modulus ≡ (b + n * a') % modulus =
    sum-mod modulus n a b' ∙ ap₂ (λ (y z : ℕ). (y + n * z) % modulus) rb (sym ra) ∙ sym (sum-mod modulus n a' b) in
    eq_of_mul-eq-mul_left k k0 x v
    (small-equal modulus (b' + n * a) (b + n * a') (k * x) (k * v) remainders s (omega arith) (omega arith))

-- two bytes, the first at i and the second k places on: if A and B stay, the first byte stays
pub two-changed : (modulus : ℕ) (list : List ℕ) (i k v w : ℕ) → 0 < k → 255 * k < modulus → i + k < length list → get_or list i 0 < 256 → v < 256
    → check_a modulus (set (set list i v) (i + k) w) ≡ check_a modulus list → check_b modulus (set (set list i v) (i + k) w) ≡ check_b modulus list
    → v ≡ get_or list i 0
unfolding check_a check_b
two-changed modulus list i k v w k0 m h hx hv ea eb =
    let once = set list i v in
    let j = i + k in
    let long : length once ≡ length list = length-set list i v in
    let kept : get_or once j 0 ≡ get_or list j 0 = get_or-set_other list i j v 0 (λ (e : j ≡ i). omega arith) in
    let n = length list - j in
    let e1 : length list - i ≡ n + k = omega arith in
    let e2 : length once - j ≡ n = omega arith in
    let a1 = plain-set list i v (omega arith) in
    let a2 = rw kept at (plain-set once j w (omega arith)) in
    let b1 = rw e1 at (weighted-set list i v (omega arith)) in
    let b2 = rw (kept, e2) at (weighted-set once j w (omega arith)) in
    sym (two-sums modulus n k (get_or list i 0) (get_or list j 0) v w (plain list) (plain (set once j w)) (weighted list) (weighted (set once j w))
    hx hv k0 m (omega (arith, a1, a2)) (omega (arith, b1, b2)) ea eb)
