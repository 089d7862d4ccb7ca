-- Marks in the bits of a number: bit b of a word is the last bit of the word over 2^b, and to set one that isn't set adds 2^b.
-- Assumes nothing.
use Prim.Native.Nat.{ℕ, zero, suc, ◌+◌, ◌-◌, ◌*◌, ◌/◌, ◌%◌, ◌^◌, ◌<◌}
use mathlib.Core.Path.{◌≡◌, sym, ap, ◌∙◌}
use native.Mathlib.Omega.{arith}
use native.Mathlib.Nat.{mul_assoc, pow-succ', one-le-pow, add-div_right, add-mul-div_left, zero-div, div-div-eq-div-mul}
use Rattle.area.proofs.Laws.{either}

abbrev pub bit : ℕ → ℕ → ℕ
bit place word = word / 2 ^ place % 2

-- a higher power is an even multiple of a lower one
higher : (c b : ℕ) → c < b → 2 ^ b ≡ 2 ^ c * (2 * 2 ^ (b - suc c))
higher zero zero h = absurd (omega arith)
higher zero (suc b) h =
    let less : suc b - suc zero ≡ b = omega arith in
    let same : 2 ^ (suc b - suc zero) ≡ 2 ^ b = ap (λ (n : ℕ). 2 ^ n) less in
    pow-succ' 2 b ∙ omega (arith, same)
higher (suc c) zero h = absurd (omega arith)
higher (suc c) (suc b) h =
    let e : 2 ^ b ≡ 2 ^ c * (2 * 2 ^ (b - suc c)) = higher c b (omega arith) in
    let less : b - suc c ≡ suc b - suc (suc c) = omega arith in
    pow-succ' 2 b ∙ ap (λ (n : ℕ). 2 * n) e ∙ sym (mul_assoc 2 (2 ^ c) (2 * 2 ^ (b - suc c))) ∙ ap (λ (n : ℕ). n * (2 * 2 ^ (b - suc c))) (sym (pow-succ' 2 c)) ∙ ap (λ (n : ℕ). 2 ^ suc c * (2 * 2 ^ n)) less

positive : (b : ℕ) → 0 < 2 ^ b
positive b = omega (arith, one-le-pow b 2 (omega arith))

module _ (b word : ℕ) (unset : bit b word ≡ 0) where
  -- the bit is set then
  pub set_here : bit b (word + 2 ^ b) ≡ 1
  set_here = let e : (word + 2 ^ b) / 2 ^ b ≡ word / 2 ^ b + 1 = add-div_right word (positive b) in omega (arith, unset)

  -- the bits above it, taken together, stay
  pub set-above : (c : ℕ) → b < c → (word + 2 ^ b) / 2 ^ c ≡ word / 2 ^ c
  set-above c h =
      let m = 2 ^ (c - suc b) in
      let e : 2 ^ c ≡ 2 ^ b * (2 * m) = higher b c h in
      let next : (word + 2 ^ b) / 2 ^ b ≡ word / 2 ^ b + 1 = add-div_right word (positive b) in
      let half : (word + 2 ^ b) / 2 ^ b / 2 ≡ word / 2 ^ b / 2 = omega (arith, unset) in
      let parts : (n : ℕ) → n / 2 ^ c ≡ n / 2 ^ b / 2 / m = λ n. ap (λ (k : ℕ). n / k) e ∙ sym (div-div-eq-div-mul n (2 ^ b) (2 * m)) ∙ sym (div-div-eq-div-mul (n / 2 ^ b) 2 m) in
      parts (word + 2 ^ b) ∙ ap (λ (k : ℕ). k / m) half ∙ sym (parts word)

  -- and so does each bit below it
  set_below : (c : ℕ) → c < b → bit c (word + 2 ^ b) ≡ bit c word
  set_below c h =
      let m = 2 ^ (b - suc c) in
      let e : (word + 2 ^ b) / 2 ^ c ≡ word / 2 ^ c + 2 * m = ap (λ (n : ℕ). (word + n) / 2 ^ c) (higher c b h) ∙ add-mul-div_left word (2 * m) (positive c) in
      omega (arith, e)

  -- every other bit stays
  pub set_apart : (c : ℕ) → (c ≡ b → ⊥) → bit c (word + 2 ^ b) ≡ bit c word
  set_apart c n = either b c (λ l. ap (λ (k : ℕ). k % 2) (set-above c l)) (λ l. set_below c (omega arith))

  -- the sum fits in a word
  pub set-fits : b < 64 → word < 2 ^ 64 → word + 2 ^ b < 2 ^ 64
  set-fits h w = let e : (word + 2 ^ b) / 2 ^ 64 ≡ word / 2 ^ 64 = set-above 64 h in omega (arith, e)

-- 1 shifted by a place is its power
pub shifted : (place : ℕ) → place < 64 → 1 * 2 ^ place % 2 ^ 64 ≡ 2 ^ place
shifted place h =
    let none : bit place 0 ≡ 0 = ap (λ (n : ℕ). n % 2) (zero-div (2 ^ place)) in
    omega (arith, set-fits place 0 none h (omega arith))
