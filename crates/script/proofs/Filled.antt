-- Filling an area from the front, each byte by a rule on its index.
-- Assumes nothing.
use mathlib.Core.Path.{◌≡◌, refl, ap}
use mathlib.Core.List.{List, [], ◌∷◌, ◌++◌}
use Prim.Native.Nat.{ℕ, zero, suc, ◌+◌, ◌*◌, ◌%◌, ◌<◌}
use native.Mathlib.Omega.{arith}
use native.Mathlib.Numerals.{add-one}
use lib.ListN.{length, take, set, replicate}
use lib.Seq.{take-suc-set}
use Rattle.script.specs.Fills.{listed}

-- one value more at the end
listed-snoc : (rule : ℕ → ℕ) (index count : ℕ) → listed rule index count ++ (rule (index + count) ∷ []) ≡ listed rule index (suc count)
unfolding listed
listed-snoc rule index zero = let e : index + 0 ≡ index = omega arith in rw e
listed-snoc rule index (suc count) =
    let e : index + suc count ≡ suc index + count = omega arith in
    rw e (ap (λ (l : List ℕ). rule index ∷ l) (listed-snoc rule (suc index) count))

-- a turn of the loop
pub fill-turn : (rule : ℕ → ℕ) (area : List ℕ) (i value : ℕ) → i < length area → take i area ≡ listed rule 0 i → value ≡ rule i
    → take (i + 1) (set area i value) ≡ listed rule 0 (i + 1)
fill-turn rule area i value h e v =
    let z : 0 + i ≡ i = omega arith in
    rw (add-one, take-suc-set, e, v, ← listed-snoc rule 0 i) (rw z)

-- the rule that gives one value
pub listed-one : (value index count : ℕ) → listed (λ i. value) index count ≡ replicate count value
unfolding listed
listed-one value index zero = refl
listed-one value index (suc count) = ap (λ (l : List ℕ). value ∷ l) (listed-one value (suc index) count)

-- Describe's byte after another: 13 more
pub described-next : (seed j value : ℕ) → value ≡ (seed + 13 * j) % 256 → (value + 13) % 256 ≡ (seed + 13 * (j + 1)) % 256
described-next seed j value e = omega arith
