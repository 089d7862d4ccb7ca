-- The seats that Open lends: the first of 32, all zero, and what comes back of them.
-- Assumes nothing.
use mathlib.Core.Path.{◌≡◌, sym, ap, ◌∙◌}
use mathlib.Core.List.{List, ◌++◌}
use Prim.Native.Nat.{ℕ, ◌+◌, ◌-◌, ◌≤◌}
use native.Mathlib.Omega.{arith}
use lib.ListN.{length, take, replicate, length-replicate, replicate-append-replicate}
use lib.Seq.{take_at}

pub lent-seats : (n : ℕ) → n ≤ 32 → take {A = ℕ} n (replicate 32 0) ≡ replicate n 0
lent-seats n h =
    ap (λ (m : ℕ). take {A = ℕ} n (replicate m 0)) (sym sum)
    ∙ ap (take {A = ℕ} n) (sym (replicate-append-replicate n (32 - n) 0))
    ∙ take_at (replicate n 0) (replicate (32 - n) 0) n (length-replicate n 0)
  where
    sum : n + (32 - n) ≡ 32
    sum = omega arith

pub lent-long : (n : ℕ) → n ≤ 32 → length (take {A = ℕ} n (replicate 32 0)) ≡ n
lent-long n h = ap length (lent-seats n h) ∙ length-replicate n 0

pub seats-back : (n : ℕ) (seats rest : List ℕ) → length seats ≡ n → take n (seats ++ rest) ≡ seats
seats-back n seats rest e = take_at seats rest n e
