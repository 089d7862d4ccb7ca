-- Lists that move to the front, and a search of the staged updates, as the library tells them.
-- Assumes nothing.
use mathlib.Core.Path.{◌≡◌, refl, ap}
use mathlib.Core.Bool.{Bool, ◌||◌}
use mathlib.Core.List.{List, [], ◌∷◌}
use Prim.Native.Nat.{ℕ, ◌+◌, ◌-◌, ◌≤◌}
use native.Mathlib.Omega.{arith}
use lib.ListN.{length, drop, length-drop}
use lib.Seq.{take_all}
use Rattle.promises.specs.declared.Staged.{Staged}
use Rattle.promises.specs.LogStep.{shifted}
use Rattle.queue.specs.Queue.{changes}
use Rattle.std.specs.List.{copy_within, list_any}
use lib.Dec.{eqb}

-- ---- lists that move to the front

-- what stands from count on, copied to the front
pub copied-front : {A : Type 0} (list : List A) (count : ℕ) → copy_within list count (length list) 0 ≡ shifted list count
unfolding shifted
copied-front list count =
    let all : length (drop count list) ≤ length list - count = omega (arith, length-drop count list) in
    let place : 0 + (length list - count) ≡ length list - count = omega arith in
    rw (place, take_all (length list - count) (drop count list) all)

-- ---- staged updates of a page

pub any-changes : (page : ℕ) (group : List Staged) → list_any (λ update. eqb page update.page) group ≡ changes page group
any-changes page [] = refl
any-changes page (x ∷ xs) = ap (λ (b : Bool). eqb page x.page || b) (any-changes page xs)
