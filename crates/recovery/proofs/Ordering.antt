-- The order of blocks by the walk's two numbers: nothing else of a walk counts, and nothing of an update but its index.
-- Assumes nothing.
use mathlib.Core.Path.{◌≡◌, refl, sym}
use mathlib.Core.Bool.{true}
use Prim.Native.Nat.{ℕ, ◌+◌, ◌<◌}
use lib.ListN.{length, length-replicate}
use native.Mathlib.Omega.{arith}
use borrow.Author.Tests.{eqb-true, ne_eqb}
use Rattle.block.proofs.Tests.{tests}
use Rattle.promises.specs.Updates.{Update}
use Rattle.promises.specs.Blocks.{Kind, update, commit, clean}
use Rattle.promises.specs.LogStep.{no_update}
use Rattle.promises.specs.Walk.{Walk, in_order}
use Rattle.recovery.specs.Order.{counted, in_order_after}

-- the walk that only counts has so many updates
pub count-is : (count walked : ℕ) → count ≡ length (counted count walked).group
count-is count walked = sym (length-replicate count no_update)

-- two walks with the same two numbers have the same blocks in order
pub order_is : (kind : Kind) (ticket count walked : ℕ) (walk : Walk) → count ≡ length walk.group → walked ≡ walk.ticket
    → in_order kind ticket walk ≡ in_order_after kind ticket count walked
unfolding in_order
order_is (update index change) ticket count walked walk size last = rw (length-replicate count no_update, size, last)
order_is (commit updates) ticket count walked walk size last = rw (length-replicate count no_update, size, last)
order_is (clean page) ticket count walked walk size last = rw last

-- what an update changes plays no part
pub change-any : (index ticket count walked : ℕ) (change change' : Update)
    → in_order_after (update index change) ticket count walked ≡ in_order_after (update index change') ticket count walked
unfolding in_order
change-any index ticket count walked change change' = refl

-- ---- what a block in order tells

module _ (ticket count walked : ℕ) where
  -- an update's ticket is the last
  pub update-told : (index : ℕ) (change : Update) → in_order_after (update index change) ticket count walked ≡ true → ticket ≡ walked
  unfolding in_order
  update-told index change e = let f = simp tests at e in omega arith

  -- an index that is not 1 is the next of a half group
  pub next-told : (index : ℕ) (change : Update) → in_order_after (update index change) ticket count walked ≡ true → (index ≡ 1 → ⊥)
      → (0 < count) × (index ≡ count + 1)
  unfolding in_order
  next-told index change e n = let f = simp (tests, ne_eqb index 1 n, length-replicate count no_update) at e in omega arith

  -- a commit closes a half group, and its ticket is the next
  pub commit-told : (updates : ℕ) → in_order_after (commit updates) ticket count walked ≡ true → (0 < count) × (ticket ≡ walked + 1)
  unfolding in_order
  commit-told updates e = let f = simp (tests, length-replicate count no_update) at e in omega arith

  -- a clean's ticket is the last
  pub clean-told : (page : ℕ) → in_order_after (clean page) ticket count walked ≡ true → ticket ≡ walked
  unfolding in_order
  clean-told page e = eqb-true _ _ e
