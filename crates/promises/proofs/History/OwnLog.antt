-- A half group's updates are in the copy's own log: none is lacking, and they are the group.
use mathlib.Core.Path.{◌≡◌, refl, ap, ◌∙◌}
use Prim.Native.Nat.{ℕ, suc, ◌+◌, ◌-◌, ◌%◌, ◌≤◌, ◌<◌}
use native.Mathlib.Omega.{arith}
use mathlib.Core.List.{List, [], ◌∷◌}
use lib.ListN.{length, get_or}
use borrow.Author.Tests.{eq-eqb}
use Rattle.promises.specs.Updates.{Update}
use Rattle.promises.specs.Blocks.{update, LogBlock, Slot, unused, valid, no_block}
use Rattle.promises.specs.Feed.{updates_from, lacking}
use Rattle.promises.proofs.History.Machine.{no_update}
use Rattle.promises.proofs.History.Ring.{Holds}
use Rattle.promises.proofs.History.HalfEnd.{Stands}

-- the blocks from a start on are these updates, with the indexes after c
abbrev From : List LogBlock → ℕ → ℕ → List Update → Type 0
From history start c us = (i : ℕ) → i < length us → (get_or history (start + i - 1) no_block).kind ≡ update (c + i + 1) (get_or us i no_update)

from_tail : (history : List LogBlock) (start c : ℕ) (u : Update) (us : List Update) → From history start c (u ∷ us) → From history (suc start) (suc c) us
from_tail history start c u us f i h =
    ap (λ (n : ℕ). (get_or history n no_block).kind) (omega arith) ∙ f (suc i) (omega arith) ∙ ap (λ (n : ℕ). update n (get_or us i no_update)) (omega arith)

module _ (N base : ℕ) (log : List Slot) (history : List LogBlock) (h : Holds N base log history) where
  held : (start c : ℕ) (us : List Update) → base ≤ start → 0 < start → start + length us ≡ length history + 1 → length history < start + N → From history start c us
      → (updates_from N log (length us) start ≡ us) × (lacking N log (length us) start (c + 1) ≡ 0)
  unfolding updates_from lacking
  held start c [] b z e l f = (refl, refl)
  held start c (u ∷ us) b z e l f =
      let r : get_or log (start % N) unused ≡ valid start (get_or history (start - 1) no_block) = h.recent start b (omega arith) l in
      let k : (get_or history (start - 1) no_block).kind ≡ update (c + 1) u = ap (λ (n : ℕ). (get_or history n no_block).kind) (omega arith) ∙ f 0 (omega arith) ∙ ap (λ (n : ℕ). update n u) (omega arith) in
      let ih = held (suc start) (suc c) us (omega arith) (omega arith) (omega arith) (omega arith) (from_tail history start c u us f) in
      let n : lacking N log (length us) (suc start) (suc (c + 1)) ≡ 0 = ap (lacking N log (length us) (suc start)) (omega arith) ∙ ih.1 in (
        rw (r, k, ih.0) refl,
        rw (r, k) (simp (eq-eqb start start refl, eq-eqb (c + 1) (c + 1) refl) n),
      )

  -- THE HALF GROUP IS IN THE LOG
  pub in-own-log : (start : ℕ) (us : List Update) → base ≤ start → 0 < start → start + length us ≡ length history + 1 → length history < start + N → Stands history start us
      → (updates_from N log (length us) start ≡ us) × (lacking N log (length us) start 1 ≡ 0)
  in-own-log start us b z e l f =
      let r = held start 0 us b z e l (λ i q. f i q ∙ ap (λ (n : ℕ). update n (get_or us i no_update)) (omega arith)) in
      (r.0, ap (lacking N log (length us) start) (omega arith) ∙ r.1)
