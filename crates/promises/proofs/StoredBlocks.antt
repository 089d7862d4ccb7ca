-- The invariant's history is the list of blocks that the run stored: a call adds none, or the block in the slot of next.
-- Assumes nothing.
use mathlib.Core.Path.{◌≡◌, sym, ap, ◌∙◌, subst}
use Prim.Native.Nat.{ℕ, ◌+◌, ◌-◌, ◌%◌, ◌<◌}
use mathlib.Core.List.{List, [], ◌∷◌, ◌++◌, append-nil}
use native.Mathlib.Omega.{arith}
use native.Mathlib.Nat.{mod-lt}
use lib.ListN.{length, get_or, length-append}
use lib.Seq.{get_or-append_seam}
use Rattle.promises.specs.Blocks.{LogBlock, no_block, Slot, unused, valid, slot_at, slots_of}
use Rattle.promises.specs.Book.{Book}
use Rattle.promises.specs.Events.{Sizes, World}
use Rattle.promises.specs.Stored.{block_of, new_block}
use Rattle.promises.proofs.Ranges.{Ranged}
use Rattle.promises.proofs.Slots.{get-slot}
use Rattle.promises.proofs.Kept.{Good}

-- no block is stored
pub none-stored : {z : Sizes} {w : World} {b : Book} {history : List LogBlock} → Good z w b history → Good z w b (history ++ [])
none-stored {z} {w} {b} {history} g = subst (Good z w b) (sym (append-nil history)) g

-- the block that is stored is the one in the slot of next
pub new-block : (z : Sizes) (range : Ranged z) (w w' : World) (b' : Book) (history : List LogBlock) (x : LogBlock) → w.state.next ≡ length history + 1
    → Good z w' b' (history ++ (x ∷ [])) → new_block z w w' ≡ x ∷ []
new-block z range w w' b' history x nx g =
    let n : ℕ = length history + 1 in
    let ln : length (history ++ (x ∷ [])) ≡ length history + 1 = length-append history (x ∷ []) in
    let lt : n % z.slots < z.slots = mod-lt n (omega arith) in
    let r : get_or (slots_of z.slots z.pages w'.log) (n % z.slots) unused ≡ valid n (get_or (history ++ (x ∷ [])) (n - 1) no_block) =
    g.kept.holds.recent n (omega arith) (omega arith) (omega arith) in
    let e : get_or (history ++ (x ∷ [])) (n - 1) no_block ≡ x = ap (λ (i : ℕ). get_or (history ++ (x ∷ [])) i no_block) (omega arith) ∙ get_or-append_seam history x [] no_block in
    let q : slot_at z.slots z.pages w'.log (w.state.next % z.slots) ≡ valid n x =
    ap (λ (i : ℕ). slot_at z.slots z.pages w'.log (i % z.slots)) nx ∙ sym (get-slot z.slots z.pages w'.log (n % z.slots) lt) ∙ r ∙ ap (valid n) e in
    ap (λ (y : Slot). block_of y ∷ []) q

pub one-stored : (z : Sizes) (range : Ranged z) (w w' : World) (b' : Book) (history : List LogBlock) (x : LogBlock) → w.state.next ≡ length history + 1
    → Good z w' b' (history ++ (x ∷ [])) → Good z w' b' (history ++ new_block z w w')
one-stored z range w w' b' history x nx g = subst (λ (y : List LogBlock). Good z w' b' (history ++ y)) (sym (new-block z range w w' b' history x nx g)) g
