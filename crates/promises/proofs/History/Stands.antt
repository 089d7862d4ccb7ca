-- Refusals 8 and 9 of Open's walk.
use Prim.Native.Nat.{ℕ, suc, ◌+◌}
use mathlib.Core.Bool.{Bool, true, ◌&&◌, ◌||◌}
use mathlib.Core.List.{List, [], ◌∷◌}
use lib.ListN.{length}
use lib.Dec.{eqb, leb, ltb}
use Rattle.promises.specs.Blocks.{Kind, update, commit, clean, LogBlock}
use Rattle.promises.specs.DirtyPages.{apply_all}
use Rattle.promises.specs.Walk.{Walk, walk_block}

-- may this block stand here? (F frames; t is the block's ticket)
unfoldable pub block_stands : ℕ → (ℕ → List ℕ) → Kind → ℕ → Walk → Bool
block_stands F home (update i u) t v = (eqb i 1 || (ltb 0 (length v.group) && eqb i (length v.group + 1))) && eqb t v.ticket
block_stands F home (commit n) t v = ltb 0 (length v.group) && eqb n (length v.group) && eqb t (v.ticket + 1)
    && leb (length (apply_all v.start home v.group v.dirty_pages)) F
block_stands F home (clean q) t v = eqb t v.ticket

unfoldable pub all_stand : ℕ → (ℕ → List ℕ) → ℕ → List LogBlock → Walk → Bool
all_stand F home j [] v = true
all_stand F home j (b ∷ bs) v = block_stands F home b.kind b.ticket v && all_stand F home (suc j) bs (walk_block home j b.kind v)
