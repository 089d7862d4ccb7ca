-- Open's walk over the blocks k to M, and what comes of an opening.
-- A GROUP is updates with indexes 1 to n and then a commit with index n, in consecutive blocks.
-- Assumes nothing.
use Rattle.std.specs.Prelude.{ℕ, suc, ◌+◌, ◌-◌, Bool, true, cond, ◌&&◌, ◌||◌, List, [], ◌∷◌, ◌++◌, length, eqb, leb, ltb}
use Rattle.promises.specs.Areas.{page_at}
use Rattle.promises.specs.Updates.{Update}
use Rattle.promises.specs.Blocks.{Kind, update, commit, clean, LogBlock, Slot, slots_of}
use Rattle.promises.specs.DirtyPages.{DirtyPage, apply_all, without, keep_from_of}
use Rattle.promises.specs.Newest.{newest, keep_of, Gathered, missing, blocks, gathered}

-- the updates of a half group and its first sequence, the last committed ticket, the dirty pages
pub record Walk : Type 0 where
  pub group : List Update
  pub start : ℕ
  pub ticket : ℕ
  pub dirty_pages : List DirtyPage

-- the first block's ticket is believed
abbrev pub believed : List LogBlock → ℕ
believed [] = 0
believed (block ∷ rest) = block.ticket

abbrev pub start_with : ℕ → Walk
start_with ticket = record { group = []; start = 0; ticket = ticket; dirty_pages = [] }

-- one block: a new index 1 or a clean voids a half group, a group takes effect at its commit, a clean drops its page
unfoldable pub walk_block : (ℕ → List ℕ) → ℕ → Kind → Walk → Walk
walk_block home sequence (update index change) walk =
    cond (eqb index 1)
    (record { group = change ∷ []; start = sequence; ticket = walk.ticket; dirty_pages = walk.dirty_pages })
    (record { group = walk.group ++ (change ∷ []); start = walk.start; ticket = walk.ticket; dirty_pages = walk.dirty_pages })
walk_block home sequence (commit updates) walk = record {
  group = [];
  start = 0;
  ticket = walk.ticket + 1;
  dirty_pages = apply_all walk.start home walk.group walk.dirty_pages;
}
walk_block home sequence (clean page) walk = record { group = []; start = 0; ticket = walk.ticket; dirty_pages = without page walk.dirty_pages }

-- no refusal 8: an update's index is 1 or the next of a half group, a commit closes its group, the ticket is right
unfoldable pub in_order : Kind → ℕ → Walk → Bool
in_order (update index change) ticket walk =
    (eqb index 1 || (ltb 0 (length walk.group) && eqb index (length walk.group + 1))) && eqb ticket walk.ticket
in_order (commit updates) ticket walk = ltb 0 (length walk.group) && eqb updates (length walk.group) && eqb ticket (walk.ticket + 1)
in_order (clean page) ticket walk = eqb ticket walk.ticket

-- no refusal 9: a commit leaves at most so many pages dirty as there are frames
unfoldable pub framed : ℕ → (ℕ → List ℕ) → Kind → Walk → Bool
framed frames home (update index change) walk = true
framed frames home (commit updates) walk = leb (length (apply_all walk.start home walk.group walk.dirty_pages)) frames
framed frames home (clean page) walk = true

-- what comes of an opening: a refusal and its place, or next and where the walk ended
pub data Finding : Type 0 where
  stops : ℕ → ℕ → Finding
  stands : ℕ → Walk → Finding

-- at the end a half group is void, and H + D above N is 8 at M
abbrev pub ending : ℕ → ℕ → Walk → Finding
ending slots next walk =
    cond (leb (next - keep_from_of next walk.dirty_pages + length walk.dirty_pages) slots) (stands next walk) (stops 8 (next - 1))

-- the walk over blocks from a sequence on: 8 before 9 on the same block
unfoldable pub walk_from : ℕ → ℕ → (ℕ → List ℕ) → ℕ → ℕ → List LogBlock → Walk → Finding
walk_from slots frames home next sequence [] walk = ending slots next walk
walk_from slots frames home next sequence (block ∷ rest) walk =
    cond (in_order block.kind block.ticket walk)
    (cond (framed frames home block.kind walk)
    (walk_from slots frames home next (suc sequence) rest (walk_block home sequence block.kind walk))
    (stops 9 sequence))
    (stops 8 sequence)

abbrev pub walk_gathered : ℕ → ℕ → (ℕ → List ℕ) → List Slot → Gathered → Finding
walk_gathered count frames home slots (missing sequence) = stops 7 sequence
walk_gathered count frames home slots (blocks list) =
    walk_from count frames home (newest slots + 1) (keep_of count slots) list (start_with (believed list))

-- what Open finds with so many slots, pages and frames
unfoldable pub finding : ℕ → ℕ → ℕ → List ℕ → List ℕ → Finding
finding slots pages frames log home =
    walk_gathered slots frames (page_at home) (slots_of slots pages log) (gathered slots (slots_of slots pages log))
