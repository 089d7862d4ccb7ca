-- The blocks of a log by their sequences: each read from the header in its slot, without judging.
-- Assumes nothing.
use Rattle.std.specs.Prelude.{ℕ, zero, suc, ◌+◌, ◌≤◌, ◌<◌, ◌≡◌, true, List, [], ◌∷◌, length}
use Rattle.block.specs.Sizes.{new_bytes_most, page_size}
use Rattle.block.specs.Legal.{legal, slot_of}
use Rattle.block.specs.Slot.{block_at, new_bytes_at}
use Rattle.block.specs.declared.Block.{Block}
use Rattle.block.specs.declared.Kind.{Kind}
use Rattle.block.specs.declared.Kind.TheVariants.{Update as UpdateKind, Commit, Clean}
use Rattle.promises.specs.Areas.{slot_bytes, slots_in, pages_in}
use Rattle.promises.specs.Updates.{Update}
use Rattle.promises.specs.Blocks.{LogBlock, kind_in}

-- the bytes of the slot that a sequence goes to
abbrev pub bytes_of : List ℕ → ℕ → List ℕ
bytes_of log sequence = slot_bytes log (slot_of (slots_in (length log)) sequence)

-- the header there
unfoldable pub header_of : List ℕ → ℕ → Block
header_of log sequence = block_at (bytes_of log sequence)

-- the block, as the walk sees it
abbrev pub block_of : List ℕ → ℕ → LogBlock
block_of log sequence = record {
  kind = kind_in (header_of log sequence).kind (bytes_of log sequence);
  keep_from = (header_of log sequence).keep_from;
  ticket = (header_of log sequence).ticket;
}

-- so many blocks from a sequence on
unfoldable pub blocks_from : List ℕ → ℕ → ℕ → List LogBlock
blocks_from log sequence zero = []
blocks_from log sequence (suc more) = block_of log sequence ∷ blocks_from log (suc sequence) more

-- the update that a block carries
abbrev pub change_in : Kind → List ℕ → Update
change_in (UpdateKind index page offset length) bytes = record { page = page; offset = offset; bytes = new_bytes_at bytes length }
change_in (Commit updates) bytes = record { page = 0; offset = 0; bytes = [] }
change_in (Clean page) bytes = record { page = 0; offset = 0; bytes = [] }

unfoldable pub update_of : List ℕ → ℕ → Update
update_of log sequence = change_in (header_of log sequence).kind (bytes_of log sequence)

-- the updates of so many blocks from a sequence on
unfoldable pub updates_from : List ℕ → ℕ → ℕ → List Update
updates_from log sequence zero = []
updates_from log sequence (suc more) = update_of log sequence ∷ updates_from log (suc sequence) more

-- an update within a page below this end
abbrev pub Placed : ℕ → Kind → Type 0
Placed pages (UpdateKind index page offset length) = (page < pages) × (length ≤ new_bytes_most) × (offset + length ≤ page_size)
Placed pages (Commit updates) = ⊥
Placed pages (Clean page) = ⊥

-- a legal block of this sequence stands in its slot
pub record Legal (log home : List ℕ) (sequence : ℕ) : Type 0 where
  pub rules : legal (slots_in (length log)) (pages_in (length home)) (header_of log sequence) ≡ true
  pub sequence_is : (header_of log sequence).sequence ≡ sequence
