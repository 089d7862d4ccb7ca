-- Log blocks and the slots of a log, as the store sees them: through what the format's own package promises.
-- Assumes nothing.
use Rattle.std.specs.Prelude.{ℕ, zero, suc, List, [], ◌∷◌, length}
use Rattle.block.specs.Kind.{update_block, commit_block, clean_block}
use Rattle.block.specs.Layout.{layout}
use Rattle.block.specs.Legal.{slot_of}
use Rattle.block.specs.Slot.{judged, new_bytes_at}
use Rattle.block.specs.declared.Block.{Block}
use Rattle.block.specs.declared.Kind as format
use Rattle.block.specs.declared.Judged.{Judged}
use Rattle.block.specs.declared.Judged.TheVariants.{Unused, Damaged, Valid}
use Rattle.promises.specs.Areas.{slot_bytes, with_slot}
use Rattle.promises.specs.Updates.{Update}

-- an update with its index in its group, a commit with the count of its updates, a clean with its page
pub data Kind : Type 0 where
  update : ℕ → Update → Kind
  commit : ℕ → Kind
  clean : ℕ → Kind

pub record LogBlock : Type 0 where
  pub kind : Kind
  pub keep_from : ℕ
  pub ticket : ℕ

-- what is read where there is no block
abbrev pub no_block : LogBlock
no_block = record { kind = clean 0; keep_from = 0; ticket = 0 }

-- ---- writing

-- the fields of a block with this sequence
abbrev pub fields_of : ℕ → ℕ → ℕ → Kind → Block
fields_of sequence keep_from ticket (update index change) =
    update_block sequence keep_from index change.page change.offset (length change.bytes) ticket
fields_of sequence keep_from ticket (commit updates) = commit_block sequence keep_from updates ticket
fields_of sequence keep_from ticket (clean page) = clean_block sequence keep_from page ticket

-- the new bytes that a block carries
abbrev pub carried : Kind → List ℕ
carried (update index change) = change.bytes
carried (commit updates) = []
carried (clean page) = []

-- the 512 bytes of a block with this sequence
unfoldable pub written : ℕ → LogBlock → List ℕ
written sequence block = layout (fields_of sequence block.keep_from block.ticket block.kind) (carried block.kind)

-- a log of so many slots with this block stored: block s goes to slot s modulo N
abbrev pub stored : ℕ → List ℕ → ℕ → LogBlock → List ℕ
stored slots log sequence block = with_slot log (slot_of slots sequence) (written sequence block)

-- ---- reading

pub data Slot : Type 0 where
  unused : Slot
  damaged : Slot
  valid : ℕ → LogBlock → Slot

-- the kind of a block in a slot with these bytes
abbrev pub kind_in : format.Kind → List ℕ → Kind
kind_in (format.TheVariants.Update index page offset length) bytes = update index (record { page = page; offset = offset; bytes = new_bytes_at bytes length })
kind_in (format.TheVariants.Commit updates) bytes = commit updates
kind_in (format.TheVariants.Clean page) bytes = clean page

abbrev pub slot_in : Judged → List ℕ → Slot
slot_in Unused bytes = unused
slot_in Damaged bytes = damaged
slot_in (Valid block) bytes = valid block.sequence (record { kind = kind_in block.kind bytes; keep_from = block.keep_from; ticket = block.ticket })

-- a slot of a log of so many slots, for a home of so many pages
unfoldable pub slot_at : ℕ → ℕ → List ℕ → ℕ → Slot
slot_at slots pages log slot = slot_in (judged slots pages slot (slot_bytes log slot)) (slot_bytes log slot)

-- count slots from a slot on
unfoldable pub slots_from : ℕ → ℕ → List ℕ → ℕ → ℕ → List Slot
slots_from slots pages log slot zero = []
slots_from slots pages log slot (suc count) = slot_at slots pages log slot ∷ slots_from slots pages log (suc slot) count

-- the slots of a log
abbrev pub slots_of : ℕ → ℕ → List ℕ → List Slot
slots_of slots pages log = slots_from slots pages log 0 slots
