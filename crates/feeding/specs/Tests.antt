-- The tests of a fed block in the order in which the code makes them, beside those of the promise, and what a decision stands for.
-- Assumes nothing.
use Rattle.std.specs.Prelude.{ℕ, ◌+◌, ◌≤◌, ◌≡◌, cond, ◌&&◌, List, [], eqb, Option, None, Some, Result, Ok, Err}
use Rattle.block.specs.declared.Block.{Block}
use Rattle.block.specs.declared.Kind as format
use Rattle.promises.specs.declared.State.{State}
use Rattle.promises.specs.declared.Dirty.{Dirty}
use Rattle.promises.specs.declared.Stop.{Stop}
use Rattle.promises.specs.Answers.{number_of}
use Rattle.promises.specs.Areas.{page_at}
use Rattle.promises.specs.Blocks.{Kind, LogBlock, valid, kind_in, slots_of}
use Rattle.promises.specs.Contents.{unless}
use Rattle.promises.specs.Sums.{group_start}
use Rattle.promises.specs.Walk.{Walk, walk_block, in_order, framed}
use Rattle.promises.specs.Feed.{lacking, standing, keep_right, span_fits, Feeding, stops, had, store_of, by_sequence}
use Rattle.outline.specs.declared.Mark.{Mark}
use Rattle.feeding.specs.declared.Decision.{Decision}
use Rattle.feeding.specs.declared.Decision.TheVariants.{Had, Passes}

-- the page that an update changes; 0 for another block
abbrev pub page_of : format.Kind → ℕ
page_of (format.TheVariants.Update index page offset length) = page
page_of (format.TheVariants.Commit updates) = 0
page_of (format.TheVariants.Clean page) = 0

-- the dirty page of a frame, without its bytes, if it holds one
abbrev pub mark_of : Dirty → List Mark
mark_of entry = unless (eqb entry.first 0) (record { page = entry.page; first = entry.first }) []

-- where the half group starts; 0 where there is none
abbrev pub start_of : State → ℕ
start_of state = cond (eqb state.stored 0) 0 (group_start state)

-- the lowest update of the half group that this log lacks; 0 where it lacks none
abbrev pub lacking_in : State → List ℕ → ℕ
lacking_in state log = lacking state.slots (slots_of state.slots state.pages log) state.stored (group_start state) 1

-- the lowest update that is lacking, none of them below this sequence; 0 stands for none
abbrev pub Lacks : Option ℕ → ℕ → ℕ → Type 0
Lacks None least lacking = lacking ≡ 0
Lacks (Some lost) least lacking = (lost ≡ lacking) × (least ≤ lost)

-- what the tests of the block of sequence next give: 8, then 9; 0 where it passes
unfoldable pub turn_number : State → (ℕ → List ℕ) → Walk → LogBlock → ℕ
turn_number state home walk block =
    cond (in_order block.kind block.ticket walk && keep_right home state.next block walk
    && span_fits state.slots (state.next + 1) (walk_block home state.next block.kind walk))
    (cond (framed state.frames home block.kind walk) 0 9)
    8

-- a number is what they give over this log, whatever home and frames hold
abbrev pub Tests : State → List ℕ → Kind → ℕ → ℕ → ℕ → Type 0
Tests state log kind keep_from ticket number = (home : ℕ → List ℕ) (frames : List ℕ)
    → number ≡ turn_number state home (standing state (slots_of state.slots state.pages log) frames)
    (record { kind = kind; keep_from = keep_from; ticket = ticket })

-- a block of the format, with the bytes that it stands in
abbrev pub block_in : Block → List ℕ → LogBlock
block_in block bytes = record { kind = kind_in block.kind bytes; keep_from = block.keep_from; ticket = block.ticket }

-- what comes of a valid block
abbrev pub of_valid : State → List ℕ → List ℕ → List ℕ → Block → List ℕ → Feeding
of_valid state log home frames block bytes =
    by_sequence state (page_at home) frames (slots_of state.slots state.pages log) (valid block.sequence (block_in block bytes))

-- a decision stands for what comes of the block; of one that passes, which store is next is still to be seen
abbrev pub Decides : State → List ℕ → List ℕ → Result Decision Stop → Feeding → Type 0
Decides state frames bytes (Err stop) outcome = outcome ≡ stops (number_of stop.refusal) stop.place
Decides state frames bytes (Ok Had) outcome = outcome ≡ had
Decides state frames bytes (Ok (Passes block)) outcome = outcome ≡ store_of state frames (kind_in block.kind bytes) (block_in block bytes)
