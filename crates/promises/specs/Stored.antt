-- The blocks that a run stored, in order: block s at place s - 1. Each is read off its slot once it is stored.
-- Assumes nothing.
use Rattle.std.specs.Prelude.{Bool, true, false, cond, List, [], ◌∷◌, ◌++◌}
use Rattle.block.specs.Legal.{slot_of}
use Rattle.promises.specs.declared.Cleaning.{Cleaning}
use Rattle.promises.specs.declared.Cleaning.TheVariants.{Idle, First, Second, Third}
use Rattle.promises.specs.Blocks.{LogBlock, no_block, Slot, unused, damaged, valid, slot_at}
use Rattle.promises.specs.Book.{Book}
use Rattle.promises.specs.Events.{Sizes, World, Call, opening, begin, describe, ending, log_step, clean_step, reading, settling}
use Rattle.promises.specs.Answers.{accepts}
use Rattle.promises.specs.Claim.{Steps, Run, formatted, called, unfit, cut, cut_unfit, both}

abbrev pub block_of : Slot → LogBlock
block_of unused = no_block
block_of damaged = no_block
block_of (valid sequence block) = block

-- the block in the slot of next, once a call stored it
abbrev pub new_block : Sizes → World → World → List LogBlock
new_block sizes world world' =
    block_of (slot_at sizes.slots sizes.pages world'.log (slot_of sizes.slots world.state.next)) ∷ []

-- a cleaning's third store is a block, its others are halves of a page
abbrev pub stores_block : Cleaning → Bool
stores_block Idle = false
stores_block (First page) = false
stores_block (Second page) = false
stores_block (Third page) = true

-- what a call adds that is accepted, or refused
abbrev pub stored_in : Sizes → Call → Bool → World → World → List LogBlock
stored_in sizes (opening frames staging) accepted world world' = []
stored_in sizes (begin u) accepted world world' = []
stored_in sizes (describe change) accepted world world' = []
stored_in sizes ending accepted world world' = []
stored_in sizes log_step accepted world world' = cond accepted (new_block sizes world world') []
stored_in sizes clean_step accepted world world' = cond accepted (cond (stores_block world.state.cleaning) (new_block sizes world world') []) []
stored_in sizes (reading page) accepted world world' = []
stored_in sizes (settling ticket) accepted world world' = []

-- THE BLOCKS THAT A RUN STORED
unfoldable pub stored_by : {by : Steps} {sizes : Sizes} {world : World} {book : Book} → Run by sizes world book → List LogBlock
stored_by (formatted log log' home frames staging answer log_long home_long formats world_is book_is) = []
stored_by {sizes = sizes} (called {world = world} {world' = world'} call reply run lent step book_is) =
    stored_by run ++ stored_in sizes call (accepts reply) world world'
stored_by (unfit call reply lent lent' run same step refused world_is book_is) = stored_by run
stored_by {sizes = sizes} (cut {world = world} call reply world' stored frames staging run lent step world_is book_is) =
    stored_by run ++ stored_in sizes call (both stored (accepts reply)) world world'
stored_by (cut_unfit call reply lent lent' frames staging run same step refused world_is book_is) = stored_by run
