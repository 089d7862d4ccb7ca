-- A BROKER'S COPY: its book, its calls and cuts, and what is claimed of it. In words: docs/GUARANTEE.md.
-- Assumes nothing.
use Rattle.std.specs.Prelude.{ℕ, ◌+◌, ◌<◌, ◌≡◌, ◌⊎◌, Bool, true, cond, List, [], ◌∷◌, ◌++◌, length, get_or, eqb, leb}
use Rattle.block.specs.Sizes.{block_size}
use Rattle.block.specs.Legal.{slot_of}
use Rattle.promises.specs.declared.Outcome.{Outcome}
use Rattle.promises.specs.declared.Stop.{Stop}
use Rattle.promises.specs.declared.Fed.{Fed}
use Rattle.promises.specs.Areas.{frames_length, slot_bytes}
use Rattle.promises.specs.Updates.{Update, redo, of_page}
use Rattle.promises.specs.Blocks.{Kind, update, commit, clean, LogBlock, no_block, valid, slots_of}
use Rattle.promises.specs.Newest.{newest}
use Rattle.promises.specs.Answers.{Reply, refuses, done, gives, settles, shows, says, had, not_yet, taken, accepts, open_answered, fed_answered}
use Rattle.promises.specs.States.{all_zero_state}
use Rattle.promises.specs.Sound.{copy_sound}
use Rattle.promises.specs.Feed.{Feeds, fed_slot}
use Rattle.promises.specs.CopyOpen.{OpensCopy}
use Rattle.promises.specs.Stored.{block_of, stored_by}
use Rattle.promises.specs.Book.{Book}
use Rattle.promises.specs.Events.{Sizes, World, with_state, reading, Reading, Settling, left_by, fallen}
use Rattle.promises.specs.Claim.{Steps, Run, InRange}
use Rattle.promises.specs.Corollaries.{Begins}

-- ---- the copy's book: the pages, the count m of committed groups, the half group at the end
pub record CopyBook : Type 0 where
  pub pages : ℕ → List ℕ
  pub m : ℕ
  pub group : List Update

-- a block is taken; a group is COMMITTED when its commit block is stored
abbrev pub took : Kind → CopyBook → CopyBook
took (update index change) book =
    record { pages = book.pages; m = book.m; group = cond (eqb index 1) (change ∷ []) (book.group ++ (change ∷ [])) }
took (commit updates) book = record { pages = λ page. redo (of_page page book.group) (book.pages page); m = book.m + 1; group = [] }
took (clean page) book = record { pages = book.pages; m = book.m; group = [] }

unfoldable pub took_all : List LogBlock → CopyBook → CopyBook
took_all [] book = book
took_all (block ∷ blocks) book = took_all blocks (took block.kind book)

-- the half group at the end of these blocks
abbrev pub half_of : List LogBlock → List Update
half_of blocks = (took_all blocks (record { pages = λ page. []; m = 0; group = [] })).group

-- made from our log and home: the book starts with our pages and m, and with the half group at our log's end
abbrev pub made_from : Book → List LogBlock → CopyBook
made_from book blocks = record { pages = book.pages; m = book.m; group = half_of blocks }

-- ---- the copy's calls, each by its own promise. Its world has an empty staging
pub data CopyCall : Type 0 where
  opens : List ℕ → CopyCall
  feeds : List ℕ → CopyCall
  reads : ℕ → CopyCall
  asks : ℕ → CopyCall

pub record CopyOpening (world : World) (frames : List ℕ) (reply : Reply) (world' : World) : Type 0 where
  pub result : Outcome ℕ Stop
  pub frames' : List ℕ
  pub promise : OpensCopy world.log world.home frames result frames'
  pub reply_is : reply ≡ open_answered result.answer
  pub after : world' ≡ record { state = result.state; log = world.log; home = world.home; frames = frames'; staging = [] }

pub record CopyFeeding (world : World) (bytes : List ℕ) (reply : Reply) (world' : World) : Type 0 where
  pub result : Outcome Fed Stop
  pub log' : List ℕ
  pub home' : List ℕ
  pub frames' : List ℕ
  pub promise : Feeds world.state world.log world.home world.frames bytes result log' home' frames'
  pub reply_is : reply ≡ fed_answered result.answer
  pub after : world' ≡ record { state = result.state; log = log'; home = home'; frames = frames'; staging = [] }

-- Read and Settled are the desk's own
abbrev pub CopyStep : CopyCall → World → Reply → World → Type 0
CopyStep (opens frames) world reply world' = CopyOpening world frames reply world'
CopyStep (feeds bytes) world reply world' = CopyFeeding world bytes reply world'
CopyStep (reads page) world reply world' = Reading world page reply world'
CopyStep (asks ticket) world reply world' = Settling world ticket reply world'

-- how the calls step: by their promises, or by what a caller learns of the code
pub record CopySteps : Type 1 where
  pub steps : CopyCall → World → Reply → World → Type 0

-- by their promises
abbrev pub copy_promised : CopySteps
copy_promised = record { steps = CopyStep }

-- the opening is lent frames of the copy's size
abbrev pub CopyLent : Sizes → CopyCall → Type 0
CopyLent sizes (opens frames) = length frames ≡ frames_length sizes.frames
CopyLent sizes (feeds bytes) = Unit {0}
CopyLent sizes (reads page) = Unit {0}
CopyLent sizes (asks ticket) = Unit {0}

-- the block that a feed takes
abbrev pub block_taken : Sizes → List ℕ → Reply → List LogBlock
block_taken sizes bytes (refuses refusal) = []
block_taken sizes bytes done = []
block_taken sizes bytes (gives ticket) = []
block_taken sizes bytes (settles ticket) = []
block_taken sizes bytes (shows page) = []
block_taken sizes bytes (says answer) = []
block_taken sizes bytes had = []
block_taken sizes bytes not_yet = []
block_taken sizes bytes taken = block_of (fed_slot sizes.slots sizes.pages bytes) ∷ []

abbrev pub taken_in : Sizes → CopyCall → Reply → List LogBlock
taken_in sizes (opens frames) reply = []
taken_in sizes (feeds bytes) reply = block_taken sizes bytes reply
taken_in sizes (reads page) reply = []
taken_in sizes (asks ticket) reply = []

-- every list of a copy's calls and cuts, from when it is made from our log and home, byte for byte; the blocks that it took since
pub data CopyRun (by : Steps) (copy_by : CopySteps) (sizes : Sizes) {origin : World} {book : Book} (run : Run by sizes origin book)
    : World → List LogBlock → Type 0 where
  -- any bytes in frames
  made : {world : World} {blocks : List LogBlock} (frames : List ℕ)
      → world ≡ record { state = all_zero_state; log = origin.log; home = origin.home; frames = frames; staging = [] } → blocks ≡ []
      → CopyRun by copy_by sizes run world blocks
  -- a call; any bytes may be fed
  copy_called : {world world' : World} {blocks blocks' : List LogBlock} (call : CopyCall) (reply : Reply) → CopyRun by copy_by sizes run world blocks
      → CopyLent sizes call → copy_by.steps call world reply world' → blocks' ≡ blocks ++ taken_in sizes call reply
      → CopyRun by copy_by sizes run world' blocks'
  -- a call that is lent other areas, and refused with 1 or 2
  copy_unfit : {world world' : World} {blocks : List LogBlock} (call : CopyCall) (reply : Reply) (lent lent' : World)
      → CopyRun by copy_by sizes run world blocks → lent.state ≡ world.state → copy_by.steps call lent reply lent'
      → (reply ≡ refuses 1) ⊎ (reply ≡ refuses 2) → world' ≡ with_state world lent'.state → CopyRun by copy_by sizes run world' blocks
  -- a cut at a call: log and home as before it or after it
  copy_cut : {world world'' : World} {blocks blocks'' : List LogBlock} (call : CopyCall) (reply : Reply) (world' : World) (stored : Bool) (frames : List ℕ)
      → CopyRun by copy_by sizes run world blocks → CopyLent sizes call → copy_by.steps call world reply world'
      → world'' ≡ fallen (left_by stored world world') frames [] → blocks'' ≡ blocks ++ cond stored (taken_in sizes call reply) []
      → CopyRun by copy_by sizes run world'' blocks''
  -- a cut at a call that is lent other areas, and would be refused with 1 or 2
  copy_cut_unfit : {world world'' : World} {blocks : List LogBlock} (call : CopyCall) (reply : Reply) (lent lent' : World) (frames : List ℕ)
      → CopyRun by copy_by sizes run world blocks → lent.state ≡ world.state → copy_by.steps call lent reply lent'
      → (reply ≡ refuses 1) ⊎ (reply ≡ refuses 2) → world'' ≡ fallen world frames [] → CopyRun by copy_by sizes run world'' blocks

-- the copy's book along its run: its transactions are the groups of the blocks taken
abbrev pub book_of : {by : Steps} {sizes : Sizes} {origin : World} {book : Book} (run : Run by sizes origin book) → List LogBlock → CopyBook
book_of {book = book} run blocks = took_all blocks (made_from book (stored_by run))

-- ---- THE CUT RULE OF A COPY, whatever was fed
pub record CopySafe (copy_by : CopySteps) (sizes : Sizes) (world : World) (book : CopyBook) : Type 0 where
  -- the next opening is accepted and reports m
  pub opens_right : (frames : List ℕ) (reply : Reply) (world' : World) → CopyLent sizes (opens frames)
      → copy_by.steps (opens frames) world reply world' → reply ≡ settles book.m
  -- after it every page is shown, and is the book's
  pub reads_right : (frames : List ℕ) (reply : Reply) (world' : World) → CopyLent sizes (opens frames)
      → copy_by.steps (opens frames) world reply world' → (page : ℕ) (answer : Reply) (world'' : World) → page < sizes.pages
      → copy_by.steps (reads page) world' answer world'' → answer ≡ shows (book.pages page)
  -- every accepted Read and Settled on the way is the book's
  pub shows_right : (page : ℕ) (answer : Reply) (world' : World) → copy_by.steps (reads page) world answer world' → accepts answer ≡ true
      → answer ≡ shows (book.pages page)
  pub says_right : (ticket : ℕ) (answer : Reply) (world' : World) → copy_by.steps (asks ticket) world answer world' → accepts answer ≡ true
      → answer ≡ says (leb ticket book.m)

abbrev pub CopyClaim : Steps → CopySteps → Type 0
CopyClaim by copy_by = (sizes : Sizes) → InRange sizes → (origin : World) (book : Book) (run : Run by sizes origin book)
    (world : World) (blocks : List LogBlock) → CopyRun by copy_by sizes run world blocks → CopySafe copy_by sizes world (book_of run blocks)

-- ---- AGREEMENT: where copy and origin have the same newest block, every page reads the same on both
abbrev pub Agreement : Steps → CopySteps → Type 0
Agreement by copy_by = (sizes : Sizes) → InRange sizes → (origin : World) (book : Book) (run : Run by sizes origin book)
    -- the origin went on
    → (origin' : World) (book' : Book) (run' : Run by sizes origin' book') → Begins run origin' book' run'
    → (world : World) (blocks : List LogBlock) → CopyRun by copy_by sizes run world blocks
    -- the copy took our blocks
    → ((n : ℕ) → n < length blocks → get_or blocks n no_block ≡ get_or (stored_by run') (length (stored_by run) + n) no_block)
    -- the same newest block
    → newest (slots_of sizes.slots sizes.pages world.log) ≡ newest (slots_of sizes.slots sizes.pages origin'.log)
    → (page : ℕ) (ours theirs : Reply) (after after' : World) → by.steps (reading page) origin' ours after → accepts ours ≡ true
    → copy_by.steps (reads page) world theirs after' → accepts theirs ≡ true → theirs ≡ ours

-- ---- KEEPS UP: a copy that is open and has our blocks so far is not refused our next one. At most twice it is answered as not yet taken
abbrev pub KeepsUp : Steps → CopySteps → Type 0
KeepsUp by copy_by = (sizes : Sizes) → InRange sizes → (origin : World) (book : Book) (run : Run by sizes origin book)
    -- the origin went on
    → (origin' : World) (book' : Book) (run' : Run by sizes origin' book') → Begins run origin' book' run'
    → (world : World) (blocks : List LogBlock) → CopyRun by copy_by sizes run world blocks → copy_sound world.state ≡ true
    -- our next block, and the bytes that hold it
    → (block : LogBlock) (rest : List LogBlock) → stored_by run' ≡ (stored_by run ++ blocks) ++ (block ∷ rest)
    → (bytes : List ℕ) → length bytes ≡ block_size → fed_slot sizes.slots sizes.pages bytes ≡ valid (length (stored_by run ++ blocks) + 1) block
    → (first : Reply) (world₁ : World) → copy_by.steps (feeds bytes) world first world₁
    → (first ≡ taken) ⊎ ((first ≡ not_yet) × ((second : Reply) (world₂ : World) → copy_by.steps (feeds bytes) world₁ second world₂
    → (second ≡ taken) ⊎ ((second ≡ not_yet) × ((third : Reply) (world₃ : World) → copy_by.steps (feeds bytes) world₂ third world₃ → third ≡ taken))))

-- the slot of a block that is still in our log holds such bytes
abbrev pub InOurLog : Steps → Type 0
InOurLog by = (sizes : Sizes) → InRange sizes → (origin : World) (book : Book) (run : Run by sizes origin book)
    → (blocks : List LogBlock) (block : LogBlock) (rest : List LogBlock) → stored_by run ≡ blocks ++ (block ∷ rest) → length rest < sizes.slots
    → (length (slot_bytes origin.log (slot_of sizes.slots (length blocks + 1))) ≡ block_size)
    × (fed_slot sizes.slots sizes.pages (slot_bytes origin.log (slot_of sizes.slots (length blocks + 1))) ≡ valid (length blocks + 1) block)
