-- NOTHING SETTLED VANISHES IN SILENCE: where the newest block went bad the next opening refuses the log; and whatever else went bad, it
-- refuses the log or shows what it would have shown.
-- Assumes nothing.
use Rattle.std.specs.Prelude.{◌≡◌, ◌⊎◌, true, ℕ, ◌≤◌, ◌<◌, List, length}
use Rattle.block.specs.Sizes.{block_size}
use Rattle.block.specs.Legal.{slot_of}
use Rattle.block.specs.Slot.{judged}
use Rattle.block.specs.declared.Judged.TheVariants.{Damaged}
use Rattle.promises.specs.Areas.{slot_bytes, with_slot}
use Rattle.promises.specs.Blocks.{damaged, slot_at}
use Rattle.promises.specs.Book.{Book}
use Rattle.promises.specs.Events.{Sizes, World, opening, reading, Lent}
use Rattle.promises.specs.Answers.{Reply, refuses, settles, shows, accepts}
use Rattle.promises.specs.Claim.{Steps, Run, InRange}
use Rattle.promises.specs.Stored.{stored_by}

-- the world with another log
abbrev pub with_log : World → List ℕ → World
with_log world log = record { state = world.state; log = log; home = world.home; frames = world.frames; staging = world.staging }

-- the slot of the newest block that a run stored
abbrev pub newest_slot : {by : Steps} {sizes : Sizes} {world : World} {book : Book} → Run by sizes world book → ℕ
newest_slot {sizes = sizes} run = slot_of sizes.slots (length (stored_by run))

-- in the world that any list of calls and cuts leads to, with at least one block stored, put any 512 bytes that are damaged there into
-- the newest block's slot: the next opening is refused with 7
abbrev pub NoSilentLoss : Steps → Type 0
NoSilentLoss by = (sizes : Sizes) → InRange sizes → (world : World) (book : Book) (run : Run by sizes world book)
    → 0 < length (stored_by run)
    → (bytes : List ℕ) → length bytes ≡ block_size → judged sizes.slots sizes.pages (newest_slot run) bytes ≡ Damaged
    → (frames staging : List ℕ) (reply : Reply) (world' : World) → Lent sizes (opening frames staging)
    → by.steps (opening frames staging) (with_log world (with_slot world.log (newest_slot run) bytes)) reply world' → reply ≡ refuses 7

-- each settled ticket has a block: where one is settled, at least one block is stored
abbrev pub SettledStored : Steps → Type 0
SettledStored by = (sizes : Sizes) → InRange sizes → (world : World) (book : Book) (run : Run by sizes world book)
    → book.m ≤ length (stored_by run)

-- ---- any slots

-- each slot of a log is as it was, or damaged
pub record WentBad (sizes : Sizes) (log log' : List ℕ) : Type 0 where
  pub length_is : length log' ≡ length log
  pub slots_are : (slot : ℕ) → slot < sizes.slots
      → (slot_bytes log' slot ≡ slot_bytes log slot) ⊎ (slot_at sizes.slots sizes.pages log' slot ≡ damaged)

-- the next opening of such a log
pub record OpensBad (by : Steps) (sizes : Sizes) (world : World) (book : Book) (log' : List ℕ) : Type 0 where
  -- is refused with 7, or accepted and reports m
  pub opens : (frames staging : List ℕ) (reply : Reply) (world' : World) → Lent sizes (opening frames staging)
      → by.steps (opening frames staging) (with_log world log') reply world' → (reply ≡ refuses 7) ⊎ (reply ≡ settles book.m)
  -- after an accepted one every page is shown, and is the book's
  pub reads : (frames staging : List ℕ) (reply : Reply) (world' : World) → Lent sizes (opening frames staging)
      → by.steps (opening frames staging) (with_log world log') reply world' → accepts reply ≡ true
      → (page : ℕ) (answer : Reply) (world'' : World) → page < sizes.pages → by.steps (reading page) world' answer world''
      → answer ≡ shows (book.pages page)

-- in the world that any list of calls and cuts leads to, whatever slots of the log went bad
abbrev pub NoOtherPages : Steps → Type 0
NoOtherPages by = (sizes : Sizes) → InRange sizes → (world : World) (book : Book) → Run by sizes world book
    → (log' : List ℕ) → WentBad sizes world.log log' → OpensBad by sizes world book log'
