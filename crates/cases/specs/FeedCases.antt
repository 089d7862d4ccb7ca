-- What a copy's feed makes of a block, and its opening of a half group. 8 slots, 4 pages, 2 frames unless said; home's bytes are all 9.
-- Assumes nothing.
use Rattle.std.specs.Prelude.{ℕ, zero, suc, true, false, List, [], ◌∷◌, ◌++◌, length, get_or, set, replicate, take}
use Rattle.promises.specs.declared.State.{State}
use Rattle.promises.specs.declared.Dirty.{Dirty}
use Rattle.promises.specs.declared.Cleaning.{Cleaning}
use Rattle.promises.specs.declared.Cleaning.TheVariants.{Idle, Second, Third}
use Rattle.promises.specs.Areas.{page_at}
use Rattle.promises.specs.Blocks.{update, commit, clean, LogBlock, written}
use Rattle.promises.specs.DirtyPages.{look_up, shown}
use Rattle.promises.specs.Walk as walking
use Rattle.promises.specs.Walk.{Walk, Finding, stands}
use Rattle.promises.specs.States.{empty_state, all_zero_state, set_block, set_dirty, set_stored, set_cleaning}
use Rattle.promises.specs.Feed.{Feeding, stops, had, first, second, takes, feeding, after}
use Rattle.promises.specs.CopyOpen.{copy_finding}
use Rattle.cases.specs.Case.{Case}
use Rattle.cases.specs.StoreCases.{update_of_case2, commit_of_case3, log_of, home_bytes}

-- ---- blocks

-- an update of byte 0 of a page: index, page, byte, keep-from, ticket
abbrev change : ℕ → ℕ → ℕ → ℕ → ℕ → LogBlock
change index page byte keep_from ticket =
    record { kind = update index (record { page = page; offset = 0; bytes = byte ∷ [] }); keep_from = keep_from; ticket = ticket }

abbrev closing : ℕ → ℕ → ℕ → LogBlock
closing updates keep_from ticket = record { kind = commit updates; keep_from = keep_from; ticket = ticket }

abbrev cleansing : ℕ → ℕ → ℕ → LogBlock
cleansing page keep_from ticket = record { kind = clean page; keep_from = keep_from; ticket = ticket }

-- ---- the copy's logs, from block 1 on

-- our first update: a half group
abbrev half : List LogBlock
half = update_of_case2 ∷ []

-- and its commit: page 0 is dirty
abbrev whole : List LogBlock
whole = update_of_case2 ∷ commit_of_case3 ∷ []

-- a half group of two updates, of pages 0 and 1
abbrev half_of_two : List LogBlock
half_of_two = update_of_case2 ∷ change 2 1 7 1 0 ∷ []

-- ---- the copy's state

-- page 0 in frame 0 and page 1 in frame 1, by their first groups; 0 where the page is not dirty
abbrev entries : ℕ → ℕ → List Dirty
entries first0 first1 = set (set all_zero_state.dirty 0 (record { page = 0; first = first0 })) 1 (record { page = 1; first = first1 })

-- frames, next, ticket, updates of the half group, entries, cleaning
abbrev copy_at : ℕ → ℕ → ℕ → ℕ → List Dirty → Cleaning → State
copy_at frames next ticket count dirty cleaning =
    set_cleaning (set_stored (set_dirty (set_block (empty_state true 4 8 frames) next ticket) dirty) count) cleaning

-- as opened on an unused log
abbrev fresh : State
fresh = copy_at 2 1 0 0 (entries 0 0) Idle

-- once it has our first update
abbrev with_half : State
with_half = copy_at 2 2 0 1 (entries 0 0) Idle

-- once it has the commit too, at a cleaning
abbrev with_whole : Cleaning → State
with_whole cleaning = copy_at 2 3 1 0 (entries 1 0) cleaning

-- a desk's state as opened on an unused log
abbrev desk : State
desk = set_block (empty_state false 4 8 2) 1 0

-- frame 0 holds 42, then 9s; frame 1 holds 7, then 9s
unfoldable pub frames_for : ℕ → List ℕ
frames_for zero = []
frames_for (suc zero) = 42 ∷ replicate 1023 9
frames_for (suc (suc more)) = (42 ∷ replicate 1023 9) ++ (7 ∷ replicate 1023 9)

-- ---- what a call tells, as numbers

-- where the walk is then: the half group's length and start, the ticket, the count of dirty pages, and byte 0 of page 0 as it shows
abbrev told_walk : Walk → List ℕ
told_walk walk =
    length walk.group ∷ walk.start ∷ walk.ticket ∷ length walk.dirty_pages
    ∷ get_or (shown (look_up 0 walk.dirty_pages) (page_at home_bytes 0)) 0 0 ∷ []

-- a refusal and its place; or 100 already had; 101 and 102 a half goes home, its page, first group and byte 0; or 103 taken, and the walk
abbrev told_of : State → List ℕ → List ℕ → Feeding → List ℕ
told_of state log frames (stops refusal place) = refusal ∷ place ∷ []
told_of state log frames had = 100 ∷ []
told_of state log frames (first page entry) = 101 ∷ page ∷ entry.first ∷ get_or entry.bytes 0 0 ∷ []
told_of state log frames (second page entry) = 102 ∷ page ∷ entry.first ∷ get_or entry.bytes 0 0 ∷ []
told_of state log frames (takes block) = 103 ∷ told_walk (after state log home_bytes frames block)

-- a copy whose log has these blocks is fed these bytes
unfoldable pub fed_bytes : State → List LogBlock → List ℕ → List ℕ
fed_bytes state blocks bytes =
    told_of state (log_of blocks) (frames_for state.frames) (feeding state (log_of blocks) home_bytes (frames_for state.frames) bytes)

-- or this block with this sequence
abbrev fed : State → List LogBlock → ℕ → LogBlock → List ℕ
fed state blocks sequence block = fed_bytes state blocks (written sequence block)

-- what opening a copy on these blocks tells: the refusal and its place; or next, and the walk
abbrev told_copy : Finding → List ℕ
told_copy (walking.stops refusal place) = refusal ∷ place ∷ []
told_copy (stands next walk) = next ∷ told_walk walk

abbrev opens_copy : List LogBlock → List ℕ
opens_copy blocks = told_copy (copy_finding (log_of blocks) home_bytes 2048)

unfoldable pub feed_cases : List Case
feed_cases =
    -- an update is taken: a half group of one, from block 1 on; page 0 still shows home
    record { number = 1; found = fed fresh [] 1 update_of_case2; expected = 103 ∷ 1 ∷ 1 ∷ 0 ∷ 0 ∷ 9 ∷ [] }
    -- its commit is taken: the update comes from the copy's own log, and page 0 shows it
    ∷ record { number = 2; found = fed with_half half 2 commit_of_case3; expected = 103 ∷ 0 ∷ 0 ∷ 1 ∷ 1 ∷ 42 ∷ [] }
    -- the clean block of a dirty page, first call: the first half goes home
    ∷ record { number = 3; found = fed (with_whole Idle) whole 3 (cleansing 0 3 1); expected = 101 ∷ 0 ∷ 1 ∷ 42 ∷ [] }
    -- second call: the second half
    ∷ record { number = 4; found = fed (with_whole (Second 0)) whole 3 (cleansing 0 3 1); expected = 102 ∷ 0 ∷ 1 ∷ 42 ∷ [] }
    -- third call: it is taken, and no page is dirty
    ∷ record { number = 5; found = fed (with_whole (Third 0)) whole 3 (cleansing 0 3 1); expected = 103 ∷ 0 ∷ 0 ∷ 1 ∷ 0 ∷ 9 ∷ [] }
    -- the clean block of a page that is not dirty: taken at once; page 0 stays dirty, and keep-from is its first group
    ∷ record { number = 6; found = fed (with_whole Idle) whole 3 (cleansing 2 1 1); expected = 103 ∷ 0 ∷ 0 ∷ 1 ∷ 1 ∷ 42 ∷ [] }
    -- the clean block of page 1 once both halves of page 0 are home: page 1's own first half
    ∷ record {
      number = 7;
      found = fed (copy_at 2 4 1 0 (entries 1 1) (Third 0)) (half_of_two ++ (closing 2 1 1 ∷ [])) 4 (cleansing 1 1 1);
      expected = 101 ∷ 1 ∷ 1 ∷ 7 ∷ [];
    }
    -- a clean block voids a half group
    ∷ record { number = 8; found = fed with_half half 2 (cleansing 3 2 0); expected = 103 ∷ 0 ∷ 0 ∷ 0 ∷ 0 ∷ 9 ∷ [] }
    -- a block below next is already had, whatever it says
    ∷ record { number = 9; found = fed (with_whole Idle) whole 1 (change 1 0 43 1 0); expected = 100 ∷ [] }
    -- opening a copy keeps the half group, which case 6 of 01 voids
    ∷ record { number = 10; found = opens_copy half; expected = 2 ∷ 1 ∷ 1 ∷ 0 ∷ 0 ∷ 9 ∷ [] }
    -- 2: a desk's state is not sound to the feed
    ∷ record { number = 11; found = fed desk [] 1 update_of_case2; expected = 2 ∷ 0 ∷ [] }
    -- 1: a block of 511 bytes
    ∷ record { number = 12; found = fed_bytes fresh [] (take 511 (written 1 update_of_case2)); expected = 1 ∷ 0 ∷ [] }
    -- 13: zeros
    ∷ record { number = 13; found = fed_bytes fresh [] (replicate 512 0); expected = 13 ∷ 0 ∷ [] }
    -- 13: an update of page 4 of 4; it would else be already had
    ∷ record { number = 14; found = fed (with_whole Idle) whole 1 (change 1 4 42 1 0); expected = 13 ∷ 0 ∷ [] }
    -- 14: a sequence above next
    ∷ record { number = 15; found = fed fresh [] 2 commit_of_case3; expected = 14 ∷ 0 ∷ [] }
    -- 7 at block 1: the half group's update is not in the copy's log
    ∷ record { number = 16; found = fed with_half [] 2 commit_of_case3; expected = 7 ∷ 1 ∷ [] }
    -- 8: a commit of two updates after one
    ∷ record { number = 17; found = fed with_half half 2 (closing 2 1 1); expected = 8 ∷ 2 ∷ [] }
    -- 8: index 3 after index 1
    ∷ record { number = 18; found = fed with_half half 2 (change 3 0 42 1 0); expected = 8 ∷ 2 ∷ [] }
    -- 8: ticket 0 once 1 is committed
    ∷ record { number = 19; found = fed (with_whole Idle) whole 3 (change 1 0 42 1 0); expected = 8 ∷ 3 ∷ [] }
    -- 8: keep-from 1, where nothing is dirty once page 0 is clean and the layout's rule gives 3
    ∷ record { number = 20; found = fed (with_whole (Third 0)) whole 3 (cleansing 0 1 1); expected = 8 ∷ 3 ∷ [] }
    -- 8: H + D above N, by 8 blocks from keep-from 1 on and 1 dirty page
    ∷ record { number = 21; found = fed (copy_at 2 8 1 0 (entries 1 0) Idle) whole 8 (change 1 1 7 1 1); expected = 8 ∷ 8 ∷ [] }
    -- 9: the commit leaves 2 pages dirty, with 1 frame
    ∷ record { number = 22; found = fed (copy_at 1 3 0 2 (entries 0 0) Idle) half_of_two 3 (closing 2 1 1); expected = 9 ∷ 3 ∷ [] }
    -- 8: H counts the half group's start, 1, though the dirty page's first group is later (in no run it is)
    ∷ record { number = 23; found = fed (copy_at 2 8 0 7 (entries 7 0) Idle) [] 8 (change 8 0 42 1 0); expected = 8 ∷ 8 ∷ [] }
    ∷ []

-- 13 before 14: an update of page 4 of 4, with a sequence above next
unfoldable pub order_cases : List Case
order_cases = record { number = 24; found = fed fresh [] 2 (change 1 4 43 1 0); expected = 13 ∷ 0 ∷ [] } ∷ []
