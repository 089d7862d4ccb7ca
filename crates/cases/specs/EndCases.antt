-- What an opening finds where the slot after the newest block, or another, is damaged. 8 slots, 4 pages, 2 frames.
-- Assumes nothing.
use Rattle.std.specs.Prelude.{ℕ, zero, suc, ◌+◌, ◌*◌, ◌^◌, ◌-◌, List, [], ◌∷◌, set, replicate}
use Rattle.promises.specs.Areas.{with_slot}
use Rattle.promises.specs.Blocks.{update, clean, LogBlock, written}
use Rattle.promises.specs.Walk.{finding}
use Rattle.cases.specs.Case.{Case}
use Rattle.cases.specs.StoreCases.{update_of_case2, commit_of_case3, log_of, home_bytes, told}

-- what an opening tells of a log
abbrev finds : List ℕ → List ℕ
finds log = told (finding 8 4 2 log home_bytes)

-- a log with byte 100 of a slot changed: unused before, or past what the block carries
abbrev changed_in : ℕ → List ℕ → List ℕ
changed_in slot log = set log (slot * 512 + 100) 1

-- the log of case 5: blocks 1 and 2, an update and its commit
abbrev settled : List ℕ
settled = log_of (update_of_case2 ∷ commit_of_case3 ∷ [])

-- a group without its commit: so many updates from an index on, all with keep-from 1
unfoldable pub updates_from : ℕ → ℕ → List LogBlock
updates_from index zero = []
updates_from index (suc more) =
    record { kind = update index (record { page = 0; offset = 0; bytes = 42 ∷ [] }); keep_from = 1; ticket = 0 } ∷ updates_from (suc index) more

-- a clean block with its own sequence as keep-from
abbrev clean_at : ℕ → LogBlock
clean_at sequence = record { kind = clean 0; keep_from = sequence; ticket = 1 }

-- a log whose newest block is the last that there may be, in slot 7; slot 0 comes after it
abbrev last : List ℕ
last = with_slot (replicate 4096 0) 7 (written (2 ^ 48 - 1) (clean_at (2 ^ 48 - 1)))

unfoldable pub end_cases : List Case
end_cases =
    -- the slot after the newest block: 7, one more than the newest
    record { number = 1; found = finds (changed_in 3 settled); expected = 7 ∷ 3 ∷ [] }
    -- the newest block, a commit: 7, where it should be
    ∷ record { number = 2; found = finds (changed_in 2 settled); expected = 7 ∷ 2 ∷ [] }
    -- an older block and the slot after the newest: 7, the missing block first
    ∷ record { number = 3; found = finds (changed_in 1 (changed_in 3 settled)); expected = 7 ∷ 1 ∷ [] }
    -- a slot further on: no matter, as case 5 of `StoreCases`
    ∷ record { number = 4; found = finds (changed_in 4 settled); expected = 3 ∷ 1 ∷ 1 ∷ 42 ∷ [] }
    -- the only block: no valid slot, 7 with place 0
    ∷ record { number = 5; found = finds (changed_in 1 (log_of (update_of_case2 ∷ []))); expected = 7 ∷ 0 ∷ [] }
    -- the bytes of block 1 in slot 3: valid in slot 1, damaged here
    ∷ record { number = 6; found = finds (with_slot settled 3 (written 1 update_of_case2)); expected = 7 ∷ 3 ∷ [] }
    -- blocks 1 to 8 fill all slots: the slot after the newest holds block 1, nothing is refused
    ∷ record {
      number = 7;
      found = finds (with_slot (log_of (updates_from 1 7)) 0 (written 8 (record { kind = update 8 (record { page = 0; offset = 0; bytes = 42 ∷ [] }); keep_from = 1; ticket = 0 })));
      expected = 9 ∷ 0 ∷ 0 ∷ 9 ∷ [];
    }
    -- the last block that there may be, and a damaged slot after it: 7 with place 2^48
    ∷ record { number = 8; found = finds (changed_in 0 last); expected = 7 ∷ 281474976710656 ∷ [] }
    -- an older block in the slot after it: next is 2^48
    ∷ record { number = 9; found = finds (with_slot last 0 (written (2 ^ 48 - 8) (clean_at (2 ^ 48 - 8)))); expected = 281474976710656 ∷ 1 ∷ 0 ∷ 9 ∷ [] }
    ∷ []
