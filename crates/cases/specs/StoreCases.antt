-- Cases 5 to 7 of 01, "Checked by hand", which join the list of the starred ones; and cases 10 to 12, a second list over the
-- promises' definitions. 8 slots, 4 pages, 2 frames unless said.
-- Assumes nothing.
use Rattle.std.specs.Prelude.{ℕ, suc, ◌-◌, false, List, [], ◌∷◌, ◌++◌, length, get_or, set, replicate}
use Rattle.promises.specs.declared.State.{State}
use Rattle.promises.specs.declared.Cleaning.TheVariants.{Idle}
use Rattle.promises.specs.Areas.{page_at}
use Rattle.promises.specs.Blocks.{update, commit, clean, LogBlock, written}
use Rattle.promises.specs.DirtyPages.{look_up, shown}
use Rattle.promises.specs.Walk.{Finding, stops, stands, finding}
use Rattle.promises.specs.States.{all_zero_state}
use Rattle.promises.specs.Begin.{begin_refusal}
use Rattle.promises.specs.Read.{read_refusal}
use Rattle.cases.specs.Case.{Case}
use Rattle.cases.specs.BlockCases.{block_cases}

-- ---- logs of blocks 1 on, with zeros in the other slots

-- the blocks of cases 2, 3 and 4
abbrev pub update_of_case2 : LogBlock
update_of_case2 = record { kind = update 1 (record { page = 0; offset = 0; bytes = 42 ∷ [] }); keep_from = 1; ticket = 0 }

abbrev pub commit_of_case3 : LogBlock
commit_of_case3 = record { kind = commit 1; keep_from = 1; ticket = 1 }

abbrev clean_of_case4 : LogBlock
clean_of_case4 = record { kind = clean 0; keep_from = 3; ticket = 1 }

-- case 12: a second update, of page 1, and the commit of both
abbrev update_of_page1 : LogBlock
update_of_page1 = record { kind = update 2 (record { page = 1; offset = 0; bytes = 7 ∷ [] }); keep_from = 1; ticket = 0 }

abbrev commit_of_both : LogBlock
commit_of_both = record { kind = commit 2; keep_from = 1; ticket = 1 }

unfoldable pub blocks_from : ℕ → List LogBlock → List ℕ
blocks_from sequence [] = []
blocks_from sequence (block ∷ rest) = written sequence block ++ blocks_from (suc sequence) rest

-- slot 0 is unused, blocks 1 on follow, and so many unused slots as are left of 8
unfoldable pub log_of : List LogBlock → List ℕ
log_of blocks = replicate 512 0 ++ blocks_from 1 blocks ++ replicate (3584 - length (blocks_from 1 blocks)) 0

-- home's bytes are all 9, so that what is left of them is seen
unfoldable pub home_bytes : List ℕ
home_bytes = replicate 4096 9

-- what an opening tells: next, ticket, the count of dirty pages, and byte 0 of page 0 as it shows; or the refusal and its place
unfoldable pub told : Finding → List ℕ
told (stops refusal place) = refusal ∷ place ∷ []
told (stands next walk) =
    next ∷ walk.ticket ∷ length walk.dirty_pages ∷ get_or (shown (look_up 0 walk.dirty_pages) (page_at home_bytes 0)) 0 0 ∷ []

abbrev pub opens : ℕ → List LogBlock → List ℕ
opens frames blocks = told (finding 8 4 frames (log_of blocks) home_bytes)

-- the state after case 5
abbrev pub after_case5 : State
after_case5 = record {
  pages = 4;
  slots = 8;
  frames = 2;
  next = 3;
  ticket = 1;
  dirty = set all_zero_state.dirty 0 (record { page = 0; first = 1 });
  staged = all_zero_state.staged;
  groups = all_zero_state.groups;
  queued = 0;
  stored = 0;
  reserved = 0;
  described = 0;
  cleaning = Idle;
  copy = false;
}

-- the starred cases, 1 to 9: page 0 byte 0 is 42, ticket 1, next 3; home as it was, ticket 0, next 2; nothing dirty, ticket 1, next 4
unfoldable pub starred_cases : List Case
unfolding block_cases
starred_cases =
    block_cases
    ++ (record { number = 5; found = opens 2 (update_of_case2 ∷ commit_of_case3 ∷ []); expected = 3 ∷ 1 ∷ 1 ∷ 42 ∷ [] }
    ∷ record { number = 6; found = opens 2 (update_of_case2 ∷ []); expected = 2 ∷ 0 ∷ 0 ∷ 9 ∷ [] }
    ∷ record { number = 7; found = opens 2 (update_of_case2 ∷ commit_of_case3 ∷ clean_of_case4 ∷ []); expected = 4 ∷ 1 ∷ 0 ∷ 9 ∷ [] }
    ∷ [])

-- Begin 1 is accepted, Begin 2 is 5, Begin 3 is 3; Read of page 3 works, of page 4 is 3; with 1 frame Open is 9, at the commit
unfoldable pub further_cases : List Case
further_cases =
    record {
      number = 10;
      found = begin_refusal after_case5 1 ∷ begin_refusal after_case5 2 ∷ begin_refusal after_case5 3 ∷ [];
      expected = 0 ∷ 5 ∷ 3 ∷ [];
    }
    ∷ record { number = 11; found = read_refusal after_case5 4096 2048 3 ∷ read_refusal after_case5 4096 2048 4 ∷ []; expected = 0 ∷ 3 ∷ [] }
    ∷ record { number = 12; found = opens 1 (update_of_case2 ∷ update_of_page1 ∷ commit_of_both ∷ []); expected = 9 ∷ 3 ∷ [] }
    ∷ []
