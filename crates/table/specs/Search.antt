-- Searching the frames: the place of the first entry that passes a test, and the frame that a page gets.
-- Assumes nothing.
use Rattle.std.specs.Prelude.{ℕ, suc, Bool, cond, List, [], ◌∷◌, take, eqb, ltb}
use Rattle.promises.specs.declared.Dirty.{Dirty}
use Rattle.promises.specs.States.{is_of}
use Rattle.table.specs.declared.Table.{Table}

-- a frame that holds no page
abbrev pub is_free : Dirty → Bool
is_free entry = eqb entry.first 0

-- the place of the first entry that passes a test; the length where none does
unfoldable pub place_of : (Dirty → Bool) → List Dirty → ℕ
place_of test [] = 0
place_of test (entry ∷ entries) = cond (test entry) 0 (suc (place_of test entries))

-- the entries of the frames below count
abbrev pub entries_of : Table → List Dirty
entries_of table = take table.count table.dirty

-- the frame that holds a page, else the lowest free one, else the count of frames
unfoldable pub seat_of : Table → ℕ → ℕ
seat_of table page =
    cond (ltb (place_of (is_of page) (entries_of table)) table.count) (place_of (is_of page) (entries_of table)) (place_of is_free (entries_of table))
