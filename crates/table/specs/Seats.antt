-- Dirty pages in place, a number for each frame: the seat. It is the frame's first group times 65,536 and its page.
-- Assumes nothing.
use Rattle.std.specs.Prelude.{ℕ, ◌-◌, ◌/◌, ◌%◌, Bool, cond, List, ◌++◌, map, length, replicate, eqb, ltb}
use Rattle.promises.specs.declared.Dirty.{Dirty}
use Rattle.table.specs.declared.Table.{Table}
use Rattle.promises.specs.States.{free}

-- the entry that a seat stands for; below 65,536 the frame is free
abbrev pub entry_in : ℕ → Dirty
entry_in seat = cond (ltb seat 65536) free (record { page = seat % 65536; first = seat / 65536 })

-- an entry, where a free one is zero
abbrev pub cleared : Dirty → Dirty
cleared entry = cond (eqb entry.first 0) free entry

-- the entries of the frames, and free ones up to 32
unfoldable pub dirty_in : List ℕ → List Dirty
dirty_in seats = map entry_in seats ++ replicate (32 - length seats) free

-- the table that seats stand for
abbrev pub seated : Bool → List ℕ → Table
seated full seats = record { count = length seats; full = full; dirty = dirty_in seats }
