-- The dirty pages of a state as a table.
-- Assumes nothing.
use Rattle.std.specs.Prelude.{false, List}
use Rattle.promises.specs.declared.State.{State}
use Rattle.promises.specs.declared.Dirty.{Dirty}
use Rattle.table.specs.declared.Table.{Table}

-- a table of the state's frames with these entries
abbrev pub table_with : State → List Dirty → Table
table_with state dirty = record { count = state.frames; full = false; dirty = dirty }

abbrev pub table_of : State → Table
table_of state = table_with state state.dirty
