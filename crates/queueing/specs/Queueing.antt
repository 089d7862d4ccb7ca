-- Names that the contracts of the queueing calls use.
-- Assumes nothing.
use Rattle.std.specs.Prelude.{ℕ, List, Option, None, Some}
use Rattle.promises.specs.Updates.{Update}
use Rattle.promises.specs.Read.{Held, at_home, in_frame}

-- what Describe's arguments say
abbrev pub update_of : ℕ → ℕ → List ℕ → Update
update_of page offset bytes = record { page = page; offset = offset; bytes = bytes }

-- a page in a frame, or at home
abbrev pub held_by : Option ℕ → Held
held_by None = at_home
held_by (Some frame) = in_frame frame
