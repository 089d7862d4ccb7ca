-- Which block is in order for a walk of which two numbers are known: how many updates its half group has, and the last committed ticket.
-- Assumes nothing.
use Rattle.std.specs.Prelude.{ℕ, Bool, [], replicate}
use Rattle.promises.specs.Blocks.{Kind}
use Rattle.promises.specs.LogStep.{no_update}
use Rattle.promises.specs.Walk.{Walk, in_order}

-- a walk with these numbers; the rest of it is of no matter to the order
abbrev pub counted : ℕ → ℕ → Walk
counted count walked = record { group = replicate count no_update; start = 0; ticket = walked; dirty_pages = [] }

-- in order for each walk with these numbers
abbrev pub in_order_after : Kind → ℕ → ℕ → ℕ → Bool
in_order_after kind ticket count walked = in_order kind ticket (counted count walked)
