-- THE CRASH THEOREM of the code as shipped. For every list of calls and power cuts, every legal size and any initial pages: each accepted
-- answer is the book's, and the next Open is accepted, reports m and shows the book's pages. A call may do anything that its contract allows:
-- the runs' steps are what a caller learns of the store's entries. In words: docs/GUARANTEE.md.
-- Assumes nothing.
use Rattle.promises.specs.Claim.{Steps, Claim, BookClaim}
use Rattle.durability.specs.Called.{Formatted, Taken}

-- the store's own steps
abbrev pub shipped : Steps
shipped = record { formats = Formatted; steps = Taken }

-- every answer along a run is the book's; the next opening is accepted, reports m and shows the book's pages
abbrev pub Durable : Type 0
Durable = Claim shipped

-- the book's pages are what the committed transactions make, in ticket order
abbrev pub Accounted : Type 0
Accounted = BookClaim shipped
