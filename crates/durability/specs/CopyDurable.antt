-- THE CUT RULE OF A BROKER'S COPY, of the code as shipped: for every list of a copy's calls and power cuts, whatever is fed, from when it is
-- made from our log and home. And where it took our blocks: it agrees with us, and keeps up. In words: docs/GUARANTEE.md.
-- Assumes nothing.
use Rattle.promises.specs.Copy.{CopySteps, CopyClaim, Agreement, KeepsUp, InOurLog}
use Rattle.durability.specs.CopyCalled.{CopyTaken}
use Rattle.durability.specs.Durable.{shipped}

-- a copy's own steps
abbrev pub copy_shipped : CopySteps
copy_shipped = record { steps = CopyTaken }

-- every answer along a copy's run is its book's; the next opening is accepted, reports m and shows the book's pages
abbrev pub CopyDurable : Type 0
CopyDurable = CopyClaim shipped copy_shipped

-- with the same newest block, every page reads the same on both
abbrev pub CopyAgrees : Type 0
CopyAgrees = Agreement shipped copy_shipped

-- a copy that has our blocks so far is not refused our next one
abbrev pub CopyKeepsUp : Type 0
CopyKeepsUp = KeepsUp shipped copy_shipped

-- our log's slots hold the blocks to feed
abbrev pub BlocksInOurLog : Type 0
BlocksInOurLog = InOurLog shipped
