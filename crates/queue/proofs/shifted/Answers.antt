-- `queue::shifted` meets its contract.
-- Assumes nothing.
use mathlib.Core.Path.{◌∙◌}
use Rattle.queue.proofs.Shifts.{copied-front}
use Rattle.queue.proofs.shifted.Goals as goal

pub returns : goal.returns
returns g c = c.copy_within.ensures.after ∙ copied-front c.args.list c.args.count
