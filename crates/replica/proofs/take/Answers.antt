-- `replica::take` meets its contract: the bytes are in their slot, and the state stands behind them.
-- Assumes nothing.
use mathlib.Core.Path.{refl}
use Rattle.replica.proofs.take.Goals as goal

pub returns : goal.returns
returns c = (refl, c.store_bytes.ensures)
