-- `listing_run::store` meets its contract: the block's slot lies in the log.
-- Assumes nothing.
use native.Mathlib.Omega.{arith}
use lib.ListN.{length}
use Rattle.recovery.proofs.Scanning.{slot-in}
use Rattle.listing_run.proofs.store.Goals as goal

pub overflow_mul-at : goal.overflow_mul-at
overflow_mul-at c = omega (arith, slot-in (length c.args.log.now) c.args.block.sequence c.requires.0)

pub overflow_add-at : goal.overflow_add-at
overflow_add-at c = omega (arith, slot-in (length c.args.log.now) c.args.block.sequence c.requires.0)

pub slice_bounds-write-end : goal.slice_bounds-write-end
slice_bounds-write-end c = omega (arith, slot-in (length c.args.log.now) c.args.block.sequence c.requires.0)
