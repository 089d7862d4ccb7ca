-- `logging::store_update` meets its contract: the staged update's fields and bytes are those of the block.
-- Assumes nothing.
use mathlib.Core.Path.{ap}
use Prim.Native.Nat.{ℕ, ◌*◌}
use Rattle.logging.proofs.Blocks.{update-stored}
use native.Mathlib.Omega.{arith}
use Rattle.logging.proofs.store_update.Goals as goal

pub returns : goal.returns
returns c =
    let a = c.args in
    let p = c.requires.1.placed c.args.state.stored c.requires.0 in
    update-stored a.state a.log.now _ a.keep_from _ a.staging.now _ _ _ _
    (ap (λ (n : ℕ). n * 472) c.from-at.ensures) c.from-length.ensures c.from.ensures
    c.from-2.ensures (omega arith) c.update-block.ensures c.store.ensures
