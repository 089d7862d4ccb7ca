-- `logging::apply_staged` meets its contract: the staged update's fields and bytes are those that are applied.
-- Assumes nothing.
use mathlib.Core.Path.{ap}
use mathlib.Core.Bool.{false}
use Prim.Native.Nat.{ℕ, ◌*◌}
use Rattle.table.specs.Seats.{seated}
use Rattle.logging.proofs.Applied.{staged-applied}
use Rattle.logging.proofs.apply_staged.Goals as goal

pub returns : goal.returns
returns c =
    let a = c.args in
    staged-applied (seated false a.seats.now) _ a.home.now a.frames.now _ a.staging.now a.staged _ _ _ _ _
    (ap (λ (n : ℕ). n * 472) c.from-at.ensures) c.from-length.ensures
    c.from.ensures c.from-2.ensures c.apply.ensures
