-- `recovery::walk_commit` meets its contract, by its test and by whether a page found no frame.
-- Assumes nothing.
use Prim.Native.Nat.{◌+◌}
use mathlib.Core.Path.{◌≡◌, refl, sym, ◌∙◌}
use Rattle.std.specs.Prelude.{Ok}
use Rattle.promises.specs.Blocks.{commit}
use Rattle.recovery.specs.Order.{counted}
use Rattle.recovery.specs.Walking.{walk_of, walk_fits}
use Rattle.recovery.proofs.Ordering.{count-is, commit-told}
use native.Mathlib.Omega.{arith}
use Rattle.recovery.proofs.walk_commit.Goals as goal

pub apply_group-requires : goal.apply_group-requires
apply_group-requires c =
    let a = c.args in
    let fits : c.commit_fits.result ≡ walk_fits (walk_of (Ok a.stage) a.seats.now) (commit a.updates) a.ticket =
    c.commit_fits.ensures (counted a.stage.count a.stage.ticket) (count-is a.stage.count a.stage.ticket) refl in
    let more = commit-told a.ticket a.stage.count a.stage.ticket a.updates (sym fits ∙ c.if-not-commit_fits.false) in
    let y = c.requires.5 in
    let end : a.stage.start + a.stage.count ≡ a.s = y.half more.0 in
    (omega arith, omega arith, omega arith, omega arith, y.begins more.0, omega arith, y.placed)
