-- `cleaning::frame_to_clean` meets its contract: the least rank of those passed, and the count of dirty pages that are left.
use Prim.Native.Nat.{◌<◌}
use mathlib.Core.Path.{◌≡◌}
use lib.ListN.{length, drop}
use Rattle.std.specs.Option.{unwrap_or}
use Rattle.promises.specs.Sums.{first_groups}
use Rattle.cleaning.proofs.Choosing.{Leads}
use Rattle.cleaning.proofs.frame_to_clean.Given as goal

abbrev pub invariant-loop-i : goal.invariant-loop-i
invariant-loop-i l =
    (l.best < 32) × (l.left ≡ length (first_groups (drop l.i l.fn.state.dirty))) × Leads (unwrap_or l.named 65536) l.fn.state.dirty l.best l.least l.i
