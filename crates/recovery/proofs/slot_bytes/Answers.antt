-- `recovery::slot_bytes` meets its contract: a slot lies in the log.
-- Assumes nothing.
use Prim.Native.Nat.{◌*◌}
use mathlib.Core.Path.{ap, ◌∙◌}
use lib.ListN.{length}
use Rattle.area.proofs.Parts.{from-to}
use Rattle.recovery.proofs.Scanning.{length-slot-bytes}
use Rattle.recovery.proofs.slot_bytes.Goals as goal

pub returns : goal.returns
returns c =
    let a = c.args in
    let e = from-to a.log.now (a.slot * 512) 512 in
    (e, ap length e ∙ length-slot-bytes a.log.now a.slot c.requires)
