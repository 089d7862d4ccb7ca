-- `feeding::has_update` meets its contract.
-- Assumes nothing.
use Rattle.feeding.proofs.Testing.{update-at}
use Rattle.feeding.proofs.has_update.Goals as goal

pub returns : goal.returns
returns c =
    let a = c.args in
    update-at _ _ _ a.sequence a.index a.log.now c.slot_bytes-bytes.result.now c.judge-judged.result _ c.slot_bytes-bytes.ensures.0 c.judge-judged.ensures (c.is_update.ensures c.slot_bytes-bytes.result.now)
