-- `feeding::decide_valid` meets its contract: ahead, had, lacking an update, refused, or passed.
-- Assumes nothing.
use mathlib.Core.Path.{sym}
use Rattle.promises.specs.Areas.{page_at}
use Rattle.promises.specs.Blocks.{slots_of}
use Rattle.promises.proofs.Replies.{numbered}
use Rattle.feeding.specs.Tests.{block_in}
use Rattle.feeding.proofs.Deciding.{stopped, passing}
use native.Mathlib.Omega.{arith}
use Rattle.feeding.proofs.decide_valid.Goals as goal

pub returns-in-Ok : goal.returns-in-Ok
returns-in-Ok c = λ home frames bytes.
    let a = c.args in
    passing a.state (page_at home) frames (slots_of a.state.slots a.state.pages a.log.now) a.block.sequence (block_in a.block bytes) (omega arith) (omega arith)
    (sym (c.in_default.ensures bytes)) (c.in-Ok.ensures bytes (page_at home) frames)

pub returns-in-Err : goal.returns-in-Err
returns-in-Err c = λ home frames bytes.
    let a = c.args in
    stopped a.state (page_at home) frames (slots_of a.state.slots a.state.pages a.log.now) a.block.sequence (block_in a.block bytes) (omega arith) (omega arith)
    (sym (c.in_default.ensures bytes)) _ (c.in-Err.ensures bytes (page_at home) frames) (numbered c.in-Err.refusal)
