-- `opening::walked` meets its contract: from the start to the last test.
-- Assumes nothing.
use mathlib.Core.Path.{refl}
use Rattle.std.specs.Prelude.{Ok, Err}
use Rattle.std.proofs.lemmas.Result.{err_from_is_err_and}
use Rattle.recovery.specs.Walking.{walk_of}
use Rattle.promises.proofs.Replies.{numbered}
use Rattle.opening.proofs.Ending.{start_is_lem, walked-refused, walked-passes, walked-fails}
use Rattle.opening.proofs.walked.Goals as goal

pub returns-in_err-stage : goal.returns-in_err-stage
returns-in_err-stage c =
    let a = c.args in
    let p = c.requires.log_bound in
    let q = c.requires.first_bound in
    let e = err_from_is_err_and c.from_residual.result c.from_residual.ensures.1 in
    rw (e.1, e.2)
    (walked-refused a.log.now a.home.now a.frames.now _ a.first a.last a.ticket _ _ (walk_of (Err c.in_err-stage.field-0.0) c.walk_all.new.seats)
    (start_is_lem _ a.seats.now p.4 p.5 a.ticket) q.1 c.in_err-stage.ensures (numbered _))

pub returns-in_err-last_test : goal.returns-in_err-last_test
returns-in_err-last_test c =
    let a = c.args in
    let p = c.requires.log_bound in
    let q = c.requires.first_bound in
    let e = err_from_is_err_and c.from_residual-in_err-last_test.result c.from_residual-in_err-last_test.ensures.1 in
    rw (e.1, e.2, c.in_err-last_test.ensures.1)
    (walked-fails a.log.now a.home.now a.frames.now _ a.first a.last a.ticket _ _ (walk_of (Ok c.in_ok-stage.stage) c.walk_all.new.seats)
    (start_is_lem _ a.seats.now p.4 p.5 a.ticket) q.1 c.in_ok-stage.ensures refl c.in_err-last_test.ensures.0)

pub returns : goal.returns
returns c =
    let a = c.args in
    let p = c.requires.log_bound in
    let q = c.requires.first_bound in
    walked-passes a.log.now a.home.now a.frames.now _ a.first a.last a.ticket _ _ (walk_of (Ok c.in_ok-stage.stage) c.walk_all.new.seats)
    (start_is_lem _ a.seats.now p.4 p.5 a.ticket) q.1 c.in_ok-stage.ensures refl c.in_ok-last_test.ensures
