-- `read` meets its contract: the part of the area where the page is held.
-- Assumes nothing.
use mathlib.Core.Path.{refl, sym}
use Rattle.promises.proofs.Replies.{numbered}
use Rattle.queueing.proofs.Refusals.{read-passed}
use Rattle.queueing.proofs.Places.{read-refused, read-frame, read-home}
use native.Mathlib.Omega.{arith}
use Rattle.store.proofs.read.Goals as goal

pub returns-in-Err : goal.returns-in-Err
returns-in-Err c =
    let args = c.args in
    read-refused args.state args.home args.frames args.page _ c.in-Err.ensures.refusal _ (numbered c.in-Err.refusal) refl refl

pub overflow_cast-page : goal.overflow_cast-page
overflow_cast-page c = let k = (read-passed _ _ _ _ (sym c.in_default.ensures.refusal)) in omega arith

pub frame_of-requires : goal.frame_of-requires
frame_of-requires c = (read-passed _ _ _ _ (sym c.in_default.ensures.refusal)).sounds

pub overflow_mul-start : goal.overflow_mul-start
overflow_mul-start c = let k = (read-passed _ _ _ _ (sym c.in_default.ensures.refusal)) in omega (arith, c.in-Some.ensures.below)

pub overflow_add-result : goal.overflow_add-result
overflow_add-result c = let k = (read-passed _ _ _ _ (sym c.in_default.ensures.refusal)) in omega (arith, c.in-Some.ensures.below)

pub slice_bounds-result-end-in-Some : goal.slice_bounds-result-end-in-Some
slice_bounds-result-end-in-Some c = let k = (read-passed _ _ _ _ (sym c.in_default.ensures.refusal)) in omega (arith, c.in-Some.ensures.below)

pub returns-in-Some : goal.returns-in-Some
returns-in-Some c =
    let args = c.args in
    read-frame args.state args.home args.frames args.page _ c.in_default.ensures.refusal _ c.in-Some.frame c.in-Some.ensures.held refl refl refl

pub overflow_mul-start-in-None : goal.overflow_mul-start-in-None
overflow_mul-start-in-None c = let k = (read-passed _ _ _ _ (sym c.in_default.ensures.refusal)) in omega arith

pub overflow_add-result-in-None : goal.overflow_add-result-in-None
overflow_add-result-in-None c = let k = (read-passed _ _ _ _ (sym c.in_default.ensures.refusal)) in omega arith

pub slice_bounds-result-end-in-None : goal.slice_bounds-result-end-in-None
slice_bounds-result-end-in-None c = let k = (read-passed _ _ _ _ (sym c.in_default.ensures.refusal)) in omega arith

pub returns-in-None : goal.returns-in-None
returns-in-None c =
    let args = c.args in
    read-home args.state args.home args.frames args.page _ c.in_default.ensures.refusal _ c.in-None.ensures.held refl refl refl
