-- `opening::read_kept` meets its contract: what was found, tested with the half group.
-- Assumes nothing.
use Prim.Native.Nat.{ℕ, ◌+◌}
use mathlib.Core.Path.{refl, sym, ap, ◌∙◌}
use mathlib.Core.Bool.{false}
use lib.ListN.{length}
use Rattle.std.specs.Prelude.{Ok}
use Rattle.std.proofs.lemmas.Result.{err_from_is_err_and}
use Rattle.promises.specs.Areas.{slots_in}
use Rattle.table.specs.Seats.{seated}
use Rattle.recovery.specs.Walking.{span_fits}
use Rattle.opening.specs.Findings.{found_of}
use Rattle.opening.proofs.Keeping.{keeps-passes, keeps-fails}
use Rattle.opening.proofs.read_kept.Goals as goal

pub returns-in_err-last_test : goal.returns-in_err-last_test
returns-in_err-last_test c =
    let a = c.args in
    let f = c.read_log in
    let e = err_from_is_err_and c.from_residual-in_err-last_test.result c.from_residual-in_err-last_test.ensures.1 in
    rw (e.1, e.2, c.in_err-last_test.ensures.1)
    (keeps-fails a.log.now a.home.now _ _ (found_of (Ok c.in_ok-found.found) f.new.seats) _ c.in_ok-found.ensures refl
    (ap (λ (own : ℕ). span_fits (seated false f.new.seats) (slots_in (length a.log.now)) (c.in_ok-found.found.newest + 1) own) (sym c.kept_from-from.ensures) ∙ c.in_err-last_test.ensures.0))

pub returns : goal.returns
returns c =
    let a = c.args in
    let f = c.read_log in
    keeps-passes a.log.now a.home.now _ _ (found_of (Ok c.in_ok-found.found) f.new.seats) _ c.in_ok-found.ensures refl
    (ap (λ (own : ℕ). span_fits (seated false f.new.seats) (slots_in (length a.log.now)) (c.in_ok-found.found.newest + 1) own) (sym c.kept_from-from.ensures) ∙ c.in_ok-last_test.ensures)
