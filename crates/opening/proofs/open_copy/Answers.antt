-- `opening::open_copy` meets its contract: the lengths, the log, and an answer as promised.
-- Assumes nothing.
use Prim.Native.Nat.{ℕ}
use mathlib.Core.Path.{refl, sym, ap, ◌∙◌}
use lib.ListN.{length}
use Rattle.promises.specs.declared.Outcome.{Outcome}
use Rattle.promises.specs.declared.Stop.{Stop}
use Rattle.promises.specs.Answers.{open_answered, place_in}
use Rattle.promises.specs.Areas.{frames_in, staging_length}
use Rattle.opening.proofs.Lending.{lent-seats, lent-long, seats-back}
use Rattle.opening.proofs.Answering.{Lengths}
use Rattle.opening.proofs.CopyAnswering.{copy-lengths-told, copy-lengths, copy-found, copy-not-found}
use Rattle.opening.proofs.open_copy.Goals as goal

pub returns-then-not-copy_lengths_fit : goal.returns-then-not-copy_lengths_fit
returns-then-not-copy_lengths_fit c =
    let a = c.args in
    let o = c.refused.ensures in
    copy-lengths a.log.now a.home.now a.frames.now _ _ (sym c.copy_lengths_fit.ensures ∙ c.if-not-copy_lengths_fit.true)
    (ap (λ (o : Outcome ℕ Stop). open_answered o.answer) o) (ap (λ (o : Outcome ℕ Stop). place_in o.answer) o) (ap (λ (o : Outcome ℕ Stop). o.state) o) refl

pub read_kept-found-requires : goal.read_kept-found-requires
read_kept-found-requires c =
    let a = c.args in
    let fit = sym c.copy_lengths_fit.ensures ∙ c.if-not-copy_lengths_fit.false in
    let t : Lengths (length a.log.now) (length a.home.now) (length a.frames.now) (staging_length (frames_in (length a.frames.now))) = copy-lengths-told (length a.log.now) (length a.home.now) (length a.frames.now) fit in
    (t.log_whole, t.slots_least, t.slots_most, t.pages_most, t.frames_whole, t.frames_most, lent-seats (frames_in (length a.frames.now)) t.frames_most)

pub returns-in-Ok : goal.returns-in-Ok
returns-in-Ok c =
    let a = c.args in
    let fit = sym c.copy_lengths_fit.ensures ∙ c.if-not-copy_lengths_fit.false in
    let t : Lengths (length a.log.now) (length a.home.now) (length a.frames.now) (staging_length (frames_in (length a.frames.now))) = copy-lengths-told (length a.log.now) (length a.home.now) (length a.frames.now) fit in
    let f = c.read_kept-found in
    let long = f.auto.seats ∙ lent-long (frames_in (length a.frames.now)) t.frames_most in
    copy-found a.log.now a.home.now a.frames.now c.answered-outcome.result _ fit f.result f.new.seats _ _ long (seats-back _ f.new.seats _ long) f.auto.frames f.ensures c.answered-outcome.ensures c.in-Ok.found c.in-Ok.is

pub returns-in_default : goal.returns-in_default
returns-in_default c =
    let a = c.args in
    let fit = sym c.copy_lengths_fit.ensures ∙ c.if-not-copy_lengths_fit.false in
    let f = c.read_kept-found in
    copy-not-found a.log.now a.home.now a.frames.now _ _ fit f.result f.new.seats _ _ f.auto.frames f.ensures c.answered-outcome.ensures c.in_default.not-Ok
