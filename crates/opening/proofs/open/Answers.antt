-- `opening::open` meets its contract: refusal 1, a refusal of the log, or a sound state.
-- Assumes nothing.
use Prim.Native.Nat.{ℕ}
use mathlib.Core.Path.{refl, sym, ap, ◌∙◌}
use lib.ListN.{length}
use Rattle.promises.specs.declared.Outcome.{Outcome}
use Rattle.promises.specs.declared.Stop.{Stop}
use Rattle.promises.specs.Answers.{open_answered, place_in}
use Rattle.promises.specs.Areas.{frames_in}
use Rattle.opening.proofs.Lending.{lent-seats, lent-long, seats-back}
use Rattle.opening.proofs.Answering.{Lengths, lengths-told, opens-lengths, opens-answered}
use Rattle.opening.proofs.open.Goals as goal

pub returns-then-not-lengths_fit : goal.returns-then-not-lengths_fit
returns-then-not-lengths_fit c =
    let a = c.args in
    let o = c.refused.ensures in
    opens-lengths a.log.now a.home.now a.frames.now a.staging.now _ _ (sym c.lengths_fit.ensures ∙ c.if-not-lengths_fit.true)
    (ap (λ (o : Outcome ℕ Stop). open_answered o.answer) o) (ap (λ (o : Outcome ℕ Stop). place_in o.answer) o) (ap (λ (o : Outcome ℕ Stop). o.state) o) refl

pub read_log-found-requires : goal.read_log-found-requires
read_log-found-requires c =
    let a = c.args in
    let fit = sym c.lengths_fit.ensures ∙ c.if-not-lengths_fit.false in
    let t : Lengths (length a.log.now) (length a.home.now) (length a.frames.now) (length a.staging.now) = lengths-told (length a.log.now) (length a.home.now) (length a.frames.now) (length a.staging.now) fit in
    (t.log_whole, t.slots_least, t.slots_most, t.pages_most, t.frames_whole, t.frames_most, lent-seats (frames_in (length a.frames.now)) t.frames_most)

pub returns : goal.returns
returns c =
    let a = c.args in
    let fit = sym c.lengths_fit.ensures ∙ c.if-not-lengths_fit.false in
    let t : Lengths (length a.log.now) (length a.home.now) (length a.frames.now) (length a.staging.now) = lengths-told (length a.log.now) (length a.home.now) (length a.frames.now) (length a.staging.now) fit in
    let f = c.read_log-found in
    let long = f.auto.seats ∙ lent-long (frames_in (length a.frames.now)) t.frames_most in
    opens-answered a.log.now a.home.now a.frames.now a.staging.now _ _ fit f.result f.new.seats _ _ long (seats-back _ f.new.seats _ long) f.auto.frames f.ensures c.answered.ensures
