-- `replica::feed` meets its contract, the feed's promise: refused, already had, or what a block leaves that passed every test.
-- Assumes nothing.
use mathlib.Core.Path.{◌≡◌, refl, ap, ◌∙◌, subst}
use mathlib.Core.Bool.{true}
use mathlib.Core.List.{List}
use Prim.Native.Nat.{ℕ}
use Rattle.std.specs.Prelude.{Result, Ok}
use Rattle.promises.specs.declared.State.{State}
use Rattle.promises.specs.declared.Stop.{Stop}
use Rattle.promises.specs.Feed.{feeding}
use Rattle.promises.proofs.CopyPromised.{feeds-refused, feeds-had}
use Rattle.soundness.proofs.Verdicts.{judged_sound}
use Rattle.feeding.specs.declared.Decision.{Decision}
use Rattle.feeding.specs.Tests.{Decides}
use Rattle.replica.proofs.feed.Goals as goal

-- what the decision stands for
decided : (s : State) (log home frames block : List ℕ) (r d : Result Decision Stop) → Decides s frames block r (feeding s log home frames block) → r ≡ d
    → Decides s frames block d (feeding s log home frames block)
decided s log home frames block r d h q = subst (λ (y : Result Decision Stop). Decides s frames block y (feeding s log home frames block)) q h

pub decide-requires : goal.decide-requires
decide-requires c = c.is_some-sound.ensures ∙ judged_sound true c.args.state _ c.checked_as.ensures

pub feed_passed-requires : goal.feed_passed-requires
feed_passed-requires c =
    let a = c.args in
    decided a.state a.log.now a.home.now a.frames.now a.block.now _ _ (c.decide.ensures a.home.now a.frames.now refl refl)
    (c.in-Ok-Passes.is ∙ ap (λ (d : Decision). Ok d) c.in-Ok-Passes.field-0-is)

pub returns-in-Err : goal.returns-in-Err
returns-in-Err c =
    let a = c.args in
    let d = decided a.state a.log.now a.home.now a.frames.now a.block.now _ _ (c.decide.ensures a.home.now a.frames.now refl refl) c.in-Err.is in
    feeds-refused a.state a.log.now a.home.now a.frames.now a.block.now _ a.log.now a.home.now a.frames.now _ _
    d refl refl (record { state_is = refl; log_is = refl; home_is = refl; frames_are = refl })

pub returns-in-Ok-Had : goal.returns-in-Ok-Had
returns-in-Ok-Had c =
    let a = c.args in
    let d = decided a.state a.log.now a.home.now a.frames.now a.block.now _ _ (c.decide.ensures a.home.now a.frames.now refl refl)
    (c.in-Ok-Had.is ∙ ap (λ (d : Decision). Ok d) c.in-Ok-Had.field-0-is) in
    feeds-had a.state a.log.now a.home.now a.frames.now a.block.now _ a.log.now a.home.now a.frames.now
    d refl (record { state_is = refl; log_is = refl; home_is = refl; frames_are = refl })

pub returns-in-Ok-Passes : goal.returns-in-Ok-Passes
returns-in-Ok-Passes c = c.feed_passed.ensures
