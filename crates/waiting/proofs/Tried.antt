-- The ways in which a Begin that waits ends, each from the promises of the calls that it made.
-- Assumes nothing.
use mathlib.Core.Path.{◌≡◌, refl, sym, ap, subst}
use Prim.Native.Nat.{ℕ}
use mathlib.Core.List.{List}
use native.Mathlib.Omega.{arith}
use Rattle.promises.specs.declared.State.{State}
use Rattle.promises.specs.declared.Refusal.{Refusal}
use Rattle.promises.specs.declared.Refusal.TheVariants.{WrongLength, NotSound, OutOfRange, WrongMoment, Full, SequencesUsedUp, LogDamaged, LogOutOfOrder, TooFewFrames, NothingToDo, HeldBack, BadBlock, SequenceAhead}
use Rattle.std.specs.Prelude.{Result, Ok, Err}
use mathlib.Core.Bool.{Bool, true, false, not}
use Rattle.std.specs.Result.{result_eq}
use denote.Enum.Bare.{sameb}
use Rattle.promises.specs.contracts.Refusal.{the_type}
use Rattle.area.proofs.Laws.{never_both}
use Rattle.promises.specs.declared.Outcome.{Outcome}
use Rattle.promises.specs.Answers.{number_of, refuses, done, accepts, answered}
use Rattle.promises.specs.Begin.{Begins}
use Rattle.promises.specs.Events.{World, log_step, clean_step, Beginning}
use Rattle.promises.specs.Claim.{promised}
use Rattle.promises.proofs.Replies.{no-accept, same-refusal}
use Rattle.waiting.specs.declared.Stopped.{Stopped}
use Rattle.waiting.specs.declared.Waited.{Waited}
use Rattle.waiting.specs.Waiting.{world_of, Until, Tries, at_once, stops_logging, stops_cleaning, again, BeginsWaiting, LogsAll, CleansAll}
use Rattle.waiting.proofs.Served.{served}

done-answer : (a : Result (Unit {0}) Refusal) → answered a ≡ done → a ≡ Ok tt
done-answer (Err x) e = no-accept (ap accepts e)
done-answer (Ok x) e = refl

-- the refusals that are waited for, by their numbers
five-is : (refusal : Refusal) → number_of refusal ≡ 5 → refusal ≡ Full
five-is WrongLength e = absurd (omega (arith, e))
five-is NotSound e = absurd (omega (arith, e))
five-is OutOfRange e = absurd (omega (arith, e))
five-is WrongMoment e = absurd (omega (arith, e))
five-is Full e = refl
five-is SequencesUsedUp e = absurd (omega (arith, e))
five-is LogDamaged e = absurd (omega (arith, e))
five-is LogOutOfOrder e = absurd (omega (arith, e))
five-is TooFewFrames e = absurd (omega (arith, e))
five-is NothingToDo e = absurd (omega (arith, e))
five-is HeldBack e = absurd (omega (arith, e))
five-is BadBlock e = absurd (omega (arith, e))
five-is SequenceAhead e = absurd (omega (arith, e))

ten-is : (refusal : Refusal) → number_of refusal ≡ 10 → refusal ≡ NothingToDo
ten-is WrongLength e = absurd (omega (arith, e))
ten-is NotSound e = absurd (omega (arith, e))
ten-is OutOfRange e = absurd (omega (arith, e))
ten-is WrongMoment e = absurd (omega (arith, e))
ten-is Full e = absurd (omega (arith, e))
ten-is SequencesUsedUp e = absurd (omega (arith, e))
ten-is LogDamaged e = absurd (omega (arith, e))
ten-is LogOutOfOrder e = absurd (omega (arith, e))
ten-is TooFewFrames e = absurd (omega (arith, e))
ten-is NothingToDo e = refl
ten-is HeldBack e = absurd (omega (arith, e))
ten-is BadBlock e = absurd (omega (arith, e))
ten-is SequenceAhead e = absurd (omega (arith, e))

full-answer : (a : Result (Unit {0}) Refusal) → answered a ≡ refuses 5 → a ≡ Err Full
full-answer (Err x) e = ap (λ (r : Refusal). Err r) (five-is x (same-refusal e))
full-answer (Ok x) e = no-accept (sym (ap accepts e))

-- what the code's own tests say
same-full : (refusal : Refusal) → not (sameb the_type refusal Full) ≡ false → refusal ≡ Full
same-full WrongLength e = cc
same-full NotSound e = cc
same-full OutOfRange e = cc
same-full WrongMoment e = cc
same-full Full e = refl
same-full SequencesUsedUp e = cc
same-full LogDamaged e = cc
same-full LogOutOfOrder e = cc
same-full TooFewFrames e = cc
same-full NothingToDo e = cc
same-full HeldBack e = cc
same-full BadBlock e = cc
same-full SequenceAhead e = cc

pub same-nothing : (refusal : Refusal) → not (sameb the_type refusal NothingToDo) ≡ false → refusal ≡ NothingToDo
same-nothing WrongLength e = cc
same-nothing NotSound e = cc
same-nothing OutOfRange e = cc
same-nothing WrongMoment e = cc
same-nothing Full e = cc
same-nothing SequencesUsedUp e = cc
same-nothing LogDamaged e = cc
same-nothing LogOutOfOrder e = cc
same-nothing TooFewFrames e = cc
same-nothing NothingToDo e = refl
same-nothing HeldBack e = cc
same-nothing BadBlock e = cc
same-nothing SequenceAhead e = cc

pub not-nothing : (refusal : Refusal) → not (sameb the_type refusal NothingToDo) ≡ true → refusal ≡ NothingToDo → ⊥
not-nothing refusal h e = never_both _ h (ap (λ (r : Refusal). not (sameb the_type r NothingToDo)) e)

pub is-full : (both : Unit {0} → Unit {0} → Bool) (a : Result (Unit {0}) Refusal) → not (result_eq both (sameb the_type) a (Err Full)) ≡ false → a ≡ Err Full
is-full both (Err refusal) e = ap (λ (r : Refusal). Err r) (same-full refusal e)
is-full both (Ok unit) e = cc

pub not-full : (both : Unit {0} → Unit {0} → Bool) (a : Result (Unit {0}) Refusal) → not (result_eq both (sameb the_type) a (Err Full)) ≡ true → a ≡ Err Full → ⊥
not-full both a h e = never_both _ h (ap (λ (x : Result (Unit {0}) Refusal). not (result_eq both (sameb the_type) x (Err Full))) e)

-- what was tried tells the rest
tried : (w : World) (u : ℕ) (r : Waited) (w' : World) → Tries promised u w r.logged r.cleaned (answered r.answer) w' → BeginsWaiting w u r w'
tried w u r w' t = record {
  tries = t;
  bound = λ fit none far five.
      let e = served w u fit far five r.logged r.cleaned (answered r.answer) w' t in
      record { answer_is = done-answer r.answer e.reply; logged_is = e.logs; cleaned_most = e.cleans };
}

module _ (s : State) (log home frames staging : List ℕ) (u : ℕ) (r : Outcome (Unit {0}) Refusal) (promise : Begins s u r) where
  abbrev w : World
  w = world_of s log home frames staging

  pub waits-at-once : (r.answer ≡ Err Full → ⊥)
      → BeginsWaiting w u (record { state = r.state; answer = r.answer; logged = 0; cleaned = 0 }) (world_of r.state log home frames staging)
  waits-at-once h = tried w u _ _ (at_once (record { result = r; promise = promise; reply_is = refl; after = refl }) (λ e. h (full-answer r.answer e)))

  module _ (five : r.answer ≡ Err Full) (l : Stopped) (log' frames' : List ℕ) (logs : LogsAll r.state log home frames staging l log' frames') where
    full : Beginning w u (refuses 5) (world_of r.state log home frames staging)
    full = record { result = r; promise = promise; reply_is = sym (ap answered five); after = refl }

    pub waits-logging : (l.refusal ≡ NothingToDo → ⊥)
        → BeginsWaiting w u (record { state = l.state; answer = Err l.refusal; logged = l.count; cleaned = 0 }) (world_of l.state log' home frames' staging)
    waits-logging h = tried w u _ _ (stops_logging full logs (λ e. h (ten-is l.refusal e)))

    module _ (ten : l.refusal ≡ NothingToDo) (c : Stopped) (log'' home' : List ℕ) (cleans : CleansAll l.state log' home frames' c log'' home') where
      drained : Until promised log_step l.count (world_of r.state log home frames staging) 10 (world_of l.state log' home frames' staging)
      drained = subst (λ (x : Refusal). Until promised log_step l.count (world_of r.state log home frames staging) (number_of x) (world_of l.state log' home frames' staging)) ten logs

      pub waits-cleaning : (c.refusal ≡ NothingToDo → ⊥)
          → BeginsWaiting w u (record { state = c.state; answer = Err c.refusal; logged = l.count; cleaned = c.count }) (world_of c.state log'' home' frames' staging)
      waits-cleaning h = tried w u _ _ (stops_cleaning full drained (cleans staging) (λ e. h (ten-is c.refusal e)))

      pub waits-again : c.refusal ≡ NothingToDo → (r' : Outcome (Unit {0}) Refusal) → Begins c.state u r'
          → BeginsWaiting w u (record { state = r'.state; answer = r'.answer; logged = l.count; cleaned = c.count }) (world_of r'.state log'' home' frames' staging)
      waits-again e r' promise' =
          let clean : Until promised clean_step c.count (world_of l.state log' home frames' staging) 10 (world_of c.state log'' home' frames' staging) =
          subst (λ (x : Refusal). Until promised clean_step c.count (world_of l.state log' home frames' staging) (number_of x) (world_of c.state log'' home' frames' staging)) e (cleans staging) in
          tried w u _ _ (again full drained clean (record { result = r'; promise = promise'; reply_is = refl; after = refl }))
