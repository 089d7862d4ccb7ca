-- What a verdict tells: whether the state is sound, and where the call goes on, the sums.
-- Assumes nothing.
use mathlib.Core.Path.{◌≡◌, sym, subst, ap}
use mathlib.Core.Bool.{Bool, true, false}
use Rattle.std.specs.Prelude.{Option, None, Some, is_some, Ok, Err}
use Rattle.std.specs.Option.{ok_or}
use Rattle.promises.specs.declared.State.{State}
use Rattle.promises.specs.declared.Refusal.{Refusal}
use Rattle.promises.specs.declared.Refusal.TheVariants.{NotSound}
use Rattle.promises.specs.Answers.{number_of}
use Rattle.promises.specs.Sound.{sound_as}
use Rattle.soundness.specs.declared.sums.Sums.{Sums}
use Rattle.soundness.specs.Summed.{Summed, Small}
use Rattle.soundness.specs.Verdicts.{JudgesAs}

-- there are sums just where the state is sound
pub judged_sound : (copy : Bool) (s : State) (verdict : Option Sums) → JudgesAs copy s verdict → is_some verdict ≡ sound_as copy s
judged_sound copy s None h = sym h
judged_sound copy s (Some sums) h = sym h.0

-- ---- from no more than whether there are sums, which says whether the state is sound

-- the call goes on
pub told_ok : {b : Bool} (verdict : Option Sums) (sums : Sums) → is_some verdict ≡ b → ok_or {E = Refusal} verdict NotSound ≡ Ok sums → b ≡ true
told_ok None sums h e = absurd cc
told_ok (Some x) sums h e = sym h

-- or it is refused as not sound
pub told_err : {b : Bool} (verdict : Option Sums) (refusal : Refusal) → is_some verdict ≡ b → ok_or {E = Refusal} verdict NotSound ≡ Err refusal
    → (b ≡ false) × (number_of refusal ≡ 2)
told_err None refusal h e = let same : NotSound ≡ refusal = cc in (sym h, ap number_of (sym same))
told_err (Some x) refusal h e = absurd cc

-- ---- from sums that are those of the state

-- the call goes on with the sums of a sound state
pub judged_ok : (copy : Bool) (s : State) (verdict : Option Sums) (sums : Sums) → JudgesAs copy s verdict → ok_or {E = Refusal} verdict NotSound ≡ Ok sums
    → (sound_as copy s ≡ true) × Summed s sums × Small s sums
judged_ok copy s None sums h e = absurd cc
judged_ok copy s (Some x) sums h e = let same : x ≡ sums = cc in subst (λ (y : Sums). (sound_as copy s ≡ true) × Summed s y × Small s y) same h

-- or it is refused as not sound
pub judged_err : (copy : Bool) (s : State) (verdict : Option Sums) (refusal : Refusal) → JudgesAs copy s verdict → ok_or {E = Refusal} verdict NotSound ≡ Err refusal
    → (sound_as copy s ≡ false) × (number_of refusal ≡ 2)
judged_err copy s verdict refusal h e = told_err verdict refusal (judged_sound copy s verdict h) e
