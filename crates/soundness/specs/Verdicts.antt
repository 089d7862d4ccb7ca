-- What a verdict tells of a state.
-- Assumes nothing.
use Rattle.std.specs.Prelude.{◌≡◌, Bool, true, false, Option, MatchOption}
use Rattle.promises.specs.declared.State.{State}
use Rattle.promises.specs.Sound.{sound_as}
use Rattle.soundness.specs.declared.sums.Sums.{Sums}
use Rattle.soundness.specs.Summed.{Summed, Small}

-- the sums over a state that is sound as a copy's or as a desk's, and none over one that is not
abbrev pub JudgesAs : Bool → State → Option Sums → Type 0
JudgesAs copy state verdict = MatchOption verdict (sound_as copy state ≡ false) (λ sums. (sound_as copy state ≡ true) × Summed state sums × Small state sums)

-- to the desk's calls
abbrev pub Judges : State → Option Sums → Type 0
Judges state verdict = JudgesAs false state verdict
