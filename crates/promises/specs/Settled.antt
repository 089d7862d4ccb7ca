-- What Settled promises. Settled (ticket): 2; 3. It changes nothing.
-- Assumes nothing.
use Rattle.std.specs.Prelude.{ℕ, ◌≡◌, Bool, cond, ◌&&◌, leb}
use Rattle.std.specs.Prelude.{Result}
use Rattle.promises.specs.declared.Refusal.{Refusal}
use Rattle.promises.specs.declared.State.{State}
use Rattle.promises.specs.Sums.{last_ended}
use Rattle.promises.specs.Sound.{readable}
use Rattle.promises.specs.Answers.{says, replied, standing_answered}

-- 3 if the ticket is 0 or above the last ended
unfoldable pub settled_refusal : State → ℕ → ℕ
settled_refusal state ticket = cond (readable state) (cond (leb 1 ticket && leb ticket (last_ended state)) 0 3) 2

-- yes if it is committed, else no
pub record Settles (state : State) (ticket : ℕ) (answer : Result Bool Refusal) : Type 0 where
  pub answer_is : standing_answered answer ≡ replied (settled_refusal state ticket) (says (leb ticket state.ticket))
