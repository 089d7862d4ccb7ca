-- The queue once its oldest group is committed, as the state keeps it: the staged updates and the sizes of groups move to the front.
-- Assumes nothing.
use Rattle.std.specs.Prelude.{ℕ, ◌+◌, ◌-◌, Bool, true, false, ◌||◌, List, [], ◌∷◌, take, eqb}
use Rattle.promises.specs.declared.State.{State}
use Rattle.promises.specs.declared.Dirty.{Dirty}
use Rattle.promises.specs.declared.Staged.{Staged}
use Rattle.promises.specs.declared.Cleaning.{Cleaning}
use Rattle.promises.specs.declared.Cleaning.TheVariants.{Idle, First, Second, Third}
use Rattle.promises.specs.States.{set_block, set_dirty, set_staged, set_groups, set_stored, set_cleaning}
use Rattle.promises.specs.LogStep.{shifted}

-- one of some staged updates changes a page
abbrev pub changes : ℕ → List Staged → Bool
changes page [] = false
changes page (staged ∷ rest) = eqb page staged.page || changes page rest

abbrev pub idle_if : Bool → Cleaning → Cleaning
idle_if true cleaning = Idle
idle_if false cleaning = cleaning

-- a commit that changes the named page makes the cleaning idle
unfoldable pub cleaning_left : List Staged → Cleaning → Cleaning
cleaning_left group Idle = Idle
cleaning_left group (First page) = idle_if (changes page group) (First page)
cleaning_left group (Second page) = idle_if (changes page group) (Second page)
cleaning_left group (Third page) = idle_if (changes page group) (Third page)

-- the state once the oldest group, of size updates, is committed and these are the frames' entries
abbrev pub commit_done : State → List Dirty → ℕ → State
commit_done state dirty size =
    set_cleaning (set_stored (set_groups (set_staged (set_dirty (set_block state (state.next + 1) (state.ticket + 1))
    dirty)
    (shifted state.staged size))
    (shifted state.groups 1) (state.queued - 1))
    0)
    (cleaning_left (take size state.staged) state.cleaning)
