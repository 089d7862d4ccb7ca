-- What Log step promises. Log step (log, home, frames, staging): 2; 1; 10. It is lent home and staging to read only.
-- Assumes nothing.
use Rattle.std.specs.Prelude.{ℕ, ◌+◌, ◌-◌, ◌≡◌, Bool, true, false, cond, ◌&&◌, List, [], ◌∷◌, ◌++◌, length, get_or, drop, eqb, ltb}
use Rattle.promises.specs.declared.Outcome.{Outcome}
use Rattle.promises.specs.declared.Refusal.{Refusal}
use Rattle.promises.specs.declared.Logged.{Logged}
use Rattle.promises.specs.declared.State.{State}
use Rattle.promises.specs.declared.Cleaning.{Cleaning}
use Rattle.promises.specs.declared.Cleaning.TheVariants.{Idle, First, Second, Third}
use Rattle.promises.specs.declared.Dirty.{Dirty}
use Rattle.promises.specs.Areas.{page_at, log_length, home_length, frames_length, staging_length}
use Rattle.promises.specs.Updates.{Update, of_page}
use Rattle.promises.specs.Blocks.{LogBlock, update, commit, stored}
use Rattle.promises.specs.DirtyPages.{DirtyPage, look_up, apply_all, keep_from_of}
use Rattle.promises.specs.Contents.{Contents, contents_of, with_block, with_queue, with_cleaning, queue_of, dirty_of}
use Rattle.promises.specs.States.{set_block, set_dirty, set_staged, set_groups, set_stored, set_cleaning, Fills}
use Rattle.promises.specs.Sums.{group_start}
use Rattle.promises.specs.Sound.{sound}
use Rattle.promises.specs.Answers.{refuses, done, settles, log_answered}

-- the areas have the sizes that Open took
abbrev pub areas_fit : State → ℕ → ℕ → ℕ → Bool
areas_fit state log home frames =
    eqb log (log_length state.slots) && eqb home (home_length state.pages) && eqb frames (frames_length state.frames)

-- of the lengths
unfoldable pub log_refusal : State → ℕ → ℕ → ℕ → ℕ → ℕ
log_refusal state log home frames staging =
    cond (sound state)
    (cond (areas_fit state log home frames && eqb staging (staging_length state.frames))
    (cond (eqb state.queued 0) 10 0) 1) 2

-- ---- the block that is stored

abbrev pub no_update : Update
no_update = record { page = 0; offset = 0; bytes = [] }

-- the next update of the oldest group, with its index and the last committed ticket
abbrev pub update_block : State → List Update → List DirtyPage → LogBlock
update_block state group dirty_pages =
    record { kind = update (state.stored + 1) (get_or group state.stored no_update); keep_from = keep_from_of (group_start state) dirty_pages; ticket = state.ticket }

-- its commit, with its own ticket, one above the last; dirty_pages are those dirty once it is stored
abbrev pub commit_block : State → List Update → List DirtyPage → LogBlock
commit_block state group dirty_pages =
    record { kind = commit (length group); keep_from = keep_from_of (group_start state) dirty_pages; ticket = state.ticket + 1 }

-- ---- what it leaves

abbrev pub update_stored : Contents → Contents
update_stored contents = with_block (with_queue contents contents.queue (contents.stored + 1)) contents.ticket

abbrev pub update_stored_state : State → State
update_stored_state state = set_stored (set_block state (state.next + 1) state.ticket) (state.stored + 1)

-- a commit that changes the named page makes the cleaning idle
abbrev pub idle_unless_none : List Update → Cleaning → Cleaning
idle_unless_none [] cleaning = cleaning
idle_unless_none (change ∷ changes) cleaning = Idle

unfoldable pub cleaning_after : List Update → Cleaning → Cleaning
cleaning_after group Idle = Idle
cleaning_after group (First page) = idle_unless_none (of_page page group) (First page)
cleaning_after group (Second page) = idle_unless_none (of_page page group) (Second page)
cleaning_after group (Third page) = idle_unless_none (of_page page group) (Third page)

-- the group leaves the queue, whose rest stays
abbrev pub commit_stored : Contents → List Update → List (List Update) → Contents
commit_stored contents group rest = with_cleaning (with_block (with_queue contents rest 0) (contents.ticket + 1)) (cleaning_after group contents.cleaning)

-- a list without its first count elements, as long as before: its last count elements stay in their places too
unfoldable pub shifted : {A : Type 0} → List A → ℕ → List A
shifted list count = drop count list ++ drop (length list - count) list

-- the staged updates and the sizes of groups move to the front; these are the frames' entries then
abbrev pub commit_stored_state : State → List Update → List Dirty → State
commit_stored_state state group dirty =
    set_cleaning (set_stored (set_groups (set_staged (set_dirty (set_block state (state.next + 1) (state.ticket + 1))
    dirty)
    (shifted state.staged (length group)))
    (shifted state.groups 1) (state.queued - 1))
    0)
    (cleaning_after group state.cleaning)

-- the dirty pages once the group is committed
abbrev pub dirty_after : State → List Update → List ℕ → List ℕ → List DirtyPage
dirty_after state group home frames = apply_all (group_start state) (page_at home) group (dirty_of state frames)

pub record UpdateStep (state : State) (group : List Update) (log frames staging : List ℕ) (result : Outcome Logged Refusal) (log' frames' : List ℕ) : Type 0 where
  pub answer_is : log_answered result.answer ≡ done
  pub log_is : log' ≡ stored state.slots log state.next (update_block state group (dirty_of state frames))
  pub frames_are : frames' ≡ frames
  pub state_is : result.state ≡ update_stored_state state
  pub stays_sound : sound result.state ≡ true
  pub contents_are : contents_of result.state staging ≡ update_stored (contents_of state staging)
  pub dirty_are : (page : ℕ) → look_up page (dirty_of result.state frames) ≡ look_up page (dirty_of state frames)

-- left to the program: the frame that a page gets which was not dirty, and the bytes of the frames that hold none. The state tells the
-- frames; by its soundness they are below F and no two pages share one
pub record CommitStep (state : State) (group : List Update) (rest : List (List Update)) (log home frames staging : List ℕ) (result : Outcome Logged Refusal)
    (log' frames' : List ℕ) : Type 0 where
  pub answer_is : log_answered result.answer ≡ settles (state.ticket + 1)
  pub log_is : log' ≡ stored state.slots log state.next (commit_block state group (dirty_after state group home frames))
  pub frames_long : length frames' ≡ length frames
  pub fills : Fills state.dirty result.state.dirty
  pub state_is : result.state ≡ commit_stored_state state group result.state.dirty
  pub stays_sound : sound result.state ≡ true
  pub contents_are : contents_of result.state staging ≡ commit_stored (contents_of state staging) group rest
  pub dirty_are : (page : ℕ) → look_up page (dirty_of result.state frames') ≡ look_up page (dirty_after state group home frames)

-- the oldest group's next update is stored, or else its commit
abbrev pub StoresOf : Bool → State → List Update → List (List Update) → List ℕ → List ℕ → List ℕ → List ℕ → Outcome Logged Refusal → List ℕ → List ℕ → Type 0
StoresOf true state group rest log home frames staging result log' frames' = UpdateStep state group log frames staging result log' frames'
StoresOf false state group rest log home frames staging result log' frames' = CommitStep state group rest log home frames staging result log' frames'

-- by the queue: nothing is stored of an empty one
abbrev pub Stores : State → List (List Update) → List ℕ → List ℕ → List ℕ → List ℕ → Outcome Logged Refusal → List ℕ → List ℕ → Type 0
Stores state [] log home frames staging result log' frames' = ⊥
Stores state (group ∷ rest) log home frames staging result log' frames' =
    StoresOf (ltb state.stored (length group)) state group rest log home frames staging result log' frames'

abbrev pub log_refusal_of : State → List ℕ → List ℕ → List ℕ → List ℕ → ℕ
log_refusal_of state log home frames staging = log_refusal state (length log) (length home) (length frames) (length staging)

pub record LogSteps (state : State) (log home frames staging : List ℕ) (result : Outcome Logged Refusal) (log' frames' : List ℕ) : Type 0 where
  pub refused : (log_refusal_of state log home frames staging ≡ 0 → ⊥)
      → (log_answered result.answer ≡ refuses (log_refusal_of state log home frames staging))
      × (result.state ≡ state) × (log' ≡ log) × (frames' ≡ frames)
  pub accepted : log_refusal_of state log home frames staging ≡ 0 → Stores state (queue_of state staging) log home frames staging result log' frames'
