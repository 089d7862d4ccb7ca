-- What opening a copy promises. Opening (log, home, frames): 1; 7; 8 and 9 as Open. A half group at the log's end is kept.
-- It is lent log and home to read only.
-- Assumes nothing.
use Rattle.std.specs.Prelude.{ℕ, ◌-◌, ◌≡◌, Bool, true, cond, ◌&&◌, List, length}
use Rattle.block.specs.Sizes.{page_size}
use Rattle.promises.specs.declared.Outcome.{Outcome}
use Rattle.promises.specs.declared.Stop.{Stop}
use Rattle.promises.specs.declared.State.{State}
use Rattle.promises.specs.declared.Dirty.{Dirty}
use Rattle.promises.specs.Areas.{log_fits, home_fits, whole, frames_in_range, slots_in, pages_in, frames_in}
use Rattle.promises.specs.DirtyPages.{look_up}
use Rattle.promises.specs.Walk.{Walk, Finding, stops, stands, finding}
use Rattle.promises.specs.Contents.{dirty_of}
use Rattle.promises.specs.States.{empty_state, all_zero_state, set_block, set_dirty, set_stored, Fills}
use Rattle.promises.specs.Sound.{copy_sound}
use Rattle.promises.specs.Answers.{settles, open_answered}
use Rattle.promises.specs.Open.{OpenStops}
use Rattle.promises.specs.Feed.{span_fits}

-- a half group's start counts in H: H + D above N at the end is 8 at M. Open's own test, made before, leaves the half group out
abbrev pub kept_ending : ℕ → Finding → Finding
kept_ending slots (stops refusal place) = stops refusal place
kept_ending slots (stands next walk) = cond (span_fits slots next walk) (stands next walk) (stops 8 (next - 1))

-- the lengths are whole counts in range
abbrev pub copy_lengths_fit : ℕ → ℕ → ℕ → Bool
copy_lengths_fit log home frames = log_fits log && home_fits home && (whole page_size frames && frames_in_range (frames_in frames))

-- what the opening finds: refusal 1, or what the log says; of frames only the length counts
unfoldable pub copy_finding : List ℕ → List ℕ → ℕ → Finding
copy_finding log home frames =
    cond (copy_lengths_fit (length log) (length home) frames)
    (kept_ending (slots_in (length log)) (finding (slots_in (length log)) (pages_in (length home)) (frames_in frames) log home))
    (stops 1 0)

-- no cleaning; the half group's updates are counted as stored
abbrev pub copy_opened : ℕ → ℕ → ℕ → ℕ → Walk → List Dirty → State
copy_opened pages slots frames next walk dirty =
    set_stored (set_dirty (set_block (empty_state true pages slots frames) next walk.ticket) dirty) (length walk.group)

-- left to the program: the frame that a dirty page gets, and the bytes of the frames that hold none. The state tells the frames; by its
-- soundness they are below F and no two pages share one
pub record CopyStands (next : ℕ) (walk : Walk) (log home frames : List ℕ) (result : Outcome ℕ Stop) (frames' : List ℕ) : Type 0 where
  pub answer_is : open_answered result.answer ≡ settles walk.ticket
  pub frames_long : length frames' ≡ length frames
  pub fills : Fills all_zero_state.dirty result.state.dirty
  pub state_is : result.state
      ≡ copy_opened (pages_in (length home)) (slots_in (length log)) (frames_in (length frames)) next walk result.state.dirty
  pub stays_sound : copy_sound result.state ≡ true
  pub dirty_are : (page : ℕ) → look_up page (dirty_of result.state frames') ≡ look_up page walk.dirty_pages

pub record OpensCopy (log home frames : List ℕ) (result : Outcome ℕ Stop) (frames' : List ℕ) : Type 0 where
  pub refused : (refusal place : ℕ) → copy_finding log home (length frames) ≡ stops refusal place
      → OpenStops refusal place frames result frames'
  pub accepted : (next : ℕ) (walk : Walk) → copy_finding log home (length frames) ≡ stands next walk
      → CopyStands next walk log home frames result frames'
