-- What Open promises. Open (log, home, frames, staging): 1; 7; 8 and 9 by the lower sequence, 8 first on the same block.
-- It is lent log, home and staging to read only.
-- Assumes nothing.
use Rattle.std.specs.Prelude.{ℕ, ◌≡◌, Bool, true, false, cond, ◌&&◌, List, [], length, replicate, eqb}
use Rattle.promises.specs.declared.Outcome.{Outcome}
use Rattle.promises.specs.declared.Stop.{Stop}
use Rattle.promises.specs.declared.State.{State}
use Rattle.promises.specs.declared.Cleaning.TheVariants.{Idle}
use Rattle.promises.specs.declared.Dirty.{Dirty}
use Rattle.promises.specs.Areas.{log_fits, home_fits, frames_fit, slots_in, pages_in, frames_in}
use Rattle.promises.specs.DirtyPages.{look_up}
use Rattle.promises.specs.Walk.{Walk, Finding, stops, stands, finding}
use Rattle.promises.specs.Contents.{Contents, contents_of, dirty_of}
use Rattle.promises.specs.States.{empty_state, all_zero_state, set_block, set_dirty, Fills}
use Rattle.promises.specs.Sound.{sound}
use Rattle.promises.specs.Answers.{refuses, settles, open_answered, place_in}

-- the lengths are whole counts in range
abbrev pub lengths_fit : ℕ → ℕ → ℕ → ℕ → Bool
lengths_fit log home frames staging = log_fits log && home_fits home && frames_fit frames staging

-- what Open finds: refusal 1, or what the log says; of frames and staging only the lengths count
unfoldable pub open_finding : List ℕ → List ℕ → ℕ → ℕ → Finding
open_finding log home frames staging =
    cond (lengths_fit (length log) (length home) frames staging)
    (finding (slots_in (length log)) (pages_in (length home)) (frames_in frames) log home)
    (stops 1 0)

-- frames after a refusal: unchanged after 1, zero after 7, 8 and 9
abbrev pub frames_after : ℕ → List ℕ → List ℕ
frames_after refusal frames = cond (eqb refusal 1) frames (replicate (length frames) 0)

-- nothing queued, nothing open and no cleaning
abbrev pub opened : ℕ → ℕ → ℕ → ℕ → ℕ → Contents
opened pages slots frames next ticket = record {
  pages = pages;
  slots = slots;
  frames = frames;
  next = next;
  ticket = ticket;
  queue = [];
  stored = 0;
  reserved = 0;
  list = [];
  cleaning = Idle;
}

abbrev pub opened_state : ℕ → ℕ → ℕ → ℕ → ℕ → List Dirty → State
opened_state pages slots frames next ticket dirty = set_dirty (set_block (empty_state false pages slots frames) next ticket) dirty

pub record OpenStops (refusal place : ℕ) (frames : List ℕ) (result : Outcome ℕ Stop) (frames' : List ℕ) : Type 0 where
  pub answer_is : open_answered result.answer ≡ refuses refusal
  pub place_is : place_in result.answer ≡ place
  pub state_is : result.state ≡ all_zero_state
  pub frames_are : frames' ≡ frames_after refusal frames

-- left to the program: the frame that a dirty page gets, and the bytes of the frames that hold none. The state tells the frames; by its
-- soundness they are below F and no two pages share one
pub record OpenStands (next : ℕ) (walk : Walk) (log home frames : List ℕ) (result : Outcome ℕ Stop) (frames' : List ℕ) : Type 0 where
  pub answer_is : open_answered result.answer ≡ settles walk.ticket
  pub frames_long : length frames' ≡ length frames
  pub fills : Fills all_zero_state.dirty result.state.dirty
  pub state_is : result.state
      ≡ opened_state (pages_in (length home)) (slots_in (length log)) (frames_in (length frames)) next walk.ticket result.state.dirty
  pub stays_sound : sound result.state ≡ true
  pub contents_are : (staging : List ℕ)
      → contents_of result.state staging ≡ opened (pages_in (length home)) (slots_in (length log)) (frames_in (length frames)) next walk.ticket
  pub dirty_are : (page : ℕ) → look_up page (dirty_of result.state frames') ≡ look_up page walk.dirty_pages

pub record Opens (log home frames staging : List ℕ) (result : Outcome ℕ Stop) (frames' : List ℕ) : Type 0 where
  pub refused : (refusal place : ℕ) → open_finding log home (length frames) (length staging) ≡ stops refusal place
      → OpenStops refusal place frames result frames'
  pub accepted : (next : ℕ) (walk : Walk) → open_finding log home (length frames) (length staging) ≡ stands next walk
      → OpenStands next walk log home frames result frames'
