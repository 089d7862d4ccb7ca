-- TWO DESKS ALIKE: two stores of the same sizes that found the same home at formatting and were called the same, with the same cuts, have
-- the same log and the same home, byte for byte, and the same book; their states say the same, and they gave the same replies. So nothing
-- shows in log and home of what is left to the program (the frame of a page, the staging area of an update), of what the areas held that
-- Open was lent or that a cut left, or of the other areas that a call was lent which was refused for them.
-- Assumes nothing.
use Rattle.std.specs.Prelude.{◌≡◌, ℕ, Bool, true, false, List, [], ◌∷◌, length}
use Rattle.promises.specs.DirtyPages.{look_up}
use Rattle.promises.specs.Contents.{contents_of, dirty_of}
use Rattle.promises.specs.Sound.{sound}
use Rattle.promises.specs.Book.{Book}
use Rattle.promises.specs.Events.{Sizes, World, Call, opening, begin, describe, ending, log_step, clean_step, reading, settling, Lent}
use Rattle.promises.specs.Answers.{Reply}
use Rattle.promises.specs.Claim.{Steps, Run, formatted, called, unfit, cut, cut_unfit, found_by, InRange}

-- ---- two worlds of desks alike: the same log and home, and states that say the same, each read with its own staging and its own frames
pub record Alike (world other : World) : Type 0 where
  pub log_is : world.log ≡ other.log
  pub home_is : world.home ≡ other.home
  pub desks : (world.state.copy ≡ false) × (other.state.copy ≡ false)
  pub sound_is : sound world.state ≡ sound other.state
  pub contents_are : contents_of world.state world.staging ≡ contents_of other.state other.staging
  pub dirty_are : (page : ℕ) → look_up page (dirty_of world.state world.frames) ≡ look_up page (dirty_of other.state other.frames)
  -- after a cut frames and staging hold anything and may be of any length; no call but Open is accepted then
  pub frames_long : sound world.state ≡ true → length world.frames ≡ length other.frames
  pub staging_long : sound world.state ≡ true → length world.staging ≡ length other.staging

-- ---- the same calls

-- a call with its arguments, without the areas that Open is lent
abbrev pub asked : Call → Call
asked (opening frames staging) = opening [] []
asked (begin u) = begin u
asked (describe update) = describe update
asked ending = ending
asked log_step = log_step
asked clean_step = clean_step
asked (reading page) = reading page
asked (settling ticket) = settling ticket

-- one call, for any two worlds of desks alike, of a run or not: the same reply, and worlds alike afterwards
abbrev pub CallsAlike : Steps → Steps → Type 0
CallsAlike by by' = (sizes : Sizes) (world other : World) → Alike world other
    → (call call' : Call) → asked call ≡ asked call' → Lent sizes call → Lent sizes call'
    → (reply reply' : Reply) (world' other' : World) → by.steps call world reply world' → by'.steps call' other reply' other'
    → (reply ≡ reply') × Alike world' other'

-- what happens along a run: a call; a call that is lent other areas; a cut at a call, and whether its block got stored; a cut at a call
-- that is lent other areas
pub data Event : Type 0 where
  calls : Call → Event
  calls_unfit : Call → Event
  cuts : Call → Bool → Event
  cuts_unfit : Call → Event

-- the latest first
unfoldable pub events_of : {by : Steps} {sizes : Sizes} {world : World} {book : Book} → Run by sizes world book → List Event
events_of (formatted log log' home frames staging answer log_long home_long formats world_is book_is) = []
events_of (called call reply run lent step book_is) = calls (asked call) ∷ events_of run
events_of (unfit call reply lent lent' run same step refused world_is book_is) = calls_unfit (asked call) ∷ events_of run
events_of (cut call reply world' stored frames staging run lent step world_is book_is) = cuts (asked call) stored ∷ events_of run
events_of (cut_unfit call reply lent lent' frames staging run same step refused world_is book_is) = cuts_unfit (asked call) ∷ events_of run

-- the replies, the latest first; a call that is cut gives none
unfoldable pub replies_of : {by : Steps} {sizes : Sizes} {world : World} {book : Book} → Run by sizes world book → List Reply
replies_of (formatted log log' home frames staging answer log_long home_long formats world_is book_is) = []
replies_of (called call reply run lent step book_is) = reply ∷ replies_of run
replies_of (unfit call reply lent lent' run same step refused world_is book_is) = reply ∷ replies_of run
replies_of (cut call reply world' stored frames staging run lent step world_is book_is) = replies_of run
replies_of (cut_unfit call reply lent lent' frames staging run same step refused world_is book_is) = replies_of run

-- ---- the claim, of two stores that may take frames and areas each in its own way. It holds at every point of the two runs: each
-- beginning of a run is a run itself
pub record SameDesk {by by' : Steps} {sizes : Sizes} {world other : World} {book book' : Book} (run : Run by sizes world book) (run' : Run by' sizes other book')
    : Type 0 where
  pub alike : Alike world other
  pub books : book ≡ book'
  pub replies : replies_of run ≡ replies_of run'

abbrev pub DesksAlike : Steps → Steps → Type 0
DesksAlike by by' = (sizes : Sizes) → InRange sizes → (world other : World) (book book' : Book) (run : Run by sizes world book) (run' : Run by' sizes other book')
    → found_by run ≡ found_by run' → events_of run ≡ events_of run' → SameDesk run run'
