-- What a caller is told: the number and the values of each answer. Every promise gives the whole answer by these definitions.
-- Assumes nothing.
use Rattle.std.specs.Prelude.{ℕ, Bool, true, false, cond, List, eqb, Result, Ok, Err}
use Rattle.promises.specs.declared.Refusal.{Refusal}
use Rattle.promises.specs.declared.Refusal.TheVariants.{
  WrongLength,
  NotSound,
  OutOfRange,
  WrongMoment,
  Full,
  SequencesUsedUp,
  LogDamaged,
  LogOutOfOrder,
  TooFewFrames,
  NothingToDo,
  HeldBack,
  BadBlock,
  SequenceAhead,
}
use Rattle.promises.specs.declared.Stop.{Stop}
use Rattle.promises.specs.declared.Logged.{Logged}
use Rattle.promises.specs.declared.Logged.TheVariants.{Stored, Settled}
use Rattle.promises.specs.declared.Fed.{Fed}
use Rattle.promises.specs.declared.Fed.TheVariants.{Had, NotYet, Taken}

abbrev pub number_of : Refusal → ℕ
number_of WrongLength = 1
number_of NotSound = 2
number_of OutOfRange = 3
number_of WrongMoment = 4
number_of Full = 5
number_of SequencesUsedUp = 6
number_of LogDamaged = 7
number_of LogOutOfOrder = 8
number_of TooFewFrames = 9
number_of NothingToDo = 10
number_of HeldBack = 11
number_of BadBlock = 13
number_of SequenceAhead = 14

-- ---- the replies: End gives a ticket, Log step and Open report one as settled, Read shows bytes, Settled says yes or no; a copy had a fed
-- block already, has not yet taken it, or has taken it
pub data Reply : Type 0 where
  refuses : ℕ → Reply
  done : Reply
  gives : ℕ → Reply
  settles : ℕ → Reply
  shows : List ℕ → Reply
  says : Bool → Reply
  had : Reply
  not_yet : Reply
  taken : Reply

abbrev pub accepts : Reply → Bool
accepts (refuses refusal) = false
accepts done = true
accepts (gives ticket) = true
accepts (settles ticket) = true
accepts (shows bytes) = true
accepts (says answer) = true
accepts had = true
accepts not_yet = true
accepts taken = true

-- the refusal's number, 0 where the call is accepted
abbrev pub number_in : Reply → ℕ
number_in (refuses refusal) = refusal
number_in done = 0
number_in (gives ticket) = 0
number_in (settles ticket) = 0
number_in (shows bytes) = 0
number_in (says answer) = 0
number_in had = 0
number_in not_yet = 0
number_in taken = 0

-- the whole answer of a call: its refusal, or this reply where the number is 0
unfoldable pub replied : ℕ → Reply → Reply
replied refusal reply = cond (eqb refusal 0) reply (refuses refusal)

-- ---- what a test answers: nothing where it accepts, else the refusal

abbrev pub refusal_in : {X : Type 0} → Result X Refusal → ℕ
refusal_in (Ok answer) = 0
refusal_in (Err refusal) = number_of refusal

-- ---- each answer's reply

-- Format, Begin, Describe and Clean step
abbrev pub answered : Result (Unit {0}) Refusal → Reply
answered (Err refusal) = refuses (number_of refusal)
answered (Ok unit) = done

-- End
abbrev pub end_answered : Result ℕ Refusal → Reply
end_answered (Err refusal) = refuses (number_of refusal)
end_answered (Ok ticket) = gives ticket

-- Log step
abbrev pub log_answered : Result Logged Refusal → Reply
log_answered (Err refusal) = refuses (number_of refusal)
log_answered (Ok Stored) = done
log_answered (Ok (Settled ticket)) = settles ticket

-- Open and the opening of a copy, and the place of a refusal
abbrev pub open_answered : Result ℕ Stop → Reply
open_answered (Err stop) = refuses (number_of stop.refusal)
open_answered (Ok ticket) = settles ticket

abbrev pub place_in : Result ℕ Stop → ℕ
place_in (Err stop) = stop.place
place_in (Ok ticket) = 0

-- a copy's feed, and the place of its refusal
abbrev pub fed_answered : Result Fed Stop → Reply
fed_answered (Err stop) = refuses (number_of stop.refusal)
fed_answered (Ok Had) = had
fed_answered (Ok NotYet) = not_yet
fed_answered (Ok Taken) = taken

abbrev pub fed_place_in : Result Fed Stop → ℕ
fed_place_in (Err stop) = stop.place
fed_place_in (Ok answer) = 0

-- Read
abbrev pub read_answered : ℕ → List ℕ → Reply
read_answered refusal bytes = replied refusal (shows bytes)

-- Settled
abbrev pub standing_answered : Result Bool Refusal → Reply
standing_answered (Err refusal) = refuses (number_of refusal)
standing_answered (Ok answer) = says answer
