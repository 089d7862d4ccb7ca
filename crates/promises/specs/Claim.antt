-- THE CRASH THEOREM: every list of calls and cuts from Format's end on, beside its book. In words: docs/GUARANTEE.md.
-- Assumes nothing.
use Rattle.std.specs.Prelude.{◌≡◌, ◌⊎◌, ℕ, ◌+◌, ◌<◌, Bool, true, false, cond, List, [], ◌∷◌, ◌++◌, length, leb, ltb}
use Rattle.std.specs.Prelude.{Result}
use Rattle.promises.specs.declared.Refusal.{Refusal}
use Rattle.promises.specs.Areas.{page_at, log_length, home_length, slots_in_range, pages_in_range, frames_in_range}
use Rattle.promises.specs.Updates.{Update, redo, of_page}
use Rattle.promises.specs.States.{all_zero_state}
use Rattle.promises.specs.Answers.{Reply, refuses, done, gives, settles, shows, says, accepts}
use Rattle.promises.specs.Format.{Formats}
use Rattle.promises.specs.Book.{Book, blank, begun, described, ended, ticket_given, stepped, gone}
use Rattle.promises.specs.Events.{
  Sizes,
  World,
  with_state,
  Call,
  opening,
  begin,
  describe,
  ending,
  log_step,
  clean_step,
  reading,
  settling,
  Step,
  Lent,
  left_by,
  fallen,
}

-- what an accepted call makes of the book
abbrev pub booked_by : Call → Book → Book
booked_by (opening frames staging) book = gone book
booked_by (begin u) book = begun book
booked_by (describe update) book = described update book
booked_by ending book = ended book
booked_by log_step book = stepped book
booked_by clean_step book = book
booked_by (reading page) book = book
booked_by (settling ticket) book = book

abbrev pub is_open : Call → Bool
is_open (opening frames staging) = true
is_open (begin u) = false
is_open (describe update) = false
is_open ending = false
is_open log_step = false
is_open clean_step = false
is_open (reading page) = false
is_open (settling ticket) = false

-- a refused call makes nothing of it, but for Open, even refused
abbrev pub entered : Call → Bool → Book → Book
entered call accepted book = cond accepted (booked_by call book) (cond (is_open call) (gone book) book)

-- and a cut: a call whose block got stored is done first
abbrev pub cut_at : Call → Bool → Book → Book
cut_at call stored book = gone (cond stored (booked_by call book) book)

-- a call's block got stored at a cut: the call would have been accepted
abbrev pub both : Bool → Bool → Bool
both true b = b
both false b = false

-- ---- how Format and the calls step: by their promises, or by what a caller learns of the code
pub record Steps : Type 1 where
  pub formats : List ℕ → Result (Unit {0}) Refusal → List ℕ → Type 0
  pub steps : Call → World → Reply → World → Type 0

-- by their promises
abbrev pub promised : Steps
promised = record { formats = Formats; steps = Step }

-- ---- the lists of events, each with the world and the book that it leads to
pub data Run (by : Steps) (sizes : Sizes) : World → Book → Type 0 where
  -- Format's end: home as found, the all-zero state, any bytes in frames and staging
  formatted : {world : World} {book : Book} (log log' home frames staging : List ℕ) (answer : Result (Unit {0}) Refusal)
      → length log ≡ log_length sizes.slots → length home ≡ home_length sizes.pages → by.formats log answer log'
      → world ≡ record { state = all_zero_state; log = log'; home = home; frames = frames; staging = staging } → book ≡ blank home
      → Run by sizes world book
  -- a call
  called : {world world' : World} {book book' : Book} (call : Call) (reply : Reply) → Run by sizes world book → Lent sizes call
      → by.steps call world reply world' → book' ≡ entered call (accepts reply) book → Run by sizes world' book'
  -- a call that is lent other areas, and refused with 1 or 2
  unfit : {world world' : World} {book book' : Book} (call : Call) (reply : Reply) (lent lent' : World) → Run by sizes world book
      → lent.state ≡ world.state → by.steps call lent reply lent' → (reply ≡ refuses 1) ⊎ (reply ≡ refuses 2)
      → world' ≡ with_state world lent'.state → book' ≡ entered call false book → Run by sizes world' book'
  -- a cut at a call: log and home as before it or after it, its block old or new
  cut : {world world'' : World} {book book'' : Book} (call : Call) (reply : Reply) (world' : World) (stored : Bool) (frames staging : List ℕ)
      → Run by sizes world book → Lent sizes call → by.steps call world reply world'
      → world'' ≡ fallen (left_by stored world world') frames staging → book'' ≡ cut_at call (both stored (accepts reply)) book
      → Run by sizes world'' book''
  -- a cut at a call that is lent other areas, and would be refused with 1 or 2
  cut_unfit : {world world'' : World} {book book'' : Book} (call : Call) (reply : Reply) (lent lent' : World) (frames staging : List ℕ)
      → Run by sizes world book → lent.state ≡ world.state → by.steps call lent reply lent' → (reply ≡ refuses 1) ⊎ (reply ≡ refuses 2)
      → world'' ≡ fallen world frames staging → book'' ≡ cut_at call false book → Run by sizes world'' book''

-- ---- the answers: what the book says of an accepted call
abbrev pub Right : Call → Reply → Book → Type 0
Right (opening frames staging) reply book = reply ≡ settles book.m
Right (begin u) reply book = reply ≡ done
Right (describe update) reply book = reply ≡ done
Right ending reply book = reply ≡ gives (ticket_given book)
-- m is reported exactly when the step commits
Right log_step reply book = reply ≡ cond (ltb book.m (stepped book).m) (settles (stepped book).m) done
Right clean_step reply book = reply ≡ done
Right (reading page) reply book = reply ≡ shows (book.pages page)
Right (settling ticket) reply book = reply ≡ says (leb ticket book.m)

pub record Safe (by : Steps) (sizes : Sizes) (world : World) (book : Book) : Type 0 where
  -- whatever is called next answers what the book says, if it is accepted
  pub answers : (call : Call) (reply : Reply) (world' : World) → Lent sizes call → by.steps call world reply world' → accepts reply ≡ true
      → Right call reply book
  -- the next opening is accepted and reports m
  pub opens : (frames staging : List ℕ) (reply : Reply) (world' : World) → Lent sizes (opening frames staging)
      → by.steps (opening frames staging) world reply world' → reply ≡ settles book.m
  -- after it every page is shown, and is the book's
  pub reads : (frames staging : List ℕ) (reply : Reply) (world' : World) → Lent sizes (opening frames staging)
      → by.steps (opening frames staging) world reply world' → (page : ℕ) (answer : Reply) (world'' : World) → page < sizes.pages
      → by.steps (reading page) world' answer world'' → answer ≡ shows (book.pages page)

pub record InRange (sizes : Sizes) : Type 0 where
  pub slots : slots_in_range sizes.slots ≡ true
  pub pages : pages_in_range sizes.pages ≡ true
  pub frames : frames_in_range sizes.frames ≡ true

abbrev pub Claim : Steps → Type 0
Claim by = (sizes : Sizes) → InRange sizes → (world : World) (book : Book) → Run by sizes world book → Safe by sizes world book

-- ---- the book's pages, by the transactions that were committed

-- the transaction that a Log step commits, if it does
abbrev pub leaving : ℕ → List (List Update) → List (List Update)
leaving count [] = []
leaving count (group ∷ rest) = cond (ltb (length group) (count + 1)) (group ∷ []) []

abbrev pub leaving_by : Call → Book → List (List Update)
leaving_by (opening frames staging) book = []
leaving_by (begin u) book = []
leaving_by (describe update) book = []
leaving_by ending book = []
leaving_by log_step book = leaving book.count book.queue
leaving_by clean_step book = []
leaving_by (reading page) book = []
leaving_by (settling ticket) book = []

-- a call that is refused, or cut before its block got stored, commits nothing
abbrev pub commits_of : Call → Bool → Book → List (List Update)
commits_of call stored book = cond stored (leaving_by call book) []

-- the transactions that a run committed, in ticket order
unfoldable pub committed_by : {by : Steps} {sizes : Sizes} {world : World} {book : Book} → Run by sizes world book → List (List Update)
committed_by (formatted log log' home frames staging answer log_long home_long formats world_is book_is) = []
committed_by (called {book = book} call reply run lent step book_is) = committed_by run ++ commits_of call (accepts reply) book
committed_by (unfit call reply lent lent' run same step refused world_is book_is) = committed_by run
committed_by (cut {book = book} call reply world' stored frames staging run lent step world_is book_is) =
    committed_by run ++ commits_of call (both stored (accepts reply)) book
committed_by (cut_unfit call reply lent lent' frames staging run same step refused world_is book_is) = committed_by run

-- home as found at formatting
unfoldable pub found_by : {by : Steps} {sizes : Sizes} {world : World} {book : Book} → Run by sizes world book → List ℕ
found_by (formatted log log' home frames staging answer log_long home_long formats world_is book_is) = home
found_by (called call reply run lent step book_is) = found_by run
found_by (unfit call reply lent lent' run same step refused world_is book_is) = found_by run
found_by (cut call reply world' stored frames staging run lent step world_is book_is) = found_by run
found_by (cut_unfit call reply lent lent' frames staging run same step refused world_is book_is) = found_by run

-- transactions one after the other
abbrev pub together : List (List Update) → List Update
together [] = []
together (group ∷ rest) = group ++ together rest

-- m counts the committed transactions, and the pages are what they make, in ticket order, of the pages at formatting
pub record Accounts {by : Steps} {sizes : Sizes} {world : World} {book : Book} (run : Run by sizes world book) : Type 0 where
  pub counts : length (committed_by run) ≡ book.m
  pub pages_are : (page : ℕ) → book.pages page ≡ redo (of_page page (together (committed_by run))) (page_at (found_by run) page)

abbrev pub BookClaim : Steps → Type 0
BookClaim by = (sizes : Sizes) (world : World) (book : Book) (run : Run by sizes world book) → Accounts run
