-- What follows from the crash theorem for a desk, as statements of their own.
-- Assumes nothing.
use Rattle.std.specs.Prelude.{◌≡◌, ◌⊎◌, ℕ, ◌+◌, ◌≤◌, ◌<◌, Bool, true, false, cond, List, [], ◌∷◌, ◌++◌, length}
use Rattle.promises.specs.Areas.{page_at}
use Rattle.promises.specs.Updates.{Update, redo, of_page}
use Rattle.promises.specs.Book.{Book}
use Rattle.promises.specs.Events.{Sizes, World, with_state, Call, opening, begin, describe, ending, log_step, clean_step, reading, settling, Lent, left_by, fallen}
use Rattle.promises.specs.Answers.{Reply, refuses, gives, shows, says, accepts}
use Rattle.promises.specs.Claim.{
  Right,
  Steps,
  entered,
  cut_at,
  both,
  Run,
  formatted,
  called,
  unfit,
  cut,
  cut_unfit,
  commits_of,
  committed_by,
  found_by,
  together,
  InRange,
}

-- ---- a run that goes on

-- the run is the beginning of another one
pub data Begins {by : Steps} {sizes : Sizes} {world : World} {book : Book} (run : Run by sizes world book)
    : (world' : World) (book' : Book) → Run by sizes world' book' → Type 0 where
  itself : Begins run world book run
  by_call : {before after : World} {book₁ book₂ : Book} {more : Run by sizes before book₁} → Begins run before book₁ more → (call : Call) (reply : Reply)
      (lent : Lent sizes call) (step : by.steps call before reply after) (book_is : book₂ ≡ entered call (accepts reply) book₁)
      → Begins run after book₂ (called call reply more lent step book_is)
  by_unfit : {before after : World} {book₁ book₂ : Book} {more : Run by sizes before book₁} → Begins run before book₁ more → (call : Call) (reply : Reply)
      (lent lent' : World) (same : lent.state ≡ before.state) (step : by.steps call lent reply lent')
      (refused : (reply ≡ refuses 1) ⊎ (reply ≡ refuses 2)) (world_is : after ≡ with_state before lent'.state)
      (book_is : book₂ ≡ entered call false book₁) → Begins run after book₂ (unfit call reply lent lent' more same step refused world_is book_is)
  by_cut : {before after : World} {book₁ book₂ : Book} {more : Run by sizes before book₁} → Begins run before book₁ more → (call : Call) (reply : Reply)
      (world' : World) (stored : Bool) (frames staging : List ℕ) (lent : Lent sizes call) (step : by.steps call before reply world')
      (world_is : after ≡ fallen (left_by stored before world') frames staging) (book_is : book₂ ≡ cut_at call (both stored (accepts reply)) book₁)
      → Begins run after book₂ (cut call reply world' stored frames staging more lent step world_is book_is)
  by_cut_unfit : {before after : World} {book₁ book₂ : Book} {more : Run by sizes before book₁} → Begins run before book₁ more → (call : Call) (reply : Reply)
      (lent lent' : World) (frames staging : List ℕ) (same : lent.state ≡ before.state) (step : by.steps call lent reply lent')
      (refused : (reply ≡ refuses 1) ⊎ (reply ≡ refuses 2)) (world_is : after ≡ fallen before frames staging)
      (book_is : book₂ ≡ cut_at call false book₁) → Begins run after book₂ (cut_unfit call reply lent lent' frames staging more same step refused world_is book_is)

-- a settled ticket stays settled, over every cut: wherever Settled is accepted later, it says yes
abbrev pub StaysSettled : Steps → Type 0
StaysSettled by = (sizes : Sizes) → InRange sizes → (world : World) (book : Book) (run : Run by sizes world book) (ticket : ℕ) → ticket ≤ book.m
    → (world' : World) (book' : Book) (run' : Run by sizes world' book') → Begins run world' book' run' → (reply : Reply) (world'' : World)
    → by.steps (settling ticket) world' reply world'' → accepts reply ≡ true → reply ≡ says true

-- ---- every accepted reply of a run is the book's, as it was before that call
unfoldable pub RepliesRight : {by : Steps} {sizes : Sizes} {world : World} {book : Book} → Run by sizes world book → Type 0
RepliesRight (formatted log log' home frames staging answer log_long home_long formats world_is book_is) = Unit {0}
RepliesRight (called {book = book} call reply run lent step book_is) = (accepts reply ≡ true → Right call reply book) × RepliesRight run
RepliesRight (unfit call reply lent lent' run same step refused world_is book_is) = RepliesRight run
RepliesRight (cut call reply world' stored frames staging run lent step world_is book_is) = RepliesRight run
RepliesRight (cut_unfit call reply lent lent' frames staging run same step refused world_is book_is) = RepliesRight run

abbrev pub EveryReply : Steps → Type 0
EveryReply by = (sizes : Sizes) → InRange sizes → (world : World) (book : Book) (run : Run by sizes world book) → RepliesRight run

-- ---- tickets: the t-th committed transaction is a list that an End of the run gave ticket t

-- an End of the run gave this ticket, and this was the open list
unfoldable pub Gave : {by : Steps} {sizes : Sizes} {world : World} {book : Book} → ℕ → List Update → Run by sizes world book → Type 0
Gave ticket list (formatted log log' home frames staging answer log_long home_long formats world_is book_is) = ⊥
Gave ticket list (called {book = book} call reply run lent step book_is) =
    ((call ≡ ending) × (reply ≡ gives ticket) × (book.list ≡ list)) ⊎ Gave ticket list run
Gave ticket list (unfit call reply lent lent' run same step refused world_is book_is) = Gave ticket list run
Gave ticket list (cut call reply world' stored frames staging run lent step world_is book_is) = Gave ticket list run
Gave ticket list (cut_unfit call reply lent lent' frames staging run same step refused world_is book_is) = Gave ticket list run

abbrev pub TicketsInOrder : Steps → Type 0
TicketsInOrder by = (sizes : Sizes) → InRange sizes → (world : World) (book : Book) (run : Run by sizes world book)
    → (before after : List (List Update)) (list : List Update) → committed_by run ≡ before ++ (list ∷ after) → Gave (length before + 1) list run

-- ---- whole transactions

-- the lists that End took over along a run, each a transaction as it was described
abbrev pub ending_by : Call → Book → List (List Update)
ending_by (opening frames staging) book = []
ending_by (begin u) book = []
ending_by (describe update) book = []
ending_by ending book = book.list ∷ []
ending_by log_step book = []
ending_by clean_step book = []
ending_by (reading page) book = []
ending_by (settling ticket) book = []

abbrev pub ends_of : Call → Bool → Book → List (List Update)
ends_of call accepted book = cond accepted (ending_by call book) []

unfoldable pub ended_by : {by : Steps} {sizes : Sizes} {world : World} {book : Book} → Run by sizes world book → List (List Update)
ended_by (formatted log log' home frames staging answer log_long home_long formats world_is book_is) = []
ended_by (called {book = book} call reply run lent step book_is) = ended_by run ++ ends_of call (accepts reply) book
ended_by (unfit call reply lent lent' run same step refused world_is book_is) = ended_by run
ended_by (cut call reply world' stored frames staging run lent step world_is book_is) = ended_by run
ended_by (cut_unfit call reply lent lent' frames staging run same step refused world_is book_is) = ended_by run

-- some of these lists, in this order
pub data Among : List (List Update) → List (List Update) → Type 0 where
  none : Among [] []
  left : {some all : List (List Update)} (group : List Update) → Among some all → Among some (group ∷ all)
  taken : {some all : List (List Update)} (group : List Update) → Among some all → Among (group ∷ some) (group ∷ all)

-- what two pages show after an opening: both are made of the same transactions, each taken whole from those that the desk ended, in the
-- order of their ends. So a coupon date and its accrual, described in one transaction, are both there or both absent
pub record ShownTogether {by : Steps} {sizes : Sizes} {world : World} {book : Book} (run : Run by sizes world book) (page other : ℕ) (reply reply' : Reply) : Type 0 where
  pub transactions : List (List Update)
  pub of_the_desk : Among transactions (ended_by run)
  pub first : reply ≡ shows (redo (of_page page (together transactions)) (page_at (found_by run) page))
  pub second : reply' ≡ shows (redo (of_page other (together transactions)) (page_at (found_by run) other))

abbrev pub AllOrNothing : Steps → Type 0
AllOrNothing by = (sizes : Sizes) → InRange sizes → (world : World) (book : Book) (run : Run by sizes world book)
    (frames staging : List ℕ) (reply : Reply) (world' : World) → Lent sizes (opening frames staging) → by.steps (opening frames staging) world reply world'
    → (page other : ℕ) → page < sizes.pages → other < sizes.pages
    → (first second : Reply) (world'' world''' : World) → by.steps (reading page) world' first world'' → by.steps (reading other) world' second world'''
    → ShownTogether run page other first second

-- ---- no trace

-- a cut at a call that commits nothing: what was ended but not committed leaves no trace. The next opening shows the book's pages of
-- before the cut, which waiting transactions have not changed
abbrev pub NoTrace : Steps → Type 0
NoTrace by = (sizes : Sizes) → InRange sizes → (world : World) (book : Book) → Run by sizes world book
    → (call : Call) (reply : Reply) (world' : World) (stored : Bool) (frames staging : List ℕ) → Lent sizes call → by.steps call world reply world'
    → commits_of call (both stored (accepts reply)) book ≡ []
    → (frames' staging' : List ℕ) (opened : Reply) (after : World) → Lent sizes (opening frames' staging')
    → by.steps (opening frames' staging') (fallen (left_by stored world world') frames staging) opened after
    → (page : ℕ) → page < sizes.pages → (answer : Reply) (last : World) → by.steps (reading page) after answer last → answer ≡ shows (book.pages page)

-- ---- two openings in a row show the same
abbrev pub OpensAlike : Steps → Type 0
OpensAlike by = (sizes : Sizes) → InRange sizes → (world : World) (book : Book) → Run by sizes world book
    → (frames staging frames' staging' : List ℕ) (reply reply' : Reply) (world' world'' : World)
    → Lent sizes (opening frames staging) → by.steps (opening frames staging) world reply world'
    → Lent sizes (opening frames' staging') → by.steps (opening frames' staging') world' reply' world''
    → (page : ℕ) → page < sizes.pages → (first second : Reply) (last last' : World)
    → by.steps (reading page) world' first last → by.steps (reading page) world'' second last' → (reply ≡ reply') × (first ≡ second)
