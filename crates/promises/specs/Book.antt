-- The BOOK of the crash theorem: what the calls and cuts so far should have led to. In words: docs/GUARANTEE.md.
-- Assumes nothing.
use Rattle.std.specs.Prelude.{ℕ, ◌+◌, cond, List, [], ◌∷◌, ◌++◌, length, ltb}
use Rattle.promises.specs.Areas.{page_at}
use Rattle.promises.specs.Updates.{Update, redo, of_page}

-- the pages, the count m of committed transactions, the open list, the queue, the count of blocks stored of the oldest list
pub record Book : Type 0 where
  pub pages : ℕ → List ℕ
  pub m : ℕ
  pub list : List Update
  pub queue : List (List Update)
  pub count : ℕ

-- it starts with home's pages, m 0, count 0 and no queue
abbrev pub blank : List ℕ → Book
blank home = record { pages = page_at home; m = 0; list = []; queue = []; count = 0 }

-- a book with this list, this queue and this count; pages and m stay
abbrev pub with_waiting : Book → List Update → List (List Update) → ℕ → Book
with_waiting book list queue count = record { pages = book.pages; m = book.m; list = list; queue = queue; count = count }

-- Begin: a new empty list
abbrev pub begun : Book → Book
begun book = with_waiting book [] book.queue book.count

-- Describe: its update goes to the end
abbrev pub described : Update → Book → Book
described update book = with_waiting book (book.list ++ (update ∷ [])) book.queue book.count

-- End: the list joins the queue; its ticket is m plus the queue's new length
abbrev pub ended : Book → Book
ended book = with_waiting book [] (book.queue ++ (book.list ∷ [])) book.count

abbrev pub ticket_given : Book → ℕ
ticket_given book = book.m + length (ended book).queue

-- Log step: the count grows by 1
abbrev pub counted : Book → Book
counted book = with_waiting book book.list book.queue (book.count + 1)

-- the oldest list's updates change the pages in order: the transaction is COMMITTED and leaves, m grows by 1, the count is 0
abbrev pub committed : Book → List Update → List (List Update) → Book
committed book group rest = record {
  pages = λ page. redo (of_page page group) (book.pages page);
  m = book.m + 1;
  list = book.list;
  queue = rest;
  count = 0;
}

-- once the count exceeds the number of updates in the queue's oldest list
abbrev pub stepped_over : Book → List (List Update) → Book
stepped_over book [] = counted book
stepped_over book (group ∷ rest) = cond (ltb (length group) (book.count + 1)) (committed book group rest) (counted book)

abbrev pub stepped : Book → Book
stepped book = stepped_over book book.queue

-- Open, even refused, and a cut: list, queue and count go
abbrev pub gone : Book → Book
gone book = with_waiting book [] [] 0
