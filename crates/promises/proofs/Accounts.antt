-- The book's pages are what the committed transactions, in ticket order, make of the pages at formatting.
-- Assumes nothing.
use mathlib.Core.Path.{◌≡◌, refl, sym, ap, ◌∙◌, subst}
use mathlib.Core.Bool.{Bool, true, false, cond}
use Prim.Native.Nat.{ℕ, ◌+◌}
use mathlib.Core.List.{List, [], ◌∷◌, ◌++◌, append-nil, append_assoc}
use native.Mathlib.Omega.{arith}
use lib.ListN.{length, length-append}
use lib.Dec.{eqb, ltb}
use Rattle.promises.specs.Areas.{page_at}
use Rattle.promises.specs.Updates.{Update, redo, of_page}
use Rattle.promises.specs.Book.{gone, Book, blank, counted, committed, stepped_over}
use Rattle.promises.specs.Events.{Sizes, World, Call, opening, begin, describe, ending, log_step, clean_step, reading, settling}
use Rattle.promises.specs.Answers.{accepts}
use Rattle.promises.proofs.History.Sees.{redo-append}
use Rattle.promises.specs.Claim.{booked_by, is_open, leaving_by, Steps, entered, cut_at, both, Run, formatted, called, unfit, cut, cut_unfit, leaving, commits_of, committed_by, found_by, together, BookClaim}

-- ---- updates one after the other
of_page-append : (p : ℕ) (us vs : List Update) → of_page p (us ++ vs) ≡ of_page p us ++ of_page p vs
unfolding of_page
of_page-append p [] vs = refl
of_page-append p (u ∷ us) vs = go (eqb p u.page) (of_page-append p us vs)
  where
    go : (b : Bool) → of_page p (us ++ vs) ≡ of_page p us ++ of_page p vs
        → cond b (u ∷ of_page p (us ++ vs)) (of_page p (us ++ vs)) ≡ cond b (u ∷ of_page p us) (of_page p us) ++ of_page p vs
    go true e = ap (λ (l : List Update). u ∷ l) e
    go false e = e

together-snoc : (gs : List (List Update)) (g : List Update) → together (gs ++ (g ∷ [])) ≡ together gs ++ g
together-snoc [] g = append-nil g
together-snoc (x ∷ gs) g = ap (λ (l : List Update). x ++ l) (together-snoc gs g) ∙ sym (append_assoc x (together gs) g)

-- ---- one entry of the book

-- what the committed transactions so far make of a book
record Counts (home : List ℕ) (gs : List (List Update)) (m : ℕ) (pages : ℕ → List ℕ) : Type 0 where
  count : length gs ≡ m
  made : (p : ℕ) → pages p ≡ redo (of_page p (together gs)) (page_at home p)

none_more : (home : List ℕ) (gs : List (List Update)) (b : Book) → Counts home gs b.m b.pages → Counts home (gs ++ []) b.m b.pages
none_more home gs b k = subst (λ (l : List (List Update)). Counts home l b.m b.pages) (sym (append-nil gs)) k

one_more : (home : List ℕ) (gs : List (List Update)) (g : List Update) (b : Book) → Counts home gs b.m b.pages
    → Counts home (gs ++ (g ∷ [])) (b.m + 1) (λ p. redo (of_page p g) (b.pages p))
one_more home gs g b k = record {
  count = length-append gs (g ∷ []) ∙ omega (arith, k.count);
  made = λ p.
      ap (redo (of_page p g)) (k.made p)
      ∙ sym (redo-append (of_page p (together gs)) (of_page p g) (page_at home p))
      ∙ ap (λ (us : List Update). redo us (page_at home p)) (sym (of_page-append p (together gs) g))
      ∙ ap (λ (us : List Update). redo (of_page p us) (page_at home p)) (sym (together-snoc gs g));
}

stepping : (home : List ℕ) (gs : List (List Update)) (b : Book) → Counts home gs b.m b.pages → (queue : List (List Update))
    → Counts home (gs ++ leaving b.count queue) (stepped_over b queue).m (stepped_over b queue).pages
stepping home gs b k [] = none_more home gs b k
stepping home gs b k (g ∷ rest) = go (ltb (length g) (b.count + 1))
  where
    go : (c : Bool) → Counts home (gs ++ cond c (g ∷ []) []) (cond {A = Book} c (committed b g rest) (counted b)).m
        (cond {A = Book} c (committed b g rest) (counted b)).pages
    go true = one_more home gs g b k
    go false = none_more home gs b k

-- a refused call: the book is as it was, or after an Open without list, queue and count
call-refused : (home : List ℕ) (gs : List (List Update)) (b : Book) → Counts home gs b.m b.pages → (c : Call)
    → Counts home gs (entered c false b).m (entered c false b).pages
call-refused home gs b k c = go (is_open c)
  where
    go : (o : Bool) → Counts home gs (cond {A = Book} o (gone b) b).m (cond {A = Book} o (gone b) b).pages
    go true = k
    go false = k

-- an accepted one
call-accepted : (home : List ℕ) (gs : List (List Update)) (b : Book) → Counts home gs b.m b.pages → (c : Call)
    → Counts home (gs ++ leaving_by c b) (booked_by c b).m (booked_by c b).pages
call-accepted home gs b k (opening frames staging) = none_more home gs b k
call-accepted home gs b k (begin u) = none_more home gs b k
call-accepted home gs b k (describe u) = none_more home gs b k
call-accepted home gs b k ending = none_more home gs b k
call-accepted home gs b k log_step = stepping home gs b k b.queue
call-accepted home gs b k clean_step = none_more home gs b k
call-accepted home gs b k (reading p) = none_more home gs b k
call-accepted home gs b k (settling t) = none_more home gs b k

on_call : (home : List ℕ) (gs : List (List Update)) (b : Book) → Counts home gs b.m b.pages → (c : Call) (ok : Bool)
    → Counts home (gs ++ commits_of c ok b) (entered c ok b).m (entered c ok b).pages
on_call home gs b k c true = call-accepted home gs b k c
on_call home gs b k c false = none_more home gs (entered c false b) (call-refused home gs b k c)

-- a cut takes list, queue and count
on-cut : (home : List ℕ) (gs : List (List Update)) (b : Book) → Counts home gs b.m b.pages → (c : Call) (ok : Bool)
    → Counts home (gs ++ commits_of c ok b) (cut_at c ok b).m (cut_at c ok b).pages
on-cut home gs b k c true = call-accepted home gs b k c
on-cut home gs b k c false = none_more home gs b k

-- ---- every run
as-book : (home : List ℕ) (gs : List (List Update)) (b b' : Book) → b' ≡ b → Counts home gs b.m b.pages → Counts home gs b'.m b'.pages
as-book home gs b b' e k = subst (λ (x : Book). Counts home gs x.m x.pages) (sym e) k

blank-counts : (home : List ℕ) → Counts home [] 0 (page_at home)
unfolding redo of_page
blank-counts home = record { count = refl; made = λ p. refl }

counts : (by : Steps) (z : Sizes) (w : World) (b : Book) (run : Run by z w b) → Counts (found_by run) (committed_by run) b.m b.pages
unfolding found_by committed_by
counts by z w b (formatted log log' home frames staging r l h f e q) =
    as-book home [] (blank home) b q (blank-counts home)
counts by z w b (called {world = w₀} {book = b₀} c a run l st e) =
    as-book (found_by run) (committed_by run ++ commits_of c (accepts a) b₀) (entered c (accepts a) b₀) b e
    (on_call (found_by run) (committed_by run) b₀ (counts by z w₀ b₀ run) c (accepts a))
counts by z w b (unfit {world = w₀} {book = b₀} c a lent lent' run same st r e q) =
    as-book (found_by run) (committed_by run) (entered c false b₀) b q (call-refused (found_by run) (committed_by run) b₀ (counts by z w₀ b₀ run) c)
counts by z w b (cut {world = w₀} {book = b₀} c a w' stored frames staging run l st e q) =
    as-book (found_by run) (committed_by run ++ commits_of c (both stored (accepts a)) b₀) (cut_at c (both stored (accepts a)) b₀) b q
    (on-cut (found_by run) (committed_by run) b₀ (counts by z w₀ b₀ run) c (both stored (accepts a)))
counts by z w b (cut_unfit {world = w₀} {book = b₀} c a lent lent' frames staging run same st r e q) =
    as-book (found_by run) (committed_by run) (cut_at c false b₀) b q (counts by z w₀ b₀ run)

-- the book accounts for every run
pub book-accounts : (by : Steps) → BookClaim by
book-accounts by z w b run = let k = counts by z w b run in record { counts = k.count; pages_are = k.made }
