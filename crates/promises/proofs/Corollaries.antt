-- What follows from the crash theorem for a desk.
-- Assumes nothing.
use mathlib.Core.Path.{◌≡◌, refl, sym, ap, ◌∙◌, subst}
use mathlib.Core.Bool.{Bool, true, false, cond}
use Prim.Native.Nat.{ℕ, ◌+◌, ◌≤◌}
use mathlib.Core.List.{List, [], ◌∷◌, ◌++◌, append-nil, append_assoc}
use native.Mathlib.Omega.{arith}
use native.Mathlib.Nat.{le_refl}
use lib.ListN.{length}
use lib.Dec.{ltb}
use borrow.Author.Tests.{le-leb}
use Rattle.promises.specs.Updates.{Update}
use Rattle.promises.specs.Book.{gone, Book, blank, counted, committed, stepped, stepped_over}
use Rattle.promises.specs.Events.{Sizes, World, Call, opening, begin, describe, ending, log_step, clean_step, reading, settling}
use Rattle.promises.specs.Answers.{shows, says, accepts}
use Rattle.promises.specs.Claim.{booked_by, is_open, leaving_by, Steps, entered, cut_at, both, Run, formatted, called, unfit, cut, cut_unfit, leaving, commits_of, committed_by}
use Rattle.promises.specs.Corollaries.{RepliesRight, EveryReply, ending_by, Begins, itself, by_call, by_unfit, by_cut, by_cut_unfit, StaysSettled, ends_of, ended_by, Among, none, left, taken, AllOrNothing, NoTrace, OpensAlike}
use Rattle.promises.proofs.Accounts.{book-accounts}
use Rattle.promises.proofs.Refines.{Refines, demand-three-by}

-- ---- m never falls
m-stepped : (b : Book) (queue : List (List Update)) → b.m ≤ (stepped_over b queue).m
m-stepped b [] = le_refl b.m
m-stepped b (g ∷ rest) = go (ltb (length g) (b.count + 1))
  where
    go : (c : Bool) → b.m ≤ (cond {A = Book} c (committed b g rest) (counted b)).m
    go true = omega arith
    go false = le_refl b.m

m-booked : (c : Call) (b : Book) → b.m ≤ (booked_by c b).m
m-booked (opening frames staging) b = le_refl b.m
m-booked (begin u) b = le_refl b.m
m-booked (describe u) b = le_refl b.m
m-booked ending b = le_refl b.m
m-booked log_step b = m-stepped b b.queue
m-booked clean_step b = le_refl b.m
m-booked (reading p) b = le_refl b.m
m-booked (settling t) b = le_refl b.m

m-entered : (c : Call) (ok : Bool) (b : Book) → b.m ≤ (entered c ok b).m
m-entered c true b = m-booked c b
m-entered c false b = go (is_open c)
  where
    go : (o : Bool) → b.m ≤ (cond {A = Book} o (gone b) b).m
    go true = le_refl b.m
    go false = le_refl b.m

m-cut : (c : Call) (stored : Bool) (b : Book) → b.m ≤ (cut_at c stored b).m
m-cut c true b = m-booked c b
m-cut c false b = le_refl b.m

m-grows : {by : Steps} {z : Sizes} {w : World} {b : Book} {run : Run by z w b} {w' : World} {b' : Book} {run' : Run by z w' b'}
    → Begins run w' b' run' → b.m ≤ b'.m
m-grows {b} itself = le_refl b.m
m-grows (by_call {book₁ = b₁} more c a l st e) = omega (arith, m-grows more, m-entered c (accepts a) b₁, ap (λ (x : Book). x.m) e)
m-grows (by_unfit {book₁ = b₁} more c a lent lent' s st r w e) = omega (arith, m-grows more, m-entered c false b₁, ap (λ (x : Book). x.m) e)
m-grows (by_cut {book₁ = b₁} more c a w' stored frames staging l st w e) =
    omega (arith, m-grows more, m-cut c (both stored (accepts a)) b₁, ap (λ (x : Book). x.m) e)
m-grows (by_cut_unfit {book₁ = b₁} more c a lent lent' frames staging s st r w e) = omega (arith, m-grows more, m-cut c false b₁, ap (λ (x : Book). x.m) e)

-- ---- committed transactions are among the ended ones
among-nil : (all : List (List Update)) → Among [] all
among-nil [] = none
among-nil (g ∷ all) = left g (among-nil all)

among-append : {xs all ys more : List (List Update)} → Among xs all → Among ys more → Among (xs ++ ys) (all ++ more)
among-append none k = k
among-append (left g h) k = left g (among-append h k)
among-append (taken g h) k = taken g (among-append h k)

front : (xs ys : List (List Update)) {all : List (List Update)} → Among (xs ++ ys) all → Among xs all
front xs ys {all} h = go xs ys (xs ++ ys) all refl h
  where
    go : (xs ys zs all : List (List Update)) → zs ≡ xs ++ ys → Among zs all → Among xs all
    go [] ys zs all e h = among-nil all
    go (x ∷ xs) ys zs all e none = let n : ◌≡◌ {A = ℕ} 0 1 = cc in absurd (omega arith)
    go (x ∷ xs) ys zs all e (left {all = rest} g h) = left g (go (x ∷ xs) ys zs rest e h)
    go (x ∷ xs) ys zs all e (taken {some = some} {all = rest} g h) =
        let p : g ≡ x = cc in
        let q : some ≡ xs ++ ys = cc in
        subst (λ (y : List Update). Among (y ∷ xs) (g ∷ rest)) p (taken g (go xs ys some rest q h))

-- committed transactions, then those that wait, are among the ended ones
abbrev Waits : List (List Update) → List (List Update) → List (List Update) → Type 0
Waits gs queue all = Among (gs ++ queue) all

-- an event that ends nothing and commits nothing
quiet : (gs queue all : List (List Update)) → Waits gs queue all → Waits (gs ++ []) queue (all ++ [])
quiet gs queue all h = rw (append-nil gs, append-nil all) h

forgets : (gs queue all : List (List Update)) → Waits gs queue all → Waits (gs ++ []) [] (all ++ [])
forgets gs queue all h = rw (append-nil gs, append-nil all, append-nil gs) (front gs queue h)

stepping : (gs all : List (List Update)) (b : Book) (queue : List (List Update)) → b.queue ≡ queue → Waits gs queue all
    → Waits (gs ++ leaving b.count queue) (stepped_over b queue).queue (all ++ [])
stepping gs all b [] e h = rw e (quiet gs [] all h)
stepping gs all b (g ∷ rest) e h = go (ltb (length g) (b.count + 1))
  where
    go : (c : Bool) → Waits (gs ++ cond c (g ∷ []) []) (cond {A = Book} c (committed b g rest) (counted b)).queue (all ++ [])
    go true = rw (append_assoc gs (g ∷ []) rest, append-nil all) h
    go false = rw e (quiet gs (g ∷ rest) all h)

accepted-call : (gs all : List (List Update)) (b : Book) → Waits gs b.queue all → (c : Call)
    → Waits (gs ++ leaving_by c b) (booked_by c b).queue (all ++ ending_by c b)
accepted-call gs all b h (opening frames staging) = forgets gs b.queue all h
accepted-call gs all b h (begin u) = quiet gs b.queue all h
accepted-call gs all b h (describe u) = quiet gs b.queue all h
accepted-call gs all b h ending =
    rw (append-nil gs, ← (append_assoc gs b.queue (b.list ∷ []))) (among-append h (taken b.list none))
accepted-call gs all b h log_step = stepping gs all b b.queue refl h
accepted-call gs all b h clean_step = quiet gs b.queue all h
accepted-call gs all b h (reading p) = quiet gs b.queue all h
accepted-call gs all b h (settling t) = quiet gs b.queue all h

refused-call : (gs all : List (List Update)) (b : Book) → Waits gs b.queue all → (c : Call) → Waits gs (entered c false b).queue all
refused-call gs all b h c = go (is_open c)
  where
    go : (o : Bool) → Waits gs (cond {A = Book} o (gone b) b).queue all
    go true = rw (append-nil gs) (front gs b.queue h)
    go false = h

on_call : (gs all : List (List Update)) (b : Book) → Waits gs b.queue all → (c : Call) (ok : Bool)
    → Waits (gs ++ commits_of c ok b) (entered c ok b).queue (all ++ ends_of c ok b)
on_call gs all b h c true = accepted-call gs all b h c
on_call gs all b h c false = quiet gs (entered c false b).queue all (refused-call gs all b h c)

-- after a cut nothing waits
refused-cut : (gs all : List (List Update)) (b : Book) → Waits gs b.queue all → (c : Call) → Waits gs (cut_at c false b).queue all
refused-cut gs all b h c = rw (append-nil gs) (front gs b.queue h)

stored_cut : (gs all : List (List Update)) (b : Book) → Waits gs b.queue all → (c : Call) → Waits (gs ++ leaving_by c b) [] all
stored_cut gs all b h (opening frames staging) = rw (append-nil gs, append-nil gs) (front gs b.queue h)
stored_cut gs all b h (begin u) = rw (append-nil gs, append-nil gs) (front gs b.queue h)
stored_cut gs all b h (describe u) = rw (append-nil gs, append-nil gs) (front gs b.queue h)
stored_cut gs all b h ending = rw (append-nil gs, append-nil gs) (front gs b.queue h)
stored_cut gs all b h log_step =
    rw (append-nil (gs ++ leaving b.count b.queue))
    (rw (append-nil all) at (front (gs ++ leaving b.count b.queue) (stepped b).queue (stepping gs all b b.queue refl h)))
stored_cut gs all b h clean_step = rw (append-nil gs, append-nil gs) (front gs b.queue h)
stored_cut gs all b h (reading p) = rw (append-nil gs, append-nil gs) (front gs b.queue h)
stored_cut gs all b h (settling t) = rw (append-nil gs, append-nil gs) (front gs b.queue h)

on-cut : (gs all : List (List Update)) (b : Book) → Waits gs b.queue all → (c : Call) (stored : Bool)
    → Waits (gs ++ commits_of c stored b) (cut_at c stored b).queue all
on-cut gs all b h c true = stored_cut gs all b h c
on-cut gs all b h c false = rw (append-nil gs) (refused-cut gs all b h c)

as-book : (gs all : List (List Update)) (b b' : Book) → b' ≡ b → Waits gs b.queue all → Waits gs b'.queue all
as-book gs all b b' e h = subst (λ (x : Book). Waits gs x.queue all) (sym e) h

waits : (by : Steps) (z : Sizes) (w : World) (b : Book) (run : Run by z w b) → Waits (committed_by run) b.queue (ended_by run)
unfolding committed_by ended_by
waits by z w b (formatted log log' home frames staging a l h f e q) = as-book [] [] (blank home) b q none
waits by z w b (called {world = w₀} {book = b₀} c a run l st e) =
    as-book (committed_by run ++ commits_of c (accepts a) b₀) (ended_by run ++ ends_of c (accepts a) b₀) (entered c (accepts a) b₀) b e
    (on_call (committed_by run) (ended_by run) b₀ (waits by z w₀ b₀ run) c (accepts a))
waits by z w b (unfit {world = w₀} {book = b₀} c a lent lent' run s st r e q) =
    as-book (committed_by run) (ended_by run) (entered c false b₀) b q (refused-call (committed_by run) (ended_by run) b₀ (waits by z w₀ b₀ run) c)
waits by z w b (cut {world = w₀} {book = b₀} c a w' stored frames staging run l st e q) =
    as-book (committed_by run ++ commits_of c (both stored (accepts a)) b₀) (ended_by run) (cut_at c (both stored (accepts a)) b₀) b q
    (on-cut (committed_by run) (ended_by run) b₀ (waits by z w₀ b₀ run) c (both stored (accepts a)))
waits by z w b (cut_unfit {world = w₀} {book = b₀} c a lent lent' frames staging run s st r e q) =
    as-book (committed_by run) (ended_by run) (cut_at c false b₀) b q (refused-cut (committed_by run) (ended_by run) b₀ (waits by z w₀ b₀ run) c)

-- ---- a cut that commits nothing leaves the pages
pages-booked : (c : Call) (b : Book) → leaving_by c b ≡ [] → (p : ℕ) → (booked_by c b).pages p ≡ b.pages p
pages-booked (opening frames staging) b e p = refl
pages-booked (begin u) b e p = refl
pages-booked (describe u) b e p = refl
pages-booked ending b e p = refl
pages-booked log_step b e p = go b.queue e
  where
    one : (g : List Update) (rest : List (List Update)) (c : Bool) → cond c (g ∷ []) [] ≡ [] → (cond {A = Book} c (committed b g rest) (counted b)).pages p ≡ b.pages p
    one g rest true e = let n : ◌≡◌ {A = ℕ} 0 1 = cc in absurd (omega arith)
    one g rest false e = refl

    go : (queue : List (List Update)) → leaving b.count queue ≡ [] → (stepped_over b queue).pages p ≡ b.pages p
    go [] e = refl
    go (g ∷ rest) e = one g rest (ltb (length g) (b.count + 1)) e
pages-booked clean_step b e p = refl
pages-booked (reading q) b e p = refl
pages-booked (settling t) b e p = refl

pages-cut : (c : Call) (stored : Bool) (b : Book) → commits_of c stored b ≡ [] → (p : ℕ) → (cut_at c stored b).pages p ≡ b.pages p
pages-cut c true b e p = pages-booked c b e p
pages-cut c false b e p = refl

-- Open, accepted or refused
gone-either : (ok : Bool) (b : Book) → gone b ≡ cond ok (gone b) (gone b)
gone-either true b = refl
gone-either false b = refl

module _ (by : Steps) (r : Refines by) where
  pub every-reply : EveryReply by
  unfolding RepliesRight
  every-reply z range w b (formatted log log' home frames staging a l h f e q) = tt
  every-reply z range w b (called {world = w₀} {book = b₀} c a run l st e) =
      (λ ok. (demand-three-by by r z range w₀ b₀ run).answers c a w l st ok, every-reply z range w₀ b₀ run)
  every-reply z range w b (unfit {world = w₀} {book = b₀} c a lent lent' run same st x e q) = every-reply z range w₀ b₀ run
  every-reply z range w b (cut {world = w₀} {book = b₀} c a w' stored frames staging run l st e q) = every-reply z range w₀ b₀ run
  every-reply z range w b (cut_unfit {world = w₀} {book = b₀} c a lent lent' frames staging run same st x e q) = every-reply z range w₀ b₀ run

  pub stays-settled : StaysSettled by
  stays-settled z range w b run t h w' b' run' more a w'' st ok =
      (demand-three-by by r z range w' b' run').answers (settling t) a w'' tt st ok
      ∙ ap says (le-leb t b'.m (omega (arith, m-grows more)))

  pub opens-alike : OpensAlike by
  opens-alike z range w b run frames staging frames' staging' a a' w' w'' l st l' st' p h x y last last' rd rd' =
      let safe = demand-three-by by r z range w b run in
      let e : a ≡ _ = safe.opens frames staging a w' l st in
      let run' : Run by z w' (gone b) = called (opening frames staging) a run l st (gone-either (accepts a) b) in
      let safe' = demand-three-by by r z range w' (gone b) run' in (
        e ∙ sym (safe'.opens frames' staging' a' w'' l' st'),
        safe.reads frames staging a w' l st p x last h rd ∙ sym (safe'.reads frames' staging' a' w'' l' st' p y last' h rd'),
      )

  pub no-trace : NoTrace by
  no-trace z range w b run c a w' stored frames staging l st quiet-cut frames' staging' o after l' st' p h x last rd =
      let run' = cut c a w' stored frames staging run l st refl refl in
      (demand-three-by by r z range _ _ run').reads frames' staging' o after l' st' p x last h rd
      ∙ ap shows (pages-cut c (both stored (accepts a)) b quiet-cut p)

  pub all-or-nothing : AllOrNothing by
  all-or-nothing z range w b run frames staging a w' l st p q hp hq x y w'' w''' rd rd' =
      let safe = demand-three-by by r z range w b run in
      let k = book-accounts by z w b run in
      record {
        transactions = committed_by run;
        of_the_desk = front (committed_by run) b.queue (waits by z w b run);
        first = safe.reads frames staging a w' l st p x w'' hp rd ∙ ap shows (k.pages_are p);
        second = safe.reads frames staging a w' l st q y w''' hq rd' ∙ ap shows (k.pages_are q);
      }
