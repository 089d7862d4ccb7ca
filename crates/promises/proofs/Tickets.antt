-- The t-th committed transaction is a list that an End gave ticket t: what is committed and queued grows at its end only.
-- Assumes nothing.
use mathlib.Core.Path.{◌≡◌, refl, sym, ap, ◌∙◌}
use mathlib.Core.Logic.{◌⊎◌, inl, inr, ⊎_elim}
use mathlib.Core.Bool.{Bool, true, false, cond}
use Prim.Native.Nat.{ℕ, ◌+◌}
use mathlib.Core.List.{List, [], ◌∷◌, ◌++◌, append_assoc, append-nil}
use native.Mathlib.Omega.{arith}
use lib.ListN.{length, length-append}
use lib.Dec.{ltb}
use Rattle.promises.specs.Updates.{Update}
use Rattle.promises.specs.Book.{Book, blank, counted, committed, stepped_over, gone}
use Rattle.promises.specs.Answers.{Reply, gives, accepts}
use Rattle.promises.specs.Events.{Sizes, World, Call, opening, begin, describe, ending, log_step, clean_step, reading, settling}
use Rattle.promises.specs.Claim.{
  Steps,
  booked_by,
  is_open,
  entered,
  cut_at,
  both,
  Run,
  formatted,
  called,
  unfit,
  cut,
  cut_unfit,
  leaving,
  leaving_by,
  commits_of,
  committed_by,
  InRange,
}
use Rattle.promises.specs.Corollaries.{Gave, TicketsInOrder}
use Rattle.promises.proofs.Accounts.{book-accounts}
use Rattle.promises.proofs.Replies.{no-accept}
use Rattle.promises.proofs.Refines.{Refines, demand-three-by}

-- ---- lists of lists

-- an element of a list with one more at its end is one of the list, or the last
snoc-split : (xs : List (List Update)) (l : List Update) (before : List (List Update)) (x : List Update) (after : List (List Update))
    → xs ++ (l ∷ []) ≡ before ++ (x ∷ after) → ((rest : List (List Update)) × (xs ≡ before ++ (x ∷ rest))) ⊎ ((before ≡ xs) × (x ≡ l))
snoc-split [] l [] x after e = let h : x ≡ l = cc in inr (refl, h)
snoc-split [] l (b ∷ before) x after e =
    let t : [] ≡ before ++ (x ∷ after) = cc in
    absurd (omega (arith, ap length t, length-append before (x ∷ after)))
snoc-split (y ∷ xs) l [] x after e = let h : y ≡ x = cc in inl (xs, ap (λ (z : List Update). z ∷ xs) h)
snoc-split (y ∷ xs) l (b ∷ before) x after e =
    let h : y ≡ b = cc in
    let t : xs ++ (l ∷ []) ≡ before ++ (x ∷ after) = cc in
    ⊎_elim
    (λ (p : (rest : List (List Update)) × (xs ≡ before ++ (x ∷ rest))). inl (p.0, ap (λ (z : List Update). z ∷ xs) h ∙ ap (λ (zs : List (List Update)). b ∷ zs) p.1))
    (λ (p : (before ≡ xs) × (x ≡ l)). inr (ap (λ (z : List Update). z ∷ before) (sym h) ∙ ap (λ (zs : List (List Update)). y ∷ zs) p.0, p.1))
    (snoc-split xs l before x after t)

-- ---- what is committed and queued, before and after

-- all is there again, and perhaps more behind it
abbrev Front : List (List Update) → List (List Update) → Type 0
Front some all = (rest : List (List Update)) × (all ≡ some ++ rest)

same : (gs queue : List (List Update)) → Front ((gs ++ []) ++ queue) (gs ++ queue)
same gs queue = ([], rw (append-nil gs) (sym (append-nil (gs ++ queue))))

lost : (gs queue : List (List Update)) → Front ((gs ++ []) ++ []) (gs ++ queue)
lost gs queue = (queue, rw (append-nil gs, append-nil gs))

stepping : (gs : List (List Update)) (b : Book) (queue : List (List Update)) → b.queue ≡ queue
    → Front ((gs ++ leaving b.count queue) ++ (stepped_over b queue).queue) (gs ++ queue)
stepping gs b [] e = ([], rw (e, append-nil gs, append-nil gs, append-nil gs))
stepping gs b (g ∷ rest) e = go (ltb (length g) (b.count + 1))
  where
    go : (c : Bool) → Front ((gs ++ cond c (g ∷ []) []) ++ (cond {A = Book} c (committed b g rest) (counted b)).queue) (gs ++ (g ∷ rest))
    go true = ([], rw (append-nil ((gs ++ (g ∷ [])) ++ rest), append_assoc gs (g ∷ []) rest))
    go false = ([], rw (append-nil gs, e, append-nil (gs ++ (g ∷ rest))))

-- any accepted call but End
booked : (gs : List (List Update)) (b : Book) (c : Call) → (c ≡ ending → ⊥) → Front ((gs ++ leaving_by c b) ++ (booked_by c b).queue) (gs ++ b.queue)
booked gs b (opening frames staging) n = lost gs b.queue
booked gs b (begin u) n = same gs b.queue
booked gs b (describe u) n = same gs b.queue
booked gs b ending n = absurd (n refl)
booked gs b log_step n = stepping gs b b.queue refl
booked gs b clean_step n = same gs b.queue
booked gs b (reading p) n = same gs b.queue
booked gs b (settling t) n = same gs b.queue

-- a call, accepted but for End, or refused
entered-front : (gs : List (List Update)) (b : Book) (c : Call) (ok : Bool) → (ok ≡ true → c ≡ ending → ⊥)
    → Front ((gs ++ commits_of c ok b) ++ (entered c ok b).queue) (gs ++ b.queue)
entered-front gs b c true n = booked gs b c (n refl)
entered-front gs b c false n = go (is_open c)
  where
    go : (o : Bool) → Front ((gs ++ []) ++ (cond {A = Book} o (gone b) b).queue) (gs ++ b.queue)
    go true = lost gs b.queue
    go false = same gs b.queue

-- a cut: what it committed was the oldest that was queued
cut-front : (gs : List (List Update)) (b : Book) (c : Call) (ok : Bool) → Front ((gs ++ commits_of c ok b) ++ []) (gs ++ b.queue)
cut-front gs b c false = lost gs b.queue
cut-front gs b c true = by c
  where
    shorter : (some queue all : List (List Update)) → Front (some ++ queue) all → Front (some ++ []) all
    shorter some queue all f = (queue ++ f.0, f.1 ∙ append_assoc some queue f.0 ∙ ap (λ (x : List (List Update)). x ++ (queue ++ f.0)) (sym (append-nil some)))

    by : (c : Call) → Front ((gs ++ leaving_by c b) ++ []) (gs ++ b.queue)
    by (opening frames staging) = lost gs b.queue
    by (begin u) = lost gs b.queue
    by (describe u) = lost gs b.queue
    by ending = lost gs b.queue
    by log_step = shorter (gs ++ leaving_by log_step b) (booked_by log_step b).queue (gs ++ b.queue) (booked gs b log_step (λ e. let z : ◌≡◌ {A = ℕ} 0 1 = cc in absurd (omega arith)))
    by clean_step = lost gs b.queue
    by (reading p) = lost gs b.queue
    by (settling t) = lost gs b.queue

-- ---- every run

-- each list that is committed or queued got its place as its ticket
abbrev Given : {by : Steps} {z : Sizes} {w : World} {b : Book} → Run by z w b → List (List Update) → Type 0
Given run all = (before after : List (List Update)) (list : List Update) → all ≡ before ++ (list ∷ after) → Gave (length before + 1) list run

-- of fewer lists, where those in front stay
fewer : {by : Steps} {z : Sizes} {w : World} {b : Book} (run : Run by z w b) (some all : List (List Update)) → Front some all → Given run all → Given run some
fewer run some all f g before after list e =
    g before (after ++ f.0) list (f.1 ∙ ap (λ (x : List (List Update)). x ++ f.0) e ∙ append_assoc before (list ∷ after) f.0)

module _ (by : Steps) (r : Refines by) (z : Sizes) (range : InRange z) where
  -- one call more
  module _ (w w' : World) (b : Book) (run : Run by z w b) (ih : Given run (committed_by run ++ b.queue)) (a : Reply) where
    -- this call is an End that gave the ticket, or an earlier one was
    abbrev Now : Call → ℕ → List Update → Type 0
    Now c ticket list = ((c ≡ ending) × (a ≡ gives ticket) × (b.list ≡ list)) ⊎ Gave ticket list run

    earlier : (c : Call) (some : List (List Update)) → Front some (committed_by run ++ b.queue) → (before after : List (List Update)) (list : List Update)
        → some ≡ before ++ (list ∷ after) → Now c (length before + 1) list
    earlier c some f before after list e = inr (fewer run some (committed_by run ++ b.queue) f ih before after list e)

    -- an accepted End: the last is its list
    ends : by.steps ending w a w' → accepts a ≡ true → (before after : List (List Update)) (list : List Update)
        → (committed_by run ++ []) ++ (b.queue ++ (b.list ∷ [])) ≡ before ++ (list ∷ after) → Now ending (length before + 1) list
    ends st ok before after list e =
        let gs : List (List Update) = committed_by run in
        let k : (gs ++ b.queue) ++ (b.list ∷ []) ≡ before ++ (list ∷ after) =
        append_assoc gs b.queue (b.list ∷ []) ∙ ap (λ (x : List (List Update)). x ++ (b.queue ++ (b.list ∷ []))) (sym (append-nil gs)) ∙ e in
        let reply = (demand-three-by by r z range w b run).answers ending a w' tt st ok in
        let counts = (book-accounts by z w b run).counts in
        ⊎_elim
        (λ (p : (rest : List (List Update)) × (gs ++ b.queue ≡ before ++ (list ∷ rest))). inr (ih before p.0 list p.1))
        (λ (p : (before ≡ gs ++ b.queue) × (list ≡ b.list)). inl (
          refl,
          reply ∙ ap gives (omega (arith, counts, ap length p.0, length-append gs b.queue, length-append b.queue (b.list ∷ []))),
          sym p.1,
        ))
        (snoc-split (gs ++ b.queue) b.list before list after k)

    one : (c : Call) → by.steps c w a w' → (ok : Bool) → accepts a ≡ ok → (before after : List (List Update)) (list : List Update)
        → (committed_by run ++ commits_of c ok b) ++ (entered c ok b).queue ≡ before ++ (list ∷ after) → Now c (length before + 1) list
    one c st false o = earlier c ((committed_by run ++ []) ++ (entered c false b).queue) (entered-front (committed_by run) b c false (λ x y. no-accept x))
    one (opening f s) st true o = earlier (opening f s) ((committed_by run ++ []) ++ []) (lost (committed_by run) b.queue)
    one (begin u) st true o = earlier (begin u) ((committed_by run ++ []) ++ b.queue) (same (committed_by run) b.queue)
    one (describe u) st true o = earlier (describe u) ((committed_by run ++ []) ++ b.queue) (same (committed_by run) b.queue)
    one ending st true o = ends st o
    one log_step st true o = earlier log_step ((committed_by run ++ leaving b.count b.queue) ++ (stepped_over b b.queue).queue) (stepping (committed_by run) b b.queue refl)
    one clean_step st true o = earlier clean_step ((committed_by run ++ []) ++ b.queue) (same (committed_by run) b.queue)
    one (reading p) st true o = earlier (reading p) ((committed_by run ++ []) ++ b.queue) (same (committed_by run) b.queue)
    one (settling t) st true o = earlier (settling t) ((committed_by run ++ []) ++ b.queue) (same (committed_by run) b.queue)

  queue-by : (gs : List (List Update)) (b b' : Book) → b' ≡ b → gs ++ b.queue ≡ gs ++ b'.queue
  queue-by gs b b' e = ap (λ (x : Book). gs ++ x.queue) (sym e)

  given : (w : World) (b : Book) (run : Run by z w b) → Given run (committed_by run ++ b.queue)
  unfolding committed_by Gave
  given w b (formatted log log' home frames staging a l h f e q) before after list k =
      absurd (omega (arith, ap length (queue-by [] (blank home) b q ∙ k), length-append before (list ∷ after)))
  given w b (called {world = w₀} {book = b₀} c a run l st e) before after list k =
      one w₀ w b₀ run (given w₀ b₀ run) a c st (accepts a) refl before after list
      (queue-by (committed_by run ++ commits_of c (accepts a) b₀) (entered c (accepts a) b₀) b e ∙ k)
  given w b (unfit {world = w₀} {book = b₀} c a lent lent' run s st x e q) before after list k =
      fewer run ((committed_by run ++ []) ++ (entered c false b₀).queue) (committed_by run ++ b₀.queue)
      (entered-front (committed_by run) b₀ c false (λ x y. no-accept x)) (given w₀ b₀ run) before after list
      (ap (λ (gs : List (List Update)). gs ++ (entered c false b₀).queue) (append-nil (committed_by run)) ∙ queue-by (committed_by run) (entered c false b₀) b q ∙ k)
  given w b (cut {world = w₀} {book = b₀} c a w' stored frames staging run l st e q) before after list k =
      fewer run ((committed_by run ++ commits_of c (both stored (accepts a)) b₀) ++ []) (committed_by run ++ b₀.queue)
      (cut-front (committed_by run) b₀ c (both stored (accepts a))) (given w₀ b₀ run) before after list
      (queue-by (committed_by run ++ commits_of c (both stored (accepts a)) b₀) (cut_at c (both stored (accepts a)) b₀) b q ∙ k)
  given w b (cut_unfit {world = w₀} {book = b₀} c a lent lent' frames staging run s st x e q) before after list k =
      fewer run ((committed_by run ++ []) ++ []) (committed_by run ++ b₀.queue) (lost (committed_by run) b₀.queue) (given w₀ b₀ run) before after list
      (ap (λ (gs : List (List Update)). gs ++ []) (append-nil (committed_by run)) ∙ queue-by (committed_by run) (cut_at c false b₀) b q ∙ k)

pub tickets-in-order : (by : Steps) → Refines by → TicketsInOrder by
tickets-in-order by r z range w b run before after list e =
    given by r z range w b run before (after ++ b.queue) list (ap (λ (gs : List (List Update)). gs ++ b.queue) e ∙ append_assoc before (list ∷ after) b.queue)
