-- The crash theorem for every way of stepping that keeps the promises: what a caller learns of the code, for one.
-- Assumes nothing.
use mathlib.Core.Path.{◌≡◌, refl, ap}
use mathlib.Core.List.{List, ◌++◌}
use Prim.Native.Nat.{ℕ}
use Rattle.std.specs.Prelude.{Result}
use Rattle.promises.specs.declared.Refusal.{Refusal}
use Rattle.promises.specs.Format.{Formats}
use Rattle.promises.specs.Book.{Book}
use Rattle.promises.specs.Blocks.{LogBlock}
use Rattle.promises.specs.Events.{Sizes, World, Call, opening, reading, Step}
use Rattle.promises.specs.Answers.{Reply, accepts}
use Rattle.promises.specs.Claim.{Steps, promised, Run, formatted, called, unfit, cut, cut_unfit, both, Claim}
use Rattle.promises.specs.Stored.{stored_in, stored_by}
use Rattle.promises.proofs.Demand3.{demand-three}

-- every step of these is one that the promises allow
pub record Refines (by : Steps) : Type 0 where
  pub formats : (log : List ℕ) (answer : Result (Unit {0}) Refusal) (log' : List ℕ) → by.formats log answer log' → Formats log answer log'
  pub steps : (call : Call) (world : World) (reply : Reply) (world' : World) → by.steps call world reply world' → Step call world reply world'

module _ (by : Steps) (r : Refines by) where
  -- a run by these steps is one by the promises
  unfoldable pub as-promised : (z : Sizes) (w : World) (b : Book) → Run by z w b → Run promised z w b
  as-promised z w b (formatted log log' home frames staging a l h f e q) = formatted log log' home frames staging a l h (r.formats log a log' f) e q
  as-promised z w b (called {world = w₀} {book = b₀} c a run l st e) = called c a (as-promised z w₀ b₀ run) l (r.steps c w₀ a w st) e
  as-promised z w b (unfit {world = w₀} {book = b₀} c a lent lent' run same st x e q) =
      unfit c a lent lent' (as-promised z w₀ b₀ run) same (r.steps c lent a lent' st) x e q
  as-promised z w b (cut {world = w₀} {book = b₀} c a w' stored frames staging run l st e q) =
      cut c a w' stored frames staging (as-promised z w₀ b₀ run) l (r.steps c w₀ a w' st) e q
  as-promised z w b (cut_unfit {world = w₀} {book = b₀} c a lent lent' frames staging run same st x e q) =
      cut_unfit c a lent lent' frames staging (as-promised z w₀ b₀ run) same (r.steps c lent a lent' st) x e q

  -- and stores the same blocks
  pub same-stored : (z : Sizes) (w : World) (b : Book) (run : Run by z w b) → stored_by (as-promised z w b run) ≡ stored_by run
  unfolding as-promised stored_by
  same-stored z w b (formatted log log' home frames staging a l h f e q) = refl
  same-stored z w b (called {world = w₀} {book = b₀} c a run l st e) = ap (λ (xs : List LogBlock). xs ++ stored_in z c (accepts a) w₀ w) (same-stored z w₀ b₀ run)
  same-stored z w b (unfit {world = w₀} {book = b₀} c a lent lent' run same st x e q) = same-stored z w₀ b₀ run
  same-stored z w b (cut {world = w₀} {book = b₀} c a w' stored frames staging run l st e q) =
      ap (λ (xs : List LogBlock). xs ++ stored_in z c (both stored (accepts a)) w₀ w') (same-stored z w₀ b₀ run)
  same-stored z w b (cut_unfit {world = w₀} {book = b₀} c a lent lent' frames staging run same st x e q) = same-stored z w₀ b₀ run

  pub demand-three-by : Claim by
  demand-three-by z range w b run =
      let safe = demand-three z range w b (as-promised z w b run) in
      record {
        answers = λ c a w' l st ok. safe.answers c a w' l (r.steps c w a w' st) ok;
        opens = λ frames staging a w' l st. safe.opens frames staging a w' l (r.steps (opening frames staging) w a w' st);
        reads = λ frames staging a w' l st p x w'' h rd.
            safe.reads frames staging a w' l (r.steps (opening frames staging) w a w' st) p x w'' h (r.steps (reading p) w' x w'' rd);
      }
