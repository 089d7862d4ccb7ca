-- The copy's claims for every way of stepping that keeps the promises.
-- Assumes nothing.
use mathlib.Core.Path.{◌≡◌, refl, sym, ap, ◌∙◌, subst}
use mathlib.Core.Logic.{⊎_elim, inl, inr}
use mathlib.Core.List.{List, ◌∷◌, ◌++◌}
use Rattle.promises.specs.Blocks.{LogBlock}
use Rattle.promises.specs.Book.{Book}
use Rattle.promises.specs.Events.{Sizes, World, reading}
use Rattle.promises.specs.Claim.{Steps, promised, Run, formatted, called, unfit, cut, cut_unfit, both}
use Rattle.promises.specs.Corollaries.{Begins, itself, by_call, by_unfit, by_cut, by_cut_unfit}
use Rattle.promises.specs.Stored.{stored_in, stored_by}
use Rattle.promises.specs.Copy.{took_all, made_from, CopyCall, opens, feeds, reads, asks, CopySteps, CopyStep, copy_promised, CopyRun, made, copy_called, copy_unfit, copy_cut, copy_cut_unfit, book_of, CopySafe, CopyClaim, Agreement, KeepsUp, InOurLog}
use Rattle.promises.proofs.Refines.{Refines, as-promised}
use Rattle.promises.proofs.CopyClaims.{copy-demand, agrees}
use Rattle.promises.proofs.CopyKeepsUp.{keeps-up, in-our-log}
use Rattle.promises.specs.Answers.{Reply, accepts}

-- every step of these is one that the promises allow
pub record CopyRefines (copy_by : CopySteps) : Type 0 where
  pub steps : (call : CopyCall) (world : World) (reply : Reply) (world' : World) → copy_by.steps call world reply world' → CopyStep call world reply world'

module _ (by : Steps) (r : Refines by) where
  -- it stores the same blocks
  same-stored : (z : Sizes) (w : World) (b : Book) (run : Run by z w b) → stored_by (as-promised by r z w b run) ≡ stored_by run
  unfolding stored_by as-promised
  same-stored z w b (formatted log log' home frames staging a l h f e q) = refl
  same-stored z w b (called {world = w₀} {book = b₀} c a run l st e) = ap (λ (x : List LogBlock). x ++ stored_in z c (accepts a) w₀ w) (same-stored z w₀ b₀ run)
  same-stored z w b (unfit {world = w₀} {book = b₀} c a lent lent' run same st x e q) = same-stored z w₀ b₀ run
  same-stored z w b (cut {world = w₀} {book = b₀} c a w' stored frames staging run l st e q) =
      ap (λ (x : List LogBlock). x ++ stored_in z c (both stored (accepts a)) w₀ w') (same-stored z w₀ b₀ run)
  same-stored z w b (cut_unfit {world = w₀} {book = b₀} c a lent lent' frames staging run same st x e q) = same-stored z w₀ b₀ run

  -- and goes on as it does
  begins-as : {z : Sizes} {w : World} {b : Book} {run : Run by z w b} {w' : World} {b' : Book} {run' : Run by z w' b'} → Begins run w' b' run'
      → Begins (as-promised by r z w b run) w' b' (as-promised by r z w' b' run')
  unfolding as-promised
  begins-as itself = itself
  begins-as (by_call {before = w₁} {after = w₂} s c a l st e) = by_call (begins-as s) c a l (r.steps c w₁ a w₂ st) e
  begins-as (by_unfit s c a lent lent' same st x w e) = by_unfit (begins-as s) c a lent lent' same (r.steps c lent a lent' st) x w e
  begins-as (by_cut {before = w₁} s c a w' stored frames staging l st w e) = by_cut (begins-as s) c a w' stored frames staging l (r.steps c w₁ a w' st) w e
  begins-as (by_cut_unfit s c a lent lent' frames staging same st x w e) = by_cut_unfit (begins-as s) c a lent lent' frames staging same (r.steps c lent a lent' st) x w e

  pub in-our-log-by : InOurLog by
  in-our-log-by z in_range w b run xs x rest e h = in-our-log z in_range w b (as-promised by r z w b run) xs x rest (same-stored z w b run ∙ e) h

  module _ (copy_by : CopySteps) (c : CopyRefines copy_by) where
    as-copied : (z : Sizes) {origin : World} {book : Book} (run : Run by z origin book) (w : World) (blocks : List LogBlock) → CopyRun by copy_by z run w blocks
        → CopyRun promised copy_promised z (as-promised by r z origin book run) w blocks
    as-copied z run w blocks (made frames e q) = made frames e q
    as-copied z run w blocks (copy_called {world = w₀} {blocks = blocks₀} call a k l st e) = copy_called call a (as-copied z run w₀ blocks₀ k) l (c.steps call w₀ a w st) e
    as-copied z run w blocks (copy_unfit {world = w₀} call a lent lent' k same st x e) = copy_unfit call a lent lent' (as-copied z run w₀ blocks k) same (c.steps call lent a lent' st) x e
    as-copied z run w blocks (copy_cut {world = w₀} {blocks = blocks₀} call a w' stored frames k l st e q) =
        copy_cut call a w' stored frames (as-copied z run w₀ blocks₀ k) l (c.steps call w₀ a w' st) e q
    as-copied z run w blocks (copy_cut_unfit {world = w₀} call a lent lent' frames k same st x e) =
        copy_cut_unfit call a lent lent' frames (as-copied z run w₀ blocks k) same (c.steps call lent a lent' st) x e

    same-book : (z : Sizes) {origin : World} {book : Book} (run : Run by z origin book) (blocks : List LogBlock) → book_of (as-promised by r z origin book run) blocks ≡ book_of run blocks
    same-book z {origin} {book} run blocks = ap (λ (x : List LogBlock). took_all blocks (made_from book x)) (same-stored z origin book run)

    pub copy-demand-by : CopyClaim by copy_by
    copy-demand-by z in_range origin book run w blocks k =
        let safe : CopySafe copy_promised z w (book_of run blocks) = subst (CopySafe copy_promised z w) (same-book z run blocks)
        (copy-demand z in_range origin book (as-promised by r z origin book run) w blocks (as-copied z run w blocks k)) in
        record {
          opens_right = λ frames a w' l st. safe.opens_right frames a w' l (c.steps (opens frames) w a w' st);
          reads_right = λ frames a w' l st p x w'' h rd. safe.reads_right frames a w' l (c.steps (opens frames) w a w' st) p x w'' h (c.steps (reads p) w' x w'' rd);
          shows_right = λ p x w' rd ok. safe.shows_right p x w' (c.steps (reads p) w x w' rd) ok;
          says_right = λ t x w' st ok. safe.says_right t x w' (c.steps (asks t) w x w' st) ok;
        }

    pub agrees-by : Agreement by copy_by
    agrees-by z in_range origin book run origin' book' run' begins w blocks k ours nw p a x w₁ w₂ rd ok st ok' =
        agrees z in_range origin book (as-promised by r z origin book run) origin' book' (as-promised by r z origin' book' run') (begins-as begins) w blocks (as-copied z run w blocks k)
        (λ n h. rw (same-stored z origin book run, same-stored z origin' book' run') (ours n h)) nw p a x w₁ w₂ (r.steps (reading p) origin' a w₁ rd) ok (c.steps (reads p) w x w₂ st) ok'

    pub keeps-up-by : KeepsUp by copy_by
    keeps-up-by z in_range origin book run origin' book' run' begins w blocks k so x rest e bytes ln fs a w₁ st =
        let es = same-stored z origin book run in
        let r1 = keeps-up z in_range origin book (as-promised by r z origin book run) origin' book' (as-promised by r z origin' book' run') (begins-as begins) w blocks (as-copied z run w blocks k) so x rest
        (same-stored z origin' book' run' ∙ e ∙ ap (λ (y : List LogBlock). (y ++ blocks) ++ (x ∷ rest)) (sym es)) bytes ln (rw es fs) a w₁ (c.steps (feeds bytes) w a w₁ st) in
        ⊎_elim inl (λ f. inr (f.0, λ a₂ w₂ st₂. ⊎_elim inl (λ g. inr (g.0, λ a₃ w₃ st₃. g.1 a₃ w₃ (c.steps (feeds bytes) w₂ a₃ w₃ st₃))) (f.1 a₂ w₂ (c.steps (feeds bytes) w₁ a₂ w₂ st₂)))) r1
