-- What every block of a history obeys: it stands where it may, its keep-from is the one that the layout's rule gives, and it leaves room.
-- The rule is said of the pages' views, not of anybody's list of dirty pages.
use mathlib.Core.Path.{◌≡◌, sym, ap, ◌∙◌, subst₂}
use Prim.Native.Nat.{ℕ, suc, ◌+◌, ◌-◌, ◌≤◌, ◌<◌}
use native.Mathlib.Omega.{arith}
use mathlib.Core.Bool.{cond}
use mathlib.Core.List.{List, [], ◌∷◌, ◌++◌}
use lib.ListN.{length, take, get_or, length-append, get_or-append}
use lib.Seq.{take-append-le, take-append_seam, get_or-append_seam}
use lib.Dec.{eqb}
use Rattle.promises.specs.Blocks.{Kind, update, commit, clean, LogBlock, no_block}
use Rattle.promises.proofs.History.Views.{View}
use Rattle.promises.proofs.History.Sees.{by-eq}
use Rattle.promises.proofs.History.WalkStart.{commits}
use Rattle.promises.proofs.History.Tally.{tally, is_dirty}
use Rattle.promises.proofs.History.Invariant.{view}
use Rattle.promises.proofs.History.Accepted.{Right}
use Rattle.promises.proofs.History.KeepFrom.{least_of}

-- what a block counts beside the dirty pages: an update or commit its own group's start, a clean its own sequence
abbrev pub own_in : ℕ → Kind → View → ℕ
own_in j (update i u) t = cond (eqb i 1) j t.start
own_in j (commit n) t = t.start
own_in j (clean q) t = j

-- block x after the blocks xs
pub record Rules (N F P : ℕ) (xs : List LogBlock) (x : LogBlock) : Type 0 where
  pub right : Right F P (length xs + 1) (commits xs) (view xs) x.kind x.ticket
  pub keep : x.keep_from ≡ least_of P (own_in (length xs + 1) x.kind (view xs 0)) (λ p. (view (xs ++ (x ∷ [])) p).page)
  pub room : length xs + 2 - x.keep_from + tally P (λ p. is_dirty (view (xs ++ (x ∷ [])) p).page) ≤ N

-- every block from base on
abbrev pub Ruled : (N F P base : ℕ) → List LogBlock → Type 0
Ruled N F P base history = (i : ℕ) → i < length history → base ≤ i + 1 → Rules N F P (take i history) (get_or history i no_block)

pub ruled-none : (N F P base : ℕ) → Ruled N F P base []
ruled-none N F P base i h l = absurd (omega arith)

pub ruled-snoc : (N F P base : ℕ) (history : List LogBlock) (x : LogBlock) → Ruled N F P base history → Rules N F P history x → Ruled N F P base (history ++ (x ∷ []))
ruled-snoc N F P base history x r s i h l = by-eq i (length history)
    (λ e. subst₂ (λ (xs : List LogBlock) (y : LogBlock). Rules N F P xs y)
    (sym (ap (λ (n : ℕ). take n (history ++ (x ∷ []))) e ∙ take-append_seam history (x ∷ [])))
    (sym (ap (λ (n : ℕ). get_or (history ++ (x ∷ [])) n no_block) e ∙ get_or-append_seam history x [] no_block)) s)
    (λ n. let lt : i < length history = omega (arith, length-append history (x ∷ [])) in
    subst₂ (λ (xs : List LogBlock) (y : LogBlock). Rules N F P xs y)
    (sym (take-append-le i history (x ∷ []) (omega arith))) (sym (get_or-append history (x ∷ []) no_block i lt)) (r i lt l))

-- the block after xs
pub ruled-at : (N F P base : ℕ) (history xs : List LogBlock) (x : LogBlock) (ys : List LogBlock) → Ruled N F P base history → history ≡ xs ++ (x ∷ ys) → base ≤ length xs + 1
    → Rules N F P xs x
ruled-at N F P base history xs x ys r e l =
    let ln : length history ≡ length xs + suc (length ys) = ap length e ∙ length-append xs (x ∷ ys) in
    subst₂ (λ (zs : List LogBlock) (y : LogBlock). Rules N F P zs y)
    (ap (take (length xs)) e ∙ take-append_seam xs (x ∷ ys))
    (ap (λ (zs : List LogBlock). get_or zs (length xs) no_block) e ∙ get_or-append_seam xs x ys no_block)
    (r (length xs) (omega arith) l)
