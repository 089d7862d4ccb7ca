-- The log as a list of blocks, block s at place s - 1, and what it says of one page.
use Prim.Native.Nat.{ℕ, suc}
use mathlib.Core.Bool.{cond}
use mathlib.Core.List.{List, [], ◌∷◌, ◌++◌}
use lib.Dec.{eqb}
use Rattle.promises.specs.Updates.{of_page}
use Rattle.promises.specs.Blocks.{Kind, update, commit, clean, LogBlock}
use Rattle.promises.specs.Updates.{Update}

-- a page: tidy, or dirty with its first group and the committed updates since its last cleaning
pub data Page : Type 0 where
  tidy : Page
  dirty : ℕ → List Update → Page

abbrev pub updates_of : Page → List Update
updates_of tidy = []
updates_of (dirty f us) = us

pub record View : Type 0 where
  pub group : List Update
  pub start : ℕ
  pub page : Page

abbrev pub no_view : View
no_view = record { group = []; start = 0; page = tidy }

unfoldable pub committed_over : ℕ → List Update → Page → Page
committed_over s [] c = c
committed_over s (u ∷ us) tidy = dirty s (u ∷ us)
committed_over s (u ∷ us) (dirty f vs) = dirty f (vs ++ (u ∷ us))

-- block j, of page p's view
unfoldable pub view_block : ℕ → ℕ → Kind → View → View
view_block p j (update i u) t = cond (eqb i 1)
    (record { group = u ∷ []; start = j; page = t.page })
    (record { group = t.group ++ (u ∷ []); start = t.start; page = t.page })
view_block p j (commit n) t = record { group = []; start = 0; page = committed_over t.start (of_page p t.group) t.page }
view_block p j (clean q) t = record { group = []; start = 0; page = cond (eqb p q) tidy t.page }

-- the walk from block j on
unfoldable pub view_from : ℕ → ℕ → List LogBlock → View → View
view_from p j [] t = t
view_from p j (b ∷ bs) t = view_from p (suc j) bs (view_block p j b.kind t)

-- a block with which a walk may begin
pub data Begins : Kind → Type 0 where
  first : {u : Update} → Begins (update 1 u)
  cleans : {q : ℕ} → Begins (clean q)
