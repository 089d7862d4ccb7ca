-- An update, and what a list of updates makes of a page.
-- Assumes nothing.
use Rattle.std.specs.Prelude.{ℕ, ◌+◌, cond, List, [], ◌∷◌, ◌++◌, length, take, drop, eqb}

-- new bytes for a page, from an offset on
pub record Update : Type 0 where
  pub page : ℕ
  pub offset : ℕ
  pub bytes : List ℕ

-- the new bytes stand in their place, the others stay
unfoldable pub put : Update → List ℕ → List ℕ
put update page = take update.offset page ++ (update.bytes ++ drop (update.offset + length update.bytes) page)

-- updates in order: later ones win
unfoldable pub redo : List Update → List ℕ → List ℕ
redo [] page = page
redo (update ∷ updates) page = redo updates (put update page)

-- the updates that change this page
unfoldable pub of_page : ℕ → List Update → List Update
of_page page [] = []
of_page page (update ∷ updates) = cond (eqb page update.page) (update ∷ of_page page updates) (of_page page updates)
