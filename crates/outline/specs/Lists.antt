-- What a contract sees of a list with a fixed room: what is in use, and what the unused room holds, of which no clause says anything.
-- Assumes nothing.
use Rattle.std.specs.Prelude.{ℕ, List}
use Rattle.outline.specs.declared.Mark.{Mark}

-- dirty pages
pub record MarkList : Type 0 where
  pub items : List Mark
  pub spare : List Mark

-- page numbers
pub record PageList : Type 0 where
  pub items : List ℕ
  pub spare : List ℕ
