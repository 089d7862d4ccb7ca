-- Dirty pages without their bytes: pages with their first groups, in the order in which `apply` of the dirty pages keeps them.
-- Assumes nothing.
use Rattle.std.specs.Prelude.{ℕ, min, cond, List, [], ◌∷◌, eqb}
use Rattle.promises.specs.Updates.{Update}
use Rattle.promises.specs.DirtyPages.{DirtyPage}
use Rattle.outline.specs.declared.Mark.{Mark}

-- ---- what is left of the promised walk's lists without bytes

abbrev pub marks_of : List DirtyPage → List Mark
marks_of [] = []
marks_of (entry ∷ entries) = record { page = entry.page; first = entry.first } ∷ marks_of entries

abbrev pub pages_of : List Update → List ℕ
pages_of [] = []
pages_of (update ∷ updates) = update.page ∷ pages_of updates

-- ---- what becomes of marks

-- a page is dirty from this group on, unless it was dirty before
unfoldable pub marked : ℕ → ℕ → List Mark → List Mark
marked group page [] = record { page = page; first = group } ∷ []
marked group page (mark ∷ marks) = cond (eqb page mark.page) (mark ∷ marks) (mark ∷ marked group page marks)

-- the pages of a committed group, in order
unfoldable pub marked_all : ℕ → List ℕ → List Mark → List Mark
marked_all group [] marks = marks
marked_all group (page ∷ pages) marks = marked_all group pages (marked group page marks)

-- all but this page
unfoldable pub unmarked : ℕ → List Mark → List Mark
unmarked page [] = []
unmarked page (mark ∷ marks) = cond (eqb page mark.page) (unmarked page marks) (mark ∷ unmarked page marks)

-- the smallest first group, and own where there is none
unfoldable pub earliest : ℕ → List Mark → ℕ
earliest own [] = own
earliest own (mark ∷ marks) = min mark.first (earliest own marks)
