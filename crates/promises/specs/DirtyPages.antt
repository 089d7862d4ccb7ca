-- Dirty pages, looked up by page, each with its first group and its committed bytes; and keep-from.
-- A page is DIRTY while its committed bytes are in a frame and its cleaning is not in the log. Its FIRST GROUP is the sequence of the
-- first block of the earliest committed group that changed it since its last cleaning.
-- Assumes nothing.
use Rattle.std.specs.Prelude.{ℕ, min, cond, List, [], ◌∷◌, eqb}
use Rattle.promises.specs.Updates.{Update, put}

pub record DirtyPage : Type 0 where
  pub page : ℕ
  pub first : ℕ
  pub bytes : List ℕ

pub data Found : Type 0 where
  absent : Found
  at : DirtyPage → Found

-- the order of the list tells nothing: pages are looked up
unfoldable pub look_up : ℕ → List DirtyPage → Found
look_up page [] = absent
look_up page (entry ∷ entries) = cond (eqb page entry.page) (at entry) (look_up page entries)

-- the bytes that show of a page: its frame's if it is dirty, or else home's
abbrev pub shown : Found → List ℕ → List ℕ
shown absent home = home
shown (at entry) home = entry.bytes

-- a committed update goes to its page's frame; a page that was not dirty comes from home, and its first group is this group
unfoldable pub apply : ℕ → (ℕ → List ℕ) → Update → List DirtyPage → List DirtyPage
apply group home update [] = record { page = update.page; first = group; bytes = put update (home update.page) } ∷ []
apply group home update (entry ∷ entries) =
    cond (eqb update.page entry.page)
    (record { page = entry.page; first = entry.first; bytes = put update entry.bytes } ∷ entries)
    (entry ∷ apply group home update entries)

-- the updates of a committed group, in order
unfoldable pub apply_all : ℕ → (ℕ → List ℕ) → List Update → List DirtyPage → List DirtyPage
apply_all group home [] entries = entries
apply_all group home (update ∷ updates) entries = apply_all group home updates (apply group home update entries)

-- all dirty pages but this one
unfoldable pub without : ℕ → List DirtyPage → List DirtyPage
without page [] = []
without page (entry ∷ entries) = cond (eqb page entry.page) (without page entries) (entry ∷ without page entries)

-- KEEP-FROM of a block: the smallest first group over the pages dirty once the block is stored, and its own group's start if it is
-- an update or a commit; a clean block's own sequence where no page stays dirty
unfoldable pub keep_from_of : ℕ → List DirtyPage → ℕ
keep_from_of own [] = own
keep_from_of own (entry ∷ entries) = min entry.first (keep_from_of own entries)
