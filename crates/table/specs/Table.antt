-- The dirty pages in their frames, as a table with the frames' bytes: which dirty pages it holds, and what an update and a clean leave.
-- Assumes nothing.
use Rattle.std.specs.Prelude.{ℕ, ◌*◌, ◌≤◌, ◌<◌, ◌≡◌, true, false, List, [], ◌∷◌, length, drop, replicate, get_or, set}
use Rattle.area.specs.Part.{splice}
use Rattle.block.specs.Sizes.{page_size}
use Rattle.promises.specs.declared.Dirty.{Dirty}
use Rattle.promises.specs.Areas.{page_at}
use Rattle.promises.specs.Updates.{Update}
use Rattle.promises.specs.DirtyPages.{DirtyPage, look_up, apply, apply_all, without}
use Rattle.promises.specs.Contents.{dirty_from}
use Rattle.promises.specs.Sums.{first_groups}
use Rattle.promises.specs.Sound.{distinct, dirty_numbers}
use Rattle.table.specs.declared.Table.{Table}
use Rattle.promises.specs.States.{free}

-- a table without a dirty page
abbrev pub empty_table : ℕ → Table
empty_table count = record { count = count; full = false; dirty = replicate 32 free }

-- a page found no frame
abbrev pub full_table : Table → Table
full_table table = record { count = table.count; full = true; dirty = table.dirty }

abbrev pub with_dirty : Table → List Dirty → Table
with_dirty table dirty = record { count = table.count; full = table.full; dirty = dirty }

-- a frame for a page: one in use stays; a free one takes the page's bytes from home, and its first group is this group
pub record Enters (table : Table) (home frames : List ℕ) (frame page group : ℕ) (result : Table) (frames' : List ℕ) : Type 0 where
  pub used : ((get_or table.dirty frame free).first ≡ 0 → ⊥) → (result ≡ table) × (frames' ≡ frames)
  pub taken : (get_or table.dirty frame free).first ≡ 0
      → (result ≡ with_dirty table (set table.dirty frame (record { page = page; first = group })))
      × (frames' ≡ splice frames (frame * page_size) page_size (page_at home page))

abbrev pub pages_of : List DirtyPage → List ℕ
pages_of [] = []
pages_of (entry ∷ entries) = entry.page ∷ pages_of entries

-- every entry has a page and a first group of some kind
abbrev pub Each : (ℕ → ℕ → Type 0) → List DirtyPage → Type 0
Each Q [] = Unit {0}
Each Q (entry ∷ entries) = Q entry.page entry.first × Each Q entries

-- a table and the frames' bytes hold these dirty pages: every page is looked up alike, no page stands twice on either side, and no frame
-- from count on holds one
pub record Holds (table : Table) (frames : List ℕ) (entries : List DirtyPage) : Type 0 where
  pub looks : (page : ℕ) → look_up page (dirty_from frames 0 table.dirty) ≡ look_up page entries
  pub table_distinct : distinct (dirty_numbers table.dirty) ≡ true
  pub entries_distinct : distinct (pages_of entries) ≡ true
  pub within : length (first_groups (drop table.count table.dirty)) ≡ 0

-- a frame in use keeps its page and first group
abbrev pub Keeps : Table → Table → Type 0
Keeps table result = (frame : ℕ) → ((get_or table.dirty frame free).first ≡ 0 → ⊥) → get_or result.dirty frame free ≡ get_or table.dirty frame free

-- what one committed update leaves of a table that held these dirty pages: it holds them with the update put over its page; or, where that
-- makes more pages dirty than there are frames, it is full
pub record Applies (table : Table) (home frames : List ℕ) (update : Update) (group : ℕ) (result : Table) (frames' : List ℕ) : Type 0 where
  pub count_is : result.count ≡ table.count
  pub frames_long : length frames' ≡ length frames
  -- a page that has a frame keeps it
  pub kept : Keeps table result
  -- nothing happens any more once it is full
  pub stays : table.full ≡ true → (result ≡ table) × (frames' ≡ frames)
  pub fits : (entries : List DirtyPage) → table.full ≡ false → Holds table frames entries
      → length (apply group (page_at home) update entries) ≤ table.count
      → (result.full ≡ false) × Holds result frames' (apply group (page_at home) update entries)
  pub fills : (entries : List DirtyPage) → table.full ≡ false → Holds table frames entries
      → table.count < length (apply group (page_at home) update entries) → result.full ≡ true

-- what a clean block leaves of a table: the page is dropped
pub record Drops (table : Table) (page : ℕ) (result : Table) : Type 0 where
  pub count_is : result.count ≡ table.count
  pub full_is : result.full ≡ table.full
  pub holds : (frames : List ℕ) (entries : List DirtyPage) → Holds table frames entries → Holds result frames (without page entries)

-- what a whole group leaves, its updates in order
pub record AppliesAll (table : Table) (home frames : List ℕ) (updates : List Update) (group : ℕ) (result : Table) (frames' : List ℕ) : Type 0 where
  pub count_is : result.count ≡ table.count
  pub frames_long : length frames' ≡ length frames
  pub kept : Keeps table result
  pub stays : table.full ≡ true → (result ≡ table) × (frames' ≡ frames)
  pub fits : (entries : List DirtyPage) → table.full ≡ false → Holds table frames entries
      → length (apply_all group (page_at home) updates entries) ≤ table.count
      → (result.full ≡ false) × Holds result frames' (apply_all group (page_at home) updates entries)
  pub fills : (entries : List DirtyPage) → table.full ≡ false → Holds table frames entries
      → table.count < length (apply_all group (page_at home) updates entries) → result.full ≡ true
