-- The reduced machine: End (a whole group), Log step, Clean step, Open; sizes and refusals for room are left out.
use Prim.Native.Nat.{ℕ, suc, ◌+◌, ◌-◌}
use mathlib.Core.Bool.{cond}
use mathlib.Core.List.{List, [], ◌∷◌, ◌++◌}
use lib.ListN.{length, drop, get_or}
use lib.Dec.{eqb}
use Rattle.promises.specs.DirtyPages.{DirtyPage, look_up, apply_all, without, keep_from_of, shown}
use Rattle.promises.specs.Walk.{Walk, walk_block, believed}
use Rattle.promises.specs.Updates.{Update}
use Rattle.promises.specs.Blocks.{update, commit, clean, LogBlock}
use Rattle.promises.specs.Updates.{of_page}

pub data Cleaning : Type 0 where
  idle : Cleaning
  second : ℕ → Cleaning
  third : ℕ → Cleaning

pub record Live : Type 0 where
  pub ticket : ℕ
  pub queue : List (List Update)
  pub count : ℕ
  pub dirty_pages : List DirtyPage
  pub cleaning : Cleaning

pub data State : Type 0 where
  down : State
  up : Live → State

pub record World : Type 0 where
  pub history : List LogBlock
  pub home : ℕ → List ℕ
  pub live : State

-- ---- Log step
abbrev pub no_update : Update
no_update = record { page = 0; offset = 0; bytes = [] }

abbrev pub next_in : World → ℕ
next_in w = length w.history + 1

abbrev pub idle_unless_none : List Update → Cleaning → Cleaning
idle_unless_none [] c = c
idle_unless_none (u ∷ us) c = idle

-- a commit that changes the named page makes the cleaning idle
unfoldable pub cleaning_after : List Update → Cleaning → Cleaning
cleaning_after g idle = idle
cleaning_after g (second q) = idle_unless_none (of_page q g) (second q)
cleaning_after g (third q) = idle_unless_none (of_page q g) (third q)

unfoldable pub update_logged : World → Live → List Update → World
update_logged w l g = record {
  history = w.history ++ (record { kind = update (l.count + 1) (get_or g l.count no_update); keep_from = keep_from_of (next_in w - l.count) l.dirty_pages; ticket = l.ticket } ∷ []);
  home = w.home;
  live = up (record { ticket = l.ticket; queue = l.queue; count = l.count + 1; dirty_pages = l.dirty_pages; cleaning = l.cleaning });
}

unfoldable pub commit_logged : World → Live → List Update → List (List Update) → World
unfolding cleaning_after
commit_logged w l g q = record {
  history = w.history ++ (record { kind = commit (length g); keep_from = keep_from_of (next_in w - l.count) l.dirty_pages; ticket = l.ticket + 1 } ∷ []);
  home = w.home;
  live = up (record { ticket = l.ticket + 1; queue = q; count = 0; dirty_pages = apply_all (next_in w - l.count) w.home g l.dirty_pages; cleaning = cleaning_after g l.cleaning });
}

-- ---- Clean step
unfoldable pub set_page : ℕ → List ℕ → (ℕ → List ℕ) → ℕ → List ℕ
set_page q x home p = cond (eqb p q) x (home p)

unfoldable pub half_stored : World → Live → ℕ → List ℕ → Cleaning → World
half_stored w l q x c = record {
  history = w.history;
  home = set_page q x w.home;
  live = up (record { ticket = l.ticket; queue = l.queue; count = l.count; dirty_pages = l.dirty_pages; cleaning = c });
}

unfoldable pub clean_logged : World → Live → ℕ → World
clean_logged w l q = record {
  history = w.history ++ (record { kind = clean q; keep_from = keep_from_of (next_in w) (without q l.dirty_pages); ticket = l.ticket } ∷ []);
  home = w.home;
  live = up (record { ticket = l.ticket; queue = l.queue; count = l.count; dirty_pages = without q l.dirty_pages; cleaning = idle });
}

-- ---- Open
unfoldable pub walk : (ℕ → List ℕ) → ℕ → List LogBlock → Walk → Walk
walk home j [] v = v
walk home j (b ∷ bs) v = walk home (suc j) bs (walk_block home j b.kind v)

unfoldable pub last_keep : List LogBlock → ℕ
last_keep [] = 1
last_keep (b ∷ []) = b.keep_from
last_keep (b ∷ c ∷ bs) = last_keep (c ∷ bs)

abbrev pub seen : Walk → Live
seen v = record { ticket = v.ticket; queue = []; count = 0; dirty_pages = v.dirty_pages; cleaning = idle }

unfoldable pub recover : (ℕ → List ℕ) → List LogBlock → Live
recover home history =
    let k = last_keep history in
    let bs = drop (k - 1) history in
    seen (walk home k bs (record { group = []; start = 0; ticket = believed bs; dirty_pages = [] }))

unfoldable pub shown_in : World → Live → ℕ → List ℕ
shown_in w l p = shown (look_up p l.dirty_pages) (w.home p)
