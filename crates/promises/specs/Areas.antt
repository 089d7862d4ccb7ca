-- Parts of the lent areas: a page of home, a frame, a slot of the log, a staging area.
-- Assumes nothing.
use Rattle.std.specs.Prelude.{ℕ, ◌+◌, ◌*◌, ◌/◌, Bool, ◌&&◌, List, eqb, leb}
use Rattle.area.specs.Part.{part, splice}
use Rattle.block.specs.Sizes.{block_size, new_bytes_most, page_size}

-- page number page of home, or a frame of that number
abbrev pub page_at : List ℕ → ℕ → List ℕ
page_at pages page = part pages (page * page_size) page_size

-- a slot of the log
abbrev pub slot_bytes : List ℕ → ℕ → List ℕ
slot_bytes log slot = part log (slot * block_size) block_size

-- a log with other bytes in a slot
abbrev pub with_slot : List ℕ → ℕ → List ℕ → List ℕ
with_slot log slot bytes = splice log (slot * block_size) block_size bytes

-- a home page is two blocks: its halves, and a home with other bytes in one of them
abbrev pub first_half : List ℕ → List ℕ
first_half page = part page 0 block_size

abbrev pub second_half : List ℕ → List ℕ
second_half page = part page block_size block_size

abbrev pub with_first_half : List ℕ → ℕ → List ℕ → List ℕ
with_first_half home page bytes = splice home (page * page_size) block_size bytes

abbrev pub with_second_half : List ℕ → ℕ → List ℕ → List ℕ
with_second_half home page bytes = splice home (page * page_size + block_size) block_size bytes

-- the first bytes of a staging area, and staging with other bytes there
abbrev pub staged_bytes : List ℕ → ℕ → ℕ → List ℕ
staged_bytes staging area length = part staging (area * new_bytes_most) length

abbrev pub with_staged : List ℕ → ℕ → ℕ → List ℕ → List ℕ
with_staged staging area length bytes = splice staging (area * new_bytes_most) length bytes

-- ---- the lengths of the areas, for so many slots, pages and frames

abbrev pub log_length : ℕ → ℕ
log_length slots = slots * block_size

abbrev pub home_length : ℕ → ℕ
home_length pages = pages * page_size

abbrev pub frames_length : ℕ → ℕ
frames_length frames = frames * page_size

abbrev pub staging_length : ℕ → ℕ
staging_length frames = frames * new_bytes_most

-- ---- N is from 8 to 1,024, P from 1 to 4,096, F from 1 to 32

abbrev pub slots_in_range : ℕ → Bool
slots_in_range slots = leb 8 slots && leb slots 1024

abbrev pub pages_in_range : ℕ → Bool
pages_in_range pages = leb 1 pages && leb pages 4096

abbrev pub frames_in_range : ℕ → Bool
frames_in_range frames = leb 1 frames && leb frames 32

-- ---- sizes from lengths: whole counts in range

-- a length is a whole count of units
abbrev pub whole : ℕ → ℕ → Bool
whole unit length = eqb (length / unit * unit) length

abbrev pub slots_in : ℕ → ℕ
slots_in log = log / block_size

abbrev pub pages_in : ℕ → ℕ
pages_in home = home / page_size

abbrev pub frames_in : ℕ → ℕ
frames_in frames = frames / page_size

abbrev pub log_fits : ℕ → Bool
log_fits log = whole block_size log && slots_in_range (slots_in log)

abbrev pub home_fits : ℕ → Bool
home_fits home = whole page_size home && pages_in_range (pages_in home)

-- frames and staging are of one count
abbrev pub frames_fit : ℕ → ℕ → Bool
frames_fit frames staging = whole page_size frames && frames_in_range (frames_in frames) && eqb staging (staging_length (frames_in frames))
