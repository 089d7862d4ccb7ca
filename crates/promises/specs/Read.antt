-- What Read promises. Read (page), lent home and frames to read only: 2; 1; 3. The page is a part of home or of frames, never a copy.
-- Assumes nothing.
use Rattle.std.specs.Borrow.{Bor}
use Rattle.std.specs.Prelude.{ℕ, suc, ◌+◌, ◌*◌, ◌≡◌, cond, ◌&&◌, List, [], ◌∷◌, length, eqb, ltb}
use Rattle.block.specs.Sizes.{page_size}
use Rattle.promises.specs.declared.State.{State}
use Rattle.promises.specs.declared.Dirty.{Dirty}
use Rattle.promises.specs.States.{is_of}
use Rattle.promises.specs.Areas.{page_at, home_length, frames_length}
use Rattle.promises.specs.DirtyPages.{look_up, shown}
use Rattle.promises.specs.Contents.{dirty_of}
use Rattle.promises.specs.Sound.{readable}

-- of the lengths
unfoldable pub read_refusal : State → ℕ → ℕ → ℕ → ℕ
read_refusal state home frames page =
    cond (readable state)
    (cond (eqb home (home_length state.pages) && eqb frames (frames_length state.frames))
    (cond (ltb page state.pages) 0 3) 1) 2

abbrev pub read_refusal_of : State → List ℕ → List ℕ → ℕ → ℕ
read_refusal_of state home frames page = read_refusal state (length home) (length frames) page

-- ---- where a page is: at home, or in a frame
pub data Held : Type 0 where
  at_home : Held
  in_frame : ℕ → Held

unfoldable pub held_in : ℕ → ℕ → List Dirty → Held
held_in page frame [] = at_home
held_in page frame (entry ∷ entries) = cond (is_of page entry) (in_frame frame) (held_in page (suc frame) entries)

-- where its part starts: the area, and how far from the area's start
abbrev pub start_of : Held → ℕ × ℕ → ℕ × ℕ → ℕ → ℕ × ℕ
start_of at_home home frames page = (home.0, page * page_size + home.1)
start_of (in_frame frame) home frames page = (frames.0, frame * page_size + frames.1)

-- number is the refusal's, or 0; a refusal gives the empty part at home's start
pub record Reads (state : State) (home frames : Bor (List ℕ)) (page number : ℕ) (result : Bor (List ℕ)) : Type 0 where
  pub refusal : number ≡ read_refusal_of state home.now frames.now page
  pub refused : (read_refusal_of state home.now frames.now page ≡ 0 → ⊥) → (result.ref_ptr ≡ home.ref_ptr) × (result.now ≡ [])
  pub place_is : read_refusal_of state home.now frames.now page ≡ 0
      → result.ref_ptr ≡ start_of (held_in page 0 state.dirty) home.ref_ptr frames.ref_ptr page
  pub bytes_are : read_refusal_of state home.now frames.now page ≡ 0
      → result.now ≡ shown (look_up page (dirty_of state frames.now)) (page_at home.now page)
