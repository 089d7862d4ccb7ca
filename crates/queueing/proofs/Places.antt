-- Where a page is held, found frame by frame, and that Read and Describe keep their promises there.
-- Assumes nothing.
use mathlib.Core.Path.{◌≡◌, refl, sym, ap, ◌∙◌, subst}
use mathlib.Core.Bool.{Bool, true, false, cond, not, ◌&&◌}
use mathlib.Core.List.{List, [], ◌∷◌}
use Prim.Native.Nat.{ℕ, suc, ◌+◌, ◌-◌, ◌*◌, ◌≤◌, ◌<◌}
use native.Mathlib.Omega.{arith}
use native.Mathlib.Numerals.{add-one}
use lib.Dec.{eqb}
use lib.ListN.{length, take, drop, get_or, set}
use denote.Ref.{Bor}
use Rattle.area.proofs.Laws.{by_cases}
use Rattle.area.specs.Part.{part, splice}
use Rattle.area.proofs.Parts.{from-to, part-all}
use Rattle.promises.specs.declared.Dirty.{Dirty}
use Rattle.promises.specs.declared.Staged.{Staged}
use Rattle.promises.specs.Sums.{first_groups}
use Rattle.promises.specs.declared.Refusal.{Refusal}
use Rattle.promises.specs.declared.State.{State}
use Rattle.std.specs.Prelude.{Result, Ok}
use Rattle.promises.specs.Areas.{with_staged}
use Rattle.promises.specs.Contents.{total, groups_of}
use Rattle.promises.specs.Sound.{readable, member, areas_of, staged_of}
use Rattle.promises.specs.Describe.{describe_refusal, described_state, DescribeStep}
use Rattle.promises.specs.Read.{Held, at_home, in_frame, held_in, start_of, read_refusal_of, Reads}
use Rattle.promises.proofs.Soundness.{sound-as-of}
use Rattle.promises.proofs.Changes.{bytes_at, held-shows}
use Rattle.promises.proofs.Describing.{describe-met}
use Rattle.promises.specs.States.{free, set_staged, set_open}
use Rattle.soundness.proofs.Scans.{from_cons}
use Rattle.queueing.specs.Queueing.{update_of}

-- a readable state has at most 32 frames
pub frames_most : (s : State) → readable s ≡ true → s.frames ≤ 32
frames_most s h = let f = sound-as-of s.copy s h in omega (arith, f.frames)

module _ (page : ℕ) (entries : List Dirty) (i : ℕ) where
  abbrev here : Bool
  here = not (eqb (get_or entries i free).first 0) && eqb page (get_or entries i free).page

  held-turn : i < length entries → held_in page i (drop i entries) ≡ cond here (in_frame i) (held_in page (i + 1) (drop (i + 1) entries))
  unfolding held_in
  held-turn h = rw (from_cons entries i free h, add-one)

  pub held-here : i < length entries → here ≡ true → held_in page i (drop i entries) ≡ in_frame i
  held-here h e = held-turn h ∙ ap (λ (b : Bool). cond b (in_frame i) (held_in page (i + 1) (drop (i + 1) entries))) e

  pub held-later : i < length entries → here ≡ false → held_in page i (drop i entries) ≡ held_in page (i + 1) (drop (i + 1) entries)
  held-later h e = held-turn h ∙ ap (λ (b : Bool). cond b (in_frame i) (held_in page (i + 1) (drop (i + 1) entries))) e

-- no first groups: no page is held
none-held : (page frame : ℕ) (entries : List Dirty) → length (first_groups entries) ≡ 0 → held_in page frame entries ≡ at_home
unfolding held_in first_groups
none-held page frame [] h = refl
none-held page frame (entry ∷ later) h =
    by_cases (eqb entry.first 0)
    (λ t. rw t (none-held page (suc frame) later (rw t at h)))
    (λ t. let z : suc (length (first_groups later)) ≡ 0 = rw t at h in absurd (omega arith))

-- past the last frame no page is held
pub held-home : (page frames i : ℕ) (entries : List Dirty) → i ≡ frames → length (first_groups (drop frames entries)) ≡ 0
    → held_in page i (drop i entries) ≡ at_home
held-home page frames i entries e h =
    ap (λ (n : ℕ). held_in page i (drop n entries)) e ∙ none-held page i (drop frames entries) h

-- ---- Read

module _ (s : State) (home frames : Bor (List ℕ)) (page number : ℕ) (is : number ≡ read_refusal_of s home.now frames.now page) (result : Bor (List ℕ)) where
  pub read-refused : (number ≡ 0 → ⊥) → result.ref_ptr ≡ home.ref_ptr → result.now ≡ [] → Reads s home frames page number result
  read-refused some place bytes =
      record { refusal = is; refused = λ n. (place, bytes); place_is = λ z. absurd (some (is ∙ z)); bytes_are = λ z. absurd (some (is ∙ z)) }

  -- the part of the area where the page is held
  read_held : (held : Held) → held_in page 0 s.dirty ≡ held → number ≡ 0 → result.ref_ptr ≡ start_of held home.ref_ptr frames.ref_ptr page
      → result.now ≡ bytes_at held home.now frames.now page → Reads s home frames page number result
  read_held held e zero place bytes = record {
    refusal = is;
    refused = λ n. absurd (n (sym is ∙ zero));
    place_is = λ z. place ∙ sym (ap (λ (h : Held). start_of h home.ref_ptr frames.ref_ptr page) e);
    bytes_are = λ z. bytes ∙ sym (held-shows home.now frames.now page 0 s.dirty ∙ ap (λ (h : Held). bytes_at h home.now frames.now page) e);
  }

  pub read-frame : (frame : ℕ) → held_in page 0 s.dirty ≡ in_frame frame → number ≡ 0
      → result.ref_ptr ≡ (frames.ref_ptr.0, frame * 1024 + frames.ref_ptr.1) → result.now ≡ take (frame * 1024 + 1024 - frame * 1024) (drop (frame * 1024) frames.now)
      → Reads s home frames page number result
  read-frame frame e zero place bytes =
      read_held (in_frame frame) e zero place (bytes ∙ from-to frames.now (frame * 1024) 1024)

  pub read-home : held_in page 0 s.dirty ≡ at_home → number ≡ 0
      → result.ref_ptr ≡ (home.ref_ptr.0, page * 1024 + home.ref_ptr.1) → result.now ≡ take (page * 1024 + 1024 - page * 1024) (drop (page * 1024) home.now)
      → Reads s home frames page number result
  read-home e zero place bytes = read_held at_home e zero place (bytes ∙ from-to home.now (page * 1024) 1024)

-- ---- Describe

-- the state with an update more in a place
abbrev pub added_at : State → ℕ → Staged → State
added_at s place update = set_open (set_staged s (set s.staged place update)) s.reserved (s.described + 1)

-- an update in a free area, in the place after those that wait, with its bytes copied there
pub describe-done : (s : State) (a : Result (Unit {0}) Refusal) (r : State) (page offset area start count : ℕ) (bytes staging staging' : List ℕ) → length s.staged ≡ 32
    → describe_refusal s (length staging) page offset (length bytes) ≡ 0 → area < s.frames → member area (areas_of (staged_of s)) ≡ false
    → count ≡ total (groups_of s) + s.described → start ≡ area
    → r ≡ added_at s count (record { page = page; offset = offset; length = length bytes; area = area })
    → staging' ≡ splice staging (start * 472) (length bytes) (part bytes 0 (length bytes))
    → DescribeStep s (update_of page offset bytes) staging (record { state = r; answer = a }) staging'
describe-done s a r page offset area start count bytes staging staging' long e below free is at t copied =
    let u : Staged = record { page = page; offset = offset; length = length bytes; area = area } in
    let stored : staging' ≡ with_staged staging area (length bytes) bytes =
    copied ∙ ap (λ (l : List ℕ). splice staging (start * 472) (length bytes) l) (part-all bytes (length bytes) (omega arith)) ∙ ap (λ (n : ℕ). splice staging (n * 472) (length bytes) bytes) at in
    subst (λ (x : State). DescribeStep s (update_of page offset bytes) staging (record { state = x; answer = a }) staging') (sym (t ∙ ap (λ (n : ℕ). added_at s n u) is))
    (subst (λ (l : List ℕ). DescribeStep s (update_of page offset bytes) staging (record { state = described_state s u; answer = a }) l) (sym stored)
    (any-answer ((describe-met s page offset area bytes staging long e below free).accepted e)))
  where
    -- the step does not speak of the answer
    any-answer : {x : State} {l : List ℕ} → DescribeStep s (update_of page offset bytes) staging (record { state = x; answer = Ok tt }) l
        → DescribeStep s (update_of page offset bytes) staging (record { state = x; answer = a }) l
    any-answer d = record { area = d.area; area_below = d.area_below; area_free = d.area_free; staging_is = d.staging_is; state_is = d.state_is; leaves = d.leaves }
