-- The tests of a fed block as the code makes them: over the numbers of its tests, slot by slot, and without the pages' bytes.
-- Assumes nothing.
use mathlib.Core.Path.{◌≡◌, refl, sym, ap, ◌∙◌}
use mathlib.Core.Bool.{Bool, true, false}
use mathlib.Core.List.{List, [], ◌∷◌, ◌++◌, append_assoc}
use Prim.Native.Nat.{ℕ, suc, ◌+◌, ◌-◌, ◌^◌, ◌≤◌, ◌<◌}
use native.Mathlib.Omega.{arith}
use native.Mathlib.Nat.{mod-lt}
use lib.Dec.{eqb}
use lib.ListN.{length, get_or, drop, drop_of_length-le}
use lib.Seq.{drop-cons}
use native.Mathlib.Numerals.{add-one}
use Rattle.block.specs.declared.Judged.{Judged}
use Rattle.block.specs.declared.Kind as format
use Rattle.block.specs.Legal.{slot_of}
use Rattle.block.specs.Slot.{judged}
use Rattle.promises.specs.declared.State.{State}
use Rattle.promises.specs.declared.Dirty.{Dirty}
use Rattle.promises.specs.Areas.{slot_bytes, page_at}
use Rattle.promises.specs.Blocks.{Slot, unused, slot_in, slot_at, slots_of}
use Rattle.promises.specs.DirtyPages.{DirtyPage}
use Rattle.promises.specs.Contents.{unless, dirty_from}
use Rattle.promises.specs.States.{free}
use Rattle.promises.specs.Sound.{copy_sound}
use Rattle.promises.specs.Feed.{is_update, lacking}
use Rattle.promises.proofs.Slots.{get-slot}
use Rattle.promises.proofs.Soundness.{sound-as-of}
use Rattle.outline.specs.declared.Mark.{Mark}
use Rattle.outline.specs.Marks.{marks_of, pages_of}
use Rattle.recovery.specs.Log.{header_of, bytes_of, change_in, update_of, updates_from}
use Rattle.recovery.proofs.Groups.{group-more}
use Rattle.outline.proofs.Alike.{pages-snoc}
use Rattle.feeding.specs.Tests.{page_of, mark_of}

-- ---- the half group in the log, slot by slot

pub update-at : (N P i sequence index : ℕ) (log bytes : List ℕ) (j : Judged) (r : Bool) → bytes ≡ slot_bytes log i → j ≡ judged N P i bytes
    → r ≡ is_update sequence index (slot_in j bytes) → r ≡ is_update sequence index (slot_at N P log i)
unfolding slot_at
update-at N P i sequence index log bytes j r e f g =
    g ∙ ap (λ (x : Judged). is_update sequence index (slot_in x bytes)) f ∙ ap (λ (x : List ℕ). is_update sequence index (slot_in (judged N P i x) x)) e

module _ (N P : ℕ) (log : List ℕ) (big : 0 < N) where
  abbrev slots₀ : List Slot
  slots₀ = slots_of N P log

  abbrev at₀ : ℕ → Slot
  at₀ sequence = slot_at N P log (slot_of N sequence)

  pub slot-of : (sequence : ℕ) → get_or slots₀ (slot_of N sequence) unused ≡ at₀ sequence
  slot-of sequence = get-slot N P log (slot_of N sequence) (mod-lt sequence big)

  -- an update that is there is passed over
  pub lacking-next : (more sequence index : ℕ) → is_update sequence index (at₀ sequence) ≡ true
      → lacking N slots₀ (suc more) sequence index ≡ lacking N slots₀ more (suc sequence) (suc index)
  unfolding lacking
  lacking-next more sequence index e = rw (slot-of sequence, e) refl

  -- the first that is not there is the one that is lacking
  pub lacking-here : (more sequence index : ℕ) → is_update sequence index (at₀ sequence) ≡ false → lacking N slots₀ (suc more) sequence index ≡ sequence
  unfolding lacking
  lacking-here more sequence index e = rw (slot-of sequence, e) refl

  -- the loop over the updates: i of them are there
  module _ (count start i : ℕ) where
    abbrev left₀ : ℕ
    left₀ = lacking N slots₀ (count - i) (start + i) (i + 1)

    pub lacking-step : i < count → is_update (start + i) (i + 1) (at₀ (start + i)) ≡ true → left₀ ≡ lacking N slots₀ (count - (i + 1)) (start + (i + 1)) (i + 1 + 1)
    lacking-step h e =
        ap (λ (n : ℕ). lacking N slots₀ n (start + i) (i + 1)) (omega arith) ∙ lacking-next (count - (i + 1)) (start + i) (i + 1) e
        ∙ ap (λ (n : ℕ). lacking N slots₀ (count - (i + 1)) n (suc (i + 1))) (omega arith)
        ∙ ap (lacking N slots₀ (count - (i + 1)) (start + (i + 1))) (omega arith)

    pub lacking-found : i < count → is_update (start + i) (i + 1) (at₀ (start + i)) ≡ false → left₀ ≡ start + i
    lacking-found h e = ap (λ (n : ℕ). lacking N slots₀ n (start + i) (i + 1)) (omega arith) ∙ lacking-here (count - (i + 1)) (start + i) (i + 1) e

    pub lacking-end : count ≤ i → left₀ ≡ 0
    unfolding lacking
    lacking-end h = let e : count - i ≡ 0 = omega arith in ap (λ (n : ℕ). lacking N slots₀ n (start + i) (i + 1)) e

-- ---- the dirty pages, frame by frame, without their bytes

pub marks-next : (frames : List ℕ) (dirty : List Dirty) (i : ℕ) → i < length dirty
    → marks_of (dirty_from frames i (drop i dirty)) ≡ mark_of (get_or dirty i free) ++ marks_of (dirty_from frames (i + 1) (drop (i + 1) dirty))
unfolding dirty_from
marks-next frames dirty i h = rw (add-one, drop-cons dirty i free h) (go (eqb (get_or dirty i free).first 0))
  where
    rest : List DirtyPage
    rest = dirty_from frames (suc i) (drop (suc i) dirty)

    go : (b : Bool) → marks_of (unless b (record { page = (get_or dirty i free).page; first = (get_or dirty i free).first; bytes = page_at frames i }) rest)
        ≡ unless b (record { page = (get_or dirty i free).page; first = (get_or dirty i free).first }) [] ++ marks_of rest
    go true = refl
    go false = refl

-- one turn of the loop over the frames
pub marks-turn : (frames : List ℕ) (dirty : List Dirty) (i : ℕ) (ms ms' : List Mark) → i < length dirty → ms' ≡ ms ++ mark_of (get_or dirty i free)
    → ms' ++ marks_of (dirty_from frames (i + 1) (drop (i + 1) dirty)) ≡ ms ++ marks_of (dirty_from frames i (drop i dirty))
marks-turn frames dirty i ms ms' h e =
    ap (λ (l : List Mark). l ++ marks_of (dirty_from frames (i + 1) (drop (i + 1) dirty))) e
    ∙ append_assoc ms (mark_of (get_or dirty i free)) (marks_of (dirty_from frames (i + 1) (drop (i + 1) dirty)))
    ∙ ap (λ (l : List Mark). ms ++ l) (sym (marks-next frames dirty i h))

pub marks-end : (frames : List ℕ) (dirty : List Dirty) (i : ℕ) → length dirty ≤ i → marks_of (dirty_from frames i (drop i dirty)) ≡ []
unfolding dirty_from
marks-end frames dirty i h = rw (drop_of_length-le dirty h)

-- ---- the pages of a half group, from the headers

pub pages-next : (log : List ℕ) (start i : ℕ) → pages_of (updates_from log start (i + 1)) ≡ pages_of (updates_from log start i) ++ (page_of (header_of log (start + i)).kind ∷ [])
unfolding update_of
pages-next log start i =
    ap pages_of (group-more log start i) ∙ pages-snoc (updates_from log start i) (update_of log (start + i))
    ∙ ap (λ (page : ℕ). pages_of (updates_from log start i) ++ (page ∷ [])) (page-is (header_of log (start + i)).kind (bytes_of log (start + i)))
  where
    page-is : (k : format.Kind) (bytes : List ℕ) → (change_in k bytes).page ≡ page_of k
    page-is (format.TheVariants.Update index page offset length) bytes = refl
    page-is (format.TheVariants.Commit updates) bytes = refl
    page-is (format.TheVariants.Clean page) bytes = refl

pub pages-none : (log : List ℕ) (start : ℕ) → pages_of (updates_from log start 0) ≡ []
unfolding updates_from
pages-none log start = refl

-- ---- the numbers of a copy's sound state
pub record Numbers (s : State) : Type 0 where
  pub slots : (8 ≤ s.slots) × (s.slots ≤ 1024)
  pub pages : (1 ≤ s.pages) × (s.pages ≤ 4096)
  pub frames : (1 ≤ s.frames) × (s.frames ≤ 32)
  pub stored : s.stored < s.next
  pub next : s.next ≤ 2 ^ 48
  pub ticket : s.ticket < s.next

pub numbers_of : (s : State) → copy_sound s ≡ true → Numbers s
numbers_of s h =
    let f = sound-as-of true s h in
    record { slots = f.slots; pages = f.pages; frames = f.frames; stored = omega (arith, f.ticket); next = omega (arith, f.sequence_sum); ticket = omega (arith, f.ticket) }
