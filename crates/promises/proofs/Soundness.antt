-- Soundness as a record of facts: what a sound state gives, and what makes a state sound.
-- Assumes nothing.
use mathlib.Core.Path.{◌≡◌, refl, ap}
use mathlib.Core.Bool.{Bool, true, false, not, ◌&&◌}
use Prim.Native.Nat.{ℕ, ◌+◌, ◌-◌, ◌^◌, ◌≤◌, ◌<◌}
use lib.ListN.{length, take, drop}
use lib.Dec.{leb}
use borrow.Author.Tests.{leb-true, ltb-true, eqb-true, le-leb, lt-ltb, eq-eqb, not-true}
use mathlib.Core.List.{List}
use Rattle.area.proofs.Laws.{and_both, and2}
use Rattle.promises.specs.declared.State.{State}
use Rattle.promises.specs.declared.Dirty.{Dirty}
use Rattle.promises.specs.declared.Staged.{Staged}
use Rattle.promises.specs.declared.Cleaning.{Cleaning}
use Rattle.promises.specs.Contents.{groups_of, total}
use Rattle.promises.specs.States.{all_zero_state}
use Rattle.promises.specs.Sums.{first_groups, reserved_updates, owed_blocks, slots_taken, frames_taken, sequences_taken}
use Rattle.promises.specs.Sound.{
  dirty_numbers,
  distinct,
  all_below,
  all_legal,
  sizes_legal,
  of_oldest,
  names,
  staged_of,
  areas_of,
  sizes_sound,
  dirty_pages_sound,
  dirty_frames_sound,
  first_groups_sound,
  ticket_sound,
  staged_areas_sound,
  staged_places_sound,
  groups_sound,
  reservation_sound,
  half_group_sound,
  cleaning_sound,
  slot_sum_sound,
  frame_sum_sound,
  sequence_sum_sound,
  mark_sound,
  sound_as,
  sound,
  readable,
}

-- as a desk's state or as a copy's
pub record SoundAs (copy : Bool) (s : State) : Type 0 where
  pub pages : (1 ≤ s.pages) × (s.pages ≤ 4096)
  pub slots : (8 ≤ s.slots) × (s.slots ≤ 1024)
  pub frames : (1 ≤ s.frames) × (s.frames ≤ 32)
  pub distinct_pages : distinct (dirty_numbers s.dirty) ≡ true
  pub pages_below : all_below s.pages (dirty_numbers s.dirty) ≡ true
  pub frames_below : length (first_groups (drop s.frames s.dirty)) ≡ 0
  pub firsts_below : all_below s.next (first_groups s.dirty) ≡ true
  pub ticket : s.ticket < s.next - s.stored
  pub distinct_areas : distinct (areas_of (staged_of s)) ≡ true
  pub areas_below : all_below s.frames (areas_of (staged_of s)) ≡ true
  pub places : all_legal s.pages (staged_of s) ≡ true
  pub groups : sizes_legal (groups_of s) ≡ true
  pub queued : s.queued ≤ length s.groups
  pub staged : total (groups_of s) + s.described ≤ length s.staged
  pub reserved : s.reserved ≤ 16
  pub described : s.described ≤ s.reserved
  pub stored : half_group_sound copy s ≡ true
  pub cleaning : names s.cleaning (dirty_numbers s.dirty) ≡ true
  pub slot_sum : slots_taken s + reserved_updates s + owed_blocks s ≤ s.slots
  pub frame_sum : frames_taken s + reserved_updates s ≤ s.frames
  pub sequence_sum : sequences_taken s ≤ 2 ^ 48
  pub mark : mark_sound copy s ≡ true

abbrev pub Sound : State → Type 0
Sound s = SoundAs false s

pub sound-as-of : (copy : Bool) (s : State) → sound_as copy s ≡ true → SoundAs copy s
unfolding sound_as
sound-as-of copy s h =
    let a15 = and_both _ (mark_sound copy s) h in
    let a14 = and_both _ (sequence_sum_sound s) a15.0 in
    let a13 = and_both _ (frame_sum_sound s) a14.0 in
    let a12 = and_both _ (slot_sum_sound s) a13.0 in
    let a11 = and_both _ (cleaning_sound s) a12.0 in
    let a10 = and_both _ (half_group_sound copy s) a11.0 in
    let a9 = and_both _ (reservation_sound s) a10.0 in
    let a8 = and_both _ (groups_sound s) a9.0 in
    let a7 = and_both _ (staged_places_sound s) a8.0 in
    let a6 = and_both _ (staged_areas_sound s) a7.0 in
    let a5 = and_both _ (ticket_sound s) a6.0 in
    let a4 = and_both _ (first_groups_sound s) a5.0 in
    let a3 = and_both _ (dirty_frames_sound s) a4.0 in
    let a2 = and_both (sizes_sound s) (dirty_pages_sound s) a3.0 in
    let z2 = and_both (leb 8 s.slots && leb s.slots 1024 && (leb 1 s.pages && leb s.pages 4096)) (leb 1 s.frames && leb s.frames 32) a2.0 in
    let z1 = and_both (leb 8 s.slots && leb s.slots 1024) (leb 1 s.pages && leb s.pages 4096) z2.0 in
    let n = and_both (leb 8 s.slots) (leb s.slots 1024) z1.0 in
    let p = and_both (leb 1 s.pages) (leb s.pages 4096) z1.1 in
    let f = and_both (leb 1 s.frames) (leb s.frames 32) z2.1 in
    let d = and_both (distinct (dirty_numbers s.dirty)) (all_below s.pages (dirty_numbers s.dirty)) a2.1 in
    let a = and_both (distinct (areas_of (staged_of s))) (all_below s.frames (areas_of (staged_of s))) a6.1 in
    let g2 =
    and_both (sizes_legal (groups_of s) && leb s.queued (length s.groups)) (leb (total (groups_of s) + s.described) (length s.staged)) a8.1 in
    let g = and_both (sizes_legal (groups_of s)) (leb s.queued (length s.groups)) g2.0 in
    let r = and_both (leb s.reserved 16) (leb s.described s.reserved) a9.1 in
    record {
      pages = (leb-true _ _ p.0, leb-true _ _ p.1);
      slots = (leb-true _ _ n.0, leb-true _ _ n.1);
      frames = (leb-true _ _ f.0, leb-true _ _ f.1);
      distinct_pages = d.0;
      pages_below = d.1;
      frames_below = eqb-true _ _ a3.1;
      firsts_below = a4.1;
      ticket = ltb-true _ _ a5.1;
      distinct_areas = a.0;
      areas_below = a.1;
      places = a7.1;
      groups = g.0;
      queued = leb-true _ _ g.1;
      staged = leb-true _ _ g2.1;
      reserved = leb-true _ _ r.0;
      described = leb-true _ _ r.1;
      stored = a10.1;
      cleaning = a11.1;
      slot_sum = leb-true _ _ a12.1;
      frame_sum = leb-true _ _ a13.1;
      sequence_sum = leb-true _ _ a14.1;
      mark = a15.1;
    }

pub sound-of : (s : State) → sound s ≡ true → Sound s
sound-of s h = sound-as-of false s h

pub of-sound-as : (copy : Bool) (s : State) → SoundAs copy s → sound_as copy s ≡ true
unfolding sound_as
of-sound-as copy s f =
    let sizes : sizes_sound s ≡ true =
    and2
    (and2 (and2 (le-leb _ _ f.slots.0) (le-leb _ _ f.slots.1)) (and2 (le-leb _ _ f.pages.0) (le-leb _ _ f.pages.1)))
    (and2 (le-leb _ _ f.frames.0) (le-leb _ _ f.frames.1)) in
    let groups : groups_sound s ≡ true = and2 (and2 f.groups (le-leb _ _ f.queued)) (le-leb _ _ f.staged) in
    let reservation : reservation_sound s ≡ true = and2 (le-leb _ _ f.reserved) (le-leb _ _ f.described) in
    let a3 = and2 (and2 sizes (and2 f.distinct_pages f.pages_below)) (eq-eqb _ _ f.frames_below) in
    let a6 = and2 (and2 (and2 a3 f.firsts_below) (lt-ltb _ _ f.ticket)) (and2 f.distinct_areas f.areas_below) in
    let a9 = and2 (and2 (and2 a6 f.places) groups) reservation in
    let a11 = and2 (and2 a9 f.stored) f.cleaning in
    and2 (and2 (and2 (and2 a11 (le-leb _ _ f.slot_sum)) (le-leb _ _ f.frame_sum)) (le-leb _ _ f.sequence_sum)) f.mark

pub of-sound : (s : State) → Sound s → sound s ≡ true
of-sound s f = of-sound-as false s f

-- a state that is sound to the desk's calls is a desk's
pub desk-of : (s : State) → sound s ≡ true → s.copy ≡ false
desk-of s h = not-true _ (sound-of s h).mark

-- to Read and Settled a desk's state is sound as to the other calls
pub readable-desk : (s : State) → s.copy ≡ false → readable s ≡ sound s
readable-desk s e = ap (λ (c : Bool). sound_as c s) e

-- ---- the facts in parts, each over the fields that it speaks of: a part whose fields a call leaves is handed on whole

pub record SizesPart (P N F : ℕ) : Type 0 where
  pub pages : (1 ≤ P) × (P ≤ 4096)
  pub slots : (8 ≤ N) × (N ≤ 1024)
  pub frames : (1 ≤ F) × (F ≤ 32)

pub record DirtyPart (pages frames next : ℕ) (dirty : List Dirty) (at : Cleaning) : Type 0 where
  pub distinct_pages : distinct (dirty_numbers dirty) ≡ true
  pub pages_below : all_below pages (dirty_numbers dirty) ≡ true
  pub frames_below : length (first_groups (drop frames dirty)) ≡ 0
  pub firsts_below : all_below next (first_groups dirty) ≡ true
  pub cleaning : names at (dirty_numbers dirty) ≡ true

-- of the updates that wait
pub record StagedPart (pages frames : ℕ) (updates : List Staged) : Type 0 where
  pub distinct_areas : distinct (areas_of updates) ≡ true
  pub areas_below : all_below frames (areas_of updates) ≡ true
  pub places : all_legal pages updates ≡ true

-- of the sizes of groups, how many are queued, and how many updates of the oldest are stored
pub record GroupsPart (sizes : List ℕ) (count first : ℕ) : Type 0 where
  pub groups : sizes_legal (take count sizes) ≡ true
  pub queued : count ≤ length sizes
  pub stored : of_oldest first (take count sizes) ≡ true

-- of the updates that the open transaction reserved and has described
pub record TransactionPart (most so_far : ℕ) : Type 0 where
  pub reserved : most ≤ 16
  pub described : so_far ≤ most

pub record Parts (s : State) : Type 0 where
  pub sizes : SizesPart s.pages s.slots s.frames
  pub dirty : DirtyPart s.pages s.frames s.next s.dirty s.cleaning
  pub waiting : StagedPart s.pages s.frames (staged_of s)
  pub groups : GroupsPart s.groups s.queued s.stored
  pub transaction : TransactionPart s.reserved s.described
  pub ticket : s.ticket < s.next - s.stored
  pub staged : total (groups_of s) + s.described ≤ length s.staged
  pub slot_sum : slots_taken s + reserved_updates s + owed_blocks s ≤ s.slots
  pub frame_sum : frames_taken s + reserved_updates s ≤ s.frames
  pub sequence_sum : sequences_taken s ≤ 2 ^ 48
  pub mark : not s.copy ≡ true

pub parts-of : {s : State} → Sound s → Parts s
parts-of f = record {
  sizes = record { pages = f.pages; slots = f.slots; frames = f.frames };
  dirty = record {
    distinct_pages = f.distinct_pages;
    pages_below = f.pages_below;
    frames_below = f.frames_below;
    firsts_below = f.firsts_below;
    cleaning = f.cleaning;
  };
  waiting = record { distinct_areas = f.distinct_areas; areas_below = f.areas_below; places = f.places };
  groups = record { groups = f.groups; queued = f.queued; stored = f.stored };
  transaction = record { reserved = f.reserved; described = f.described };
  ticket = f.ticket;
  staged = f.staged;
  slot_sum = f.slot_sum;
  frame_sum = f.frame_sum;
  sequence_sum = f.sequence_sum;
  mark = f.mark;
}

pub of_parts : {s : State} → Parts s → Sound s
of_parts p = record {
  pages = p.sizes.pages;
  slots = p.sizes.slots;
  frames = p.sizes.frames;
  distinct_pages = p.dirty.distinct_pages;
  pages_below = p.dirty.pages_below;
  frames_below = p.dirty.frames_below;
  firsts_below = p.dirty.firsts_below;
  ticket = p.ticket;
  distinct_areas = p.waiting.distinct_areas;
  areas_below = p.waiting.areas_below;
  places = p.waiting.places;
  groups = p.groups.groups;
  queued = p.groups.queued;
  staged = p.staged;
  reserved = p.transaction.reserved;
  described = p.transaction.described;
  stored = p.groups.stored;
  cleaning = p.dirty.cleaning;
  slot_sum = p.slot_sum;
  frame_sum = p.frame_sum;
  sequence_sum = p.sequence_sum;
  mark = p.mark;
}

-- the all-zero state is not sound
pub all-zero-unsound : sound all_zero_state ≡ false
unfolding sound_as
all-zero-unsound = refl
