-- The tests of the code, taken together, are soundness.
-- Assumes nothing.
use mathlib.Core.Path.{◌≡◌, sym}
use mathlib.Core.Bool.{Bool, true, false, ◌&&◌}
use mathlib.Core.List.{List}
use Prim.Native.Nat.{ℕ, ◌+◌, ◌≤◌}
use native.Mathlib.Omega.{arith}
use native.Mathlib.Nat.{sub-zero}
use lib.ListN.{length, take}
use borrow.Author.Tests.{leb-true, ltb-true, le-leb, lt-ltb}
use Rattle.area.proofs.Laws.{and_both, and2, never_both, not-passed}
use Rattle.block.proofs.Tests.{bool-ext}
use Rattle.promises.specs.declared.State.{State}
use Rattle.promises.specs.declared.Staged.{Staged}
use Rattle.promises.specs.Contents.{total, groups_of}
use Rattle.promises.specs.Sums.{frames_taken, reserved_updates}
use Rattle.promises.specs.Sound.{distinct, dirty_numbers, areas_of, sizes_legal, staged_of, half_group_sound, mark_sound, ticket_sound, slot_sum_sound, frame_sum_sound, sequence_sum_sound, names, cleaning_sound, sound_as}
use Rattle.promises.proofs.Soundness.{SoundAs, sound-as-of, of-sound-as}
use Rattle.soundness.specs.Tests.{in_range, fitting, kind_legal, counts_legal, entries_legal, pages_legal, updates_legal, waiting_legal}
use Rattle.soundness.proofs.Counts.{InRange, range-of, of_range, reserved-is}
use Rattle.soundness.proofs.Entries.{Entries, entries-of, of-entries, Waiting, waiting-of, of-waiting}

-- what the counts' tests tell
pub record Counted (copy : Bool) (s : State) : Type 0 where
  pub range : InRange s
  pub groups : sizes_legal (groups_of s) ≡ true
  pub stored : half_group_sound copy s ≡ true
  pub mark : mark_sound copy s ≡ true
  pub ticket : ticket_sound s ≡ true
  pub slot_sum : slot_sum_sound s ≡ true
  pub frame_sum : frame_sum_sound s ≡ true
  pub sequence_sum : sequence_sum_sound s ≡ true

pub counted : (copy : Bool) (s : State) → counts_legal copy s ≡ true → Counted copy s
unfolding counts_legal
counted copy s h =
    let a2 = and_both (in_range s && (sizes_legal (groups_of s) && kind_legal copy s)) (fitting s) h in
    let a1 = and_both (in_range s) (sizes_legal (groups_of s) && kind_legal copy s) a2.0 in
    let g = and_both (sizes_legal (groups_of s)) (kind_legal copy s) a1.1 in
    let k = and_both (half_group_sound copy s) (mark_sound copy s) g.1 in
    let f3 = and_both (ticket_sound s && slot_sum_sound s && frame_sum_sound s) (sequence_sum_sound s) a2.1 in
    let f2 = and_both (ticket_sound s && slot_sum_sound s) (frame_sum_sound s) f3.0 in
    let f1 = and_both (ticket_sound s) (slot_sum_sound s) f2.0 in
    record { range = range-of s a1.0; groups = g.0; stored = k.0; mark = k.1; ticket = f1.0; slot_sum = f1.1; frame_sum = f2.1; sequence_sum = f3.1 }

-- the updates that wait have their place in the state
pub waiting_few : (copy : Bool) (s : State) → counts_legal copy s ≡ true → total (groups_of s) + s.described ≤ 32
waiting_few copy s h =
    let k = counted copy s h in
    let r = k.range in
    omega (arith, leb-true (frames_taken s + reserved_updates s) s.frames k.frame_sum, reserved-is s)

pub counts_of : (copy : Bool) (s : State) → length s.groups ≡ 32 → SoundAs copy s → counts_legal copy s ≡ true
unfolding counts_legal
counts_of copy s long f =
    let range : InRange s = record {
      slots = f.slots;
      pages = f.pages;
      frames = f.frames;
      queued = omega (arith, f.queued);
      reserved = f.reserved;
      described = f.described;
      next = omega (arith, f.sequence_sum);
      stored = omega (arith, f.ticket);
    } in
    and2 (and2 (of_range s range) (and2 f.groups (and2 f.stored f.mark)))
    (and2 (and2 (and2 (lt-ltb _ _ f.ticket) (le-leb _ _ f.slot_sum)) (le-leb _ _ f.frame_sum)) (le-leb _ _ f.sequence_sum))

-- what one pass over the groups tells, and the kind
pub told : (copy : Bool) (s : State) (legal kind : Bool) → legal ≡ sizes_legal (groups_of s) → kind ≡ kind_legal copy s
    → (legal && kind) ≡ (sizes_legal (groups_of s) && kind_legal copy s)
told copy s legal kind e f = rw (e, f)

-- what one pass over the frames and the cleaning tell
pub surveyed : (s : State) (legal : Bool) (listed : List ℕ) → legal ≡ entries_legal s.pages s.frames s.next 0 s.dirty → listed ≡ dirty_numbers s.dirty
    → (legal && distinct listed && names s.cleaning listed) ≡ pages_legal s
surveyed s legal listed e f = rw (e, f)

-- no update waits
pub none-waiting : (pages frames : ℕ) (staged : List Staged) (count : ℕ) → count ≡ 0 → true ≡ waiting_legal pages frames (take count staged)
unfolding updates_legal
none-waiting pages frames staged count e = rw e

module _ (copy : Bool) (s : State) (groups-long : length s.groups ≡ 32) (staged-long : length s.staged ≡ 32) where
  -- counts that fail refuse the state
  pub unsound : counts_legal copy s ≡ false → false ≡ sound_as copy s
  unsound e = sym (not-passed (sound_as copy s) (λ t. never_both (counts_legal copy s) (counts_of copy s groups-long (sound-as-of copy s t)) e))

  abbrev arrays : Bool
  arrays = pages_legal s && waiting_legal s.pages s.frames (staged_of s)

  to-sound : counts_legal copy s ≡ true → arrays ≡ true → SoundAs copy s
  to-sound h a =
      let k = counted copy s h in
      let r = k.range in
      let both = and_both (pages_legal s) (waiting_legal s.pages s.frames (staged_of s)) a in
      let p2 = and_both (entries_legal s.pages s.frames s.next 0 s.dirty && distinct (dirty_numbers s.dirty)) (cleaning_sound s) both.0 in
      let p1 = and_both (entries_legal s.pages s.frames s.next 0 s.dirty) (distinct (dirty_numbers s.dirty)) p2.0 in
      let w1 = and_both (updates_legal s.pages s.frames (staged_of s)) (distinct (areas_of (staged_of s))) both.1 in
      let e = entries-of s.pages s.frames s.next 0 s.dirty p1.0 in
      let w = waiting-of s.pages s.frames (staged_of s) w1.0 in
      record {
        pages = r.pages;
        slots = r.slots;
        frames = r.frames;
        distinct_pages = p1.1;
        pages_below = e.pages_below;
        frames_below = rw sub-zero at e.frames_below;
        firsts_below = e.firsts_below;
        ticket = ltb-true _ _ k.ticket;
        distinct_areas = w1.1;
        areas_below = w.areas_below;
        places = w.places;
        groups = k.groups;
        queued = omega (arith, r.queued);
        staged = omega (arith, waiting_few copy s h);
        reserved = r.reserved;
        described = r.described;
        stored = k.stored;
        cleaning = p2.1;
        slot_sum = leb-true _ _ k.slot_sum;
        frame_sum = leb-true _ _ k.frame_sum;
        sequence_sum = leb-true _ _ k.sequence_sum;
        mark = k.mark;
      }

  from-sound : SoundAs copy s → arrays ≡ true
  from-sound f =
      let e : Entries s.pages s.frames s.next 0 s.dirty = record { pages_below = f.pages_below; frames_below = rw sub-zero f.frames_below; firsts_below = f.firsts_below } in
      let w : Waiting s.pages s.frames (staged_of s) = record { areas_below = f.areas_below; places = f.places } in
      and2 (and2 (and2 (of-entries s.pages s.frames s.next 0 s.dirty e) f.distinct_pages) f.cleaning)
      (and2 (of-waiting s.pages s.frames (staged_of s) w) f.distinct_areas)

  arrays-decide : counts_legal copy s ≡ true → arrays ≡ sound_as copy s
  arrays-decide h = bool-ext arrays (sound_as copy s) (λ a. of-sound-as copy s (to-sound h a)) (λ t. from-sound (sound-as-of copy s t))

  -- counts that pass leave the arrays to decide; the code counts V and the updates described
  pub decided : counts_legal copy s ≡ true → (queued : ℕ) (pages staged : Bool) → queued ≡ total (groups_of s) → pages ≡ pages_legal s
      → staged ≡ waiting_legal s.pages s.frames (take (queued + s.described) s.staged) → (pages && staged) ≡ sound_as copy s
  decided h queued pages staged q p w = rw (p, w, q) (arrays-decide h)
