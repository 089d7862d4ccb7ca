-- The three stores of a cleaning, from what the code hands to the store; and that the clean block leaves a sound state.
-- Assumes nothing.
use mathlib.Core.Path.{◌≡◌, refl, sym, ap, ◌∙◌}
use mathlib.Core.Bool.{true, false}
use mathlib.Core.List.{List, [], ◌++◌}
use Prim.Native.Nat.{ℕ, ◌+◌, ◌-◌, ◌*◌, ◌^◌, ◌≤◌, ◌<◌}
use native.Mathlib.Omega.{arith}
use lib.Dec.{eqb}
use lib.ListN.{length, set}
use borrow.Author.Tests.{eq-eqb, ne_eqb}
use Rattle.area.specs.Part.{part, splice}
use Rattle.area.proofs.Parts.{part-part}
use Rattle.block.specs.Kind.{clean_block}
use Rattle.block.specs.Layout.{layout}
use Rattle.block.specs.Legal.{slot_of}
use Rattle.block.specs.declared.Block.{Block}
use Rattle.promises.specs.declared.State.{State}
use Rattle.promises.specs.declared.Dirty.{Dirty}
use Rattle.promises.specs.Areas.{page_at, with_slot}
use Rattle.promises.specs.Blocks.{written}
use Rattle.promises.specs.DirtyPages.{DirtyPage, at, look_up, without}
use Rattle.promises.specs.Contents.{dirty_of}
use Rattle.promises.specs.Sums.{first_groups, half_starts, group_start, smallest, sequences_taken}
use Rattle.promises.specs.Sound.{all_below, dirty_numbers}
use Rattle.promises.proofs.Soundness.{Sound, parts-of, of_parts}
use Rattle.promises.proofs.SoundFacts.{length-dirty, keep_from-dirty}
use Rattle.promises.proofs.Changes.{below_more, held-is, smallest-le}
use Rattle.promises.proofs.History.Whole.{without-less}
use Rattle.promises.specs.States.{free, is_of}
use Rattle.table.specs.Table.{Holds}
use Rattle.table.proofs.Applying.{drops-of}
use Rattle.table.proofs.Holding.{held-count, held-keep, Each, Below, each-without, held_below}
use Rattle.stepping.specs.Tables.{table_with, table_of}
use Rattle.stepping.proofs.Held.{each_below, each-oldest, oldest-each}
use Rattle.cleaning.specs.Cleans.{entry_at, cleaned_log, clean_done}

-- ---- the halves

pub half-stored : (home frames out : List ℕ) (page frame to start : ℕ) → start + 512 ≤ 1024 → to ≡ page * 1024 + start
    → out ≡ splice home to 512 (part frames (frame * 1024 + start) 512) → out ≡ splice home (page * 1024 + start) 512 (part (page_at frames frame) start 512)
half-stored home frames out page frame to start h t e =
    e ∙ ap (λ (n : ℕ). splice home n 512 (part frames (frame * 1024 + start) 512)) t
    ∙ ap (splice home (page * 1024 + start) 512) (sym (part-part frames (frame * 1024) 1024 start 512 h))

-- ---- the clean block

-- in its slot
pub cleaned-by : (s : State) (log log' none : List ℕ) (frame page keep : ℕ) (block : Block) → page ≡ (entry_at s frame).page
    → keep ≡ smallest s.next (first_groups (set s.dirty frame free)) → block ≡ clean_block s.next keep page s.ticket → none ≡ []
    → log' ≡ with_slot log (slot_of s.slots block.sequence) (layout block none) → log' ≡ cleaned_log s log frame
unfolding written
cleaned-by s log log' none frame page keep block p k b z l =
    l ∙ ap (λ (x : Block). with_slot log (slot_of s.slots x.sequence) (layout x none)) b
    ∙ ap (λ (x : List ℕ). with_slot log (slot_of s.slots s.next) (layout (clean_block s.next keep page s.ticket) x)) z
    ∙ ap (λ (n : ℕ). with_slot log (slot_of s.slots s.next) (layout (clean_block s.next n page s.ticket) [])) k
    ∙ ap (λ (n : ℕ). with_slot log (slot_of s.slots s.next) (layout (clean_block s.next (smallest s.next (first_groups (set s.dirty frame free))) n s.ticket) [])) p

-- the frame is free then: its page is dropped
pub drops-page : (s : State) (frame : ℕ) → frame < s.frames → s.frames ≤ length s.dirty → ((entry_at s frame).first ≡ 0 → ⊥)
    → (frames : List ℕ) (entries : List DirtyPage) → Holds (table_of s) frames entries
    → Holds (table_with s (set s.dirty frame free)) frames (without (entry_at s frame).page entries)
drops-page s frame below long used = (drops-of (table_of s) (entry_at s frame).page long frame (held (ne_eqb _ _ used)) below).holds
  where
    held : eqb (entry_at s frame).first 0 ≡ false → is_of (entry_at s frame).page (entry_at s frame) ≡ true
    held e = rw e (eq-eqb (entry_at s frame).page (entry_at s frame).page refl)

-- ---- A CLEAN BLOCK LEAVES A SOUND STATE: a page less is dirty, and H grows by the block stored
pub sound-clean : (s : State) (frames : List ℕ) (page : ℕ) (e : DirtyPage) (dirty : List Dirty) → Sound s → s.stored ≡ 0 → (sequences_taken s ≡ 2 ^ 48 → ⊥)
    → look_up page (dirty_of s frames) ≡ at e → Holds (table_with s dirty) frames (without page (dirty_of s frames)) → Sound (clean_done s dirty)
sound-clean s frames page e dirty f none more found holds =
    let entries : List DirtyPage = without page (dirty_of s frames) in
    let keep : ℕ = smallest (group_start s) (first_groups s.dirty) in
    let start : group_start s ≡ s.next = omega arith in
    let start' : s.next + 1 - s.stored ≡ s.next + 1 = omega arith in
    let own : keep ≤ group_start s = smallest-le (group_start s) (first_groups s.dirty) in
    let old : Each (λ p first. keep ≤ first) (dirty_of s frames) =
    each-oldest keep (group_start s) (dirty_of s frames) (omega (arith, keep_from-dirty (group_start s) frames 0 s.dirty)) in
    let least : keep ≤ smallest (s.next + 1 - s.stored) (first_groups dirty) =
    omega (
      arith,
      oldest-each keep (s.next + 1 - s.stored) entries (omega arith) (each-without (λ p first. keep ≤ first) page (dirty_of s frames) old),
      held-keep (table_with s dirty) frames entries holds (s.next + 1 - s.stored),
    ) in
    let count : length (first_groups dirty) + 1 ≤ length (first_groups s.dirty) =
    omega (arith, held-count (table_with s dirty) frames entries holds, without-less page e (dirty_of s frames) found, length-dirty frames 0 s.dirty) in
    let below : (all_below s.pages (dirty_numbers dirty) ≡ true) × (all_below (s.next + 1) (first_groups dirty) ≡ true) =
    held_below s.pages (s.next + 1) (table_with s dirty) frames entries holds
    (each-without (Below s.pages (s.next + 1)) page (dirty_of s frames)
    (each_below s.pages (s.next + 1) frames 0 s.dirty f.pages_below (below_more s.next (s.next + 1) (first_groups s.dirty) (omega arith) f.firsts_below))) in
    let h : smallest s.next (half_starts s ++ first_groups s.dirty) ≡ keep = held-is s in
    let h' : smallest (s.next + 1) (half_starts (clean_done s dirty) ++ first_groups dirty) ≡ smallest (s.next + 1 - s.stored) (first_groups dirty) = held-is (clean_done s dirty) in
    of_parts (record {
      sizes = (parts-of f).sizes;
      dirty = record {
        distinct_pages = holds.table_distinct;
        pages_below = below.0;
        frames_below = holds.within;
        firsts_below = below.1;
        cleaning = refl;
      };
      waiting = (parts-of f).waiting;
      groups = (parts-of f).groups;
      transaction = (parts-of f).transaction;
      ticket = omega (arith, f.ticket);
      staged = f.staged;
      slot_sum = omega (arith, f.slot_sum, h, h', least, count, own);
      frame_sum = omega (arith, f.frame_sum, count);
      sequence_sum = omega (arith, f.sequence_sum, more);
      mark = f.mark;
    })
