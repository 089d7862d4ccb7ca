-- The sums of the code are those of the definitions.
-- Assumes nothing.
use mathlib.Core.Path.{◌≡◌, refl, sym, ap, ◌∙◌}
use mathlib.Core.Bool.{Bool, true, false, ◌&&◌}
use Prim.Native.Nat.{ℕ, ◌+◌, ◌-◌, ◌^◌, ◌≤◌, ◌<◌}
use native.Mathlib.Omega.{arith}
use lib.ListN.{length}
use lib.Seq.{length-take-le}
use borrow.Author.Tests.{eq-eqb, ne_eqb}
use Rattle.promises.specs.declared.State.{State}
use Rattle.promises.specs.Contents.{total, groups_of}
use Rattle.promises.specs.Sums.{first_groups, group_start, smallest, block_count, dirty_count, reserved_updates, waiting_blocks}
use Rattle.soundness.specs.declared.sums.Sums.{Sums}
use Rattle.promises.specs.Sound.{sizes_legal, sound_as}
use Rattle.promises.proofs.Soundness.{SoundAs, sound-as-of}
use Rattle.promises.proofs.Changes.{held-is}
use Rattle.block.proofs.Tests.{tests}
use Rattle.soundness.specs.Tests.{in_range, fitting, kind_legal, counts_legal}
use Rattle.soundness.specs.Summed.{Addable, Summed, Small}
use Rattle.soundness.proofs.Scans.{blocks-total}

by_zero : {C : Type 0} (a : ℕ) → (a ≡ 0 → C) → ((a ≡ 0 → ⊥) → C) → C
by_zero ℕ.zero f g = f refl
by_zero (ℕ.suc a) f g = g (λ e. omega arith)

-- R is what the state says
pub reserved-is : (s : State) → reserved_updates s ≡ s.reserved
reserved-is s = by_zero s.reserved (λ e. simp (eq-eqb _ _ e) (sym e)) (λ n. simp (ne_eqb _ _ n) (omega arith))

-- the queued blocks: the updates and a commit for each group
pub blocks-queued : (s : State) → s.queued ≤ length s.groups → block_count (groups_of s) ≡ total (groups_of s) + s.queued
blocks-queued s h = blocks-total (groups_of s) ∙ ap (λ (n : ℕ). total (groups_of s) + n) (length-take-le s.queued s.groups h)

pub waiting-is : (s : State) → s.queued ≤ length s.groups → waiting_blocks s ≡ total (groups_of s) + s.queued - s.stored
waiting-is s h = ap (λ (n : ℕ). n - s.stored) (blocks-queued s h)

-- the sums from the oldest group, the count of dirty pages and V
pub summed : (s : State) (low count queued left : ℕ) → length s.groups ≡ 32 → Addable s → low ≡ smallest (group_start s) (first_groups s.dirty)
    → (count ≡ dirty_count s) × (count ≤ 32) → (queued ≡ total (groups_of s)) × (queued ≤ 8160) → left ≡ queued + s.queued - s.stored
    → Summed s (record { held = s.next - low; waiting = left; dirty = count; queued = queued })
summed s low count queued left long a oldest dirty total rest =
    record {
      held = ap (λ (n : ℕ). s.next - n) (oldest ∙ sym (held-is s));
      waiting = rest ∙ ap (λ (n : ℕ). n + s.queued - s.stored) total.0 ∙ sym (waiting-is s (omega (arith, a.queued)));
      dirty = dirty.0;
      queued = total.0;
      held-most = omega (arith, a.next);
      waiting-most = omega (arith, a.queued, rest);
      dirty-most = dirty.1;
      queued-most = total.1;
    }

-- ---- the numbers in range

pub record InRange (s : State) : Type 0 where
  pub slots : (8 ≤ s.slots) × (s.slots ≤ 1024)
  pub pages : (1 ≤ s.pages) × (s.pages ≤ 4096)
  pub frames : (1 ≤ s.frames) × (s.frames ≤ 32)
  pub queued : s.queued ≤ 32
  pub reserved : s.reserved ≤ 16
  pub described : s.described ≤ s.reserved
  pub next : s.next ≤ 2 ^ 48
  pub stored : s.stored < s.next

pub range-of : (s : State) → in_range s ≡ true → InRange s
range-of s h = let g = simp tests at h in omega arith

pub of_range : (s : State) → InRange s → in_range s ≡ true
of_range s r = simp tests (omega arith)

-- sums can be added up where the numbers are in range
pub addable : (s : State) → in_range s ≡ true → Addable s
addable s h = let r = range-of s h in record { queued = r.queued; reserved = r.reserved; next = r.next; stored = r.stored }

-- in a sound state the sums are within the sizes
pub sums-small : (copy : Bool) (s : State) (t : Sums) → sound_as copy s ≡ true → Summed s t → Small s t
sums-small copy s t h e =
    let f : SoundAs copy s = sound-as-of copy s h in
    record {
      slots = rw (e.held, e.waiting, e.dirty, e.queued) (omega (arith, f.slot_sum));
      slots-most = f.slots.1;
      frames = rw (e.dirty, e.queued) (omega (arith, f.frame_sum));
      frames-most = f.frames.1;
      sequences = rw e.waiting (omega (arith, f.sequence_sum));
    }

-- ---- the tests of the counts, one after the other

pub counts-range : (copy : Bool) (s : State) → in_range s ≡ false → false ≡ counts_legal copy s
unfolding counts_legal
counts-range copy s e = sym (ap (λ (b : Bool). b && (sizes_legal (groups_of s) && kind_legal copy s) && fitting s) e)

pub counts-groups : (copy : Bool) (s : State) → in_range s ≡ true → (sizes_legal (groups_of s) && kind_legal copy s) ≡ false → false ≡ counts_legal copy s
unfolding counts_legal
counts-groups copy s e g = sym (ap (λ (b : Bool). b && (sizes_legal (groups_of s) && kind_legal copy s) && fitting s) e ∙ ap (λ (b : Bool). b && fitting s) g)

pub counts-fit : (copy : Bool) (s : State) → in_range s ≡ true → (sizes_legal (groups_of s) && kind_legal copy s) ≡ true → fitting s ≡ counts_legal copy s
unfolding counts_legal
counts-fit copy s e g = sym (ap (λ (b : Bool). b && (sizes_legal (groups_of s) && kind_legal copy s) && fitting s) e ∙ ap (λ (b : Bool). b && fitting s) g)
