-- The block that a Log step stores, from the fields and the bytes that the code hands to the store.
-- Assumes nothing.
use mathlib.Core.Path.{◌≡◌, sym, ap, ◌∙◌}
use mathlib.Core.List.{List, []}
use Prim.Native.Nat.{ℕ, ◌+◌, ◌-◌, ◌*◌, ◌≤◌}
use native.Mathlib.Omega.{arith}
use lib.ListN.{length, take, drop}
use Rattle.area.specs.Part.{part}
use Rattle.area.proofs.Parts.{from-to, length_part}
use Rattle.block.specs.Kind.{update_block, commit_block}
use Rattle.block.specs.Layout.{layout}
use Rattle.block.specs.Legal.{slot_of}
use Rattle.block.specs.declared.Block.{Block}
use Rattle.promises.specs.declared.State.{State}
use Rattle.promises.specs.Areas.{with_slot}
use Rattle.promises.specs.Blocks.{written, stored}
use Rattle.logging.specs.Logging.{size_of, staged_at, update_at, commit_at}

module _ (s : State) (log out : List ℕ) (keep : ℕ) (block : Block) where
  -- the update's fields are the staged ones, and its bytes the first of its staging area
  pub update-stored : (staging : List ℕ) (at long page offset : ℕ) → at ≡ (staged_at s s.stored).area * 472 → long ≡ (staged_at s s.stored).length
      → page ≡ (staged_at s s.stored).page → offset ≡ (staged_at s s.stored).offset → at + long ≤ length staging
      → block ≡ update_block s.next keep (s.stored + 1) page offset long s.ticket
      → out ≡ with_slot log (slot_of s.slots block.sequence) (layout block (take (at + long - at) (drop at staging)))
      → out ≡ stored s.slots log s.next (update_at s staging keep)
  unfolding written
  update-stored staging at long page offset a l p o h b e =
      let new : List ℕ = part staging at long in
      let same : (staged_at s s.stored).length ≡ length (part staging ((staged_at s s.stored).area * 472) (staged_at s s.stored).length) =
      sym (length_part staging ((staged_at s s.stored).area * 472) (staged_at s s.stored).length (omega arith)) in
      e
      ∙ ap (λ (x : List ℕ). with_slot log (slot_of s.slots block.sequence) (layout block x)) (from-to staging at long)
      ∙ ap (λ (x : Block). with_slot log (slot_of s.slots x.sequence) (layout x new)) (b ∙ rw (p, o, l))
      ∙ ap (λ (x : List ℕ). with_slot log (slot_of s.slots s.next) (layout (update_block s.next keep (s.stored + 1) (staged_at s s.stored).page (staged_at s s.stored).offset (staged_at s s.stored).length s.ticket) x)) (rw (a, l))
      ∙ ap (λ (n : ℕ). with_slot log (slot_of s.slots s.next) (layout (update_block s.next keep (s.stored + 1) (staged_at s s.stored).page (staged_at s s.stored).offset n s.ticket) (part staging ((staged_at s s.stored).area * 472) (staged_at s s.stored).length))) same

  pub commit-stored : (size : ℕ) (none : List ℕ) → size ≡ size_of s → none ≡ [] → block ≡ commit_block s.next keep size (s.ticket + 1)
      → out ≡ with_slot log (slot_of s.slots block.sequence) (layout block none) → out ≡ stored s.slots log s.next (commit_at s keep)
  unfolding written
  commit-stored size none n z b e =
      e
      ∙ ap (λ (x : Block). with_slot log (slot_of s.slots x.sequence) (layout x none)) (b ∙ ap (λ (x : ℕ). commit_block s.next keep x (s.ticket + 1)) n)
      ∙ ap (λ (x : List ℕ). with_slot log (slot_of s.slots s.next) (layout (commit_block s.next keep (size_of s) (s.ticket + 1)) x)) z
