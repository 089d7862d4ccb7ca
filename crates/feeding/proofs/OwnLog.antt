-- Where the copy's own log lacks no update of the half group, the updates are those that the headers tell, each within a page of home.
-- Assumes nothing.
use mathlib.Core.Path.{◌≡◌, refl, sym, ap, ◌∙◌, subst}
use mathlib.Core.Bool.{Bool, true, false, ◌&&◌}
use mathlib.Core.List.{List, ◌∷◌}
use Prim.Native.Nat.{ℕ, zero, suc, ◌+◌, ◌≤◌, ◌<◌}
use native.Mathlib.Omega.{arith}
use lib.Dec.{eqb, leb, ltb}
use lib.ListN.{length}
use borrow.Author.Tests.{eqb-true, leb-true, ltb-true}
use Rattle.area.proofs.Laws.{and_both}
use Rattle.block.specs.declared.Kind as format
use Rattle.block.specs.Legal.{legal, legal_kind, legal_numbers, legal_place, slot_of}
use Rattle.block.specs.Slot.{block_at}
use Rattle.promises.specs.Areas.{slot_bytes, slots_in}
use Rattle.promises.specs.Updates.{Update}
use Rattle.promises.specs.Blocks.{LogBlock, Slot, unused, damaged, valid, kind_in, slot_at, slots_of}
use Rattle.promises.specs.Newest.{sequence_in}
use Rattle.promises.specs.Feed.{change_of, change_in, updates_from, has_index, is_update, lacking}
use Rattle.promises.proofs.Replies.{no-accept}
use Rattle.recovery.specs.Log.{header_of, update_of, Placed}
use Rattle.recovery.specs.Log as recovered
use Rattle.opening.proofs.Gathering.{block_is, Holding, holding}
use Rattle.feeding.proofs.Testing.{slot-of, lacking-next, lacking-here}

-- an update with this index, legal for a home of so many pages
indexed : (P ticket index : ℕ) (k : format.Kind) (bytes : List ℕ) → has_index index (kind_in k bytes) ≡ true → legal_kind P ticket k ≡ true
    → (change_of (kind_in k bytes) ≡ recovered.change_in k bytes) × Placed P k
indexed P ticket index (format.TheVariants.Update i page offset count) bytes h l =
    let a = and_both (leb 1 i && leb i 16) (legal_place P page offset count) l in
    let b = and_both (ltb page P && leb 1 count && leb count 472) (leb (offset + count) 1024) a.1 in
    let c = and_both (ltb page P && leb 1 count) (leb count 472) b.0 in
    let d = and_both (ltb page P) (leb 1 count) c.0 in
    (refl, (ltb-true _ _ d.0, leb-true _ _ c.1, leb-true _ _ b.1))
indexed P ticket index (format.TheVariants.Commit updates) bytes h l = no-accept h
indexed P ticket index (format.TheVariants.Clean page) bytes h l = no-accept h

same_block : (a b : ℕ) (x y : LogBlock) → valid a x ≡ valid b y → x ≡ y
same_block a b x y e = cc

module _ (N P : ℕ) (log : List ℕ) (big : 0 < N) (size : slots_in (length log) ≡ N) where
  abbrev slots₀ : List Slot
  slots₀ = slots_of N P log

  abbrev There : ℕ → Type 0
  There sequence = (change_in (slot_at N P log (slot_of N sequence)) ≡ update_of log sequence) × Placed P (header_of log sequence).kind

  at-update : (sequence index : ℕ) → 1 ≤ sequence → is_update sequence index (slot_at N P log (slot_of N sequence)) ≡ true → There sequence
  unfolding header_of update_of legal
  at-update sequence index one e = go (slot_at N P log (slot_of N sequence)) refl e
    where
      bytes : List ℕ
      bytes = slot_bytes log (slot_of N sequence)

      go : (x : Slot) → slot_at N P log (slot_of N sequence) ≡ x → is_update sequence index x ≡ true → There sequence
      go unused f h = no-accept h
      go damaged f h = no-accept h
      go (valid found b) f h =
          let t = and_both (eqb found sequence) (has_index index b.kind) h in
          let q : sequence_in (slot_at N P log (slot_of N sequence)) ≡ sequence = ap sequence_in f ∙ eqb-true _ _ t.0 in
          let held : Holding N P log (slot_of N sequence) sequence = holding N P log (slot_of N sequence) sequence (λ z. absurd (omega arith)) q in
          let is : b ≡ block_is bytes = same_block found sequence b (block_is bytes) (sym f ∙ held.slot_is) in
          let hx : has_index index (kind_in (block_at bytes).kind bytes) ≡ true = ap (λ (y : LogBlock). has_index index y.kind) (sym is) ∙ t.1 in
          let lk : legal_kind P (block_at bytes).ticket (block_at bytes).kind ≡ true =
          (and_both (legal_numbers N (block_at bytes).sequence (block_at bytes).keep_from (block_at bytes).ticket) (legal_kind P (block_at bytes).ticket (block_at bytes).kind) held.rules).1 in
          let r = indexed P (block_at bytes).ticket index (block_at bytes).kind bytes hx lk in
          let there : (change_in (slot_at N P log (slot_of N sequence)) ≡ recovered.change_in (block_at bytes).kind bytes) × Placed P (block_at bytes).kind =
          (ap change_in held.slot_is ∙ r.0, r.1) in
          subst (λ (n : ℕ). (change_in (slot_at N P log (slot_of N sequence)) ≡ recovered.change_in (block_at (slot_bytes log (slot_of n sequence))).kind (slot_bytes log (slot_of n sequence))) × Placed P (block_at (slot_bytes log (slot_of n sequence))).kind) (sym size) there

  by-test : {X : Type 0} (b : Bool) → (b ≡ true → X) → (b ≡ false → X) → X
  by-test true f g = f refl
  by-test false f g = g refl

  -- THE HALF GROUP'S UPDATES
  pub own-updates : (count sequence index : ℕ) → 1 ≤ sequence → lacking N slots₀ count sequence index ≡ 0
      → (updates_from N slots₀ count sequence ≡ recovered.updates_from log sequence count) × ((i : ℕ) → i < count → Placed P (header_of log (sequence + i)).kind)
  unfolding updates_from recovered.updates_from
  own-updates zero sequence index one e = (refl, λ i h. absurd (omega arith))
  own-updates (suc count) sequence index one e = by-test (is_update sequence index (slot_at N P log (slot_of N sequence)))
      (λ t.
      let here = at-update sequence index one t in
      let rest = own-updates count (suc sequence) (suc index) (omega arith) (sym (lacking-next N P log big count sequence index t) ∙ e) in (
        ap (λ (x : Slot). change_in x ∷ updates_from N slots₀ count (suc sequence)) (slot-of N P log big sequence)
            ∙ ap (λ (u : Update). u ∷ updates_from N slots₀ count (suc sequence)) here.0 ∙ ap (λ (us : List Update). update_of log sequence ∷ us) rest.0,
        placed here rest,
      ))
      (λ t. absurd (omega (arith, sym (lacking-here N P log big count sequence index t) ∙ e)))
    where
      placed : There sequence → (updates_from N slots₀ count (suc sequence) ≡ recovered.updates_from log (suc sequence) count) × ((i : ℕ) → i < count → Placed P (header_of log (suc sequence + i)).kind)
          → (i : ℕ) → i < suc count → Placed P (header_of log (sequence + i)).kind
      placed here rest zero h = subst (λ (n : ℕ). Placed P (header_of log n).kind) (omega arith) here.1
      placed here rest (suc i) h = subst (λ (n : ℕ). Placed P (header_of log n).kind) (omega arith) (rest.1 i (omega arith))
