-- What is decided of a fed block, step by step: the state, the lengths, the bytes, the sequence, the half group, the tests of its turn.
-- Assumes nothing.
use mathlib.Core.Path.{◌≡◌, refl, sym, ap, ◌∙◌, subst}
use mathlib.Core.Bool.{Bool, true, false, cond, ◌&&◌}
use mathlib.Core.List.{List}
use Prim.Native.Nat.{ℕ, ◌+◌, ◌≤◌, ◌<◌}
use lib.Dec.{eqb}
use lib.ListN.{length}
use borrow.Author.Tests.{ne_eqb, lt-ltb, le-ltb}
use Rattle.block.specs.declared.Block.{Block}
use Rattle.block.specs.declared.Judged.{Judged}
use Rattle.block.specs.declared.Kind as format
use Rattle.block.specs.Legal.{legal, slot_of}
use Rattle.block.specs.Slot.{judged, block_at}
use Rattle.block.proofs.Facts.{commit-facts}
use Rattle.promises.specs.declared.State.{State}
use Rattle.promises.specs.declared.Stop.{Stop}
use Rattle.promises.specs.Answers.{number_of}
use Rattle.promises.specs.Areas.{page_at}
use Rattle.promises.specs.Blocks.{LogBlock, Slot, valid, slot_in, slots_of}
use Rattle.promises.specs.Walk.{Walk, walk_block, in_order, framed}
use Rattle.promises.specs.Sound.{copy_sound}
use Rattle.promises.specs.LogStep.{areas_fit}
use Rattle.promises.specs.Feed.{standing, keep_right, span_fits, lacking_at, Feeding, stops, had, store_of, turned, of_next, by_sequence, feeding}
use Rattle.feeding.specs.Tests.{turn_number}

-- what comes of a block that is refused
abbrev pub stopped-at : Stop → Feeding
stopped-at stop = stops (number_of stop.refusal) stop.place

-- a legal commit has at most 16 updates
pub few-updates : (N P updates : ℕ) (b : Block) → legal N P b ≡ true → b.kind ≡ format.TheVariants.Commit updates → updates ≤ 16
few-updates N P updates b l e =
    let rules : legal N P (record { sequence = b.sequence; keep_from = b.keep_from; kind = format.TheVariants.Commit updates; ticket = b.ticket }) ≡ true =
    subst (λ (k : format.Kind). legal N P (record { sequence = b.sequence; keep_from = b.keep_from; kind = k; ticket = b.ticket }) ≡ true) e l in
    (commit-facts N P b.sequence b.keep_from updates b.ticket rules).1.updates-most

module _ (s : State) (home : ℕ → List ℕ) (frames : List ℕ) (v : Walk) (x : LogBlock) where
  -- the number tells what comes of the turn
  turn_is : turned s home frames v x ≡ cond (eqb (turn_number s home v x) 0) (store_of s frames x.kind x) (stops (turn_number s home v x) s.next)
  unfolding turned turn_number
  turn_is = go (in_order x.kind x.ticket v && keep_right home s.next x v && span_fits s.slots (s.next + 1) (walk_block home s.next x.kind v)) (framed s.frames home x.kind v)
    where
      go : (a b : Bool) → cond a (cond b (store_of s frames x.kind x) (stops 9 s.next)) (stops 8 s.next)
          ≡ cond (eqb (cond a (cond b 0 9) 8) 0) (store_of s frames x.kind x) (stops (cond a (cond b 0 9) 8) s.next)
      go true true = refl
      go true false = refl
      go false b = refl

  turn-stops : (n : ℕ) → n ≡ turn_number s home v x → (n ≡ 0 → ⊥) → turned s home frames v x ≡ stops n s.next
  turn-stops n e h = turn_is ∙ ap (λ (m : ℕ). cond (eqb m 0) (store_of s frames x.kind x) (stops m s.next)) (sym e) ∙ ap (λ (b : Bool). cond b (store_of s frames x.kind x) (stops n s.next)) (ne_eqb n 0 h)

  turn-passes : 0 ≡ turn_number s home v x → turned s home frames v x ≡ store_of s frames x.kind x
  turn-passes e = turn_is ∙ ap (λ (m : ℕ). cond (eqb m 0) (store_of s frames x.kind x) (stops m s.next)) (sym e)

module _ (s : State) (home : ℕ → List ℕ) (frames : List ℕ) (slots : List Slot) (sequence : ℕ) (x : LogBlock) where
  abbrev outcome : Feeding
  outcome = by_sequence s home frames slots (valid sequence x)

  pub ahead : s.next < sequence → outcome ≡ stops 14 0
  ahead h = simp (lt-ltb _ _ h)

  pub already : sequence ≤ s.next → sequence < s.next → outcome ≡ had
  already h k = simp (le-ltb s.next sequence h, lt-ltb _ _ k)

  module _ (h : sequence ≤ s.next) (k : s.next ≤ sequence) where
    its-turn : outcome ≡ of_next s home frames slots x
    its-turn = simp (le-ltb s.next sequence h, le-ltb sequence s.next k)

    pub lacks : (lost : ℕ) → lost ≡ lacking_at s slots x.kind → (lost ≡ 0 → ⊥) → outcome ≡ stops 7 lost
    lacks lost e n = its-turn ∙ ap (λ (m : ℕ). cond (eqb m 0) (turned s home frames (standing s slots frames) x) (stops 7 m)) (sym e)
        ∙ ap (λ (b : Bool). cond b (turned s home frames (standing s slots frames) x) (stops 7 lost)) (ne_eqb lost 0 n)

    turn-of : 0 ≡ lacking_at s slots x.kind → outcome ≡ turned s home frames (standing s slots frames) x
    turn-of e = its-turn ∙ ap (λ (m : ℕ). cond (eqb m 0) (turned s home frames (standing s slots frames) x) (stops 7 m)) (sym e)

    pub stopped : 0 ≡ lacking_at s slots x.kind → (n : ℕ) → n ≡ turn_number s home (standing s slots frames) x → (n ≡ 0 → ⊥) → outcome ≡ stops n s.next
    stopped e n f g = turn-of e ∙ turn-stops s home frames (standing s slots frames) x n f g

    pub passing : 0 ≡ lacking_at s slots x.kind → 0 ≡ turn_number s home (standing s slots frames) x → outcome ≡ store_of s frames x.kind x
    passing e f = turn-of e ∙ turn-passes s home frames (standing s slots frames) x f

-- ---- the state and the lengths
module _ (s : State) (log home frames bytes : List ℕ) where
  pub no_copy : copy_sound s ≡ false → feeding s log home frames bytes ≡ stops 2 0
  unfolding feeding
  no_copy e = rw e refl

  pub misfit : copy_sound s ≡ true → (areas_fit s (length log) (length home) (length frames) && eqb (length bytes) 512) ≡ false → feeding s log home frames bytes ≡ stops 1 0
  unfolding feeding
  misfit e f = rw (e, f) refl

  pub judged-as : copy_sound s ≡ true → (areas_fit s (length log) (length home) (length frames) && eqb (length bytes) 512) ≡ true
      → (j : Judged) → judged s.slots s.pages (slot_of s.slots (block_at bytes).sequence) bytes ≡ j
      → feeding s log home frames bytes ≡ by_sequence s (page_at home) frames (slots_of s.slots s.pages log) (slot_in j bytes)
  unfolding feeding
  judged-as e f j g = rw (e, f, g) refl
