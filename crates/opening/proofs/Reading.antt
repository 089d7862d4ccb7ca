-- What the scan, the search for a missing block and the walk find is `finding`.
-- Assumes nothing.
use mathlib.Core.Path.{◌≡◌, refl, sym, ap, ◌∙◌, subst}
use mathlib.Core.Bool.{Bool, true, false}
use mathlib.Core.List.{List}
use Prim.Native.Nat.{ℕ, ◌+◌, ◌-◌, ◌*◌, ◌^◌, ◌≤◌, ◌<◌}
use native.Mathlib.Omega.{arith}
use native.Mathlib.Nat.{mod-lt}
use lib.ListN.{length, get_or}
use Rattle.area.proofs.Laws.{either}
use Rattle.block.specs.Legal.{slot_of}
use Rattle.block.specs.declared.Block.{Block}
use Rattle.block.proofs.Facts.{facts, Facts}
use Rattle.promises.specs.Areas.{page_at, slots_in, pages_in}
use Rattle.promises.specs.Blocks.{slot_at}
use Rattle.promises.specs.Newest.{sequence_in, is_damaged}
use Rattle.promises.specs.Walk.{Finding, stops, walk_from, start_with, finding}
use Rattle.recovery.specs.declared.Scan.{Scan}
use Rattle.recovery.specs.Log.{header_of, blocks_from, Legal}
use Rattle.recovery.specs.Slots.{standing, Scanned, Lowest}
use Rattle.opening.specs.Findings.{FoundWalk, stopped_at, Finds}
use Rattle.opening.proofs.Gathering.{stands-legal, newest-stands, finds-fresh, finds-damaged, finds-missing, finds-end, finds-blocks}

-- a walk that was stopped at a missing block
stopped-finds : (log home : List ℕ) (count place : ℕ) (found : Finding) (r : FoundWalk) (frames : List ℕ) → found ≡ stops 7 place → r ≡ stopped_at count place
    → Finds log home count found r frames
stopped-finds log home count place found r frames e q =
    subst (λ (x : FoundWalk). Finds log home count found x frames) (sym q)
    record { count_is = refl; refused = λ n. e; accepted = λ z. absurd (omega arith) }

pub finds-as : (log home : List ℕ) (count : ℕ) (found found' : Finding) (r : FoundWalk) (frames : List ℕ) → found ≡ found' → Finds log home count found r frames
    → Finds log home count found' r frames
finds-as log home count found found' r frames e x = subst (λ (f : Finding). Finds log home count f r frames) e x

module _ (log home sequences : List ℕ) (scan : Scan) (n : ℕ) (long : length log ≡ n * 512) (some : 8 ≤ n) (size : length sequences ≡ n)
    (sc : Scanned n (pages_in (length home)) log scan sequences) where
  abbrev N : ℕ
  N = slots_in (length log)

  abbrev P : ℕ
  P = pages_in (length home)

  n-is : n ≡ N
  n-is = omega arith

  big : 512 ≤ length log
  big = omega arith

  scanned : Scanned N P log scan sequences
  scanned = subst (λ (m : ℕ). Scanned m P log scan sequences) n-is sc

  -- the sequence noted for a slot
  standing-is : (s : ℕ) → standing sequences s ≡ sequence_in (slot_at N P log (slot_of N s))
  standing-is s =
      ap (λ (m : ℕ). get_or sequences (slot_of m s) 0) (size ∙ n-is)
      ∙ scanned.sequences_are (slot_of N s) (mod-lt s (omega arith))

  -- no valid slot
  pub reads-damaged : (count F : ℕ) (r : FoundWalk) (frames : List ℕ) → scan.newest ≡ 0 → scan.unused ≡ false → r ≡ stopped_at count 0
      → Finds log home count (finding N P F log home) r frames
  reads-damaged count F r frames z u q =
      stopped-finds log home count 0 _ r frames (finds-damaged log home big F (sym scanned.unused_is ∙ u) (sym scanned.newest_is ∙ z)) q

  pub reads-fresh : (count F : ℕ) (r : FoundWalk) (frames : List ℕ) → scan.unused ≡ true
      → Finds log home count (walk_from N F (page_at home) 1 1 (blocks_from log 1 0) (start_with 0)) r frames → Finds log home count (finding N P F log home) r frames
  reads-fresh count F r frames u x = finds-as log home count _ _ r frames (sym (finds-fresh log home big F (sym scanned.unused_is ∙ u))) x

  -- a newest block, and the header's keep-from
  module _ (nz : scan.newest ≡ 0 → ⊥) (last : Block) (header : last ≡ header_of log scan.newest) where
    positive : 1 ≤ scan.newest
    positive = either scan.newest 1 (λ l. absurd (nz (omega arith))) (λ l. l)

    pub newest-legal : Legal log home scan.newest
    newest-legal =
        stands-legal log home big scan.newest positive
        (subst (λ (m : ℕ). sequence_in (slot_at N P log (slot_of N m)) ≡ m) (sym scanned.newest_is)
        (newest-stands log home big (λ z. nz (scanned.newest_is ∙ z))))

    pub keep-bounds : (1 ≤ last.keep_from) × (last.keep_from ≤ scan.newest) × (scan.newest < 2 ^ 48)
    keep-bounds =
        let v = newest-legal in
        let f : Facts N P (header_of log scan.newest) = facts _ _ (header_of log scan.newest) v.rules in
        let k : last.keep_from ≡ (header_of log scan.newest).keep_from = ap (λ (b : Block). b.keep_from) header in
        (omega (arith, f.keep_one), omega (arith, f.keep-most, v.sequence_is), omega (arith, f.most, v.sequence_is))

    module _ (lost : ℕ) (low : Lowest sequences last.keep_from scan.newest lost) where
      pub reads-missing : (count F : ℕ) (r : FoundWalk) (frames : List ℕ) → lost ≤ scan.newest → r ≡ stopped_at count lost
          → Finds log home count (finding N P F log home) r frames
      reads-missing count F r frames h q =
          stopped-finds log home count lost _ r frames
          (finds-missing log home big F scan.newest last.keep_from scanned.newest_is (ap (λ (b : Block). b.keep_from) header) nz lost
          keep-bounds.0 low.least (omega (arith, keep-bounds.1))
          (λ s x y. sym (standing-is s) ∙ low.stand s x y)
          (λ e. low.lacks h (standing-is lost ∙ e)))
          q

      module _ (h : scan.newest < lost) where
        stand : (s : ℕ) → last.keep_from ≤ s → s ≤ scan.newest → sequence_in (slot_at N P log (slot_of N s)) ≡ s
        stand s x y = sym (standing-is s) ∙ low.stand s x (omega arith)

        pub all-legal : (s : ℕ) → last.keep_from ≤ s → s ≤ scan.newest → Legal log home s
        all-legal s x y = stands-legal log home big s (omega (arith, keep-bounds.0)) (stand s x y)

        -- the slot after the newest is damaged
        pub reads_end : (count F : ℕ) (r : FoundWalk) (frames : List ℕ) (end : Bool) → end ≡ is_damaged (slot_at N P log (slot_of N (scan.newest + 1))) → end ≡ true
            → r ≡ stopped_at count (scan.newest + 1) → Finds log home count (finding N P F log home) r frames
        reads_end count F r frames end e d q =
            stopped-finds log home count (scan.newest + 1) _ r frames
            (finds-end log home big F scan.newest last.keep_from scanned.newest_is (ap (λ (b : Block). b.keep_from) header) nz keep-bounds.0 keep-bounds.1 stand (sym e ∙ d))
            q

        pub reads-blocks : (count F : ℕ) (r : FoundWalk) (frames : List ℕ) (end : Bool) → end ≡ is_damaged (slot_at N P log (slot_of N (scan.newest + 1))) → end ≡ false
            → (ticket : ℕ) → ticket ≡ (header_of log last.keep_from).ticket
            → Finds log home count (walk_from N F (page_at home) (scan.newest + 1) last.keep_from (blocks_from log last.keep_from (scan.newest + 1 - last.keep_from)) (start_with ticket)) r frames
            → Finds log home count (finding N P F log home) r frames
        reads-blocks count F r frames end e d ticket t x =
            finds-as log home count _ _ r frames
            (ap (λ (y : ℕ). walk_from N F (page_at home) (scan.newest + 1) last.keep_from (blocks_from log last.keep_from (scan.newest + 1 - last.keep_from)) (start_with y)) t
            ∙ sym (finds-blocks log home big F scan.newest last.keep_from scanned.newest_is (ap (λ (b : Block). b.keep_from) header) nz keep-bounds.0 keep-bounds.1 stand (sym e ∙ d)))
            x
