-- An examination of a log, from the scan of its slots, the search for a missing block and the walk without bytes.
-- Assumes nothing.
use mathlib.Core.Path.{◌≡◌, sym, ap, ◌∙◌, subst}
use mathlib.Core.Bool.{Bool, true, false, cond}
use mathlib.Core.List.{List, []}
use Prim.Native.Nat.{ℕ, ◌+◌, ◌-◌, ◌*◌, ◌/◌, ◌^◌, ◌≤◌, ◌<◌}
use native.Mathlib.Omega.{arith}
use native.Mathlib.Nat.{mod-lt}
use lib.Dec.{eqb}
use lib.ListN.{length, get_or}
use borrow.Author.Tests.{eq-eqb, ne_eqb, le-leb}
use Rattle.area.proofs.Laws.{and2, either}
use Rattle.block.specs.Kind.{fields_of}
use Rattle.block.specs.Legal.{legal, slot_of}
use Rattle.block.specs.declared.Block.{Block}
use Rattle.block.specs.declared.Kind.{Kind}
use Rattle.block.specs.declared.Kind.TheVariants.{Update, Commit, Clean}
use Rattle.block.proofs.Facts.{facts, Facts}
use Rattle.std.specs.Prelude.{Result, Ok, Err}
use Rattle.promises.specs.declared.Stop.{Stop}
use Rattle.promises.specs.Answers.{number_of}
use Rattle.opening.specs.Findings.{missing_at}
use Rattle.promises.specs.Areas.{slots_in}
use Rattle.promises.specs.Blocks.{slot_at, slots_of}
use Rattle.promises.specs.Newest.{sequence_in, blocks, all_unused, is_damaged}
use Rattle.promises.specs.Walk.{stops, stands, finding}
use Rattle.promises.proofs.Gathered.{gathered-fresh}
use Rattle.recovery.specs.declared.Scan.{Scan}
use Rattle.recovery.specs.Log.{header_of, blocks_from}
use Rattle.recovery.specs.Slots.{Scanned, standing, Lowest}
use Rattle.outline.specs.declared.Course.{Course}
use Rattle.outline.specs.Outline as outline
use Rattle.outline.specs.Outline.{Outline, sketch_of, outline_in, sketch_in, steps, ended, started, Indexed, Ordinary}
use Rattle.listing.specs.Listing.{found, shown_length, headers_from, Examines}
use Rattle.listing.proofs.Finding.{
  from-stops,
  from-stands,
  ended-place,
  found-fresh,
  keep-fresh,
  found-damaged,
  Stands,
  standing-legal,
  newest-standing,
  keep-shown,
  found-missing,
  found-end,
  found-blocks,
  gathered-blocks,
}

-- ---- a legal block is an ordinary one

indexed : (kind : Kind) → (fields_of kind).index ≤ 16 → Indexed kind
indexed (Update index page offset size) h = h
indexed (Commit updates) h = tt
indexed (Clean page) h = tt

pub ordinary : (slots pages : ℕ) (block : Block) → legal slots pages block ≡ true → Ordinary block
ordinary slots pages block h =
    let f : Facts slots pages block = facts slots pages block h in
    record { indexed = indexed block.kind f.index; ticket_below = omega (arith, f.ticket, f.most) }

-- ---- a log that is refused

pub refused-length : (log : List ℕ) → shown_length (length log) ≡ false → found log ≡ stops 1 0
unfolding found
refused-length log h = ap (λ (t : Bool). cond t (finding (slots_in (length log)) 4096 32 log []) (stops 1 0)) h

-- ---- a log of so many slots, scanned

module _ (log : List ℕ) (n : ℕ) (long : length log ≡ n * 512) (least : 8 ≤ n) (most : n ≤ 128) where
  slots-are : slots_in (length log) ≡ n
  slots-are = omega arith

  big : 512 ≤ length log
  big = omega arith

  pub fits : shown_length (length log) ≡ true
  fits = and2 (eq-eqb (length log / 512 * 512) (length log) (omega arith)) (and2 (le-leb 8 (length log / 512) (omega arith)) (le-leb (length log / 512) 128 (omega arith)))

  found-is : found log ≡ finding (slots_in (length log)) 4096 32 log []
  unfolding found
  found-is = ap (λ (t : Bool). cond t (finding (slots_in (length log)) 4096 32 log []) (stops 1 0)) fits

  refuses : (stop : Stop) → sketch_of (finding (slots_in (length log)) 4096 32 log []) ≡ outline.stops (number_of stop.refusal) stop.place → Examines log (Err stop)
  refuses stop e = found-is ∙ from-stops _ (number_of stop.refusal) stop.place e

  module _ (scan : Scan) (sequences : List ℕ) (wide : length sequences ≡ n) (scanned : Scanned n 4096 log scan sequences) where
    scan-is : Scanned (slots_in (length log)) 4096 log scan sequences
    scan-is = subst (λ (k : ℕ). Scanned k 4096 log scan sequences) (sym slots-are) scanned

    stands-there : (s : ℕ) → standing sequences s ≡ sequence_in (slot_at (slots_in (length log)) 4096 log (slot_of (slots_in (length log)) s))
    stands-there s =
        ap (λ (k : ℕ). get_or sequences (slot_of k s) 0) (wide ∙ sym slots-are)
        ∙ scan-is.sequences_are (slot_of (slots_in (length log)) s) (mod-lt s (omega arith))

    -- no block
    pub examines-fresh : scan.unused ≡ true → Examines log (Ok (record { newest = 0; keep = 0; ticket = 0 }))
    unfolding blocks_from
    examines-fresh e =
        let unused : all_unused (slots_of (slots_in (length log)) 4096 log) ≡ true = sym scan-is.unused_is ∙ e in
        let w = from-stands (finding (slots_in (length log)) 4096 32 log []) 1 _ (found-fresh log big unused) in (
          fits,
          record {
            walk = w.0;
            found_is = found-is ∙ w.1;
            keep_is = sym (keep-fresh log big unused);
            ticket_is = sym (ap (λ (o : Outline). o.ticket) w.2);
            blocks_are = gathered-fresh _ _ unused;
            keep_most = omega arith;
            newest_below = omega arith;
            blocks_few = omega arith;
            legal_are = λ i h. absurd (omega arith);
          },
        )

    -- no valid slot but a damaged one
    pub examines-damaged : (stop : Stop) → scan.newest ≡ 0 → scan.unused ≡ false → stop ≡ missing_at 0 → Examines log (Err stop)
    examines-damaged stop z e r = rw r (refuses (missing_at 0) (found-damaged log big (sym scan-is.unused_is ∙ e) (sym scan-is.newest_is ∙ z)))

    module _ (some : scan.newest ≡ 0 → ⊥) (keep : ℕ) (keep-is : keep ≡ (header_of log scan.newest).keep_from) where
      newest-facts : Facts (slots_in (length log)) 4096 (header_of log scan.newest) × ((header_of log scan.newest).sequence ≡ scan.newest)
      newest-facts =
          let l = standing-legal log big scan.newest (above scan.newest some) (newest-standing log big scan.newest keep scan-is.newest_is keep-is some) in
          (facts (slots_in (length log)) 4096 (header_of log scan.newest) l.0, l.1)
        where
          above : (m : ℕ) → (m ≡ 0 → ⊥) → 1 ≤ m
          above m z = either m 1 (λ h. absurd (z (omega arith))) (λ h. h)

      pub keep-range : (1 ≤ keep) × (keep ≤ scan.newest) × (scan.newest < 2 ^ 48) × (scan.newest + 1 - keep ≤ 128)
      keep-range =
          let f = newest-facts.0 in (
            omega (arith, keep-is, f.keep_one),
            omega (arith, keep-is, f.keep-most, newest-facts.1),
            omega (arith, f.most, newest-facts.1),
            omega (arith, keep-is, f.near, newest-facts.1, slots-are),
          )

      module _ (lost : ℕ) (lowest : Lowest sequences keep scan.newest lost) where
        -- a block is missing
        pub examines-lost : (stop : Stop) → lost ≤ scan.newest → stop ≡ missing_at lost → Examines log (Err stop)
        examines-lost stop h r =
            rw r (refuses (missing_at lost)
            (found-missing log big scan.newest keep scan-is.newest_is keep-is some lost keep-range.0 keep-range.1 lowest.least h
            (λ s x y. sym (stands-there s) ∙ lowest.stand s x y) (λ e. lowest.lacks h (stands-there lost ∙ e))))

        module _ (none : scan.newest < lost) where
          all-stand : (s : ℕ) → keep ≤ s → s ≤ scan.newest → Stands log big s
          all-stand s x y = sym (stands-there s) ∙ lowest.stand s x (omega arith)

          legal-at : (s : ℕ) → keep ≤ s → s ≤ scan.newest → (legal (slots_in (length log)) 4096 (header_of log s) ≡ true) × ((header_of log s).sequence ≡ s)
          legal-at s x y = standing-legal log big s (omega (arith, keep-range.0)) (all-stand s x y)

          pub ordinary-at : (s : ℕ) → keep ≤ s → s ≤ scan.newest → Ordinary (header_of log s)
          ordinary-at s x y = ordinary (slots_in (length log)) 4096 (header_of log s) (legal-at s x y).0

          -- the slot after the newest is damaged
          pub examines-end : (stop : Stop) (end : Bool) → end ≡ is_damaged (slot_at (slots_in (length log)) 4096 log (slot_of (slots_in (length log)) (scan.newest + 1))) → end ≡ true
              → stop ≡ missing_at (scan.newest + 1) → Examines log (Err stop)
          examines-end stop end e d r =
              rw r (refuses (missing_at (scan.newest + 1))
              (found-end log big scan.newest keep scan-is.newest_is keep-is some keep-range.0 keep-range.1 all-stand (sym e ∙ d)))

          module _ (end : Bool) (is-end : end ≡ is_damaged (slot_at (slots_in (length log)) 4096 log (slot_of (slots_in (length log)) (scan.newest + 1)))) (whole : end ≡ false) where
            found-course : (result : Result Course Stop) → sketch_in result ≡ ended n (steps 32 (headers_from log keep (scan.newest + 1 - keep)) (started keep (header_of log keep).ticket))
                → sketch_of (finding (slots_in (length log)) 4096 32 log []) ≡ sketch_in result
            found-course result walked =
                found-blocks log big scan.newest keep scan-is.newest_is keep-is some keep-range.0 keep-range.1 all-stand (sym is-end ∙ whole)
                ∙ ap (λ (k : ℕ). ended k (steps 32 (headers_from log keep (scan.newest + 1 - keep)) (started keep (header_of log keep).ticket))) slots-are
                ∙ sym walked

            -- the walk is refused, or the last test refuses it
            pub examines-refused : (stop : Stop) → sketch_in (Err stop) ≡ ended n (steps 32 (headers_from log keep (scan.newest + 1 - keep)) (started keep (header_of log keep).ticket))
                → Examines log (Err stop)
            examines-refused stop walked = refuses stop (found-course (Err stop) walked)

            -- the walk stands
            pub examines-accepted : (course : Course) → sketch_in (Ok course) ≡ ended n (steps 32 (headers_from log keep (scan.newest + 1 - keep)) (started keep (header_of log keep).ticket))
                → Examines log (Ok (record { newest = scan.newest; keep = keep; ticket = course.ticket }))
            examines-accepted course walked =
                let w = from-stands (finding (slots_in (length log)) 4096 32 log []) course.next (outline_in course) (found-course (Ok course) walked) in
                let place : course.next ≡ scan.newest + 1 = ended-place n log keep scan.newest (header_of log keep).ticket course.next (outline_in course) keep-range.1 (sym walked) in
                let shown : cond (eqb scan.newest 0) 0 (scan.newest + 1 - keep) ≡ scan.newest + 1 - keep = ap (λ (b : Bool). cond b 0 (scan.newest + 1 - keep)) (ne_eqb _ _ some) in (
                  fits,
                  record {
                    walk = w.0;
                    found_is = found-is ∙ w.1 ∙ ap (λ (x : ℕ). stands x w.0) (omega arith);
                    keep_is = sym (keep-shown log big scan.newest keep scan-is.newest_is keep-is some);
                    ticket_is = sym (ap (λ (o : Outline). o.ticket) w.2);
                    blocks_are =
                        gathered-blocks log big scan.newest keep scan-is.newest_is keep-is some keep-range.0 keep-range.1 all-stand (sym is-end ∙ whole)
                        ∙ ap (λ (x : ℕ). blocks (blocks_from log keep x)) (sym shown);
                    keep_most = omega (arith, keep-range.1);
                    newest_below = omega (arith, keep-range.2);
                    blocks_few = omega (arith, shown, keep-range.3);
                    legal_are = λ i l. legal-at (keep + i) (omega arith) (omega (arith, shown, keep-range.1));
                  },
                )
