-- Where a walk starts and how it ends: the last test is that of `ending`.
-- Assumes nothing.
use mathlib.Core.Path.{◌≡◌, refl, sym, ap, ◌∙◌, subst}
use mathlib.Core.Bool.{Bool, true, false, cond}
use mathlib.Core.List.{List}
use Prim.Native.Nat.{ℕ, ◌+◌, ◌-◌, ◌≤◌, ◌<◌}
use native.Mathlib.Omega.{arith}
use Rattle.std.specs.Prelude.{Ok, Err}
use lib.Dec.{leb}
use lib.ListN.{length, replicate}
use Rattle.block.specs.Sizes.{sequence_end}
use Rattle.promises.specs.Areas.{page_at, slots_in}
use Rattle.promises.specs.DirtyPages.{keep_from_of}
use Rattle.promises.specs.Walk.{Walk as PaperWalk, Finding, stops, stands, ending, walk_from, start_with}
use Rattle.table.specs.declared.Table.{Table}
use Rattle.table.proofs.Holding.{empty_holds, held-count, held-keep}
use Rattle.table.proofs.Seating.{seated-empty}
use Rattle.recovery.specs.Log.{updates_from, blocks_from}
use Rattle.recovery.specs.Walking.{Walk, walk_of, no_stage, refused_at, span_fits, Ready, Stands, Leads, Walks}
use Rattle.opening.specs.Findings.{found_of, stage_start, start_of, missing_at, stopped_at, Finds}

-- ---- seats that are all zero: no page is dirty

module _ (count : ℕ) (seats : List ℕ) (h : count ≤ 32) (e : seats ≡ replicate count 0) where
  pub start_is_lem : (ticket : ℕ) → walk_of (Ok (stage_start ticket)) seats ≡ start_of count ticket
  start_is_lem ticket =
      ap (λ (t : Table). record { refusal = 0; place = 0; stage = stage_start ticket; table = t }) (seated-empty false count seats h e)

  pub stopped-is : (place : ℕ) → found_of (Err (missing_at place)) seats ≡ stopped_at count place
  stopped-is place =
      ap (λ (t : Table). record { newest = 0; walk = record { refusal = 7; place = place; stage = no_stage; table = t } })
      (seated-empty false count seats h e)

-- ---- the start

-- the walk may meet the first block: it has no half group, and the ticket that is believed is below it
pub start-ready : (log home : List ℕ) (first count ticket : ℕ) → ticket < first → Ready log home first (start_of count ticket)
start-ready log home first count ticket h = record {
  half = λ x. absurd (omega arith);
  begins = λ x. absurd (omega arith);
  few = omega arith;
  ticket_below = h;
  ticket_early = λ x. absurd (omega arith);
  placed = λ i x. absurd (omega arith);
}

start-stands : (log home frames : List ℕ) (first count ticket : ℕ) → Stands log home first (start_of count ticket) frames (start_with ticket)
unfolding updates_from
start-stands log home frames first count ticket = record {
  going = refl;
  not_full = refl;
  ticket_is = refl;
  start_is = refl;
  group_is = refl;
  holds = empty_holds count frames;
  early = tt;
}

pub start-leads : (log home frames : List ℕ) (slots next first more count ticket : ℕ)
    → Leads log home slots next first more (start_of count ticket) frames (walk_from slots count (page_at home) next first (blocks_from log first more) (start_with ticket))
start-leads log home frames slots next first more count ticket = record {
  refused = λ n. absurd (n refl);
  goes = λ z. (start_with ticket, start-stands log home frames first count ticket, refl);
}

-- ---- the end

-- the code's test is that of the promised walk; with next as the own number, that of `ending`
pub span-is : (log home : List ℕ) (s : ℕ) (walk : Walk) (frames : List ℕ) (paper : PaperWalk) (slots next own : ℕ) → Stands log home s walk frames paper
    → span_fits walk.table slots next own ≡ leb (next - keep_from_of own paper.dirty_pages + length paper.dirty_pages) slots
span-is log home s walk frames paper slots next own st =
    ap (λ (k : ℕ). leb (next - k + length (Rattle.promises.specs.Sums.first_groups walk.table.dirty)) slots) (held-keep walk.table frames paper.dirty_pages st.holds own)
    ∙ ap (λ (d : ℕ). leb (next - keep_from_of own paper.dirty_pages + d) slots) (held-count walk.table frames paper.dirty_pages st.holds)

module _ (log home : List ℕ) (last : ℕ) (walk : Walk) (frames : List ℕ) (found : Finding) (below : last < sequence_end)
    (ready : walk.refusal ≡ 0 → Ready log home (last + 1) walk)
    (l : Leads log home (slots_in (length log)) (last + 1) (last + 1) 0 walk frames found) where
  abbrev N : ℕ
  N = slots_in (length log)

  -- what the walk over no more blocks finds
  over : (z : walk.refusal ≡ 0) → ending N (last + 1) (l.goes z).0 ≡ found
  unfolding walk_from blocks_from
  over z = (l.goes z).2

  passes : (z : walk.refusal ≡ 0) → span_fits walk.table N (last + 1) (last + 1) ≡ true → Finds log home walk.table.count found (record { newest = last; walk = walk }) frames
  passes z f =
      let st : Stands log home (last + 1) walk frames (l.goes z).0 = (l.goes z).1 in
      record {
        count_is = refl;
        refused = λ n. absurd (n z);
        accepted = λ y. record {
          paper = (l.goes z).0;
          found_is = sym (over z)
              ∙ ap (λ (b : Bool). cond b (stands (last + 1) (l.goes z).0) (stops 8 (last + 1 - 1))) (sym (span-is log home (last + 1) walk frames (l.goes z).0 N (last + 1) (last + 1) st) ∙ f);
          stands_for = st;
          ready = ready z;
          span_within = f;
          newest_below = below;
        };
      }

  fails : (z : walk.refusal ≡ 0) → span_fits walk.table N (last + 1) (last + 1) ≡ false
      → Finds log home walk.table.count found (record { newest = 0; walk = refused_at walk 8 last }) frames
  fails z f =
      let st : Stands log home (last + 1) walk frames (l.goes z).0 = (l.goes z).1 in
      record {
        count_is = refl;
        refused = λ n. sym (over z)
            ∙ ap (λ (b : Bool). cond b (stands (last + 1) (l.goes z).0) (stops 8 (last + 1 - 1))) (sym (span-is log home (last + 1) walk frames (l.goes z).0 N (last + 1) (last + 1) st) ∙ f)
            ∙ ap (stops 8) one_less;
        accepted = λ y. absurd (omega arith);
      }
    where
      one_less : last + 1 - 1 ≡ last
      one_less = omega arith

  -- a walk that is refused already
  refused-ends : (walk.refusal ≡ 0 → ⊥) → Finds log home walk.table.count found (record { newest = 0; walk = walk }) frames
  refused-ends n = record { count_is = refl; refused = λ m. l.refused n; accepted = λ y. absurd (n y) }

-- ---- from start to end

-- what the walk from the start leads to
module _ (log home frames mid : List ℕ) (first last ticket count : ℕ) (start walk : Walk) (e : start ≡ start_of count ticket) (below : last < sequence_end)
    (w : Walks log home first last start frames walk mid) where
  abbrev pub to-find : Finding
  to-find = walk_from (slots_in (length log)) count (page_at home) (last + 1) first (blocks_from log first (last + 1 - first)) (start_with ticket)

  leads : Leads log home (slots_in (length log)) (last + 1) (last + 1) 0 walk mid to-find
  leads =
      w.leads (slots_in (length log)) (last + 1) to-find (subst (λ (x : Walk). Leads log home (slots_in (length log)) (last + 1) first (last + 1 - first) x frames to-find) (sym e)
      (start-leads log home frames (slots_in (length log)) (last + 1) first (last + 1 - first) count ticket))

  same : walk.table.count ≡ count
  same = w.count_is ∙ ap (λ (x : Walk). x.table.count) e

  pub walked-refused : (walk.refusal ≡ 0 → ⊥) → Finds log home count to-find (record { newest = 0; walk = walk }) mid
  walked-refused n =
      subst (λ (k : ℕ). Finds log home k to-find (record { newest = 0; walk = walk }) mid) same (refused-ends log home last walk mid to-find below w.ready leads n)

  pub walked-passes : walk.refusal ≡ 0 → span_fits walk.table (slots_in (length log)) (last + 1) (last + 1) ≡ true
      → Finds log home count to-find (record { newest = last; walk = walk }) mid
  walked-passes z f =
      subst (λ (k : ℕ). Finds log home k to-find (record { newest = last; walk = walk }) mid) same (passes log home last walk mid to-find below w.ready leads z f)

  pub walked-fails : walk.refusal ≡ 0 → span_fits walk.table (slots_in (length log)) (last + 1) (last + 1) ≡ false
      → Finds log home count to-find (record { newest = 0; walk = refused_at walk 8 last }) mid
  walked-fails z f =
      subst (λ (k : ℕ). Finds log home k to-find (record { newest = 0; walk = refused_at walk 8 last }) mid) same
      (fails log home last walk mid to-find below w.ready leads z f)
