-- One block walked over is one turn of the promised walk: an update, a clean and a commit.
-- Assumes nothing.
use mathlib.Core.Path.{◌≡◌, refl, sym, ap, ◌∙◌, subst}
use mathlib.Core.Bool.{Bool, true, false, cond}
use mathlib.Core.List.{List, [], ◌∷◌, ◌++◌}
use Prim.Native.Nat.{ℕ, zero, suc, ◌+◌, ◌≤◌, ◌<◌}
use native.Mathlib.Omega.{arith}
use lib.Dec.{eqb, leb}
use lib.ListN.{length}
use borrow.Author.Tests.{eqb-false, leb-true, leb-false}
use Rattle.area.proofs.Laws.{by_cases, never_both}
use Rattle.block.specs.Kind.{update_block}
use Rattle.block.specs.Legal.{legal}
use Rattle.block.specs.declared.Kind as format
use Rattle.block.proofs.Facts.{facts, Facts, UpdateFacts, update-facts}
use Rattle.promises.specs.Areas.{page_at, slots_in, pages_in}
use Rattle.promises.specs.Updates.{Update}
use Rattle.promises.specs.Blocks.{Kind, update, commit, clean, kind_in}
use Rattle.promises.specs.DirtyPages.{DirtyPage, apply, apply_all, without}
use Rattle.promises.specs.LogStep.{no_update}
use Rattle.promises.specs.Walk.{Walk as PaperWalk, walk_block, in_order, framed}
use Rattle.table.specs.declared.Table.{Table}
use Rattle.table.specs.Table.{Each, AppliesAll, Drops}
use Rattle.table.proofs.Holding.{each-apply, each-without}
use Rattle.recovery.specs.Log.{bytes_of, header_of, block_of, change_in, update_of, updates_from, Placed, Legal}
use Rattle.recovery.specs.Walking.{Walk, refused_at, half_at, closed_with, walk_fits, updated, Cleans, Commits, Ready, Early, Stands, Refused, Turns}
use Rattle.recovery.proofs.Groups.{update-is, group-more, group-length}
use Rattle.recovery.proofs.Ordering.{order_is, change-any, next-told, commit-told}
use Rattle.recovery.proofs.Changing.{updated-wrong, updated-first, updated-next}

-- ---- a legal block

pub legal-numbers : (log home : List ℕ) (s : ℕ) → Legal log home s → (1 ≤ s) × ((header_of log s).ticket < s)
legal-numbers log home s v =
    let f : Facts (slots_in (length log)) (pages_in (length home)) (header_of log s) = facts _ _ (header_of log s) v.rules in
    (omega (arith, f.one, v.sequence_is), omega (arith, f.ticket, v.sequence_is))

-- a legal update has its place in a page of home
pub legal-placed : (log home : List ℕ) (s index page offset count : ℕ) → Legal log home s
    → (header_of log s).kind ≡ format.TheVariants.Update index page offset count
    → Placed (pages_in (length home)) (header_of log s).kind
legal-placed log home s index page offset count v e =
    let slots = slots_in (length log) in
    let pages = pages_in (length home) in
    let b = header_of log s in
    let rules : legal slots pages (update_block b.sequence b.keep_from index page offset count b.ticket) ≡ true =
    subst (λ (k : format.Kind). legal slots pages (record { sequence = b.sequence; keep_from = b.keep_from; kind = k; ticket = b.ticket }) ≡ true) e v.rules in
    let f : UpdateFacts pages index page offset count = (update-facts slots pages b.sequence b.keep_from index page offset count b.ticket rules).1 in
    subst (Placed pages) (sym e) (f.page-below, f.length_most, f.end)

pub placed-page : (pages : ℕ) (kind : format.Kind) (bytes : List ℕ) → Placed pages kind → (change_in kind bytes).page < pages
placed-page pages (format.TheVariants.Update index page offset count) bytes p = p.0
placed-page pages (format.TheVariants.Commit updates) bytes p = absurd p
placed-page pages (format.TheVariants.Clean page) bytes p = absurd p

-- ---- dirty pages and their first groups

early-later : (pages s : ℕ) (es : List DirtyPage) → Each (Early pages s) es → Each (Early pages (suc s)) es
early-later pages s [] x = tt
early-later pages s (e ∷ es) x = ((x.0.0, x.0.1, omega (arith, x.0.2)), early-later pages s es x.1)

pub each-group : (Q : ℕ → ℕ → Type 0) (log : List ℕ) (home : ℕ → List ℕ) (group s n : ℕ) (es : List DirtyPage)
    → ((i : ℕ) → i < n → Q (update_of log (s + i)).page group) → Each Q es → Each Q (apply_all group home (updates_from log s n) es)
unfolding updates_from apply_all
each-group Q log home group s zero es f x = x
each-group Q log home group s (suc n) es f x =
    each-group Q log home group (suc s) n (apply group home (update_of log s) es)
    (λ i h. subst (λ (j : ℕ). Q (update_of log j).page group) (moved i) (f (suc i) (omega arith)))
    (each-apply Q group home (update_of log s) es (subst (λ (j : ℕ). Q (update_of log j).page group) here (f 0 (omega arith))) x)
  where
    here : s + 0 ≡ s
    here = omega arith

    moved : (i : ℕ) → s + suc i ≡ suc s + i
    moved i = omega arith

-- ---- what the code's tests say of the promised walk

module _ (log home : List ℕ) (s : ℕ) (walk : Walk) (frames : List ℕ) (paper : PaperWalk) (st : Stands log home s walk frames paper) where
  group-count : length paper.group ≡ walk.stage.count
  group-count = ap length (sym st.group_is) ∙ group-length log walk.stage.start walk.stage.count

  test-is : (kind : Kind) (ticket : ℕ) → in_order kind ticket paper ≡ walk_fits walk kind ticket
  test-is kind ticket = order_is kind ticket walk.stage.count walk.stage.ticket paper (sym group-count) st.ticket_is

refused-at : (walk : Walk) (r : Walk) (refusal place : ℕ) → r ≡ refused_at walk refusal place → Refused r refusal place
refused-at walk r refusal place e = record { refusal_is = ap (λ (w : Walk). w.refusal) e; place_is = ap (λ (w : Walk). w.place) e }

not-zero : {X : Type 0} (walk r : Walk) (refusal place : ℕ) → 0 < refusal → r ≡ refused_at walk refusal place → r.refusal ≡ 0 → X
not-zero walk r refusal place h e f = absurd (omega (arith, ap (λ (w : Walk). w.refusal) e, f))

-- the block's kind and ticket, as its header tells them
pub turns_as : (log home : List ℕ) (s : ℕ) (kind kind' : Kind) (ticket ticket' : ℕ) (walk : Walk) (frames : List ℕ) (r : Walk) (frames' : List ℕ) → kind ≡ kind' → ticket ≡ ticket'
    → Turns log home s kind ticket walk frames r frames' → Turns log home s kind' ticket' walk frames r frames'
turns_as log home s kind kind' ticket ticket' walk frames r frames' e f x =
    subst (λ (k : Kind). Turns log home s k ticket' walk frames r frames') e (subst (λ (t : ℕ). Turns log home s kind t walk frames r frames') f x)

module _ (log home : List ℕ) (s : ℕ) (walk : Walk) (frames : List ℕ) (v : Legal log home s) (z : walk.refusal ≡ 0) (y : Ready log home s walk) where
  -- ---- an update

  module _ (index page offset count : ℕ) (k : (header_of log s).kind ≡ format.TheVariants.Update index page offset count) (r : Walk)
      (e : r ≡ updated walk s index (header_of log s).ticket) where
    ticket : ℕ
    ticket = (header_of log s).ticket

    change : Update
    change = change_in (format.TheVariants.Update index page offset count) (bytes_of log s)

    change-is : change ≡ update_of log s
    unfolding change
    change-is = update-is log s _ k

    here : Placed (pages_in (length home)) (header_of log s).kind
    here = legal-placed log home s index page offset count v k

    ready-first : Ready log home (suc s) (half_at walk s 1)
    ready-first = record {
      half = λ h. omega arith;
      begins = λ h. (legal-numbers log home s v).0;
      few = omega (arith, (legal-numbers log home s v).0);
      ticket_below = omega (arith, y.ticket_below);
      ticket_early = λ h. y.ticket_below;
      placed = λ i h. subst (λ (j : ℕ). Placed (pages_in (length home)) (header_of log j).kind) (at_zero i h) here;
    }
      where
        at_zero : (i : ℕ) → i < 1 → s ≡ s + i
        at_zero i h = omega arith

    next-index : walk_fits walk (update index no_update) ticket ≡ true → eqb index 1 ≡ false → (0 < walk.stage.count) × (index ≡ walk.stage.count + 1)
    next-index f g = next-told ticket walk.stage.count walk.stage.ticket index no_update f (eqb-false _ _ g)

    ready-next : walk_fits walk (update index no_update) ticket ≡ true → eqb index 1 ≡ false → Ready log home (suc s) (half_at walk walk.stage.start index)
    ready-next f g =
        let n = next-index f g in
        let end : walk.stage.start + walk.stage.count ≡ s = y.half n.0 in
        record {
          half = λ h. omega (arith, n.1);
          begins = λ h. y.begins n.0;
          few = omega (arith, n.1, y.few);
          ticket_below = omega (arith, y.ticket_below);
          ticket_early = λ h. y.ticket_early n.0;
          placed = λ i h.
              elim (native.Mathlib.Decide.ℕ_discrete i walk.stage.count) [
                | yes q ↦ subst (λ (j : ℕ). Placed (pages_in (length home)) (header_of log j).kind) (last i q end) here
                | no q ↦ y.placed i (omega (arith, n.1))
              ];
        }
      where
        last : (i : ℕ) → i ≡ walk.stage.count → walk.stage.start + walk.stage.count ≡ s → s ≡ walk.stage.start + i
        last i q w = omega arith

    -- by the two tests
    data Turn : Type 0 where
      wrong : walk_fits walk (update index no_update) ticket ≡ false → r ≡ refused_at walk 8 s → Turn
      first : walk_fits walk (update index no_update) ticket ≡ true → eqb index 1 ≡ true → r ≡ half_at walk s 1 → Turn
      next : walk_fits walk (update index no_update) ticket ≡ true → eqb index 1 ≡ false → r ≡ half_at walk walk.stage.start index → Turn

    taken : Turn
    unfolding ticket
    taken =
        by_cases (walk_fits walk (update index no_update) ticket)
        (λ f. by_cases (eqb index 1)
        (λ g. first f g (e ∙ sym (updated-first walk s index ticket f g)))
        (λ g. next f g (e ∙ sym (updated-next walk s index ticket f g))))
        (λ f. wrong f (e ∙ sym (updated-wrong walk s index ticket f)))

    same_count : Turn → r.table.count ≡ walk.table.count
    same_count (wrong f q) = ap (λ (w : Walk). w.table.count) q
    same_count (first f g q) = ap (λ (w : Walk). w.table.count) q
    same_count (next f g q) = ap (λ (w : Walk). w.table.count) q

    ready-then : Turn → r.refusal ≡ 0 → Ready log home (suc s) r
    ready-then (wrong f q) h = not-zero walk r 8 s (omega arith) q h
    ready-then (first f g q) h = subst (Ready log home (suc s)) (sym q) ready-first
    ready-then (next f g q) h = subst (Ready log home (suc s)) (sym q) (ready-next f g)

    in_order_lem : (paper : PaperWalk) → Stands log home s walk frames paper
        → in_order (update index change) ticket paper ≡ walk_fits walk (update index no_update) ticket
    in_order_lem paper st =
        test-is log home s walk frames paper st (update index change) ticket ∙ change-any index ticket walk.stage.count walk.stage.ticket change no_update

    module _ (paper : PaperWalk) (st : Stands log home s walk frames paper) where
      refuses : Turn → in_order (update index change) ticket paper ≡ false → Refused r 8 s
      refuses (wrong f q) h = refused-at walk r 8 s q
      refuses (first f g q) h = absurd (never_both _ (in_order_lem paper st ∙ f) h)
      refuses (next f g q) h = absurd (never_both _ (in_order_lem paper st ∙ f) h)

      goes : Turn → in_order (update index change) ticket paper ≡ true → Stands log home (suc s) r frames (walk_block (page_at home) s (update index change) paper)
      unfolding walk_block
      goes (wrong f q) h = absurd (never_both _ h (in_order_lem paper st ∙ f))
      goes (first f g q) h = rw g (subst (λ (w : Walk). Stands log home (suc s) w frames one) (sym q) record {
        going = st.going;
        not_full = st.not_full;
        ticket_is = st.ticket_is;
        start_is = refl;
        group_is = single ∙ ap (λ (u : Update). u ∷ []) (sym change-is);
        holds = st.holds;
        early = early-later _ s paper.dirty_pages st.early;
      })
        where
          one : PaperWalk
          one = record { group = change ∷ []; start = s; ticket = paper.ticket; dirty_pages = paper.dirty_pages }

          single : updates_from log s 1 ≡ update_of log s ∷ []
          single = unfold updates_from in refl
      goes (next f g q) h = rw g (subst (λ (w : Walk). Stands log home (suc s) w frames more) (sym q) record {
        going = st.going;
        not_full = st.not_full;
        ticket_is = st.ticket_is;
        start_is = st.start_is;
        group_is = ap (updates_from log walk.stage.start) (next-index f g).1 ∙ group-more log walk.stage.start walk.stage.count
            ∙ ap (λ (us : List Update). us ++ (update_of log (walk.stage.start + walk.stage.count) ∷ [])) st.group_is
            ∙ ap (λ (u : Update). paper.group ++ (u ∷ [])) (ap (update_of log) (y.half (next-index f g).0) ∙ sym change-is);
        holds = st.holds;
        early = early-later _ s paper.dirty_pages st.early;
      })
        where
          more : PaperWalk
          more = record { group = paper.group ++ (change ∷ []); start = paper.start; ticket = paper.ticket; dirty_pages = paper.dirty_pages }

    framed-always : (paper : PaperWalk) → framed walk.table.count (page_at home) (update index change) paper ≡ true
    unfolding framed
    framed-always paper = refl

    update-turns : Turns log home s (update index change) ticket walk frames r frames
    update-turns = record {
      count_is = same_count taken;
      ready = ready-then taken;
      out_of_order = λ paper st h. refuses paper st taken h;
      too_few = λ paper st h g. absurd (never_both _ (framed-always paper) g);
      stays = λ n. absurd (n z);
      goes_on = λ paper st h g. goes paper st taken h;
    }

    pub turns-update : Turns log home s (block_of log s).kind (block_of log s).ticket walk frames r frames
    unfolding ticket change
    turns-update = turns_as log home s _ _ ticket _ walk frames r frames (sym (ap (λ (x : format.Kind). kind_in x (bytes_of log s)) k)) refl update-turns

  -- ---- a clean

  module _ (page : ℕ) (k : (header_of log s).kind ≡ format.TheVariants.Clean page) (r : Walk)
      (e : Cleans walk s page (header_of log s).ticket r) where
    -- by its test
    data Cleaned : Type 0 where
      bad : walk_fits walk (clean page) (header_of log s).ticket ≡ false → r ≡ refused_at walk 8 s → Cleaned
      good : walk_fits walk (clean page) (header_of log s).ticket ≡ true → (t : Table) → Drops walk.table page t → r ≡ closed_with walk walk.stage.ticket t → Cleaned

    cleaned : Cleaned
    cleaned =
        by_cases (walk_fits walk (clean page) (header_of log s).ticket)
        (λ f. let g = e.right f in good f g.0 g.1 g.2)
        (λ f. bad f (e.wrong f))

    count-cleaned : Cleaned → r.table.count ≡ walk.table.count
    count-cleaned (bad f q) = ap (λ (w : Walk). w.table.count) q
    count-cleaned (good f t d q) = ap (λ (w : Walk). w.table.count) q ∙ d.count_is

    ready-cleaned : Cleaned → r.refusal ≡ 0 → Ready log home (suc s) r
    ready-cleaned (bad f q) h = not-zero walk r 8 s (omega arith) q h
    ready-cleaned (good f t d q) h = subst (Ready log home (suc s)) (sym q) record {
      half = λ x. absurd (omega arith);
      begins = λ x. absurd (omega arith);
      few = omega arith;
      ticket_below = omega (arith, y.ticket_below);
      ticket_early = λ x. absurd (omega arith);
      placed = λ i x. absurd (omega arith);
    }

    module _ (paper : PaperWalk) (st : Stands log home s walk frames paper) where
      refuses-clean : Cleaned → in_order (clean page) (header_of log s).ticket paper ≡ false → Refused r 8 s
      refuses-clean (bad f q) h = refused-at walk r 8 s q
      refuses-clean (good f t d q) h = absurd (never_both _ (test-is log home s walk frames paper st (clean page) (header_of log s).ticket ∙ f) h)

      goes-clean : Cleaned → in_order (clean page) (header_of log s).ticket paper ≡ true → Stands log home (suc s) r frames (walk_block (page_at home) s (clean page) paper)
      unfolding walk_block updates_from
      goes-clean (bad f q) h = absurd (never_both _ h (test-is log home s walk frames paper st (clean page) (header_of log s).ticket ∙ f))
      goes-clean (good f t d q) h = subst (λ (w : Walk). Stands log home (suc s) w frames left) (sym q) record {
        going = st.going;
        not_full = d.full_is ∙ st.not_full;
        ticket_is = st.ticket_is;
        start_is = refl;
        group_is = refl;
        holds = d.holds frames paper.dirty_pages st.holds;
        early = each-without (Early (pages_in (length home)) (suc s)) page paper.dirty_pages (early-later _ s paper.dirty_pages st.early);
      }
        where
          left : PaperWalk
          left = record { group = []; start = 0; ticket = paper.ticket; dirty_pages = without page paper.dirty_pages }

    framed-clean : (paper : PaperWalk) → framed walk.table.count (page_at home) (clean page) paper ≡ true
    unfolding framed
    framed-clean paper = refl

    clean-turns : Turns log home s (clean page) (header_of log s).ticket walk frames r frames
    clean-turns = record {
      count_is = count-cleaned cleaned;
      ready = ready-cleaned cleaned;
      out_of_order = λ paper st h. refuses-clean paper st cleaned h;
      too_few = λ paper st h g. absurd (never_both _ (framed-clean paper) g);
      stays = λ n. absurd (n z);
      goes_on = λ paper st h g. goes-clean paper st cleaned h;
    }

    pub turns-clean : Turns log home s (block_of log s).kind (block_of log s).ticket walk frames r frames
    turns-clean = turns_as log home s _ _ (header_of log s).ticket _ walk frames r frames (sym (ap (λ (x : format.Kind). kind_in x (bytes_of log s)) k)) refl clean-turns

  -- ---- a commit

  module _ (updates : ℕ) (k : (header_of log s).kind ≡ format.TheVariants.Commit updates) (r : Walk) (frames' : List ℕ)
      (e : Commits log home walk frames s updates (header_of log s).ticket r frames') where
    -- by its test, and by whether a page found no frame
    data Committed : Type 0 where
      bad : walk_fits walk (commit updates) (header_of log s).ticket ≡ false → r ≡ refused_at walk 8 s → Committed
      full : walk_fits walk (commit updates) (header_of log s).ticket ≡ true → (t : Table)
          → AppliesAll walk.table home frames (updates_from log walk.stage.start walk.stage.count) walk.stage.start t frames'
          → t.full ≡ true → r ≡ refused_at (closed_with walk (header_of log s).ticket t) 9 s → Committed
      good : walk_fits walk (commit updates) (header_of log s).ticket ≡ true → (t : Table)
          → AppliesAll walk.table home frames (updates_from log walk.stage.start walk.stage.count) walk.stage.start t frames'
          → t.full ≡ false → r ≡ closed_with walk (header_of log s).ticket t → Committed

    committed : Committed
    committed =
        by_cases (walk_fits walk (commit updates) (header_of log s).ticket)
        (λ f. let g = e.right f in by_cases g.0.full
        (λ h. full f g.0 g.1 h (g.2 ∙ ap (λ (b : Bool). cond b (refused_at (closed_with walk (header_of log s).ticket g.0) 9 s) (closed_with walk (header_of log s).ticket g.0)) h))
        (λ h. good f g.0 g.1 h (g.2 ∙ ap (λ (b : Bool). cond b (refused_at (closed_with walk (header_of log s).ticket g.0) 9 s) (closed_with walk (header_of log s).ticket g.0)) h)))
        (λ f. bad f (e.wrong f))

    count-committed : Committed → r.table.count ≡ walk.table.count
    count-committed (bad f q) = ap (λ (w : Walk). w.table.count) q
    count-committed (full f t a h q) = ap (λ (w : Walk). w.table.count) q ∙ a.count_is
    count-committed (good f t a h q) = ap (λ (w : Walk). w.table.count) q ∙ a.count_is

    ready-committed : Committed → r.refusal ≡ 0 → Ready log home (suc s) r
    ready-committed (bad f q) h = not-zero walk r 8 s (omega arith) q h
    ready-committed (full f t a g q) h = not-zero (closed_with walk (header_of log s).ticket t) r 9 s (omega arith) q h
    ready-committed (good f t a g q) h = subst (Ready log home (suc s)) (sym q) record {
      half = λ x. absurd (omega arith);
      begins = λ x. absurd (omega arith);
      few = omega arith;
      ticket_below = omega (arith, (legal-numbers log home s v).1);
      ticket_early = λ x. absurd (omega arith);
      placed = λ i x. absurd (omega arith);
    }

    module _ (paper : PaperWalk) (st : Stands log home s walk frames paper) where
      -- the group, as the promised walk has it
      after : List DirtyPage
      after = apply_all walk.stage.start (page_at home) (updates_from log walk.stage.start walk.stage.count) paper.dirty_pages

      after_is : apply_all paper.start (page_at home) paper.group paper.dirty_pages ≡ after
      unfolding after
      after_is =
          ap (λ (n : ℕ). apply_all n (page_at home) paper.group paper.dirty_pages) (sym st.start_is)
          ∙ ap (λ (us : List Update). apply_all walk.stage.start (page_at home) us paper.dirty_pages) (sym st.group_is)

      room : framed walk.table.count (page_at home) (commit updates) paper ≡ leb (length after) walk.table.count
      unfolding framed
      room = ap (λ (es : List DirtyPage). leb (length es) walk.table.count) after_is

      refuses-commit : Committed → in_order (commit updates) (header_of log s).ticket paper ≡ false → Refused r 8 s
      refuses-commit (bad f q) h = refused-at walk r 8 s q
      refuses-commit (full f t a g q) h = absurd (never_both _ (test-is log home s walk frames paper st (commit updates) (header_of log s).ticket ∙ f) h)
      refuses-commit (good f t a g q) h = absurd (never_both _ (test-is log home s walk frames paper st (commit updates) (header_of log s).ticket ∙ f) h)

      lacks-frames : Committed → in_order (commit updates) (header_of log s).ticket paper ≡ true
          → framed walk.table.count (page_at home) (commit updates) paper ≡ false → Refused r 9 s
      unfolding after
      lacks-frames (bad f q) h n = absurd (never_both _ h (test-is log home s walk frames paper st (commit updates) (header_of log s).ticket ∙ f))
      lacks-frames (full f t a g q) h n = refused-at (closed_with walk (header_of log s).ticket t) r 9 s q
      lacks-frames (good f t a g q) h n =
          absurd (never_both _ (a.fills paper.dirty_pages st.not_full st.holds (leb-false _ _ (sym room ∙ n))) g)

      goes-commit : Committed → in_order (commit updates) (header_of log s).ticket paper ≡ true
          → framed walk.table.count (page_at home) (commit updates) paper ≡ true
          → Stands log home (suc s) r frames' (walk_block (page_at home) s (commit updates) paper)
      unfolding walk_block updates_from after
      goes-commit (bad f q) h n = absurd (never_both _ h (test-is log home s walk frames paper st (commit updates) (header_of log s).ticket ∙ f))
      goes-commit (full f t a g q) h n =
          absurd (never_both _ g (a.fits paper.dirty_pages st.not_full st.holds (leb-true _ _ (sym room ∙ n))).0)
      goes-commit (good f t a g q) h n =
          let held = a.fits paper.dirty_pages st.not_full st.holds (leb-true _ _ (sym room ∙ n)) in
          subst (λ (es : List DirtyPage). Stands log home (suc s) r frames' (settled es)) (sym after_is)
          (subst (λ (w : Walk). Stands log home (suc s) w frames' (settled after)) (sym q) record {
            going = st.going;
            not_full = g;
            ticket_is = (commit-told (header_of log s).ticket walk.stage.count walk.stage.ticket updates f).1 ∙ ap (λ (n : ℕ). n + 1) st.ticket_is;
            start_is = refl;
            group_is = refl;
            holds = held.1;
            early = each-group (Early (pages_in (length home)) (suc s)) log (page_at home) walk.stage.start walk.stage.start walk.stage.count paper.dirty_pages
                (λ i x. (page-below i x, y.begins (commit-told (header_of log s).ticket walk.stage.count walk.stage.ticket updates f).0, omega (arith, y.half (commit-told (header_of log s).ticket walk.stage.count walk.stage.ticket updates f).0)))
                (early-later _ s paper.dirty_pages st.early);
          })
        where
          settled : List DirtyPage → PaperWalk
          settled es = record { group = []; start = 0; ticket = paper.ticket + 1; dirty_pages = es }

          page-below : (i : ℕ) → i < walk.stage.count → (update_of log (walk.stage.start + i)).page < pages_in (length home)
          page-below i x = unfold update_of in placed-page (pages_in (length home)) (header_of log (walk.stage.start + i)).kind (bytes_of log (walk.stage.start + i)) (y.placed i x)

    commit-turns : Turns log home s (commit updates) (header_of log s).ticket walk frames r frames'
    commit-turns = record {
      count_is = count-committed committed;
      ready = ready-committed committed;
      out_of_order = λ paper st h. refuses-commit paper st committed h;
      too_few = λ paper st h g. lacks-frames paper st committed h g;
      stays = λ n. absurd (n z);
      goes_on = λ paper st h g. goes-commit paper st committed h g;
    }

    pub turns-commit : Turns log home s (block_of log s).kind (block_of log s).ticket walk frames r frames'
    turns-commit = turns_as log home s _ _ (header_of log s).ticket _ walk frames r frames' (sym (ap (λ (x : format.Kind). kind_in x (bytes_of log s)) k)) refl commit-turns
