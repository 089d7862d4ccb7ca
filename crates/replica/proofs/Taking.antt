-- A block that is taken leaves a copy's sound state, and meets the promise: for every kind, once the frames hold the pages that are dirty then.
-- Assumes nothing.
use mathlib.Core.Path.{◌≡◌, refl, sym, ap, ◌∙◌, subst}
use mathlib.Core.Logic.{⊎_elim}
use mathlib.Core.Bool.{Bool, true, false, cond, ◌&&◌}
use mathlib.Core.List.{List, [], ◌∷◌, ◌++◌}
use Prim.Native.Nat.{ℕ, ◌+◌, ◌-◌, ◌*◌, ◌/◌, ◌^◌, ◌≤◌, ◌<◌}
use native.Mathlib.Omega.{arith}
use lib.Dec.{eqb}
use lib.ListN.{length, take, length-append}
use borrow.Author.Tests.{eqb-true, eq-eqb, ne_eqb, leb-true}
use Rattle.area.proofs.Laws.{and_both}
use Rattle.block.specs.declared.Judged.{Judged}
use Rattle.block.specs.declared.Judged.TheVariants.{Unused, Damaged, Valid}
use Rattle.block.specs.Legal.{slot_of}
use Rattle.block.specs.Slot.{judged, block_at}
use Rattle.block.proofs.Facts.{Facts, facts}
use Rattle.block.proofs.ReadBack as format
use Rattle.promises.specs.declared.State.{State}
use Rattle.promises.specs.declared.Dirty.{Dirty}
use Rattle.promises.specs.declared.Outcome.{Outcome}
use Rattle.promises.specs.declared.Fed.{Fed}
use Rattle.promises.specs.declared.Stop.{Stop}
use Rattle.promises.specs.Areas.{page_at, with_slot}
use Rattle.promises.specs.Updates.{Update}
use Rattle.promises.specs.Blocks.{Kind, update, commit, clean, LogBlock, unused, damaged, valid, slot_in, slots_of}
use Rattle.promises.specs.DirtyPages.{keep_from_of}
use Rattle.promises.specs.Contents.{dirty_of, total, groups_of}
use Rattle.promises.specs.Sums.{first_groups, smallest, half_starts, group_start, block_count, reserved_updates, owed_blocks}
use Rattle.promises.specs.Sound.{copy_sound}
use Rattle.promises.specs.Walk.{Walk, walk_block, in_order}
use Rattle.promises.specs.Feed.{standing, lacking, lacking_at, half_start, fed_slot, takes, feeding, after, taken_state, FramesAfter, Feeds}
use Rattle.promises.proofs.Soundness.{SoundAs, sound-as-of, of-sound-as}
use Rattle.promises.proofs.Changes.{below_more, held-is}
use Rattle.promises.proofs.Passed.{Passed, passed, takes_of, update-order, commit-order}
use Rattle.promises.proofs.CopyPromised.{feeds-taken}
use Rattle.table.specs.Table.{Holds, Each}
use Rattle.table.proofs.Entries.{within-most}
use Rattle.table.proofs.Holding.{held-count, held-keep, held_below, each-without, Below}
use Rattle.stepping.specs.Tables.{table_with}
use Rattle.stepping.proofs.Held.{each_below}
use Rattle.recovery.specs.Log as recovered
use Rattle.recovery.specs.Log.{header_of, update_of, Placed}
use Rattle.recovery.proofs.Turning.{each-group, placed-page}
use Rattle.feeding.proofs.OwnLog.{own-updates}
use Rattle.feeding.proofs.Turning.{stored_is}
use Rattle.replica.specs.Taking.{taken_with}

-- ---- a fed block's sequence is below 2^48
same-sequence : (a b : ℕ) (x y : LogBlock) → valid a x ≡ valid b y → a ≡ b
same-sequence a b x y e = cc

never-unused : {X : Type 0} (n : ℕ) (x : LogBlock) → unused ≡ valid n x → X
never-unused n x e = let z : ◌≡◌ {A = ℕ} 0 1 = cc in absurd (omega arith)

never-damaged : {X : Type 0} (n : ℕ) (x : LogBlock) → damaged ≡ valid n x → X
never-damaged n x e = let z : ◌≡◌ {A = ℕ} 0 1 = cc in absurd (omega arith)

pub sequence-below : (N P n : ℕ) (bytes : List ℕ) (x : LogBlock) → fed_slot N P bytes ≡ valid n x → n < 2 ^ 48
sequence-below N P n bytes x e = go (judged N P (slot_of N (block_at bytes).sequence) bytes) refl e
  where
    go : (j : Judged) → judged N P (slot_of N (block_at bytes).sequence) bytes ≡ j → slot_in j bytes ≡ valid n x → n < 2 ^ 48
    go Unused q f = never-unused n x f
    go Damaged q f = never-damaged n x f
    go (Valid b) q f =
        let held = format.valid-holds N P (slot_of N (block_at bytes).sequence) bytes b q in
        let low : Facts N P b = facts N P b held.is-legal in
        omega (arith, low.most, same-sequence _ _ _ _ f)

-- ---- where the walk is once a block in order is walked over
pub record Standing' (s : State) (v : Walk) : Type 0 where
  pub half : half_start (s.next + 1) v.group v.start ≡ s.next + 1 - length v.group
  pub ticket : v.ticket < s.next + 1 - length v.group

module _ (s : State) (slots frames : List ℕ) (v : Walk) (home : ℕ → List ℕ) (so : copy_sound s ≡ true) (count : s.stored ≡ length v.group)
    (start : v.start ≡ cond (eqb s.stored 0) 0 (group_start s)) (ticket : v.ticket ≡ s.ticket) where
  abbrev sound₀ : SoundAs true s
  sound₀ = sound-as-of true s so

  walked : (k : Kind) (t : ℕ) → in_order k t v ≡ true → Standing' s (walk_block home s.next k v)
  unfolding walk_block
  walked (update i u) t o = ⊎_elim
      (λ (e : i ≡ 1). rw (eq-eqb i 1 e) (record { half = omega arith; ticket = omega (arith, sound₀.ticket, ticket) }))
      (λ (e : (0 < length v.group) × (i ≡ length v.group + 1)).
      let n : eqb i 1 ≡ false = ne_eqb i 1 (omega (arith, e.0, e.1)) in
      let l : length (v.group ++ (u ∷ [])) ≡ length v.group + 1 = length-append v.group (u ∷ []) in
      let st : v.start ≡ group_start s = start ∙ simp (ne_eqb s.stored 0 (omega (arith, count, e.0))) in
      rw n (record { half = snoc (s.next + 1) v.start v.group u ∙ omega (arith, st, l, count, sound₀.ticket); ticket = omega (arith, l, count, sound₀.ticket, ticket) }))
      (update-order i u t v o).0
    where
      snoc : (next start : ℕ) (us : List Update) (u : Update) → half_start next (us ++ (u ∷ [])) start ≡ start
      snoc next start [] u = refl
      snoc next start (w ∷ us) u = refl
  walked (commit n) t o = record { half = omega arith; ticket = omega (arith, sound₀.ticket, ticket) }
  walked (clean q) t o = record { half = omega arith; ticket = omega (arith, sound₀.ticket, ticket) }

pub page-below : (P n : ℕ) (log : List ℕ) → Placed P (header_of log n).kind → (update_of log n).page < P
unfolding update_of
page-below P n log h = placed-page P (header_of log n).kind (recovered.bytes_of log n) h

-- ---- THE BLOCK IS TAKEN
module _ (s : State) (log home frames bytes : List ℕ) (x : LogBlock) (e : feeding s log home frames bytes ≡ takes x) where
  abbrev v₀ : Walk
  v₀ = standing s (slots_of s.slots s.pages log) frames

  abbrev v₁ : Walk
  v₁ = after s log home frames x

  pub tests : Passed s log home frames bytes x (takes x)
  tests =
      let c = passed s log home frames bytes (takes x) tt e in
      subst (λ (y : LogBlock). Passed s log home frames bytes y (takes x)) (takes_of s frames c.block.kind c.block x c.passed.store).0 c.passed

  pub sound₁ : SoundAs true s
  sound₁ = sound-as-of true s tests.is_sound

  pub next-below : s.next < 2 ^ 48
  next-below = sequence-below s.slots s.pages s.next bytes x tests.slot

  old_below : Each (Below s.pages (s.next + 1)) (dirty_of s frames)
  old_below = each_below s.pages (s.next + 1) frames 0 s.dirty sound₁.pages_below (below_more s.next (s.next + 1) (first_groups s.dirty) (omega arith) sound₁.firsts_below)

  -- a half group's updates, from the headers
  pub record Grouped : Type 0 where
    pub start : v₀.start ≡ group_start s
    pub group : v₀.group ≡ recovered.updates_from log (group_start s) s.stored
    pub placed : (i : ℕ) → i < s.stored → Placed s.pages (header_of log (group_start s + i)).kind

  pub log-long : length log ≡ s.slots * 512
  log-long = eqb-true _ _ (and_both (eqb (length log) (s.slots * 512)) (eqb (length home) (s.pages * 1024)) (and_both _ (eqb (length frames) (s.frames * 1024)) tests.fits).0).0

  pub home-long : length home ≡ s.pages * 1024
  home-long = eqb-true _ _ (and_both (eqb (length log) (s.slots * 512)) (eqb (length home) (s.pages * 1024)) (and_both _ (eqb (length frames) (s.frames * 1024)) tests.fits).0).1

  pub frames-long : length frames ≡ s.frames * 1024
  frames-long = eqb-true _ _ (and_both (eqb (length log) (s.slots * 512) && eqb (length home) (s.pages * 1024)) (eqb (length frames) (s.frames * 1024)) tests.fits).1

  pub take-needs : (1 ≤ s.slots) × (s.slots ≤ 1024) × (length log ≡ s.slots * 512) × (length bytes ≡ 512) × (s.next < 2 ^ 48)
  take-needs = (omega (arith, sound₁.slots.0), sound₁.slots.1, log-long, tests.long, next-below)

  pub grouped : (n : ℕ) → x.kind ≡ commit n → (0 < s.stored) × Grouped
  grouped n k =
      let o = commit-order n x.ticket v₀ (subst (λ (y : Kind). in_order y x.ticket v₀ ≡ true) k tests.order) in
      let some : 0 < s.stored = omega (arith, stored_is s log frames, o.0) in
      let size : length log / 512 ≡ s.slots = omega (arith, log-long) in
      let r = own-updates s.slots s.pages log (omega (arith, sound₁.slots.0)) size s.stored (group_start s) 1 (omega (arith, sound₁.ticket)) (lack k) in
      (some, record { start = simp (ne_eqb s.stored 0 (omega arith)); group = r.0; placed = r.1 })
    where
      lack : x.kind ≡ commit n → lacking s.slots (slots_of s.slots s.pages log) s.stored (group_start s) 1 ≡ 0
      lack k = subst (λ (y : Kind). lacking_at s (slots_of s.slots s.pages log) y ≡ 0) k tests.lack

  -- every page that is dirty then is below P, its first group before the next sequence
  below-after : (k : Kind) → x.kind ≡ k → Each (Below s.pages (s.next + 1)) (walk_block (page_at home) s.next k v₀).dirty_pages
  unfolding walk_block
  below-after (update i u) q = go (eqb i 1)
    where
      go : (b : Bool) → Each (Below s.pages (s.next + 1)) (cond {A = Walk} b (record { group = u ∷ []; start = s.next; ticket = v₀.ticket; dirty_pages = v₀.dirty_pages }) (record { group = v₀.group ++ (u ∷ []); start = v₀.start; ticket = v₀.ticket; dirty_pages = v₀.dirty_pages })).dirty_pages
      go true = old_below
      go false = old_below
  below-after (commit n) q =
      let g = (grouped n q).1 in
      rw (g.group, g.start)
      (each-group (Below s.pages (s.next + 1)) log (page_at home) (group_start s) (group_start s) s.stored (dirty_of s frames)
      (λ i h. (page-below s.pages (group_start s + i) log (g.placed i h), omega arith)) old_below)
  below-after (clean p) q = each-without (Below s.pages (s.next + 1)) p (dirty_of s frames) old_below

  module _ (dirty : List Dirty) (frames' : List ℕ) (holds : Holds (table_with s dirty) frames' v₁.dirty_pages) where
    pub sound-taken : copy_sound (taken_state s v₁ dirty) ≡ true
    sound-taken =
        let f = sound₁ in
        let n : ℕ = length v₁.group in
        let w : Standing' s v₁ = walked s log frames v₀ (page_at home) tests.is_sound (stored_is s log frames) refl refl x.kind x.ticket tests.order in
        let b = held_below s.pages (s.next + 1) (table_with s dirty) frames' v₁.dirty_pages holds (below-after x.kind refl) in
        let none = and_both (eqb s.queued 0) (eqb s.reserved 0) f.stored in
        let q : s.queued ≡ 0 = eqb-true _ _ none.0 in
        let r : s.reserved ≡ 0 = eqb-true _ _ none.1 in
        let t1 : total (groups_of s) ≡ 0 = ap (λ (m : ℕ). total (take m s.groups)) q in
        let t2 : block_count (groups_of s) ≡ 0 = ap (λ (m : ℕ). block_count (take m s.groups)) q in
        let t3 : reserved_updates s ≡ 0 = simp (eq-eqb _ _ r) in
        let t4 : owed_blocks s ≡ 0 = simp (eq-eqb _ _ r) in
        let h : smallest (s.next + 1) (half_starts (taken_state s v₁ dirty) ++ first_groups dirty) ≡ smallest (s.next + 1 - n) (first_groups dirty) = held-is (taken_state s v₁ dirty) in
        let k : smallest (s.next + 1 - n) (first_groups dirty) ≡ keep_from_of (half_start (s.next + 1) v₁.group v₁.start) v₁.dirty_pages =
        held-keep (table_with s dirty) frames' v₁.dirty_pages holds (s.next + 1 - n) ∙ ap (λ (m : ℕ). keep_from_of m v₁.dirty_pages) (sym w.half) in
        let c : length (first_groups dirty) ≡ length v₁.dirty_pages = held-count (table_with s dirty) frames' v₁.dirty_pages holds in
        let span : s.next + 1 - keep_from_of (half_start (s.next + 1) v₁.group v₁.start) v₁.dirty_pages + length v₁.dirty_pages ≤ s.slots = leb-true _ _ tests.span in
        let few : length (first_groups dirty) ≤ s.frames = within-most s.frames dirty holds.within in
        of-sound-as true (taken_state s v₁ dirty) (record {
          pages = f.pages;
          slots = f.slots;
          frames = f.frames;
          distinct_pages = holds.table_distinct;
          pages_below = b.0;
          frames_below = holds.within;
          firsts_below = b.1;
          ticket = w.ticket;
          distinct_areas = f.distinct_areas;
          areas_below = f.areas_below;
          places = f.places;
          groups = f.groups;
          queued = f.queued;
          staged = f.staged;
          reserved = f.reserved;
          described = f.described;
          stored = f.stored;
          cleaning = refl;
          slot_sum = omega (arith, h, k, c, span, t1, t2, t3, t4);
          frame_sum = omega (arith, few, t1, t3);
          sequence_sum = omega (arith, next-below, t2, t4);
          mark = f.mark;
        })

    pub feeds-by : (r : Outcome Fed Stop) (log' : List ℕ) → r ≡ taken_with s v₁.ticket dirty (length v₁.group) → log' ≡ with_slot log (slot_of s.slots s.next) bytes
        → FramesAfter x.kind s.dirty frames dirty frames' → Feeds s log home frames bytes r log' home frames'
    feeds-by r log' i l f =
        subst (λ (o : Outcome Fed Stop). Feeds s log home frames bytes o log' home frames') (sym i)
        (feeds-taken s log home frames bytes (taken_with s v₁.ticket dirty (length v₁.group)) log' home frames' x e
        (record { answer_is = refl; log_is = l; home_is = refl; frames_are = f; state_is = refl; stays_sound = sound-taken; dirty_are = holds.looks }))
