-- States that the calls can build, and that they meet the promises: for those who prove the code.
-- Assumes nothing.
use mathlib.Core.Path.{◌≡◌, refl, sym, ap, ◌∙◌}
use mathlib.Core.Bool.{Bool, true, false, cond, not, ◌&&◌}
use Prim.Native.Nat.{ℕ, zero, suc, ◌+◌, ◌*◌, ◌-◌, ◌^◌, ◌≤◌, ◌<◌, min}
use mathlib.Core.List.{List, [], ◌∷◌, ◌++◌, map}
use native.Mathlib.Omega.{arith}
use native.Mathlib.Numerals.{add-one}
use lib.ListN.{length, take, drop, length-set, length-take}
use lib.Seq.{take-suc-set, drop-drop, length-take-le}
use lib.Dec.{eqb, leb, ltb}
use borrow.Author.Tests.{leb-true, ltb-true, eqb-true, eqb-false, le-leb, lt-ltb, eq-eqb, ne_eqb}
use Rattle.area.proofs.Laws.{and_both, and2}
use Rattle.std.specs.Prelude.{Ok}
use Rattle.promises.specs.declared.State.{State}
use Rattle.promises.specs.declared.Dirty.{Dirty}
use Rattle.promises.specs.declared.Cleaning.{Cleaning}
use Rattle.promises.specs.declared.Logged.TheVariants.{Stored}
use Rattle.promises.specs.Updates.{Update}
use Rattle.promises.specs.Areas.{page_at}
use Rattle.promises.specs.DirtyPages.{at, look_up, shown}
use Rattle.promises.specs.Contents.{unless, contents_of, with_queue, with_open, dirty_from, dirty_of, groups_of, grouped, queue_of, waiting, total}
use Rattle.promises.specs.Sums.{block_count, first_groups, half_starts, smallest, open_ones, waiting_blocks, slots_taken, frames_taken}
use Rattle.promises.specs.Sound.{dirty_numbers, names, staged_of, all_below, sizes_legal, of_oldest, sound}
use Rattle.promises.specs.States.{set_cleaning}
use Rattle.promises.specs.Answers.{done, gives}
use Rattle.promises.specs.Begin.{begin_refusal, begin_in_range, begin_has_room, begun_state, Begins}
use Rattle.promises.specs.Describe.{describe_refusal}
use Rattle.block.specs.Legal.{legal_place}
use Rattle.promises.specs.End.{end_refusal, ended_state, Ends}
use Rattle.promises.specs.Blocks.{stored}
use Rattle.promises.specs.LogStep.{update_block, update_stored_state, UpdateStep}
use Rattle.promises.specs.Read.{Held, at_home, in_frame, held_in}
use Rattle.promises.proofs.Replies.{replied-accepted}
use Rattle.promises.proofs.Soundness.{Sound, sound-of, of-sound, parts-of, of_parts}

-- ---- refusals taken apart
pub pick-zero : (b : Bool) (x k : ℕ) → 0 < k → cond b x k ≡ 0 → (b ≡ true) × (x ≡ 0)
pick-zero true x k h e = (refl, e)
pick-zero false x k h e = absurd (omega arith)

pub pick_other : (b : Bool) (x k : ℕ) → 0 < k → cond b k x ≡ 0 → (b ≡ false) × (x ≡ 0)
pick_other true x k h e = absurd (omega arith)
pick_other false x k h e = (refl, e)

-- what an accepted Describe passed: soundness, the length, an open transaction, a legal place, an update that is left
pub describe-passed : (s : State) (staging page offset count : ℕ) → describe_refusal s staging page offset count ≡ 0
    → (sound s ≡ true) × (staging ≡ s.frames * 472) × (s.reserved ≡ 0 → ⊥) × (legal_place s.pages page offset count ≡ true) × (s.described < s.reserved)
unfolding describe_refusal
describe-passed s staging page offset count e =
    let c2 = pick-zero (sound s) _ 2 (omega arith) e in
    let c1 = pick-zero (eqb staging (s.frames * 472)) _ 1 (omega arith) c2.1 in
    let c4 = pick_other (eqb s.reserved 0) _ 4 (omega arith) c1.1 in
    let c3 = pick-zero (legal_place s.pages page offset count) _ 3 (omega arith) c4.1 in
    let c5 = pick-zero (ltb s.described s.reserved) 0 5 (omega arith) c3.1 in
    (c2.0, eqb-true _ _ c1.0, eqb-false _ _ c4.0, c3.0, ltb-true _ _ c5.0)

-- ---- Begin
pub one-open : (u : ℕ) → (u ≡ 0 → ⊥) → cond (eqb u 0) [] (u ∷ []) ≡ u ∷ []
one-open u n = simp (ne_eqb u 0 n)

pub sound-opened : (s : State) (u : ℕ) → Sound s → s.reserved ≡ 0 → 1 ≤ u → u ≤ 16 → slots_taken s + 2 * u + 1 ≤ s.slots → frames_taken s + u ≤ s.frames → s.next + waiting_blocks s + u + 1 ≤ 2 ^ 48 → Sound (begun_state s u)
sound-opened s u f z lo hi a b c =
    let d : s.described ≡ 0 = omega (arith, f.described) in
    let st : take (total (groups_of s) + 0) s.staged ≡ staged_of s = ap (λ (n : ℕ). take (total (groups_of s) + n) s.staged) (sym d) in
    let o : open_ones (begun_state s u) ≡ u ∷ [] = one-open u (λ e. omega arith) in
    let t1 : total (open_ones (begun_state s u)) ≡ u = ap total o ∙ omega arith in
    let t2 : block_count (open_ones (begun_state s u)) ≡ u + 1 = ap block_count o ∙ omega arith in
    of_parts (record {
      sizes = (parts-of f).sizes;
      dirty = (parts-of f).dirty;
      waiting = record {
        distinct_areas = rw st f.distinct_areas;
        areas_below = rw st f.areas_below;
        places = rw st f.places;
      };
      groups = (parts-of f).groups;
      transaction = record {
        reserved = hi;
        described = omega arith;
      };
      ticket = f.ticket;
      staged = omega (arith, f.staged);
      slot_sum = omega (arith, t1, t2);
      frame_sum = omega (arith, t1);
      sequence_sum = omega (arith, t2);
      mark = f.mark;
    })

pub begin-met : (s : State) (u : ℕ) → begin_refusal s u ≡ 0 → Begins s u (record { state = begun_state s u; answer = Ok tt })
unfolding begin_refusal
begin-met s u e =
    let c2 = pick-zero (sound s) _ 2 (omega arith) e in
    let c3 = pick-zero (begin_in_range s u) _ 3 (omega arith) c2.1 in
    let c4 = pick-zero (eqb s.reserved 0) _ 4 (omega arith) c3.1 in
    let c6 = pick-zero (leb (s.next + waiting_blocks s + u + 1) (2 ^ 48)) _ 6 (omega arith) c4.1 in
    let c5 = pick-zero (begin_has_room s u) 0 5 (omega arith) c6.1 in
    let r3 = and_both (leb 1 u && leb u 16 && leb u s.frames) (leb (2 * u + 1) s.slots) c3.0 in
    let r2 = and_both (leb 1 u && leb u 16) (leb u s.frames) r3.0 in
    let r1 = and_both (leb 1 u) (leb u 16) r2.0 in
    let m = and_both (leb (slots_taken s + 2 * u + 1) s.slots) (leb (frames_taken s + u) s.frames) c5.0 in
    let so : sound (begun_state s u) ≡ true = of-sound (begun_state s u) (sound-opened s u (sound-of s c2.0) (eqb-true _ _ c4.0) (leb-true _ _ r1.0) (leb-true _ _ r1.1) (leb-true _ _ m.0) (leb-true _ _ m.1) (leb-true _ _ c6.0)) in
    record {
      answer_is = sym (replied-accepted (begin_refusal s u) done e);
      refused = λ n. absurd (n e);
      state_is = λ x. refl;
      leaves = λ x staging. record { stays_sound = so; contents_are = refl; dirty_are = λ frames p. refl };
    }

-- ---- End
pub groups-closed : (s : State) → s.queued < length s.groups → groups_of (ended_state s) ≡ groups_of s ++ (s.described ∷ [])
groups-closed s h = rw (add-one, take-suc-set)

pub total-snoc : (ns : List ℕ) (d : ℕ) → total (ns ++ (d ∷ [])) ≡ total ns + d
total-snoc [] d = omega arith
total-snoc (n ∷ ns) d = omega (arith, total-snoc ns d)

pub blocks-snoc : (ns : List ℕ) (d : ℕ) → block_count (ns ++ (d ∷ [])) ≡ block_count ns + d + 1
blocks-snoc [] d = omega arith
blocks-snoc (n ∷ ns) d = omega (arith, blocks-snoc ns d)

groups-snoc : (ns : List ℕ) (d : ℕ) → sizes_legal ns ≡ true → 1 ≤ d → d ≤ 16 → sizes_legal (ns ++ (d ∷ [])) ≡ true
groups-snoc [] d h lo hi = and2 (and2 (le-leb _ _ lo) (le-leb _ _ hi)) refl
groups-snoc (n ∷ ns) d h lo hi = let a = and_both (leb 1 n && leb n 16) (sizes_legal ns) h in and2 a.0 (groups-snoc ns d a.1 lo hi)

stored-snoc : (c : ℕ) (ns : List ℕ) (d : ℕ) → of_oldest c ns ≡ true → of_oldest c (ns ++ (d ∷ [])) ≡ true
stored-snoc c [] d h = le-leb c d (omega (arith, eqb-true c 0 h))
stored-snoc c (n ∷ ns) d h = h

-- stored blocks are queued ones
pub stored-few : (c : ℕ) (ns : List ℕ) → of_oldest c ns ≡ true → c ≤ block_count ns
stored-few c [] h = omega (arith, eqb-true c 0 h)
stored-few c (n ∷ ns) h = omega (arith, leb-true c n h)

-- each group has an update
pub groups-count : (ns : List ℕ) → sizes_legal ns ≡ true → length ns ≤ total ns
groups-count [] h = omega arith
groups-count (n ∷ ns) h =
    let a = and_both (leb 1 n && leb n 16) (sizes_legal ns) h in
    let o : 1 ≤ n = leb-true _ _ (and_both (leb 1 n) (leb n 16) a.0).0 in
    omega (arith, groups-count ns a.1)

pub grouped-snoc : (ns : List ℕ) (d : ℕ) (us : List Update) → grouped (ns ++ (d ∷ [])) us ≡ grouped ns us ++ (take d (drop (total ns) us) ∷ [])
unfolding grouped
grouped-snoc [] d us = refl
grouped-snoc (n ∷ ns) d us = ap (λ (q : List (List Update)). take n us ∷ q) (grouped-snoc ns d (drop n us) ∙ ap (λ (x : List Update). grouped ns (drop n us) ++ (take d x ∷ [])) (drop-drop (total ns) n us))

pub sound-closed : (s : State) → Sound s → (s.reserved ≡ 0 → ⊥) → (s.described ≡ 0 → ⊥) → s.queued < length s.groups → Sound (ended_state s)
sound-closed s f n m h =
    let d : ℕ = s.described in
    let g : groups_of (ended_state s) ≡ groups_of s ++ (d ∷ []) = groups-closed s h in
    let tg : total (groups_of (ended_state s)) ≡ total (groups_of s) + d = ap total g ∙ total-snoc (groups_of s) d in
    let bg : block_count (groups_of (ended_state s)) ≡ block_count (groups_of s) + d + 1 = ap block_count g ∙ blocks-snoc (groups_of s) d in
    let tn : total (groups_of (ended_state s)) + 0 ≡ total (groups_of s) + d = omega (arith, tg) in
    let st : take (total (groups_of (ended_state s)) + 0) s.staged ≡ staged_of s = ap (λ (k : ℕ). take k s.staged) tn in
    let lo : 1 ≤ d = omega arith in
    let hi : d ≤ 16 = omega (arith, f.described, f.reserved) in
    let o : open_ones s ≡ s.reserved ∷ [] = one-open s.reserved n in
    let t1 : total (open_ones s) ≡ s.reserved = ap total o ∙ omega arith in
    let t2 : block_count (open_ones s) ≡ s.reserved + 1 = ap block_count o ∙ omega arith in
    let sf : s.stored ≤ block_count (groups_of s) = stored-few s.stored (groups_of s) f.stored in
    of_parts (record {
      sizes = (parts-of f).sizes;
      dirty = (parts-of f).dirty;
      waiting = record {
        distinct_areas = rw st f.distinct_areas;
        areas_below = rw st f.areas_below;
        places = rw st f.places;
      };
      groups = record {
        groups = rw g (groups-snoc (groups_of s) d f.groups lo hi);
        queued = omega (arith, length-set s.groups s.queued d);
        stored = rw g (stored-snoc s.stored (groups_of s) d f.stored);
      };
      transaction = record {
        reserved = omega arith;
        described = omega arith;
      };
      ticket = f.ticket;
      staged = omega (arith, tg, f.staged);
      slot_sum = omega (arith, f.slot_sum, f.described, t1, t2, tg, bg, sf);
      frame_sum = omega (arith, f.frame_sum, f.described, t1, tg);
      sequence_sum = omega (arith, f.sequence_sum, f.described, t2, bg, sf);
      mark = f.mark;
    })

pub end-met : (s : State) → length s.groups ≡ 32 → end_refusal s ≡ 0 → Ends s (record { state = ended_state s; answer = Ok (s.ticket + s.queued + 1) })
unfolding end_refusal
end-met s l e =
    let c2 = pick-zero (sound s) _ 2 (omega arith) e in
    let c4 = pick_other (eqb s.reserved 0) _ 4 (omega arith) c2.1 in
    let c10 = pick_other (eqb s.described 0) 0 10 (omega arith) c4.1 in
    let f : Sound s = sound-of s c2.0 in
    let n : s.reserved ≡ 0 → ⊥ = eqb-false _ _ c4.0 in
    let m : s.described ≡ 0 → ⊥ = eqb-false _ _ c10.0 in
    let o : total (open_ones s) ≡ s.reserved = ap total (one-open s.reserved n) ∙ omega arith in
    let k : length (groups_of s) ≡ s.queued = length-take-le s.queued s.groups f.queued in
    let q : s.queued < length s.groups = omega (arith, groups-count (groups_of s) f.groups, f.frame_sum, f.described, f.frames, o) in
    let so : sound (ended_state s) ≡ true = of-sound (ended_state s) (sound-closed s f n m q) in
    record {
      answer_is = sym (replied-accepted (end_refusal s) (gives (s.ticket + s.queued + 1)) e);
      refused = λ x. absurd (x e);
      state_is = λ x. refl;
      leaves = λ x staging. record {
        stays_sound = so;
        contents_are = ap (λ (y : List (List Update)). with_open (with_queue (contents_of s staging) y s.stored) 0 [])
            (ap (λ (ns : List ℕ). grouped ns (map (waiting staging) s.staged)) (groups-closed s q) ∙ grouped-snoc (groups_of s) s.described (map (waiting staging) s.staged));
        dirty_are = λ frames p. refl;
      };
    }

-- ---- an update block is stored

pub below_more : (n m : ℕ) (xs : List ℕ) → n ≤ m → all_below n xs ≡ true → all_below m xs ≡ true
below_more n m [] h e = refl
below_more n m (x ∷ xs) h e =
    let a = and_both (ltb x n) (all_below n xs) e in
    let l : x < n = ltb-true x n a.0 in
    and2 (lt-ltb x m (omega arith)) (below_more n m xs h a.1)

min-smallest : (a n : ℕ) (xs : List ℕ) → a ≤ n → min a (smallest n xs) ≡ smallest a xs
min-smallest a n [] h = omega arith
min-smallest a n (x ∷ xs) h = omega (arith, min-smallest a n xs h)

-- H in one piece: the oldest of the first groups and the oldest queued group's start
pub held-is : (s : State) → smallest s.next (half_starts s ++ first_groups s.dirty) ≡ smallest (s.next - s.stored) (first_groups s.dirty)
held-is s = by_zero s.stored
    (λ e. simp (eq-eqb _ _ e) (ap (λ (n : ℕ). smallest n (first_groups s.dirty)) (omega arith)))
    (λ n. simp (ne_eqb _ _ n) (min-smallest (s.next - s.stored) s.next (first_groups s.dirty) (omega arith)))
  where
    by_zero : {X : Type 0} (a : ℕ) → (a ≡ 0 → X) → ((a ≡ 0 → ⊥) → X) → X
    by_zero zero f g = f refl
    by_zero (suc a) f g = g (λ e. omega arith)

pub smallest-le : (a : ℕ) (xs : List ℕ) → smallest a xs ≤ a
smallest-le a [] = omega arith
smallest-le a (x ∷ xs) = omega (arith, smallest-le a xs)

-- the oldest group's size bounds its list
pub head-size : (c : ℕ) (ns : List ℕ) (us g : List Update) (q : List (List Update)) → grouped ns us ≡ g ∷ q → of_oldest c ns ≡ true → c < length g → of_oldest (c + 1) ns ≡ true
unfolding grouped
head-size c [] us g q e h l = let x : ◌≡◌ {A = ℕ} 0 1 = cc in absurd (omega arith)
head-size c (n ∷ ns) us g q e h l =
    let t : take n us ≡ g = cc in
    let k : length g ≡ min n (length us) = ap length (sym t) ∙ length-take n us in
    le-leb (c + 1) n (omega arith)

pub sound-update : (s : State) (staging : List ℕ) (g : List Update) (q : List (List Update)) → Sound s → queue_of s staging ≡ g ∷ q → s.stored < length g → Sound (update_stored_state s)
sound-update s staging g q f e h =
    let st : of_oldest (s.stored + 1) (groups_of s) ≡ true = head-size s.stored (groups_of s) (map (waiting staging) s.staged) g q e f.stored h in
    let few : s.stored + 1 ≤ block_count (groups_of s) = stored-few (s.stored + 1) (groups_of s) st in
    let x : ℕ = smallest (s.next - s.stored) (first_groups s.dirty) in
    let h1 : smallest s.next (half_starts s ++ first_groups s.dirty) ≡ x = held-is s in
    let nn : s.next + 1 - (s.stored + 1) ≡ s.next - s.stored = omega arith in
    let h2 : smallest (s.next + 1) (half_starts (update_stored_state s) ++ first_groups s.dirty) ≡ x = held-is (update_stored_state s) ∙ ap (λ (n : ℕ). smallest n (first_groups s.dirty)) nn in
    let le : x ≤ s.next - s.stored = smallest-le (s.next - s.stored) (first_groups s.dirty) in
    of_parts (record {
      sizes = (parts-of f).sizes;
      dirty = record {
        distinct_pages = f.distinct_pages;
        pages_below = f.pages_below;
        frames_below = f.frames_below;
        firsts_below = below_more s.next (s.next + 1) (first_groups s.dirty) (omega arith) f.firsts_below;
        cleaning = f.cleaning;
      };
      waiting = (parts-of f).waiting;
      groups = record {
        groups = f.groups;
        queued = f.queued;
        stored = st;
      };
      transaction = (parts-of f).transaction;
      ticket = omega (arith, f.ticket);
      staged = f.staged;
      slot_sum = omega (arith, f.slot_sum, h1, h2, few);
      frame_sum = f.frame_sum;
      sequence_sum = omega (arith, f.sequence_sum, few);
      mark = f.mark;
    })

-- the promise of an update's store, met by this state and a log with the block in its slot
pub update-met : (s : State) (g : List Update) (q : List (List Update)) (log frames staging : List ℕ) → sound s ≡ true → queue_of s staging ≡ g ∷ q → s.stored < length g
    → UpdateStep s g log frames staging (record { state = update_stored_state s; answer = Ok Stored }) (stored s.slots log s.next (update_block s g (dirty_of s frames))) frames
update-met s g q log frames staging so e h =
    record { answer_is = refl; log_is = refl; frames_are = refl; state_is = refl; stays_sound = of-sound (update_stored_state s) (sound-update s staging g q (sound-of s so) e h); contents_are = refl; dirty_are = λ p. refl }

-- ---- half a page is stored

pub sound-cleaning : (s : State) (c : Cleaning) → Sound s → names c (dirty_numbers s.dirty) ≡ true → Sound (set_cleaning s c)
sound-cleaning s c f h =
    of_parts (record {
      sizes = (parts-of f).sizes;
      dirty = record {
        distinct_pages = f.distinct_pages;
        pages_below = f.pages_below;
        frames_below = f.frames_below;
        firsts_below = f.firsts_below;
        cleaning = h;
      };
      waiting = (parts-of f).waiting;
      groups = (parts-of f).groups;
      transaction = (parts-of f).transaction;
      ticket = f.ticket;
      staged = f.staged;
      slot_sum = f.slot_sum;
      frame_sum = f.frame_sum;
      sequence_sum = f.sequence_sum;
      mark = f.mark;
    })

-- ---- Read: where a page is held, and what shows of it
abbrev pub bytes_at : Held → List ℕ → List ℕ → ℕ → List ℕ
bytes_at at_home home frames page = page_at home page
bytes_at (in_frame f) home frames page = page_at frames f

pub held-shows : (home frames : List ℕ) (page f : ℕ) (ds : List Dirty) → shown (look_up page (dirty_from frames f ds)) (page_at home page) ≡ bytes_at (held_in page f ds) home frames page
unfolding dirty_from held_in look_up
held-shows home frames page f [] = refl
held-shows home frames page f (d ∷ ds) = go (eqb d.first 0) (eqb page d.page) (held-shows home frames page (suc f) ds)
  where
    go : (a b : Bool) → shown (look_up page (dirty_from frames (suc f) ds)) (page_at home page) ≡ bytes_at (held_in page (suc f) ds) home frames page
        → shown (look_up page (unless a (record { page = d.page; first = d.first; bytes = page_at frames f }) (dirty_from frames (suc f) ds))) (page_at home page)
        ≡ bytes_at (cond (not a && eqb page d.page) (in_frame f) (held_in page (suc f) ds)) home frames page
    go true b ih = ih
    go false b ih = by (eqb page d.page) ih
      where
        by : (b : Bool) → shown (look_up page (dirty_from frames (suc f) ds)) (page_at home page) ≡ bytes_at (held_in page (suc f) ds) home frames page
            → shown (cond b (at (record { page = d.page; first = d.first; bytes = page_at frames f })) (look_up page (dirty_from frames (suc f) ds))) (page_at home page)
            ≡ bytes_at (cond b (in_frame f) (held_in page (suc f) ds)) home frames page
        by true ih = refl
        by false ih = ih
