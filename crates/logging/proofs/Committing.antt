-- A commit leaves a sound state: its group's updates leave V and at most as many pages become dirty; H grows by the block stored.
-- Assumes nothing.
use mathlib.Core.Path.{◌≡◌, refl, sym, ap, ◌∙◌, subst}
use mathlib.Core.Bool.{true, false, ◌&&◌}
use mathlib.Core.List.{List, [], ◌∷◌, ◌++◌, map}
use Prim.Native.Nat.{ℕ, ◌+◌, ◌≤◌, ◌<◌}
use native.Mathlib.Omega.{arith}
use lib.Dec.{eqb, leb}
use lib.ListN.{length, take, length-map}
use lib.Seq.{length-take-le}
use borrow.Author.Tests.{leb-true, eqb-false, le-leb}
use Rattle.area.proofs.Laws.{and_both, and2, by_cases, map-take, never_both}
use Rattle.block.specs.Legal.{legal_place}
use Rattle.block.proofs.Tests.{tests}
use Rattle.promises.specs.declared.State.{State}
use Rattle.promises.specs.declared.Dirty.{Dirty}
use Rattle.promises.specs.declared.Staged.{Staged}
use Rattle.promises.specs.declared.Cleaning.{Cleaning}
use Rattle.promises.specs.declared.Cleaning.TheVariants.{Idle, First, Second, Third}
use Rattle.promises.specs.Updates.{Update, of_page}
use Rattle.promises.specs.DirtyPages.{DirtyPage, Found, absent, at, look_up, apply, apply_all}
use Rattle.promises.specs.Contents.{waiting, total, groups_of, dirty_of}
use Rattle.promises.specs.Sums.{first_groups, group_start, half_starts, smallest, block_count}
use Rattle.promises.specs.Sound.{member, all_below, all_legal, sizes_legal, of_oldest, names, dirty_numbers, staged_of}
use Rattle.promises.proofs.Soundness.{Sound, parts-of, of_parts}
use Rattle.promises.proofs.Changes.{below_more, held-is, smallest-le}
use Rattle.promises.proofs.SoundFacts.{length-dirty, keep_from-dirty}
use Rattle.promises.proofs.History.Sees.{look_up-other}
use Rattle.promises.proofs.History.Whole.{length-all}
use Rattle.table.specs.Table.{Holds}
use Rattle.table.proofs.Holding.{held-count, held-keep, Each, Below, held_below}
use Rattle.stepping.specs.Tables.{table_with}
use Rattle.stepping.proofs.Held.{look-unnamed, held-named, Changed, each_all, each_below, each-oldest, oldest-each}
use Rattle.queue.specs.Queue.{changes, cleaning_left, commit_done}
use Rattle.queue.proofs.Leaving.{length-shifted, groups-left, staged-left, distinct-behind, below-behind, legal-behind, unchanged}
use Rattle.logging.specs.Logging.{size_of, oldest_group}

-- a page that no update changes is found as before
pub untouched : (start : ℕ) (home : ℕ → List ℕ) (p : ℕ) (us : List Update) (es : List DirtyPage) → of_page p us ≡ [] → look_up p (apply_all start home us es) ≡ look_up p es
unfolding apply_all of_page
untouched start home p [] es h = refl
untouched start home p (u ∷ us) es h =
    by_cases (eqb p u.page)
    (λ t. let z : u ∷ of_page p us ≡ [] = rw t at h in let y : ◌≡◌ {A = ℕ} 0 1 = cc in absurd (omega arith))
    (λ t. untouched start home p us (apply start home u es) (rw t at h) ∙ look_up-other start home u p es (eqb-false p u.page t))

-- ---- staged places that are legal

legal-front : (pages : ℕ) (xs ys : List Staged) → all_legal pages (xs ++ ys) ≡ true → all_legal pages xs ≡ true
legal-front pages [] ys h = refl
legal-front pages (x ∷ xs) ys h =
    let a = and_both (legal_place pages x.page x.offset x.length) (all_legal pages (xs ++ ys)) h in
    and2 a.0 (legal-front pages xs ys a.1)

-- what holds of every page below P holds of each page that they change
legal-changed : (good : ℕ → Type 0) (pages : ℕ) (staging : List ℕ) (xs : List Staged) → ((p : ℕ) → p < pages → good p) → all_legal pages xs ≡ true
    → Changed good (map (waiting staging) xs)
legal-changed good pages staging [] w h = tt
legal-changed good pages staging (x ∷ xs) w h =
    let a = and_both (legal_place pages x.page x.offset x.length) (all_legal pages xs) h in
    let g = simp tests at a.0 in
    (w x.page (omega arith), legal-changed good pages staging xs w a.1)

none-stored : (ns : List ℕ) → of_oldest 0 ns ≡ true
none-stored [] = refl
none-stored (n ∷ ns) = le-leb 0 n (omega arith)

-- ---- A COMMIT LEAVES A SOUND STATE
module _ (s : State) (f : Sound s) (some : 1 ≤ s.queued) (whole : size_of s ≤ s.stored) (home : ℕ → List ℕ) (frames frames' staging : List ℕ) (dirty : List Dirty)
    (holds : Holds (table_with s dirty) frames' (apply_all (group_start s) home (oldest_group s staging) (dirty_of s frames))) where
  abbrev after : State
  after = commit_done s dirty (size_of s)

  abbrev entries : List DirtyPage
  entries = apply_all (group_start s) home (oldest_group s staging) (dirty_of s frames)

  groups-are : groups_of s ≡ size_of s ∷ groups_of after
  groups-are = groups-left s dirty f some

  stored_is : s.stored ≡ size_of s
  stored_is = let h : s.stored ≤ size_of s = leb-true _ _ (subst (λ (ns : List ℕ). of_oldest s.stored ns ≡ true) groups-are f.stored) in omega arith

  waited : staged_of s ≡ take (size_of s) s.staged ++ staged_of after
  waited = staged-left s dirty f some

  size_few : size_of s ≤ length s.staged
  size_few = omega (arith, ap total groups-are, f.staged)

  group-is : oldest_group s staging ≡ map (waiting staging) (take (size_of s) s.staged)
  group-is = map-take (waiting staging) (size_of s) s.staged

  group-long : length (oldest_group s staging) ≡ size_of s
  group-long = length-take-le (size_of s) (map (waiting staging) s.staged) (omega (arith, size_few, length-map s.staged (waiting staging)))

  changed : (good : ℕ → Type 0) → ((p : ℕ) → p < s.pages → good p) → Changed good (oldest_group s staging)
  changed good w =
      subst (Changed good) (sym group-is)
      (legal-changed good s.pages staging (take (size_of s) s.staged) w
      (legal-front s.pages (take (size_of s) s.staged) (staged_of after) (rw waited at f.places)))

  -- at most as many pages become dirty as the group has updates
  count_most : length (first_groups dirty) ≤ length (first_groups s.dirty) + size_of s
  count_most =
      omega (
        arith,
        held-count (table_with s dirty) frames' entries holds,
        length-all (group_start s) home (oldest_group s staging) (dirty_of s frames),
        length-dirty frames 0 s.dirty,
        group-long,
      )

  -- keep-from before the commit
  abbrev keep : ℕ
  keep = smallest (group_start s) (first_groups s.dirty)

  -- no first group is older than it afterwards
  keep-least : keep ≤ smallest (s.next + 1) (first_groups dirty)
  keep-least =
      let own : keep ≤ group_start s = smallest-le (group_start s) (first_groups s.dirty) in
      let old : Each (λ p first. keep ≤ first) (dirty_of s frames) =
      each-oldest keep (group_start s) (dirty_of s frames) (omega (arith, keep_from-dirty (group_start s) frames 0 s.dirty)) in
      let new : Each (λ p first. keep ≤ first) entries =
      each_all (λ p first. keep ≤ first) (group_start s) home (oldest_group s staging) (dirty_of s frames) (changed (λ p. keep ≤ group_start s) (λ p h. own)) old in
      omega (arith, oldest-each keep (s.next + 1) entries (omega arith) new, held-keep (table_with s dirty) frames' entries holds (s.next + 1))

  below : (all_below s.pages (dirty_numbers dirty) ≡ true) × (all_below (s.next + 1) (first_groups dirty) ≡ true)
  below =
      held_below s.pages (s.next + 1) (table_with s dirty) frames' entries holds
      (each_all (Below s.pages (s.next + 1)) (group_start s) home (oldest_group s staging) (dirty_of s frames)
      (changed (λ p. Below s.pages (s.next + 1) p (group_start s)) (λ p h. (h, omega arith)))
      (each_below s.pages (s.next + 1) frames 0 s.dirty f.pages_below (below_more s.next (s.next + 1) (first_groups s.dirty) (omega arith) f.firsts_below)))

  -- a page that was dirty, and that the group does not change, is dirty
  named-still : (p : ℕ) → member p (dirty_numbers s.dirty) ≡ true → changes p (take (size_of s) s.staged) ≡ false → member p (dirty_numbers dirty) ≡ true
  named-still p m n = go (look_up p (dirty_of s frames)) refl
    where
      go : (found : Found) → look_up p (dirty_of s frames) ≡ found → member p (dirty_numbers dirty) ≡ true
      go absent q = absurd (never_both (member p (dirty_numbers s.dirty)) m (look-unnamed p frames 0 s.dirty q))
      go (at e) q =
          held-named (table_with s dirty) frames' entries holds p e
          (untouched (group_start s) home p (oldest_group s staging) (dirty_of s frames)
          (ap (of_page p) group-is ∙ unchanged staging p (take (size_of s) s.staged) n) ∙ q)

  names-still : (c : Cleaning) → names c (dirty_numbers s.dirty) ≡ true → names (cleaning_left (take (size_of s) s.staged) c) (dirty_numbers dirty) ≡ true
  unfolding cleaning_left
  names-still Idle h = refl
  names-still (First p) h = by_cases (changes p (take (size_of s) s.staged)) (λ t. rw t refl) (λ t. rw t (named-still p h t))
  names-still (Second p) h = by_cases (changes p (take (size_of s) s.staged)) (λ t. rw t refl) (λ t. rw t (named-still p h t))
  names-still (Third p) h = by_cases (changes p (take (size_of s) s.staged)) (λ t. rw t refl) (λ t. rw t (named-still p h t))

  pub sound-commit : Sound after
  sound-commit =
      let t : total (groups_of s) ≡ size_of s + total (groups_of after) = ap total groups-are in
      let b : block_count (groups_of s) ≡ size_of s + 1 + block_count (groups_of after) = ap block_count groups-are in
      let h : smallest s.next (half_starts s ++ first_groups s.dirty) ≡ keep = held-is s in
      let k : keep ≤ group_start s = smallest-le (group_start s) (first_groups s.dirty) in
      of_parts (record {
        sizes = (parts-of f).sizes;
        dirty = record {
          distinct_pages = holds.table_distinct;
          pages_below = below.0;
          frames_below = holds.within;
          firsts_below = below.1;
          cleaning = names-still s.cleaning f.cleaning;
        };
        waiting = record {
          distinct_areas = distinct-behind (take (size_of s) s.staged) (staged_of after) (rw waited at f.distinct_areas);
          areas_below = below-behind s.frames (take (size_of s) s.staged) (staged_of after) (rw waited at f.areas_below);
          places = legal-behind s.pages (take (size_of s) s.staged) (staged_of after) (rw waited at f.places);
        };
        groups = record {
          groups = (and_both (leb 1 (size_of s) && leb (size_of s) 16) (sizes_legal (groups_of after)) (rw groups-are at f.groups)).1;
          queued = omega (arith, f.queued, length-shifted s.groups 1 (omega (arith, f.queued)));
          stored = none-stored (groups_of after);
        };
        transaction = (parts-of f).transaction;
        ticket = omega (arith, f.ticket);
        staged = omega (arith, f.staged, t, length-shifted s.staged (size_of s) size_few);
        slot_sum = omega (arith, f.slot_sum, f.ticket, h, k, t, b, keep-least, count_most, stored_is);
        frame_sum = omega (arith, f.frame_sum, t, count_most);
        sequence_sum = omega (arith, f.sequence_sum, b, stored_is);
        mark = f.mark;
      })
