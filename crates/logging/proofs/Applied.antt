-- The oldest group applied to the frames, update by update, and what its commit leaves.
-- Assumes nothing.
use mathlib.Core.Path.{◌≡◌, refl, sym, ap, ◌∙◌, subst}
use mathlib.Core.Bool.{Bool, true, false, not, ◌&&◌}
use mathlib.Core.List.{List, ◌∷◌, map}
use Prim.Native.Nat.{ℕ, ◌+◌, ◌-◌, ◌*◌, ◌≤◌, ◌<◌}
use native.Mathlib.Omega.{arith}
use lib.Dec.{ltb}
use lib.ListN.{length, take, drop, get_or, length-take, length-map, get_or-map}
use lib.Seq.{get_or-take, length-take-le}
use borrow.Author.Tests.{ltb-true}
use Rattle.area.proofs.Laws.{and_both, never_both}
use Rattle.area.proofs.Parts.{from-to}
use Rattle.promises.specs.declared.State.{State}
use Rattle.promises.specs.declared.Staged.{Staged}
use Rattle.promises.specs.declared.Dirty.{Dirty}
use Rattle.promises.specs.Areas.{page_at}
use Rattle.promises.specs.Blocks.{stored}
use Rattle.promises.specs.Updates.{Update}
use Rattle.promises.specs.Contents.{waiting, dirty_of}
use Rattle.promises.specs.Sums.{group_start}
use Rattle.promises.proofs.History.Whole.{length-all}
use Rattle.table.specs.declared.Table.{Table}
use Rattle.table.specs.Table.{Applies, AppliesAll}
use Rattle.table.specs.Seats.{entry_in, cleared, dirty_in, seated}
use Rattle.table.proofs.Scans.{rest, rest-cons, rest_end}
use Rattle.table.proofs.Applying.{applies-none, applies-more}
use Rattle.logging.specs.Logging.{no_staged, size_of, group_of, oldest_group, commit_at, Commits}
use Rattle.logging.proofs.Packing.{applied-fills, applied-holds}

-- the update that the code hands over is the staged one
pub staged-applied : (t r : Table) (home frames frames' staging : List ℕ) (x : Staged) (group at long page offset : ℕ) → at ≡ x.area * 472 → long ≡ x.length
    → page ≡ x.page → offset ≡ x.offset
    → Applies t home frames (record { page = page; offset = offset; bytes = take (at + long - at) (drop at staging) }) group r frames'
    → Applies t home frames (waiting staging x) group r frames'
staged-applied t r home frames frames' staging x group at long page offset a l p o =
    subst (λ (u : Update). Applies t home frames u group r frames')
    (ap (λ (bytes : List ℕ). record { page = page; offset = offset; bytes = bytes }) (from-to staging at long) ∙ rw (a, l, p, o))

-- a group goes on while every page found a frame and an update is left
pub goes_on_lem : (fits : Bool) (left : ℕ) → (fits && ltb 0 left) ≡ true → (fits ≡ true) × (0 < left)
goes_on_lem fits left e = let b = and_both fits (ltb 0 left) e in (b.0, ltb-true 0 left b.1)

module _ (staged : List Staged) (size : ℕ) (home staging : List ℕ) (group : ℕ) where
  -- the updates of the group from index i on
  abbrev group_from : ℕ → List Update
  group_from i = rest (map (waiting staging) staged) size i

  -- what is left to apply: the group from index i on, to this table with these frames
  abbrev pub LeftTo : Table → List ℕ → Table → List ℕ → ℕ → Type 0
  LeftTo table frames t frames₁ i =
      (r : Table) (frames' : List ℕ) → AppliesAll t home frames₁ (group_from i) group r frames' → AppliesAll table home frames (group_of staged size staging) group r frames'

  pub left-start : (table : Table) (frames : List ℕ) (i : ℕ) → i ≡ 0 → LeftTo table frames table frames i
  left-start table frames i z r frames' a = subst (λ (n : ℕ). AppliesAll table home frames (group_from n) group r frames') z a

  module _ (long : size ≤ length staged) (table : Table) (frames : List ℕ) (t : Table) (frames₁ : List ℕ) (i : ℕ) (rests : LeftTo table frames t frames₁ i) where
    whole : length (take size staged) ≡ size
    whole = length-take-le size staged long

    -- the next is applied
    pub left-less : (t' : Table) (frames₂ : List ℕ) → i < length (take size staged)
        → Applies t home frames₁ (waiting staging (get_or (take size staged) i no_staged)) group t' frames₂ → LeftTo table frames t' frames₂ (i + 1)
    left-less t' frames₂ h a r frames' b =
        let u : Update = waiting staging (get_or (take size staged) i no_staged) in
        rests r frames'
        (subst (λ (us : List Update). AppliesAll t home frames₁ us group r frames')
        (sym (rest-cons (map (waiting staging) staged) size i (waiting staging no_staged) (omega (arith, whole)) (omega (arith, length-map staged (waiting staging)))
        ∙ ap (λ (x : Update). x ∷ group_from (i + 1))
        (get_or-map (waiting staging) staged i no_staged ∙ ap (waiting staging) (sym (get_or-take size staged i no_staged (omega (arith, whole)))))))
        (applies-more t t' r home frames₁ frames₂ frames' u (group_from (i + 1)) group a b))

    -- all are applied
    pub left-ends : length (take size staged) ≤ i → AppliesAll table home frames (group_of staged size staging) group t frames₁
    left-ends h =
        rests t frames₁
        (subst (λ (us : List Update). AppliesAll t home frames₁ us group t frames₁)
        (sym (rest_end (map (waiting staging) staged) size i (omega (arith, whole)) (omega (arith, length-map staged (waiting staging)))))
        (applies-none t home frames₁ group))

    -- a page found no frame: nothing happens any more
    pub left-full : t.full ≡ true → AppliesAll table home frames (group_of staged size staging) group t frames₁
    left-full full =
        rests t frames₁
        (record {
          count_is = refl;
          frames_long = refl;
          kept = λ f n. refl;
          stays = λ q. (refl, refl);
          fits = λ es q h l. absurd (never_both _ full q);
          fills = λ es q h l. full;
        })

-- what the store, the seats and the group's application leave is what the commit leaves
pub commits-by : (s : State) (log home frames staging log' frames' packed seats : List ℕ) (dirty : List Dirty) (fits : Bool) (keep size : ℕ) → size ≡ size_of s
    → s.frames ≤ 32 → length packed ≡ s.frames → map entry_in packed ≡ map cleared (take s.frames s.dirty) → log' ≡ stored s.slots log s.next (commit_at s keep)
    → AppliesAll (seated false packed) home frames (group_of s.staged size staging) (group_start s) (seated (not fits) seats) frames'
    → dirty ≡ dirty_in seats → Commits s log home frames staging keep dirty log' frames'
commits-by s log home frames staging log' frames' packed seats dirty fits keep size n most long e l b d =
    let group : List Update = oldest_group s staging in
    let a : AppliesAll (seated false packed) home frames group (group_start s) (seated (not fits) seats) frames' =
    subst (λ (m : ℕ). AppliesAll (seated false packed) home frames (group_of s.staged m staging) (group_start s) (seated (not fits) seats) frames') n b in
    record {
      log_is = l;
      frames_long = a.frames_long;
      fills = applied-fills s home frames frames' packed seats dirty fits group (group_start s) most long e a d;
      holds = λ h few.
          applied-holds s home frames frames' packed seats dirty fits group (group_start s) most long e a d h
          (omega (
            arith,
            few,
            length-all (group_start s) (page_at home) group (dirty_of s frames),
            length-take (size_of s) (map (waiting staging) s.staged),
          ));
    }
