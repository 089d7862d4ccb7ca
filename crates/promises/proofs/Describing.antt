-- A described update in a free staging area: the promise of Describe is met.
-- Assumes nothing.
use mathlib.Core.Path.{◌≡◌, refl, sym, ap, ◌∙◌}
use mathlib.Core.Bool.{Bool, true, false, not, ◌&&◌, ◌||◌}
use Prim.Native.Nat.{ℕ, zero, suc, ◌+◌, ◌*◌, ◌≤◌, ◌<◌}
use mathlib.Core.List.{List, [], ◌∷◌, ◌++◌, map}
use native.Mathlib.Omega.{arith}
use native.Mathlib.Nat.{zero-add, suc-add}
use lib.ListN.{length, take, drop, set, length-set, length-take, length-map}
use lib.Seq.{take-set-le, take-suc-set, take-take}
use lib.Dec.{eqb, leb, ltb}
use borrow.Author.Tests.{leb-true, eqb-false, lt-ltb, ne_eqb}
use Rattle.area.proofs.Laws.{and_both, and2, either, drop-snoc, map_snoc, map-take}
use Rattle.std.specs.Prelude.{Ok}
use Rattle.promises.specs.declared.State.{State}
use Rattle.promises.specs.declared.Staged.{Staged}
use Rattle.promises.specs.Areas.{with_staged}
use Rattle.area.specs.Part.{part, splice}
use Rattle.promises.specs.Updates.{Update}
use Rattle.promises.specs.Contents.{groups_of, grouped, queue_of, list_of, waiting, total}
use Rattle.promises.specs.Sound.{member, distinct, all_below, all_legal, staged_of, areas_of, sound}
use Rattle.block.specs.Legal.{legal_place}
use Rattle.promises.specs.Sums.{open_ones}
use Rattle.promises.specs.Describe.{describe_refusal, described_state, Describes}
use Rattle.promises.specs.Answers.{done}
use Rattle.promises.proofs.Replies.{replied-accepted}
use Rattle.promises.proofs.Soundness.{Sound, sound-of, of-sound, parts-of, of_parts}
use Rattle.promises.proofs.Changes.{one-open, describe-passed}
use Rattle.area.proofs.Parts.{part_same, part-before, part-after}

-- ---- lists
-- n elements from t on, of the first t + n
take_none : {A : Type 0} (n : ℕ) → take {A = A} n [] ≡ []
take_none zero = refl
take_none (suc n) = refl

middle : {A : Type 0} (t n : ℕ) (l : List A) → take n (drop t l) ≡ drop t (take (t + n) l)
middle zero n l = ap (λ (i : ℕ). take i l) (sym (zero-add n))
middle (suc t) n [] = take_none n ∙ sym (ap (drop (suc t)) (take_none (suc t + n)))
middle (suc t) n (x ∷ l) = middle t n l ∙ ap (λ (i : ℕ). drop (suc t) (take i (x ∷ l))) (sym (suc-add t n))

-- groups look only at as many updates as they have
grouped-take : (ns : List ℕ) (us vs : List Update) → take (total ns) us ≡ take (total ns) vs → grouped ns us ≡ grouped ns vs
unfolding grouped
grouped-take [] us vs e = refl
grouped-take (n ∷ ns) us vs e =
    let t : take n us ≡ take n vs = sym (take-take n (n + total ns) us (omega arith)) ∙ ap (take n) e ∙ take-take n (n + total ns) vs (omega arith) in
    let d : take (total ns) (drop n us) ≡ take (total ns) (drop n vs) = middle n (total ns) us ∙ ap (drop n) e ∙ sym (middle n (total ns) vs) in
    rw (t, grouped-take ns (drop n us) (drop n vs) d) refl

-- ---- soundness
elem-snoc : (a : ℕ) (xs : List ℕ) (b : ℕ) → member a xs ≡ false → (a ≡ b → ⊥) → member a (xs ++ (b ∷ [])) ≡ false
elem-snoc a [] b h n = simp (ne_eqb a b n)
elem-snoc a (x ∷ xs) b h n = go (eqb a x) h (λ k. elem-snoc a xs b k n)
  where
    go : (c : Bool) → (c || member a xs) ≡ false → (member a xs ≡ false → member a (xs ++ (b ∷ [])) ≡ false) → (c || member a (xs ++ (b ∷ []))) ≡ false
    go true h f = h
    go false h f = f h

elem-head : (a x : ℕ) (xs : List ℕ) → member a (x ∷ xs) ≡ false → (x ≡ a → ⊥) × (member a xs ≡ false)
elem-head a x xs h = go (eqb a x) refl h
  where
    go : (c : Bool) → eqb a x ≡ c → (c || member a xs) ≡ false → (x ≡ a → ⊥) × (member a xs ≡ false)
    go true e h = let z : ◌≡◌ {A = ℕ} 0 1 = cc in absurd (omega arith)
    go false e h = ((λ q. eqb-false a x e (sym q)), h)

distinct_snoc : (xs : List ℕ) (b : ℕ) → distinct xs ≡ true → member b xs ≡ false → distinct (xs ++ (b ∷ [])) ≡ true
distinct_snoc [] b h e = refl
distinct_snoc (x ∷ xs) b h e =
    let a = and_both (not (member x xs)) (distinct xs) h in
    let c = elem-head b x xs e in
    let k : member x (xs ++ (b ∷ [])) ≡ false = elem-snoc x xs b (no (member x xs) a.0) c.0 in
    let m : not (member x (xs ++ (b ∷ []))) ≡ true = rw k in
    and2 m (distinct_snoc xs b a.1 c.1)
  where
    no : (t : Bool) → not t ≡ true → t ≡ false
    no true e = let z : ◌≡◌ {A = ℕ} 0 1 = cc in absurd (omega arith)
    no false e = refl

below-snoc : (n : ℕ) (xs : List ℕ) (b : ℕ) → all_below n xs ≡ true → b < n → all_below n (xs ++ (b ∷ [])) ≡ true
below-snoc n [] b h l = and2 (lt-ltb b n l) refl
below-snoc n (x ∷ xs) b h l = let a = and_both (ltb x n) (all_below n xs) h in and2 a.0 (below-snoc n xs b a.1 l)

legal-snoc : (P : ℕ) (us : List Staged) (u : Staged) → all_legal P us ≡ true → legal_place P u.page u.offset u.length ≡ true → all_legal P (us ++ (u ∷ [])) ≡ true
legal-snoc P [] u h l = and2 l refl
legal-snoc P (v ∷ us) u h l = let a = and_both (legal_place P v.page v.offset v.length) (all_legal P us) h in and2 a.0 (legal-snoc P us u a.1 l)

areas-snoc : (us : List Staged) (u : Staged) → areas_of (us ++ (u ∷ [])) ≡ areas_of us ++ (u.area ∷ [])
areas-snoc [] u = refl
areas-snoc (v ∷ us) u = ap (λ (r : List ℕ). v.area ∷ r) (areas-snoc us u)

module _ (s : State) (f : Sound s) (u : Staged) (room : total (groups_of s) + s.described < length s.staged) (free : member u.area (areas_of (staged_of s)) ≡ false) (below : u.area < s.frames)
    (legal : legal_place s.pages u.page u.offset u.length ≡ true) (more : s.described < s.reserved) where
  abbrev k : ℕ
  k = total (groups_of s) + s.described

  staged-added : staged_of (described_state s u) ≡ staged_of s ++ (u ∷ [])
  staged-added =
      let e : total (groups_of s) + (s.described + 1) ≡ suc k = omega arith in
      ap (λ (n : ℕ). take n (set s.staged k u)) e ∙ take-suc-set s.staged k u room

  areas-added : areas_of (staged_of (described_state s u)) ≡ areas_of (staged_of s) ++ (u.area ∷ [])
  areas-added = ap areas_of staged-added ∙ areas-snoc (staged_of s) u

  pub sound-added : Sound (described_state s u)
  sound-added =
      of_parts (record {
        sizes = (parts-of f).sizes;
        dirty = (parts-of f).dirty;
        waiting = record {
          distinct_areas = rw areas-added (distinct_snoc (areas_of (staged_of s)) u.area f.distinct_areas free);
          areas_below = rw areas-added (below-snoc s.frames (areas_of (staged_of s)) u.area f.areas_below below);
          places = rw staged-added (legal-snoc s.pages (staged_of s) u f.places legal);
        };
        groups = (parts-of f).groups;
        transaction = record {
          reserved = f.reserved;
          described = omega arith;
        };
        ticket = f.ticket;
        staged = omega (arith, length-set s.staged k u);
        slot_sum = f.slot_sum;
        frame_sum = f.frame_sum;
        sequence_sum = f.sequence_sum;
        mark = f.mark;
      })

  module _ (staging bytes : List ℕ) (long : length bytes ≡ u.length) (lent : length staging ≡ s.frames * 472) where
    abbrev after : List ℕ
    after = splice staging (u.area * 472) u.length bytes

    small : u.length ≤ 472
    small =
        let a = and_both (ltb u.page s.pages && leb 1 u.length && leb u.length 472) (leb (u.offset + u.length) 1024) legal in
        leb-true _ _ (and_both (ltb u.page s.pages && leb 1 u.length) (leb u.length 472) a.0).1

    fits : u.area * 472 + u.length ≤ length staging
    fits = omega (arith, small)

    -- the bytes of the others stay
    others : (xs : List Staged) → member u.area (areas_of xs) ≡ false → all_legal s.pages xs ≡ true → map (waiting after) xs ≡ map (waiting staging) xs
    others [] e l = refl
    others (x ∷ xs) e l =
        let c = elem-head u.area x.area (areas_of xs) e in
        let a = and_both (legal_place s.pages x.page x.offset x.length) (all_legal s.pages xs) l in
        let g = and_both (ltb x.page s.pages && leb 1 x.length && leb x.length 472) (leb (x.offset + x.length) 1024) a.0 in
        let h : x.length ≤ 472 = leb-true _ _ (and_both (ltb x.page s.pages && leb 1 x.length) (leb x.length 472) g.0).1 in
        let i : u.length ≤ 472 = small in
        let n : x.area ≡ u.area → ⊥ = c.0 in
        let p : part after (x.area * 472) x.length ≡ part staging (x.area * 472) x.length = either x.area u.area
        (λ q. part-before staging (u.area * 472) u.length bytes fits long (x.area * 472) x.length (omega arith))
        (λ q. part-after staging (u.area * 472) u.length bytes fits long (x.area * 472) x.length (omega arith)) in
        rw (p, others xs c.1 a.1) refl

    waiting-same : take k (map (waiting after) (set s.staged k u)) ≡ take k (map (waiting staging) s.staged)
    waiting-same = map-take (waiting after) k (set s.staged k u) ∙ ap (map (waiting after)) (take-set-le k s.staged k u (omega arith)) ∙ others (staged_of s) free f.places ∙ sym (map-take (waiting staging) k s.staged)

    queue-same : queue_of (described_state s u) after ≡ queue_of s staging
    queue-same = grouped-take (groups_of s) _ _
        (sym (take-take (total (groups_of s)) k (map (waiting after) (set s.staged k u)) (omega arith)) ∙ ap (take (total (groups_of s))) waiting-same ∙ take-take (total (groups_of s)) k (map (waiting staging) s.staged) (omega arith))

    list-more : list_of (described_state s u) after ≡ list_of s staging ++ (record { page = u.page; offset = u.offset; bytes = bytes } ∷ [])
    list-more =
        let t : ℕ = total (groups_of s) in
        let l1 : List Update = map (waiting after) (set s.staged k u) in
        let e : t + (s.described + 1) ≡ suc k = omega arith in
        let w : waiting after u ≡ record { page = u.page; offset = u.offset; bytes = bytes } = ap (λ (x : List ℕ). record { page = u.page; offset = u.offset; bytes = x }) (part_same staging (u.area * 472) u.length bytes fits long) in
        let a : take (suc k) l1 ≡ map (waiting after) (staged_of s) ++ (waiting after u ∷ []) =
        map-take (waiting after) (suc k) (set s.staged k u) ∙ ap (map (waiting after)) (take-suc-set s.staged k u room) ∙ map_snoc (waiting after) (staged_of s) u in
        let b : map (waiting after) (staged_of s) ≡ take k (map (waiting staging) s.staged) = others (staged_of s) free f.places ∙ sym (map-take (waiting staging) k s.staged) in
        let n : t ≤ length (take k (map (waiting staging) s.staged)) = omega (arith, length-take k (map (waiting staging) s.staged), length-map s.staged (waiting staging)) in
        middle t (s.described + 1) l1
        ∙ ap (λ (i : ℕ). drop t (take i l1)) e
        ∙ ap (drop t) a
        ∙ ap (λ (x : List Update). drop t (x ++ (waiting after u ∷ []))) b
        ∙ drop-snoc t (take k (map (waiting staging) s.staged)) (waiting after u) n
        ∙ ap (λ (x : List Update). x ++ (waiting after u ∷ [])) (sym (middle t s.described (map (waiting staging) s.staged)))
        ∙ ap (λ (x : Update). list_of s staging ++ (x ∷ [])) w

-- Describe is met by any free area
pub describe-met : (s : State) (page offset area : ℕ) (bytes staging : List ℕ) → length s.staged ≡ 32
    → describe_refusal s (length staging) page offset (length bytes) ≡ 0 → area < s.frames → member area (areas_of (staged_of s)) ≡ false
    → Describes s (record { page = page; offset = offset; bytes = bytes }) staging
    (record { state = described_state s (record { page = page; offset = offset; length = length bytes; area = area }); answer = Ok tt })
    (with_staged staging area (length bytes) bytes)
describe-met s page offset area bytes staging l32 e below free =
    let u : Staged = record { page = page; offset = offset; length = length bytes; area = area } in
    let r = describe-passed s (length staging) page offset (length bytes) e in
    let f : Sound s = sound-of s r.0 in
    let nz : s.reserved ≡ 0 → ⊥ = r.2 in
    let o : total (open_ones s) ≡ s.reserved = ap total (one-open s.reserved nz) ∙ omega arith in
    let more : s.described < s.reserved = r.4 in
    let room : total (groups_of s) + s.described < length s.staged = omega (arith, f.frame_sum, f.frames, o) in
    let lent : length staging ≡ s.frames * 472 = r.1 in
    let so : sound (described_state s u) ≡ true = of-sound (described_state s u) (sound-added s f u room free below r.3 more) in
    record {
      answer_is = sym (replied-accepted (describe_refusal s (length staging) page offset (length bytes)) done e);
      refused = λ x. absurd (x e);
      accepted = λ x. record {
        area = area;
        area_below = below;
        area_free = free;
        staging_is = refl;
        state_is = refl;
        leaves = record {
          stays_sound = so;
          contents_are = rw (queue-same s f u room free below r.3 more staging bytes refl lent, list-more s f u room free below r.3 more staging bytes refl lent) refl;
          dirty_are = λ frames p. refl;
        };
      };
    }
