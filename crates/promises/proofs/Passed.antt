-- What is known of a fed block that the feed's tests let pass.
-- Assumes nothing.
use mathlib.Core.Path.{◌≡◌, refl, sym, ap, ◌∙◌, subst}
use mathlib.Core.Logic.{◌⊎◌, inl, inr}
use mathlib.Core.Bool.{Bool, true, false, cond, ◌&&◌, ◌||◌}
use Prim.Native.Nat.{ℕ, ◌+◌, ◌≤◌, ◌<◌}
use mathlib.Core.List.{List}
use native.Mathlib.Omega.{arith}
use lib.ListN.{length}
use lib.Dec.{eqb, ltb}
use borrow.Author.Tests.{eqb-true, ltb-true, ltb-false}
use Rattle.promises.specs.declared.State.{State}
use Rattle.promises.specs.declared.Cleaning.{Cleaning}
use Rattle.promises.specs.declared.Cleaning.TheVariants.{Idle, First, Second, Third}
use Rattle.promises.specs.Areas.{page_at}
use Rattle.promises.specs.Updates.{Update}
use Rattle.promises.specs.Blocks.{Kind, update, commit, clean, LogBlock, Slot, unused, damaged, valid, slots_of}
use Rattle.promises.specs.DirtyPages.{DirtyPage, Found, absent, at, look_up}
use Rattle.promises.specs.Contents.{dirty_of}
use Rattle.promises.specs.Walk.{Walk, walk_block, in_order, framed}
use Rattle.promises.specs.Sound.{copy_sound}
use Rattle.promises.specs.LogStep.{areas_fit}
use Rattle.promises.specs.Feed.{Feeding, stops, had, first, second, takes, standing, lacking_at, keep_right, span_fits, clean_stage, clean_found, store_of, turned, by_sequence, fed_slot, feeding}
use Rattle.area.proofs.Laws.{and_both}

-- the feed stores something
abbrev pub Acts : Feeding → Type 0
Acts (stops refusal place) = ⊥
Acts had = ⊥
Acts (first page entry) = Unit {0}
Acts (second page entry) = Unit {0}
Acts (takes block) = Unit {0}

pick-stops : (c : Bool) (a : Feeding) (r p : ℕ) (y : Feeding) → Acts y → cond c a (stops r p) ≡ y → (c ≡ true) × (a ≡ y)
pick-stops true a r p y h e = (refl, e)
pick-stops false a r p y h e = absurd (subst Acts (sym e) h)

past-stops : (c : Bool) (a : Feeding) (r p : ℕ) (y : Feeding) → Acts y → cond c (stops r p) a ≡ y → (c ≡ false) × (a ≡ y)
past-stops true a r p y h e = absurd (subst Acts (sym e) h)
past-stops false a r p y h e = (refl, e)

past-had : (c : Bool) (a : Feeding) (y : Feeding) → Acts y → cond c had a ≡ y → (c ≡ false) × (a ≡ y)
past-had true a y h e = absurd (subst Acts (sym e) h)
past-had false a y h e = (refl, e)

pub record Passed (s : State) (log home frames bytes : List ℕ) (x : LogBlock) (y : Feeding) : Type 0 where
  pub is_sound : copy_sound s ≡ true
  pub fits : areas_fit s (length log) (length home) (length frames) ≡ true
  pub long : length bytes ≡ 512
  pub slot : fed_slot s.slots s.pages bytes ≡ valid s.next x
  pub lack : lacking_at s (slots_of s.slots s.pages log) x.kind ≡ 0
  pub order : in_order x.kind x.ticket (standing s (slots_of s.slots s.pages log) frames) ≡ true
  pub keep : keep_right (page_at home) s.next x (standing s (slots_of s.slots s.pages log) frames) ≡ true
  pub span : span_fits s.slots (s.next + 1) (walk_block (page_at home) s.next x.kind (standing s (slots_of s.slots s.pages log) frames)) ≡ true
  pub few : framed s.frames (page_at home) x.kind (standing s (slots_of s.slots s.pages log) frames) ≡ true
  pub store : store_of s frames x.kind x ≡ y

pub record Block (s : State) (log home frames bytes : List ℕ) (y : Feeding) : Type 0 where
  pub block : LogBlock
  pub passed : Passed s log home frames bytes block y

pub passed : (s : State) (log home frames bytes : List ℕ) (y : Feeding) → Acts y → feeding s log home frames bytes ≡ y → Block s log home frames bytes y
unfolding feeding turned
passed s log home frames bytes y h e =
    let c2 = pick-stops (copy_sound s) _ 2 0 y h e in
    let c1 = pick-stops (areas_fit s (length log) (length home) (length frames) && eqb (length bytes) 512) _ 1 0 y h c2.1 in
    let f = and_both (areas_fit s (length log) (length home) (length frames)) (eqb (length bytes) 512) c1.0 in
    go c2.0 f.0 (eqb-true _ _ f.1) (fed_slot s.slots s.pages bytes) refl c1.1
  where
    go : copy_sound s ≡ true → areas_fit s (length log) (length home) (length frames) ≡ true → length bytes ≡ 512 → (x : Slot) → fed_slot s.slots s.pages bytes ≡ x
        → by_sequence s (page_at home) frames (slots_of s.slots s.pages log) x ≡ y → Block s log home frames bytes y
    go so ft ln unused sl q = absurd (subst Acts (sym q) h)
    go so ft ln damaged sl q = absurd (subst Acts (sym q) h)
    go so ft ln (valid sequence x) sl q =
        let v : Walk = standing s (slots_of s.slots s.pages log) frames in
        let c14 = past-stops (ltb s.next sequence) _ 14 0 y h q in
        let ch = past-had (ltb sequence s.next) _ y h c14.1 in
        let l1 : sequence ≤ s.next = ltb-false _ _ c14.0 in
        let l2 : s.next ≤ sequence = ltb-false _ _ ch.0 in
        let es : sequence ≡ s.next = omega arith in
        let c7 = pick-stops (eqb (lacking_at s (slots_of s.slots s.pages log) x.kind) 0) _ 7 (lacking_at s (slots_of s.slots s.pages log) x.kind) y h ch.1 in
        let c8 = pick-stops (in_order x.kind x.ticket v && keep_right (page_at home) s.next x v && span_fits s.slots (s.next + 1) (walk_block (page_at home) s.next x.kind v)) _ 8 s.next y h c7.1 in
        let a2 = and_both _ (span_fits s.slots (s.next + 1) (walk_block (page_at home) s.next x.kind v)) c8.0 in
        let a1 = and_both (in_order x.kind x.ticket v) (keep_right (page_at home) s.next x v) a2.0 in
        let c9 = pick-stops (framed s.frames (page_at home) x.kind v) _ 9 s.next y h c8.1 in
        record {
          block = x;
          passed = record {
            is_sound = so;
            fits = ft;
            long = ln;
            slot = sl ∙ ap (λ (n : ℕ). valid n x) es;
            lack = eqb-true _ _ c7.0;
            order = a1.0;
            keep = a1.1;
            span = a2.1;
            few = c9.0;
            store = c9.1;
          };
        }

-- ---- which store it was
first-takes : {X : Type 0} (p : ℕ) (e : DirtyPage) (x : LogBlock) → first p e ≡ takes x → X
first-takes p e x q = let z : ◌≡◌ {A = ℕ} 0 1 = cc in absurd (omega arith)

second-takes : {X : Type 0} (p : ℕ) (e : DirtyPage) (x : LogBlock) → second p e ≡ takes x → X
second-takes p e x q = let z : ◌≡◌ {A = ℕ} 0 1 = cc in absurd (omega arith)

takes_first : {X : Type 0} (p : ℕ) (e : DirtyPage) (x : LogBlock) → takes x ≡ first p e → X
takes_first p e x q = let z : ◌≡◌ {A = ℕ} 0 1 = cc in absurd (omega arith)

takes-second : {X : Type 0} (p : ℕ) (e : DirtyPage) (x : LogBlock) → takes x ≡ second p e → X
takes-second p e x q = let z : ◌≡◌ {A = ℕ} 0 1 = cc in absurd (omega arith)

second-first : {X : Type 0} (p q : ℕ) (e f : DirtyPage) → second p e ≡ first q f → X
second-first p q e f h = let z : ◌≡◌ {A = ℕ} 0 1 = cc in absurd (omega arith)

first-second : {X : Type 0} (p q : ℕ) (e f : DirtyPage) → first p e ≡ second q f → X
first-second p q e f h = let z : ◌≡◌ {A = ℕ} 0 1 = cc in absurd (omega arith)

-- the first half of a dirty page
pub record Halved (s : State) (frames : List ℕ) (k : Kind) (p : ℕ) (e : DirtyPage) : Type 0 where
  pub cleans : k ≡ clean p
  pub found : look_up p (dirty_of s frames) ≡ at e

pub first_of : (s : State) (frames : List ℕ) (k : Kind) (x : LogBlock) (p : ℕ) (e : DirtyPage) → store_of s frames k x ≡ first p e → Halved s frames k p e
first_of s frames (update i u) x p e q = takes_first p e x q
first_of s frames (commit n) x p e q = takes_first p e x q
first_of s frames (clean c) x p e q = go (look_up c (dirty_of s frames)) refl q
  where
    same : (f : DirtyPage) → look_up c (dirty_of s frames) ≡ at f → first c f ≡ first p e → Halved s frames (clean c) p e
    same f l h = let ep : c ≡ p = cc in let ee : f ≡ e = cc in record { cleans = ap clean ep; found = subst (λ (i : ℕ). look_up i (dirty_of s frames) ≡ at e) ep (l ∙ ap at ee) }

    stage : (f : DirtyPage) → look_up c (dirty_of s frames) ≡ at f → (cl : Cleaning) → clean_stage cl c f x ≡ first p e → Halved s frames (clean c) p e
    stage f l Idle h = same f l h
    stage f l (First n) h = same f l h
    stage f l (Second n) h = by (eqb n c) h
      where
        by : (b : Bool) → cond b (second c f) (first c f) ≡ first p e → Halved s frames (clean c) p e
        by true h = second-first c p f e h
        by false h = same f l h
    stage f l (Third n) h = by (eqb n c) h
      where
        by : (b : Bool) → cond b (takes x) (first c f) ≡ first p e → Halved s frames (clean c) p e
        by true h = takes_first p e x h
        by false h = same f l h

    go : (f : Found) → look_up c (dirty_of s frames) ≡ f → clean_found s.cleaning c f x ≡ first p e → Halved s frames (clean c) p e
    go absent l h = takes_first p e x h
    go (at f) l h = stage f l s.cleaning h

-- the second half: the first is stored
pub second-of : (s : State) (frames : List ℕ) (k : Kind) (x : LogBlock) (p : ℕ) (e : DirtyPage) → store_of s frames k x ≡ second p e → Halved s frames k p e × (s.cleaning ≡ Second p)
second-of s frames (update i u) x p e q = takes-second p e x q
second-of s frames (commit n) x p e q = takes-second p e x q
second-of s frames (clean c) x p e q = go (look_up c (dirty_of s frames)) refl q
  where
    stage : (f : DirtyPage) → look_up c (dirty_of s frames) ≡ at f → (cl : Cleaning) → s.cleaning ≡ cl → clean_stage cl c f x ≡ second p e → Halved s frames (clean c) p e × (s.cleaning ≡ Second p)
    stage f l Idle ec h = first-second c p f e h
    stage f l (First n) ec h = first-second c p f e h
    stage f l (Second n) ec h = by (eqb n c) refl h
      where
        by : (b : Bool) → eqb n c ≡ b → cond b (second c f) (first c f) ≡ second p e → Halved s frames (clean c) p e × (s.cleaning ≡ Second p)
        by true en h =
            let ep : c ≡ p = cc in
            let ee : f ≡ e = cc in
            (record { cleans = ap clean ep; found = subst (λ (i : ℕ). look_up i (dirty_of s frames) ≡ at e) ep (l ∙ ap at ee) }, ec ∙ ap Second (eqb-true _ _ en ∙ ep))
        by false en h = first-second c p f e h
    stage f l (Third n) ec h = by (eqb n c) h
      where
        by : (b : Bool) → cond b (takes x) (first c f) ≡ second p e → Halved s frames (clean c) p e × (s.cleaning ≡ Second p)
        by true h = takes-second p e x h
        by false h = first-second c p f e h

    go : (f : Found) → look_up c (dirty_of s frames) ≡ f → clean_found s.cleaning c f x ≡ second p e → Halved s frames (clean c) p e × (s.cleaning ≡ Second p)
    go absent l h = takes-second p e x h
    go (at f) l h = stage f l s.cleaning refl h

-- a block is taken: a clean's page is not dirty, or both its halves are stored
abbrev pub Ready : State → List ℕ → Kind → Type 0
Ready s frames (update i u) = Unit {0}
Ready s frames (commit n) = Unit {0}
Ready s frames (clean q) = (look_up q (dirty_of s frames) ≡ absent) ⊎ (s.cleaning ≡ Third q)

takes_same : (x y : LogBlock) → takes x ≡ takes y → x ≡ y
takes_same x y e = cc

pub takes_of : (s : State) (frames : List ℕ) (k : Kind) (x y : LogBlock) → store_of s frames k x ≡ takes y → (x ≡ y) × Ready s frames k
takes_of s frames (update i u) x y q = (takes_same x y q, tt)
takes_of s frames (commit n) x y q = (takes_same x y q, tt)
takes_of s frames (clean c) x y q = go (look_up c (dirty_of s frames)) refl q
  where
    stage : (f : DirtyPage) (cl : Cleaning) → s.cleaning ≡ cl → clean_stage cl c f x ≡ takes y → (x ≡ y) × Ready s frames (clean c)
    stage f Idle ec h = first-takes c f y h
    stage f (First n) ec h = first-takes c f y h
    stage f (Second n) ec h = by (eqb n c) h
      where
        by : (b : Bool) → cond b (second c f) (first c f) ≡ takes y → (x ≡ y) × Ready s frames (clean c)
        by true h = second-takes c f y h
        by false h = first-takes c f y h
    stage f (Third n) ec h = by (eqb n c) refl h
      where
        by : (b : Bool) → eqb n c ≡ b → cond b (takes x) (first c f) ≡ takes y → (x ≡ y) × Ready s frames (clean c)
        by true en h = (takes_same x y h, inr (ec ∙ ap Third (eqb-true _ _ en)))
        by false en h = first-takes c f y h

    go : (f : Found) → look_up c (dirty_of s frames) ≡ f → clean_found s.cleaning c f x ≡ takes y → (x ≡ y) × Ready s frames (clean c)
    go absent l h = (takes_same x y h, inl l)
    go (at f) l h = stage f s.cleaning refl h

-- ---- what the order says
or_cases : (a b : Bool) → (a || b) ≡ true → (a ≡ true) ⊎ (b ≡ true)
or_cases true b e = inl refl
or_cases false b e = inr e

pub update-order : (i : ℕ) (u : Update) (t : ℕ) (v : Walk) → in_order (update i u) t v ≡ true → ((i ≡ 1) ⊎ ((0 < length v.group) × (i ≡ length v.group + 1))) × (t ≡ v.ticket)
unfolding in_order
update-order i u t v e =
    let a = and_both _ (eqb t v.ticket) e in
    (go (or_cases (eqb i 1) _ a.0), eqb-true _ _ a.1)
  where
    go : (eqb i 1 ≡ true) ⊎ ((ltb 0 (length v.group) && eqb i (length v.group + 1)) ≡ true) → (i ≡ 1) ⊎ ((0 < length v.group) × (i ≡ length v.group + 1))
    go (inl h) = inl (eqb-true _ _ h)
    go (inr h) = let b = and_both (ltb 0 (length v.group)) _ h in inr (ltb-true _ _ b.0, eqb-true _ _ b.1)

pub commit-order : (n t : ℕ) (v : Walk) → in_order (commit n) t v ≡ true → (0 < length v.group) × (n ≡ length v.group) × (t ≡ v.ticket + 1)
unfolding in_order
commit-order n t v e =
    let a = and_both _ (eqb t (v.ticket + 1)) e in
    let b = and_both (ltb 0 (length v.group)) (eqb n (length v.group)) a.0 in
    (ltb-true _ _ b.0, eqb-true _ _ b.1, eqb-true _ _ a.1)

pub clean-order : (q t : ℕ) (v : Walk) → in_order (clean q) t v ≡ true → t ≡ v.ticket
unfolding in_order
clean-order q t v e = eqb-true _ _ e
