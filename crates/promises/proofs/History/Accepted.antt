-- Open's walk meets no refusal 8 or 9 on a history that the machine wrote.
use mathlib.Core.Path.{◌≡◌, refl, sym, ap, ◌∙◌, subst₂}
use mathlib.Core.Logic.{◌⊎◌, inl, inr}
use Prim.Native.Nat.{ℕ, suc, ◌+◌, ◌≤◌, ◌<◌}
use native.Mathlib.Omega.{arith}
use native.Mathlib.Nat.{zero-add, add-zero}
use mathlib.Core.Bool.{Bool, true, false, cond, ◌&&◌, ◌||◌}
use mathlib.Core.List.{List, [], ◌∷◌, ◌++◌}
use lib.ListN.{length}
use lib.Dec.{eqb, ltb}
use borrow.Author.Tests.{eq-eqb, ne_eqb, lt-ltb, le-leb}
use Rattle.promises.specs.Updates.{Update}
use Rattle.promises.proofs.History.Views.{Page, tidy, View, no_view, view_block, view_from, Begins, first, cleans}
use Rattle.promises.specs.Blocks.{Kind, update, commit, clean, LogBlock}
use Rattle.promises.specs.DirtyPages.{DirtyPage, look_up, apply, apply_all, without}
use Rattle.promises.specs.Walk.{Walk, walk_block}
use Rattle.promises.proofs.History.Stands.{block_stands, all_stand}
use Rattle.promises.proofs.History.Since.{Same, Sim, sim-step, sim-begin, Below}
use Rattle.promises.proofs.History.Sees.{Sees, clear, by-eq, Tells, tells-step}
use Rattle.promises.proofs.History.WalkStart.{Distinct, distinct-all, distinct_without, is_commit, commits}
use Rattle.promises.proofs.History.Tally.{tally, tally-mono, tally-look_up, here, Pages, is_dirty, sees-here, same-le}

abbrev pub Ups : ℕ → List Update → Type 0
Ups P [] = Unit {0}
Ups P (u ∷ us) = (u.page < P) × Ups P us

pub updates-snoc : (P : ℕ) (us : List Update) (u : Update) → Ups P us → u.page < P → Ups P (us ++ (u ∷ []))
updates-snoc P [] u a h = (h, tt)
updates-snoc P (v ∷ us) u a h = (a.0, updates-snoc P us u a.1 h)

-- all pages' views at once
abbrev pub Views : Type 0
Views = ℕ → View

abbrev pub after : ℕ → Kind → Views → Views
after j k ts p = view_block p j k (ts p)

-- a block that the machine may write: m commits so far
abbrev pub Right : (F P j m : ℕ) → Views → Kind → ℕ → Type 0
Right F P j m ts (update i u) t = ((i ≡ 1) ⊎ ((0 < length (ts 0).group) × (i ≡ length (ts 0).group + 1))) × (u.page < P) × (t ≡ m)
Right F P j m ts (commit n) t = (0 < length (ts 0).group) × (n ≡ length (ts 0).group) × (t ≡ m + 1) × (tally P (λ p. is_dirty (after j (commit n) ts p).page) ≤ F)
Right F P j m ts (clean q) t = t ≡ m

abbrev pub Formed : (F P j m : ℕ) → Views → List LogBlock → Type 0
Formed F P j m ts [] = Unit {0}
Formed F P j m ts (b ∷ bs) = Right F P j m ts b.kind b.ticket × Formed F P (suc j) (m + is_commit b.kind) (after j b.kind ts) bs

-- the walk, beside the history's own views
pub record Beside (k P m : ℕ) (home : ℕ → List ℕ) (v : Walk) (ts ss : Views) : Type 0 where
  pub sim : (p : ℕ) → Sim k (ts p) (ss p)
  pub tells : (p : ℕ) → Tells home p v (ss p)
  pub ticket : v.ticket ≡ m
  pub updates_of : Ups P v.group
  pub pages : Pages P v.dirty_pages
  pub distinct : Distinct v.dirty_pages

pages-apply : (P s : ℕ) (home : ℕ → List ℕ) (u : Update) (es : List DirtyPage) → u.page < P → Pages P es → Pages P (apply s home u es)
unfolding apply
pages-apply P s home u [] h a = (h, tt)
pages-apply P s home u (e ∷ es) h a = by-eq u.page e.page
    (λ q. simp (eq-eqb _ _ q) (a.0, a.1))
    (λ n. simp (ne_eqb _ _ n) (a.0, pages-apply P s home u es h a.1))

pub pages-all : (P s : ℕ) (home : ℕ → List ℕ) (us : List Update) (es : List DirtyPage) → Ups P us → Pages P es → Pages P (apply_all s home us es)
unfolding apply_all
pages-all P s home [] es h a = a
pages-all P s home (u ∷ us) es h a = pages-all P s home us (apply s home u es) h.1 (pages-apply P s home u es h.0 a)

pub pages-without : (P q : ℕ) (es : List DirtyPage) → Pages P es → Pages P (without q es)
unfolding without
pages-without P q [] a = tt
pages-without P q (e ∷ es) a = by-eq q e.page
    (λ x. simp (eq-eqb _ _ x) (pages-without P q es a.1))
    (λ n. simp (ne_eqb _ _ n) (a.0, pages-without P q es a.1))

-- the walk's list is no longer than the history's count of dirty pages
few : (k P : ℕ) (home : ℕ → List ℕ) (es : List DirtyPage) (ts ss : ℕ → Page) → Distinct es → Pages P es
    → ((p : ℕ) → Sees (home p) (look_up p es) (ss p)) → ((p : ℕ) → Same k (ts p) (ss p)) → length es ≤ tally P (λ p. is_dirty (ts p))
few k P home es ts ss d b s m = omega (arith, tally-look_up P es d b, tally-mono P (λ p. here (look_up p es)) (λ p. is_dirty (ts p)) (λ p. omega (arith, sees-here (s p), same-le (m p))))

commit-sees : (home : ℕ → List ℕ) (p j n : ℕ) (v : Walk) (t : View) → Tells home p v t → Sees (home p) (look_up p (apply_all v.start home v.group v.dirty_pages)) (view_block p j (commit n) t).page
unfolding walk_block
commit-sees home p j n v t m = (tells-step home p j (commit n) v t m).sees

pub ok-block : (F k P j m : ℕ) (home : ℕ → List ℕ) (b : Kind) (t : ℕ) (v : Walk) (ts ss : Views) → Beside k P m home v ts ss → Right F P j m ts b t → block_stands F home b t v ≡ true
unfolding block_stands
ok-block F k P j m home (update i u) t v ts ss d r =
    let pl : length v.group ≡ length (ts 0).group = ap length ((d.tells 0).group ∙ sym (d.sim 0).group) in
    let tk : t ≡ v.ticket = r.2 ∙ sym d.ticket in
    go pl tk r.0
  where
    go : length v.group ≡ length (ts 0).group → t ≡ v.ticket → (i ≡ 1) ⊎ ((0 < length (ts 0).group) × (i ≡ length (ts 0).group + 1))
        → ((eqb i 1 || (ltb 0 (length v.group) && eqb i (length v.group + 1))) && eqb t v.ticket) ≡ true
    go pl tk (inl e) = simp (eq-eqb _ _ e, eq-eqb _ _ tk)
    go pl tk (inr e) = by-eq i 1 (λ q. simp (eq-eqb _ _ q, eq-eqb _ _ tk))
        (λ n. simp (ne_eqb _ _ n, lt-ltb 0 (length v.group) (omega arith), eq-eqb i (length v.group + 1) (omega arith), eq-eqb _ _ tk))
ok-block F k P j m home (commit n) t v ts ss d r =
    let pl : length v.group ≡ length (ts 0).group = ap length ((d.tells 0).group ∙ sym (d.sim 0).group) in
    let es : List DirtyPage = apply_all v.start home v.group v.dirty_pages in
    let le : length es ≤ F = omega (
      arith,
      r.3,
      few k P home es (λ p. (after j (commit n) ts p).page) (λ p. (after j (commit n) ss p).page)
          (distinct-all v.start home v.group v.dirty_pages d.distinct) (pages-all P v.start home v.group v.dirty_pages d.updates_of d.pages)
          (λ p. committed p) (λ p. (sim-step p j (commit n) (ts p) (ss p) (d.sim p)).page),
    ) in
    simp (lt-ltb 0 (length v.group) (omega arith), eq-eqb n (length v.group) (omega arith), eq-eqb t (v.ticket + 1) (omega (arith, d.ticket)), le-leb _ _ le)
  where
    committed : (p : ℕ) → Sees (home p) (look_up p (apply_all v.start home v.group v.dirty_pages)) (after j (commit n) ss p).page
    committed p = commit-sees home p j n v (ss p) (d.tells p)
ok-block F k P j m home (clean q) t v ts ss d r = eq-eqb t v.ticket (r ∙ sym d.ticket)

pub step-ticket : (home : ℕ → List ℕ) (j : ℕ) (k : Kind) (v : Walk) → (walk_block home j k v).ticket ≡ v.ticket + is_commit k
unfolding walk_block
step-ticket home j (update i u) v = by-eq i 1 (λ e. simp (eq-eqb _ _ e) (omega arith)) (λ n. simp (ne_eqb _ _ n) (omega arith))
step-ticket home j (commit n) v = refl
step-ticket home j (clean q) v = omega arith

pub step-distinct : (home : ℕ → List ℕ) (j : ℕ) (k : Kind) (v : Walk) → Distinct v.dirty_pages → Distinct (walk_block home j k v).dirty_pages
unfolding walk_block
step-distinct home j (update i u) v d = by-eq i 1 (λ e. simp (eq-eqb _ _ e) d) (λ n. simp (ne_eqb _ _ n) d)
step-distinct home j (commit n) v d = distinct-all v.start home v.group v.dirty_pages d
step-distinct home j (clean q) v d = distinct_without q v.dirty_pages d

pub step-pages : (P j : ℕ) (home : ℕ → List ℕ) (k : Kind) (v : Walk) → Ups P v.group → Pages P v.dirty_pages → Pages P (walk_block home j k v).dirty_pages
unfolding walk_block
step-pages P j home (update i u) v a b = by-eq i 1 (λ e. simp (eq-eqb _ _ e) b) (λ n. simp (ne_eqb _ _ n) b)
step-pages P j home (commit n) v a b = pages-all P v.start home v.group v.dirty_pages a b
step-pages P j home (clean q) v a b = pages-without P q v.dirty_pages b

pub step-updates : (F P j m t : ℕ) (home : ℕ → List ℕ) (k : Kind) (v : Walk) (ts : Views) → Right F P j m ts k t → Ups P v.group → Ups P (walk_block home j k v).group
unfolding walk_block
step-updates F P j m t home (update i u) v ts r a = by-eq i 1 (λ e. simp (eq-eqb _ _ e) (r.1, tt)) (λ n. simp (ne_eqb _ _ n) (updates-snoc P v.group u a r.1))
step-updates F P j m t home (commit n) v ts r a = tt
step-updates F P j m t home (clean q) v ts r a = tt

-- the walk goes on beside
beside-step : (k P F j m : ℕ) (home : ℕ → List ℕ) (b : Kind) (t : ℕ) (v : Walk) (ts ss : Views) → Right F P j m ts b t → Beside k P m home v ts ss
    → Beside k P (m + is_commit b) home (walk_block home j b v) (after j b ts) (after j b ss)
beside-step k P F j m home b t v ts ss r d = record {
  sim = λ p. sim-step p j b (ts p) (ss p) (d.sim p);
  tells = λ p. tells-step home p j b v (ss p) (d.tells p);
  ticket = tick b;
  updates_of = us b r;
  pages = page_facts b;
  distinct = ds b;
}
  where
    tick : (b : Kind) → (walk_block home j b v).ticket ≡ m + is_commit b
    tick b = step-ticket home j b v ∙ ap (λ (n : ℕ). n + is_commit b) d.ticket

    us : (b : Kind) → Right F P j m ts b t → Ups P (walk_block home j b v).group
    us b r = step-updates F P j m t home b v ts r d.updates_of

    page_facts : (b : Kind) → Pages P (walk_block home j b v).dirty_pages
    page_facts b = step-pages P j home b v d.updates_of d.pages

    ds : (b : Kind) → Distinct (walk_block home j b v).dirty_pages
    ds b = step-distinct home j b v d.distinct

pub ok-all : (F k P j m : ℕ) (home : ℕ → List ℕ) (bs : List LogBlock) (v : Walk) (ts ss : Views) → Formed F P j m ts bs → Beside k P m home v ts ss → all_stand F home j bs v ≡ true
unfolding all_stand
ok-all F k P j m home [] v ts ss f d = refl
ok-all F k P j m home (b ∷ bs) v ts ss f d =
    rw (
      ok-block F k P j m home b.kind b.ticket v ts ss d f.0,
      ok-all F k P (suc j) (m + is_commit b.kind) home bs (walk_block home j b.kind v) (after j b.kind ts) (after j b.kind ss) f.1 (beside-step k P F j m home b.kind b.ticket v ts ss f.0 d),
    ) refl

abbrev pub walk_at : ℕ → Walk
walk_at t = record { group = []; start = 0; ticket = t; dirty_pages = [] }

ok-first : (F : ℕ) (home : ℕ → List ℕ) (b : Kind) (t : ℕ) → Begins b → block_stands F home b t (walk_at t) ≡ true
unfolding block_stands
ok-first F home (update i u) t first = eq-eqb t t refl
ok-first F home (commit n) t begins = elim begins [ ]
ok-first F home (clean q) t cleans = eq-eqb t t refl

right-ticket : (F P j m : ℕ) (ts : Views) (b : Kind) (t : ℕ) → Begins b → Right F P j m ts b t → t ≡ m
right-ticket F P j m ts (update i u) t first r = r.2
right-ticket F P j m ts (commit n) t begins r = elim begins [ ]
right-ticket F P j m ts (clean q) t cleans r = r

tells_none : (home : ℕ → List ℕ) (p t : ℕ) → Tells home p (walk_at t) no_view
unfolding look_up
tells_none home p t = record { group = refl; start = refl; sees = clear }

-- THE FIRST BLOCK: it begins a group or is a cleans, and its ticket is believed
pub ok_from : (F k P j m : ℕ) (home : ℕ → List ℕ) (b : LogBlock) (bs : List LogBlock) (ts : Views) → Begins b.kind → ((p : ℕ) → Below k (ts p).page)
    → Formed F P j m ts (b ∷ bs) → all_stand F home j (b ∷ bs) (walk_at b.ticket) ≡ true
unfolding all_stand
ok_from F k P j m home b bs ts g l f =
    let x : Kind = b.kind in
    let v : Walk = walk_at b.ticket in
    let d : Beside k P (m + is_commit x) home (walk_block home j x v) (after j x ts) (after j x (λ p. no_view)) = record {
      sim = λ p. sim-begin p j x (ts p) g (l p);
      tells = λ p. tells-step home p j x v no_view (tells_none home p b.ticket);
      ticket = step-ticket home j x v ∙ ap (λ (n : ℕ). n + is_commit x) (right-ticket F P j m ts x b.ticket g f.0);
      updates_of = step-updates F P j m b.ticket home x v ts f.0 tt;
      pages = step-pages P j home x v tt tt;
      distinct = step-distinct home j x v tt;
    } in
    rw (ok-first F home x b.ticket g, ok-all F k P (suc j) (m + is_commit x) home bs (walk_block home j x v) (after j x ts) (after j x (λ p. no_view)) f.1 d) refl

-- a history grows by a block that is right, and what follows a part of it is formed too
pub formed-append : (F P j m : ℕ) (ts : Views) (xs ys : List LogBlock) → Formed F P j m ts (xs ++ ys)
    → Formed F P (length xs + j) (m + commits xs) (λ p. view_from p j xs (ts p)) ys
unfolding view_from
formed-append F P j m ts [] ys f = rw (zero-add, add-zero) f
formed-append F P j m ts (x ∷ xs) ys f =
    subst₂ (λ (a b : ℕ). Formed F P a b (λ p. view_from p j (x ∷ xs) (ts p)) ys) (omega arith) (omega arith) (formed-append F P (suc j) (m + is_commit x.kind) (after j x.kind ts) xs ys f.1)

pub formed-snoc : (F P j m : ℕ) (ts : Views) (xs : List LogBlock) (b : LogBlock) → Formed F P j m ts xs
    → Right F P (length xs + j) (m + commits xs) (λ p. view_from p j xs (ts p)) b.kind b.ticket → Formed F P j m ts (xs ++ (b ∷ []))
unfolding view_from
formed-snoc F P j m ts [] b f r = (rw (zero-add, add-zero) at r, tt)
formed-snoc F P j m ts (x ∷ xs) b f r = (
  f.0,
  formed-snoc F P (suc j) (m + is_commit x.kind) (after j x.kind ts) xs b f.1
      (subst₂ (λ (a c : ℕ). Right F P a c (λ p. view_from p j (x ∷ xs) (ts p)) b.kind b.ticket) (omega arith) (omega arith) r),
)

-- never more than F pages dirty
cap-step : (F P j m t : ℕ) (ts : Views) (b : Kind) → Right F P j m ts b t → tally P (λ p. is_dirty (ts p).page) ≤ F → tally P (λ p. is_dirty (after j b ts p).page) ≤ F
unfolding view_block
cap-step F P j m t ts (update i u) r h = by-eq i 1 (λ e. simp (eq-eqb _ _ e) h) (λ n. simp (ne_eqb _ _ n) h)
cap-step F P j m t ts (commit n) r h = r.3
cap-step F P j m t ts (clean q) r h = omega (arith, h, tally-mono P (λ p. is_dirty (after j (clean q) ts p).page) (λ p. is_dirty (ts p).page) (λ p. less (eqb p q) (ts p).page))
  where
    less : (b : Bool) (c : Page) → is_dirty (cond b tidy c) ≤ is_dirty c
    less true c = omega arith
    less false c = omega arith

pub formed-cap : (F P j m : ℕ) (ts : Views) (bs : List LogBlock) → Formed F P j m ts bs → tally P (λ p. is_dirty (ts p).page) ≤ F → tally P (λ p. is_dirty (view_from p j bs (ts p)).page) ≤ F
unfolding view_from
formed-cap F P j m ts [] f h = h
formed-cap F P j m ts (b ∷ bs) f h = formed-cap F P (suc j) (m + is_commit b.kind) (after j b.kind ts) bs f.1 (cap-step F P j m b.ticket ts b.kind f.0 h)
