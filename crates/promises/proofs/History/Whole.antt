-- The invariant of the store over slots: a ghost history.
use mathlib.Core.Path.{◌≡◌, refl, sym, ap, ◌∙◌, subst}
use mathlib.Core.Logic.{◌⊎◌, inl, inr}
use Prim.Native.Nat.{ℕ, zero, suc, ◌+◌, ◌-◌, ◌≤◌, ◌<◌}
use native.Mathlib.Omega.{arith}
use mathlib.Core.Bool.{cond}
use mathlib.Core.List.{List, [], ◌∷◌, ◌++◌}
use lib.ListN.{length, get_or, length-append}
use lib.Seq.{length-take-le}
use lib.Dec.{eqb}
use borrow.Author.Tests.{eq-eqb, ne_eqb}
use Rattle.promises.specs.Updates.{Update}
use Rattle.promises.proofs.History.Views.{View, no_view, view_block, view_from}
use Rattle.promises.specs.Blocks.{update, commit, clean, LogBlock}
use Rattle.promises.proofs.History.Machine.{last_keep, Live, World, up, Cleaning, idle, no_update, update_logged, commit_logged, cleaning_after, clean_logged}
use Rattle.promises.specs.DirtyPages.{DirtyPage, at, look_up, apply, apply_all, without, keep_from_of}
use Rattle.promises.proofs.History.Ledger.{Book}
use Rattle.promises.proofs.History.Stored.{store}
use Rattle.promises.specs.Blocks.{Slot}
use Rattle.promises.proofs.History.Sizes.{Sizes}
use Rattle.promises.proofs.History.Sees.{by-eq}
use Rattle.promises.proofs.History.WalkStart.{commits, is_commit, commits-append, last_keep-snoc, keep_from-le}
use Rattle.promises.proofs.History.Invariant.{view, view-snoc, Disk, Half, whole, part, Wells, Alive, Inv, counted, invariant-update, committed, invariant-commit, invariant-clean}
use Rattle.promises.proofs.History.Ring.{Holds, holds-store}
use Rattle.promises.proofs.History.Tally.{tally, tally-same, tally-look_up, here, Pages, is_dirty, sees-here}
use Rattle.promises.proofs.History.HalfEnd.{HalfEnd, half-end-update, half-end-commit, half-end-clean, legal-at}
use Rattle.promises.proofs.History.KeepFrom.{least_of, least-is, keep-applied, keep-le, own-ge, keep-grows}
use Rattle.promises.proofs.History.Accepted.{Ups, Formed, formed-snoc, Right, pages-all, pages-without}
use Rattle.promises.proofs.History.Rules.{own_in, Ruled, ruled-snoc}

abbrev pub UpsQ : ℕ → List (List Update) → Type 0
UpsQ P [] = Unit {0}
UpsQ P (g ∷ q) = Ups P g × UpsQ P q

abbrev pub dirty_of : List LogBlock → ℕ → ℕ
dirty_of history p = is_dirty (view history p).page

-- what log and home hold, with the history that was written
pub record Kept (z : Sizes) (log : List Slot) (home : ℕ → List ℕ) (b : Book) (history : List LogBlock) : Type 0 where
  pub holds : Holds z.N z.base log history
  pub based : z.base ≤ last_keep history
  pub half : HalfEnd z.P history b.m
  pub formed : Formed z.F z.P 1 0 (λ p. no_view) history
  pub ruled : Ruled z.N z.F z.P z.base history
  pub total : commits history ≡ b.m
  pub roomy : length history + 1 - last_keep history + tally z.P (dirty_of history) ≤ z.N
  pub disk : Disk history home b.pages b.m

-- of the book only m and the pages count
pub same-book : {z : Sizes} {log : List Slot} {home : ℕ → List ℕ} {b b' : Book} {history : List LogBlock} → b'.m ≡ b.m → b'.pages ≡ b.pages
    → Kept z log home b history → Kept z log home b' history
same-book m p k = record {
  holds = k.holds;
  based = k.based;
  half = rw m k.half;
  formed = k.formed;
  ruled = k.ruled;
  total = k.total ∙ sym m;
  roomy = k.roomy;
  disk = rw (m, p) k.disk;
}

pub record Runs (z : Sizes) (home : ℕ → List ℕ) (b : Book) (history : List LogBlock) (n : ℕ) (l : Live) : Type 0 where
  pub next : n ≡ length history + 1
  pub alive : Alive history home l b
  pub pages : Pages z.P l.dirty_pages
  pub places : UpsQ z.P l.queue

-- D is the count of dirty pages
pub count-dirty : (z : Sizes) (home : ℕ → List ℕ) (b : Book) (history : List LogBlock) (l : Live) → Alive history home l b → Pages z.P l.dirty_pages → tally z.P (dirty_of history) ≡ length l.dirty_pages
count-dirty z home b history l a page_facts = tally-same z.P (dirty_of history) (λ p. here (look_up p l.dirty_pages)) (λ p. sym (sees-here (a.sees p))) ∙ tally-look_up z.P l.dirty_pages a.distinct page_facts

updates-at : (P : ℕ) (g : List Update) (n : ℕ) → n < length g → Ups P g → (get_or g n no_update).page < P
updates-at P [] n h a = absurd (omega arith)
updates-at P (u ∷ g) zero h a = a.0
updates-at P (u ∷ g) (suc n) h a = updates-at P g n (omega arith) a.1

-- the update that is stored next has the right index
index-right : (history : List LogBlock) (m n : ℕ) (q : List (List Update)) → Half history m n q → (n + 1 ≡ 1) ⊎ ((0 < length (view history 0).group) × (n + 1 ≡ length (view history 0).group + 1))
index-right history m n q (whole e) = inl (omega arith)
index-right history m n q (part g r e z le pd st bg) =
    let x : length (view history 0).group ≡ n = ap length (pd 0) ∙ length-take-le n g le in
    inr (omega arith, omega arith)

group-right : (history : List LogBlock) (m n : ℕ) (g : List Update) (q r : List (List Update)) → q ≡ g ∷ r → 0 < length g → length g ≤ n → Half history m n q → length (view history 0).group ≡ length g
group-right history m n g q r e z h (whole y) = absurd (omega arith)
group-right history m n g q r e z h (part g' r' e' y le pd st bg) =
    let s : g' ≡ g = cc in
    let x : length (view history 0).group ≡ n = ap length (pd 0) ∙ length-take-le n g' le in
    omega (arith, ap length s)

-- ---- an update is stored
module _ (z : Sizes) (log : List Slot) (home : ℕ → List ℕ) (b : Book) (history : List LogBlock) (l : Live) (big : 0 < z.N) (k : Kept z log home b history) (r : Runs z home b history (length history + 1) l) where
  abbrev world : World
  world = record { history = history; home = home; live = up l }

  -- a block is added that is right, and leaves room
  grown : (x : LogBlock) (b' : Book) (home' : ℕ → List ℕ) → Right z.F z.P (length history + 1) b.m (view history) x.kind x.ticket
      → b'.m ≡ b.m + is_commit x.kind → Disk (history ++ (x ∷ [])) home' b'.pages b'.m
      → length history + 2 - x.keep_from + tally z.P (dirty_of (history ++ (x ∷ []))) ≤ z.N
      → x.keep_from ≡ least_of z.P (own_in (length history + 1) x.kind (view history 0)) (λ p. (view (history ++ (x ∷ [])) p).page)
      → last_keep history ≤ x.keep_from → HalfEnd z.P (history ++ (x ∷ [])) b'.m
      → Kept z (store z.N (length history + 1) x log) home' b' (history ++ (x ∷ []))
  grown x b' home' rt em dk rm kp mn hf =
      let ln : length (history ++ (x ∷ [])) ≡ length history + 1 = length-append history (x ∷ []) in
      let rt' : Right z.F z.P (length history + 1) (commits history) (view history) x.kind x.ticket = subst (λ (n : ℕ). Right z.F z.P (length history + 1) n (view history) x.kind x.ticket) (sym k.total) rt in
      record {
        holds = holds-store z.N z.base log history x big (omega (arith, k.based, keep-le history b.m k.disk.keep_from)) k.holds;
        based = rw (last_keep-snoc history x) (omega (arith, k.based, mn));
        half = hf;
        formed = formed-snoc z.F z.P 1 0 (λ p. no_view) history x k.formed (subst (λ (n : ℕ). Right z.F z.P (length history + 1) n (view history) x.kind x.ticket) (omega arith) rt');
        ruled = ruled-snoc z.N z.F z.P z.base history x k.ruled (record { right = rt'; keep = kp; room = rm });
        total = omega (arith, commits-append history (x ∷ []), k.total);
        roomy = rw (last_keep-snoc history x) (omega (arith, rm, ln));
        disk = dk;
      }

length-apply : (s : ℕ) (home : ℕ → List ℕ) (u : Update) (es : List DirtyPage) → length (apply s home u es) ≤ length es + 1
unfolding apply
length-apply s home u [] = omega arith
length-apply s home u (e ∷ es) = by-eq u.page e.page
    (λ q. simp (eq-eqb _ _ q) (omega arith))
    (λ n. simp (ne_eqb _ _ n) (omega (arith, length-apply s home u es)))

pub length-all : (s : ℕ) (home : ℕ → List ℕ) (us : List Update) (es : List DirtyPage) → length (apply_all s home us es) ≤ length es + length us
unfolding apply_all
length-all s home [] es = omega arith
length-all s home (u ∷ us) es = omega (arith, length-all s home us (apply s home u es), length-apply s home u es)

without-le : (q : ℕ) (es : List DirtyPage) → length (without q es) ≤ length es
unfolding without
without-le q [] = omega arith
without-le q (e ∷ es) = by-eq q e.page
    (λ x. simp (eq-eqb _ _ x) (omega (arith, without-le q es)))
    (λ n. simp (ne_eqb _ _ n) (omega (arith, without-le q es)))

pub without-less : (q : ℕ) (e : DirtyPage) (es : List DirtyPage) → look_up q es ≡ at e → length (without q es) + 1 ≤ length es
unfolding without look_up
without-less q e [] f = let x : ◌≡◌ {A = ℕ} 0 1 = cc in absurd (omega arith)
without-less q e (y ∷ es) f = by-eq q y.page
    (λ x. simp (eq-eqb _ _ x) (omega (arith, without-le q es)))
    (λ n. simp (ne_eqb _ _ n) (omega (arith, without-less q e es (simp (ne_eqb _ _ n) at f))))

pub keep_from-without : (d q : ℕ) (es : List DirtyPage) → keep_from_of d es ≤ keep_from_of d (without q es)
unfolding keep_from_of without
keep_from-without d q [] = omega arith
keep_from-without d q (e ∷ es) = by-eq q e.page
    (λ x. simp (eq-eqb _ _ x) (omega (arith, keep_from-without d q es)))
    (λ n. simp (ne_eqb _ _ n) (omega (arith, keep_from-without d q es)))

-- what soundness says of a store that has a group to write
pub record Room (z : Sizes) (n : ℕ) (l : Live) (g : List Update) : Type 0 where
  pub slots : n - keep_from_of (n - l.count) l.dirty_pages + (length g + 1 - l.count) + length l.dirty_pages + length g ≤ z.N
  pub frames : length l.dirty_pages + length g ≤ z.F

module _ (z : Sizes) (log : List Slot) (home : ℕ → List ℕ) (b : Book) (history : List LogBlock) (l : Live) (big : 0 < z.N) (k : Kept z log home b history) (r : Runs z home b history (length history + 1) l) where
  abbrev w₁ : World
  w₁ = record { history = history; home = home; live = up l }

  abbrev update_block : List Update → LogBlock
  update_block g = record { kind = update (l.count + 1) (get_or g l.count no_update); keep_from = keep_from_of (length history + 1 - l.count) l.dirty_pages; ticket = l.ticket }

  keep-grown : last_keep history ≤ keep_from_of (length history + 1 - l.count) l.dirty_pages
  keep-grown = keep-grows history home b.pages b.m _ l.dirty_pages k.disk r.alive.distinct r.alive.sees (own-ge z.P history b.m l.count l.queue k.disk.keep_from k.half r.alive.half)

  -- what an update counts beside the dirty pages: where its own group begins
  own_is : Half history b.m l.count l.queue → length history + 1 - l.count ≡ cond (eqb (l.count + 1) 1) (length history + 1) (view history 0).start
  own_is (whole y) = simp (eq-eqb (l.count + 1) 1 (omega arith)) (omega arith)
  own_is (part g' r' e' y le pd st bg) = simp (ne_eqb (l.count + 1) 1 (omega arith)) (sym (st 0))

  -- and a commit
  start_is_lem : 0 < l.count → Half history b.m l.count l.queue → length history + 1 - l.count ≡ (view history 0).start
  start_is_lem h (whole y) = absurd (omega arith)
  start_is_lem h (part g' r' e' y le pd st bg) = sym (st 0)

  abbrev live_after_update : Live
  live_after_update = record { ticket = l.ticket; queue = l.queue; count = l.count + 1; dirty_pages = l.dirty_pages; cleaning = l.cleaning }

  -- UPDATE
  pub kept-update : (g : List Update) (q : List (List Update)) → l.queue ≡ g ∷ q → l.count < length g → Room z (length history + 1) l g
      → Kept z (store z.N (length history + 1) (update_block g) log) home (counted b) (history ++ (update_block g ∷ [])) × Runs z home (counted b) (history ++ (update_block g ∷ [])) (length history + 2) live_after_update
  unfolding update_logged
  kept-update g q e h rm =
      let i : Inv (update_logged w₁ l g) (counted b) = invariant-update w₁ l b g q k.disk r.alive e h in
      let a : Alive (history ++ (update_block g ∷ [])) home live_after_update (counted b) = i.lives in
      let cd : tally z.P (dirty_of (history ++ (update_block g ∷ []))) ≡ length l.dirty_pages = count-dirty z home (counted b) (history ++ (update_block g ∷ [])) live_after_update a r.pages in
      let pq : UpsQ z.P (g ∷ q) = rw e at r.places in (
        grown z log home b history l big k r (update_block g) (counted b) home
            (index-right history b.m l.count l.queue r.alive.half, updates-at z.P g l.count h pq.0, r.alive.ticket)
            (omega arith) i.disk (omega (arith, cd, rm.slots)) (least-is z.P (length history + 1 - l.count) home l.dirty_pages (λ p. (view (history ++ (update_block g ∷ [])) p).page) a.distinct r.pages a.sees
            ∙ ap (λ (o : ℕ). least_of z.P o (λ p. (view (history ++ (update_block g ∷ [])) p).page)) (own_is r.alive.half)) keep-grown
            (half-end-update z.P b.m _ (l.count + 1) history l.ticket (get_or g l.count no_update) k.half (index-right history b.m l.count l.queue r.alive.half) r.alive.ticket
            (updates-at z.P g l.count h pq.0) (legal-at 1024 g l.count h (rw e at r.alive.wells).0.1) (rw (← (own_is r.alive.half)) (keep_from-le (length history + 1 - l.count) l.dirty_pages))),
        record { next = omega (arith, length-append history (update_block g ∷ [])); alive = a; pages = r.pages; places = r.places },
      )

  abbrev commit_block : List Update → LogBlock
  commit_block g = record { kind = commit (length g); keep_from = keep_from_of (length history + 1 - l.count) l.dirty_pages; ticket = l.ticket + 1 }

  abbrev live_after_commit : List Update → List (List Update) → Live
  live_after_commit g q = record { ticket = l.ticket + 1; queue = q; count = 0; dirty_pages = apply_all (length history + 1 - l.count) home g l.dirty_pages; cleaning = cleaning_after g l.cleaning }

  -- COMMIT
  pub kept-commit : (g : List Update) (q : List (List Update)) → l.queue ≡ g ∷ q → l.count ≡ length g → Room z (length history + 1) l g
      → Kept z (store z.N (length history + 1) (commit_block g) log) home (committed b g q) (history ++ (commit_block g ∷ [])) × Runs z home (committed b g q) (history ++ (commit_block g ∷ [])) (length history + 2) (live_after_commit g q)
  unfolding commit_logged
  kept-commit g q e h rm =
      let i : Inv (commit_logged w₁ l g q) (committed b g q) = invariant-commit w₁ l b g q k.disk r.alive e (omega arith) in
      let a : Alive (history ++ (commit_block g ∷ [])) home (live_after_commit g q) (committed b g q) = i.lives in
      let pq : UpsQ z.P (g ∷ q) = rw e at r.places in
      let ws : Wells (g ∷ q) = rw e at r.alive.wells in
      let page_facts : Pages z.P (live_after_commit g q).dirty_pages = pages-all z.P (length history + 1 - l.count) home g l.dirty_pages pq.0 r.pages in
      let cd : tally z.P (dirty_of (history ++ (commit_block g ∷ []))) ≡ length (live_after_commit g q).dirty_pages = count-dirty z home (committed b g q) (history ++ (commit_block g ∷ [])) (live_after_commit g q) a page_facts in
      let le : length (live_after_commit g q).dirty_pages ≤ length l.dirty_pages + length g = length-all (length history + 1 - l.count) home g l.dirty_pages in
      let pr : length (view history 0).group ≡ length g = group-right history b.m l.count g l.queue q e ws.0.0 (omega arith) r.alive.half in
      let sv : tally z.P (λ p. is_dirty (view_block p (length history + 1) (commit (length g)) (view history p)).page) ≡ tally z.P (dirty_of (history ++ (commit_block g ∷ []))) =
      tally-same z.P _ _ (λ p. ap (λ (t : View). is_dirty t.page) (sym (view-snoc history (commit_block g) p))) in (
        grown z log home b history l big k r (commit_block g) (committed b g q) home
            (omega arith, sym pr, ap (λ (n : ℕ). n + 1) r.alive.ticket, omega (arith, sv, cd, le, rm.frames))
            refl i.disk (omega (arith, cd, le, rm.slots))
            (sym (keep-applied (length history + 1 - l.count) home g l.dirty_pages)
            ∙ least-is z.P (length history + 1 - l.count) home (live_after_commit g q).dirty_pages (λ p. (view (history ++ (commit_block g ∷ [])) p).page) a.distinct page_facts a.sees
            ∙ ap (λ (o : ℕ). least_of z.P o (λ p. (view (history ++ (commit_block g ∷ [])) p).page)) (start_is_lem (omega (arith, ws.0.0)) r.alive.half)) keep-grown (half-end-commit z.P _ _ _ _ history),
        record { next = omega (arith, length-append history (commit_block g ∷ [])); alive = a; pages = page_facts; places = pq.1 },
      )

  abbrev clean_block : ℕ → LogBlock
  clean_block q = record { kind = clean q; keep_from = keep_from_of (length history + 1) (without q l.dirty_pages); ticket = l.ticket }

  abbrev live_after_clean : ℕ → Live
  live_after_clean q = record { ticket = l.ticket; queue = l.queue; count = l.count; dirty_pages = without q l.dirty_pages; cleaning = idle }

  -- CLEAN BLOCK
  pub kept-clean : (q : ℕ) (e : DirtyPage) → look_up q l.dirty_pages ≡ at e → home q ≡ b.pages q → l.count ≡ 0
      → length history + 1 - keep_from_of (length history + 1) l.dirty_pages + length l.dirty_pages ≤ z.N
      → Kept z (store z.N (length history + 1) (clean_block q) log) home b (history ++ (clean_block q ∷ [])) × Runs z home b (history ++ (clean_block q ∷ [])) (length history + 2) (live_after_clean q)
  unfolding clean_logged
  kept-clean q e f hp c0 rm =
      let i : Inv (clean_logged w₁ l q) b = invariant-clean w₁ l b q k.disk r.alive hp c0 in
      let a : Alive (history ++ (clean_block q ∷ [])) home (live_after_clean q) b = i.lives in
      let page_facts : Pages z.P (without q l.dirty_pages) = pages-without z.P q l.dirty_pages r.pages in
      let cd : tally z.P (dirty_of (history ++ (clean_block q ∷ []))) ≡ length (without q l.dirty_pages) = count-dirty z home b (history ++ (clean_block q ∷ [])) (live_after_clean q) a page_facts in
      let ls : length (without q l.dirty_pages) + 1 ≤ length l.dirty_pages = without-less q e l.dirty_pages f in
      let ol : keep_from_of (length history + 1) l.dirty_pages ≤ keep_from_of (length history + 1) (without q l.dirty_pages) = keep_from-without (length history + 1) q l.dirty_pages in (
        grown z log home b history l big k r (clean_block q) b home r.alive.ticket (omega arith) i.disk (omega (arith, cd, ls, ol, rm))
            (least-is z.P (length history + 1) home (without q l.dirty_pages) (λ p. (view (history ++ (clean_block q ∷ [])) p).page) a.distinct page_facts a.sees)
            (omega (arith, ol, keep-grows history home b.pages b.m (length history + 1) l.dirty_pages k.disk r.alive.distinct r.alive.sees (keep-le history b.m k.disk.keep_from))) (half-end-clean z.P _ _ _ _ history),
        record { next = omega (arith, length-append history (clean_block q ∷ [])); alive = a; pages = page_facts; places = r.places },
      )

  -- HALF A PAGE: the log is as it was
  pub kept_half : (x : ℕ → List ℕ) (c : Cleaning) → Disk history x b.pages b.m
      → Alive history x (record { ticket = l.ticket; queue = l.queue; count = l.count; dirty_pages = l.dirty_pages; cleaning = c }) b
      → Kept z log x b history × Runs z x b history (length history + 1) (record { ticket = l.ticket; queue = l.queue; count = l.count; dirty_pages = l.dirty_pages; cleaning = c })
  kept_half x c d a = (
    record { holds = k.holds; based = k.based; half = k.half; formed = k.formed; ruled = k.ruled; total = k.total; roomy = k.roomy; disk = d },
    record { next = refl; alive = a; pages = r.pages; places = r.places },
  )

pub count-le : (history : List LogBlock) (m n : ℕ) (x : List Update) (q r : List (List Update)) → q ≡ x ∷ r → Half history m n q → n ≤ length x
count-le history m n x q r e (whole y) = omega arith
count-le history m n x q r e (part g' r' e' y le pd st bg) = let s : g' ≡ x = cc in omega (arith, ap length s)

pub places-append : (P : ℕ) (q : List (List Update)) (x : List Update) → UpsQ P q → Ups P x → UpsQ P (q ++ (x ∷ []))
places-append P [] x a h = (h, tt)
places-append P (y ∷ q) x a h = (a.0, places-append P q x a.1 h)

pub tally-none : (P : ℕ) → tally P (dirty_of []) ≡ 0
unfolding tally view_from
tally-none zero = refl
tally-none (suc P) = omega (arith, tally-none P)
