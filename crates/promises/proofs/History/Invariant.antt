-- The invariant, and that each store keeps it.
use mathlib.Core.Path.{◌≡◌, refl, sym, ap, ◌∙◌, subst}
use Prim.Native.Nat.{ℕ, ◌+◌, ◌-◌, ◌≤◌, ◌<◌}
use native.Mathlib.Omega.{arith}
use native.Mathlib.Numerals.{add-one}
use mathlib.Core.Bool.{Bool, true, false, cond}
use mathlib.Core.List.{List, [], ◌∷◌, ◌++◌}
use lib.ListN.{length, take, drop, get_or, length-append, take-append-drop, length-take, length-drop}
use lib.Seq.{take-suc, take_all, take_at, length-take-le}
use lib.Dec.{eqb}
use borrow.Author.Tests.{eq-eqb, ne_eqb}
use Rattle.promises.proofs.History.Legal.{Legal}
use Rattle.promises.specs.Updates.{Update, put, redo}
use Rattle.promises.proofs.History.Views.{Page, tidy, dirty, updates_of, View, no_view, committed_over, view_block, view_from, Begins, first, cleans}
use Rattle.promises.specs.Blocks.{Kind, update, commit, clean, LogBlock}
use Rattle.promises.specs.Updates.{of_page}
use Rattle.promises.proofs.History.Machine.{last_keep, Live, World, State, down, up, Cleaning, idle, second, third, no_update, update_logged, commit_logged, cleaning_after, idle_unless_none, set_page, half_stored, clean_logged}
use Rattle.promises.specs.DirtyPages.{DirtyPage, Found, absent, at, look_up, without, keep_from_of}
use Rattle.promises.proofs.History.Ledger.{Book}
use Rattle.promises.proofs.History.OldOrNew.{Mix, redo-mixed, mixed-front, mixed-back, mixed-length}
use Rattle.promises.proofs.History.Since.{AtLeast, track-append}
use Rattle.promises.proofs.History.Sees.{Sees, clear, held, by-eq, redo-append, sees-all, sees-without}
use Rattle.promises.proofs.History.WalkStart.{BeginsAt, begins-append, begins-last, Distinct, Good, keep_from-begins, keep_from-le, keep_from-least, distinct-all, distinct_without, last_keep-snoc, is_commit}

abbrev pub view : List LogBlock → ℕ → View
view history p = view_from p 1 history no_view

pub view-snoc : (history : List LogBlock) (b : LogBlock) (p : ℕ) → view (history ++ (b ∷ [])) p ≡ view_block p (length history + 1) b.kind (view history p)
unfolding view_from
view-snoc history b p = track-append p 1 history (b ∷ []) no_view

-- a page's first group begins a walk
pub data First (history : List LogBlock) (m : ℕ) : Page → Type 0 where
  none : First history m tidy
  some : {f : ℕ} {us : List Update} → BeginsAt history m f → First history m (dirty f us)

pub data Keep (history : List LogBlock) (m : ℕ) : Type 0 where
  empty : history ≡ [] → m ≡ 0 → Keep history m
  from : BeginsAt history m (last_keep history) → Keep history m

keep_from-snoc : (history : List LogBlock) (m : ℕ) (b : LogBlock) → BeginsAt (history ++ (b ∷ [])) m b.keep_from → Keep (history ++ (b ∷ [])) m
keep_from-snoc history m b g = from (rw (last_keep-snoc history b) g)

-- what log and home hold, against the book's pages and count of commits
pub record Disk (history : List LogBlock) (home pages : ℕ → List ℕ) (m : ℕ) : Type 0 where
  pub right : (p : ℕ) → redo (updates_of (view history p).page) (home p) ≡ pages p
  pub sized : (p : ℕ) → length (home p) ≡ 1024
  pub wide : (p : ℕ) → length (pages p) ≡ 1024
  pub legal : (p : ℕ) → Legal 1024 (updates_of (view history p).page)
  pub first_groups : (p : ℕ) → First history m (view history p).page
  pub least : (p : ℕ) → AtLeast (last_keep history) (view history p).page
  pub keep_from : Keep history m

-- a half-stored group is the oldest queued one
pub data Half (history : List LogBlock) (m n : ℕ) (q : List (List Update)) : Type 0 where
  whole : n ≡ 0 → Half history m n q
  part : (g : List Update) (r : List (List Update)) → q ≡ g ∷ r → 0 < n → n ≤ length g
      → ((p : ℕ) → (view history p).group ≡ take n g) → ((p : ℕ) → (view history p).start ≡ length history + 1 - n)
      → BeginsAt history m (length history + 1 - n) → Half history m n q

abbrev pub Well : List Update → Type 0
Well g = (0 < length g) × Legal 1024 g

abbrev pub Wells : List (List Update) → Type 0
Wells [] = Unit {0}
Wells (g ∷ q) = Well g × Wells q

abbrev pub Stage : (home pages : ℕ → List ℕ) → Cleaning → Type 0
Stage home pages idle = Unit {0}
Stage home pages (second q) = take 512 (home q) ≡ take 512 (pages q)
Stage home pages (third q) = home q ≡ pages q

pub record Alive (history : List LogBlock) (home : ℕ → List ℕ) (l : Live) (b : Book) : Type 0 where
  pub ticket : l.ticket ≡ b.m
  pub queue : l.queue ≡ b.queue
  pub count : l.count ≡ b.count
  pub sees : (p : ℕ) → Sees (home p) (look_up p l.dirty_pages) (view history p).page
  pub distinct : Distinct l.dirty_pages
  pub half : Half history b.m l.count l.queue
  pub wells : Wells l.queue
  pub stage : Stage home b.pages l.cleaning

abbrev pub Lives : World → Book → State → Type 0
Lives w b down = Unit {0}
Lives w b (up l) = Alive w.history w.home l b

pub record Inv (w : World) (b : Book) : Type 0 where
  pub disk : Disk w.history w.home b.pages b.m
  pub lives : Lives w b w.live

-- ---- First, carried along
pub first_good : {history : List LogBlock} {m : ℕ} {h : List ℕ} {x : Found} {c : Page} → Sees h x c → First history m c → Good history m x
first_good clear f = tt
first_good (held q) (some g) = g

first-append : {history : List LogBlock} {m : ℕ} (b : LogBlock) {c : Page} → First history m c → First (history ++ (b ∷ [])) (m + is_commit b.kind) c
first-append b none = none
first-append b (some g) = some (begins-append b g)

-- keep-from of a new block whose own default is d
keeps : (history : List LogBlock) (m d : ℕ) (home : ℕ → List ℕ) (es : List DirtyPage) → Distinct es
    → ((p : ℕ) → Sees (home p) (look_up p es) (view history p).page) → ((p : ℕ) → First history m (view history p).page)
    → BeginsAt history m d → BeginsAt history m (keep_from_of d es)
keeps history m d home es u s f g = keep_from-begins history m d es u (λ p. first_good (s p) (f p)) g

-- ---- an update is stored
page-update : (p j i : ℕ) (u : Update) (t : View) → (view_block p j (update i u) t).page ≡ t.page
unfolding view_block
page-update p j i u t = by-eq i 1 (λ e. simp (eq-eqb _ _ e)) (λ n. simp (ne_eqb _ _ n))

view-update : (history : List LogBlock) (b : LogBlock) (i : ℕ) (u : Update) (p : ℕ) → b.kind ≡ update i u → (view (history ++ (b ∷ [])) p).page ≡ (view history p).page
view-update history b i u p e = ap (λ (t : View). t.page) (view-snoc history b p) ∙ ap (λ (k : Kind). (view_block p (length history + 1) k (view history p)).page) e ∙ page-update p _ i u _

pub disk-update : (history : List LogBlock) (home pages : ℕ → List ℕ) (m k t i : ℕ) (u : Update) → Disk history home pages m → ((p : ℕ) → AtLeast k (view history p).page)
    → BeginsAt (history ++ (record { kind = update i u; keep_from = k; ticket = t } ∷ [])) m k
    → Disk (history ++ (record { kind = update i u; keep_from = k; ticket = t } ∷ [])) home pages m
disk-update history home pages m k t i u d a g =
    let b : LogBlock = record { kind = update i u; keep_from = k; ticket = t } in
    let e : (p : ℕ) → (view (history ++ (b ∷ [])) p).page ≡ (view history p).page = λ p. view-update history b i u p refl in
    record {
      right = λ p. rw (e p) (d.right p);
      sized = d.sized;
      wide = d.wide;
      legal = λ p. rw (e p) (d.legal p);
      first_groups = λ p. rw (e p) (subst (λ (n : ℕ). First (history ++ (b ∷ [])) n (view history p).page) (omega arith) (first-append b (d.first_groups p)));
      least = λ p. rw (e p, last_keep-snoc history b) (a p);
      keep_from = keep_from-snoc history m b g;
    }

group-first : (p j n : ℕ) (g : List Update) (t : View) → n ≡ 0 → n < length g → (view_block p j (update (n + 1) (get_or g n no_update)) t).group ≡ take (n + 1) g
unfolding view_block
group-first p j n g t e h = simp (eq-eqb (n + 1) 1 (omega arith)) (rw (add-one, take-suc g n no_update) (rw e refl))

group-next : (p j n : ℕ) (g : List Update) (t : View) → 0 < n → n < length g → t.group ≡ take n g → (view_block p j (update (n + 1) (get_or g n no_update)) t).group ≡ take (n + 1) g
unfolding view_block
group-next p j n g t z h e = simp (ne_eqb (n + 1) 1 (omega arith)) (rw (e, add-one, take-suc g n no_update) refl)

start_first : (p j n : ℕ) (u : Update) (t : View) → n ≡ 0 → (view_block p j (update (n + 1) u) t).start ≡ j
unfolding view_block
start_first p j n u t e = simp (eq-eqb (n + 1) 1 (omega arith))

start-next : (p j n : ℕ) (u : Update) (t : View) → 0 < n → (view_block p j (update (n + 1) u) t).start ≡ t.start
unfolding view_block
start-next p j n u t z = simp (ne_eqb (n + 1) 1 (omega arith))

length-snoc : (history : List LogBlock) (b : LogBlock) → length (history ++ (b ∷ [])) ≡ length history + 1
length-snoc history b = length-append history (b ∷ [])

begins-one : (n : ℕ) (u : Update) → n ≡ 0 → Begins (update (n + 1) u)
begins-one n u e = rw e first

-- where the group of the block to store begins, once an update of it is stored
half-begins : (history : List LogBlock) (m n k t : ℕ) (u : Update) (q : List (List Update)) → t ≡ m → Half history m n q
    → BeginsAt (history ++ (record { kind = update (n + 1) u; keep_from = k; ticket = t } ∷ [])) m (length history + 1 - n)
half-begins history m n k t u q e (whole z) = subst (BeginsAt _ m) (omega arith) (begins-last history m _ (begins-one n u z) (omega arith))
half-begins history m n k t u q e (part g r a z le pd st bg) = subst (λ (x : ℕ). BeginsAt (history ++ (record { kind = update (n + 1) u; keep_from = k; ticket = t } ∷ [])) x (length history + 1 - n)) (omega arith) (begins-append (record { kind = update (n + 1) u; keep_from = k; ticket = t }) bg)

half-update : (history : List LogBlock) (m n k t : ℕ) (g : List Update) (q r : List (List Update)) → t ≡ m → q ≡ g ∷ r → n < length g → Half history m n q
    → Half (history ++ (record { kind = update (n + 1) (get_or g n no_update); keep_from = k; ticket = t } ∷ [])) m (n + 1) q
half-update history m n k t g q r e a h hf = part g r a (omega arith) (omega arith) pd st
    (subst (BeginsAt (history ++ (b ∷ [])) m) (omega (arith, length-snoc history b)) (half-begins history m n k t (get_or g n no_update) q e hf))
  where
    b : LogBlock
    b = record { kind = update (n + 1) (get_or g n no_update); keep_from = k; ticket = t }

    same-g : (g' : List Update) (r' : List (List Update)) → q ≡ g' ∷ r' → g' ≡ g
    same-g g' r' a' = cc

    pd : (p : ℕ) → (view (history ++ (b ∷ [])) p).group ≡ take (n + 1) g
    pd p = go hf
      where
        go : Half history m n q → (view (history ++ (b ∷ [])) p).group ≡ take (n + 1) g
        go (whole z) = rw (view-snoc history b p) (group-first p _ n g _ z h)
        go (part g' r' a' z le pd' st' bg) = rw (view-snoc history b p) (group-next p _ n g _ z h (pd' p ∙ ap (take n) (same-g g' r' a')))

    st : (p : ℕ) → (view (history ++ (b ∷ [])) p).start ≡ length (history ++ (b ∷ [])) + 1 - (n + 1)
    st p = go hf
      where
        go : Half history m n q → (view (history ++ (b ∷ [])) p).start ≡ length (history ++ (b ∷ [])) + 1 - (n + 1)
        go (whole z) = rw (view-snoc history b p) (start_first p _ n _ _ z ∙ omega (arith, length-snoc history b))
        go (part g' r' a' z le pd' st' bg) = rw (view-snoc history b p) (start-next p _ n _ _ z ∙ st' p ∙ omega (arith, length-snoc history b))

good-append : (history : List LogBlock) (m : ℕ) (b : LogBlock) (x : Found) → Good history m x → Good (history ++ (b ∷ [])) (m + is_commit b.kind) x
good-append history m b absent g = tt
good-append history m b (at e) g = begins-append b g

-- keep-from of the block that is being stored: d is where its own group begins, or itself
pub keeps-append : (history : List LogBlock) (m d : ℕ) (b : LogBlock) (home : ℕ → List ℕ) (es : List DirtyPage) → Distinct es
    → ((p : ℕ) → Good history m (look_up p es))
    → BeginsAt (history ++ (b ∷ [])) (m + is_commit b.kind) d → BeginsAt (history ++ (b ∷ [])) (m + is_commit b.kind) (keep_from_of d es)
keeps-append history m d b home es u s g = keep_from-begins (history ++ (b ∷ [])) (m + is_commit b.kind) d es u (λ p. good-append history m b (look_up p es) (s p)) g

abbrev pub counted : Book → Book
counted b = record { pages = b.pages; m = b.m; queue = b.queue; count = b.count + 1 }

pub invariant-update : (w : World) (l : Live) (b : Book) (g : List Update) (r : List (List Update)) → Disk w.history w.home b.pages b.m → Alive w.history w.home l b
    → l.queue ≡ g ∷ r → l.count < length g → Inv (update_logged w l g) (counted b)
unfolding update_logged
invariant-update w l b g r d a e h =
    let k : ℕ = keep_from_of (length w.history + 1 - l.count) l.dirty_pages in
    let x : LogBlock = record { kind = update (l.count + 1) (get_or g l.count no_update); keep_from = k; ticket = l.ticket } in
    let bg : BeginsAt (w.history ++ (x ∷ [])) b.m k = subst (λ (n : ℕ). BeginsAt (w.history ++ (x ∷ [])) n k) (omega arith) (keeps-append w.history b.m _ x w.home l.dirty_pages a.distinct (λ p. first_good (a.sees p) (d.first_groups p))
    (subst (λ (n : ℕ). BeginsAt (w.history ++ (x ∷ [])) n (length w.history + 1 - l.count)) (omega arith) (half-begins w.history b.m l.count k l.ticket (get_or g l.count no_update) l.queue a.ticket a.half))) in
    record {
      disk = disk-update w.history w.home b.pages b.m k l.ticket (l.count + 1) (get_or g l.count no_update) d (λ p. keep_from-least (w.home p) _ p l.dirty_pages _ (a.sees p)) bg;
      lives = record {
        ticket = a.ticket;
        queue = a.queue;
        count = ap (λ (n : ℕ). n + 1) a.count;
        sees = λ p. rw (view-update w.history x (l.count + 1) (get_or g l.count no_update) p refl) (a.sees p);
        distinct = a.distinct;
        half = half-update w.history b.m l.count k l.ticket g l.queue r a.ticket e h a.half;
        wells = a.wells;
        stage = a.stage;
      };
    }

-- ---- a commit is stored
redo-committed : (s : ℕ) (us : List Update) (c : Page) (h : List ℕ) → redo (updates_of (committed_over s us c)) h ≡ redo us (redo (updates_of c) h)
unfolding committed_over redo
redo-committed s [] c h = refl
redo-committed s (u ∷ us) tidy h = refl
redo-committed s (u ∷ us) (dirty f vs) h = redo-append vs (u ∷ us) h

pub legal-append : (n : ℕ) (us vs : List Update) → Legal n us → Legal n vs → Legal n (us ++ vs)
unfolding Legal
legal-append n [] vs a b = b
legal-append n (u ∷ us) vs a b = (a.0, legal-append n us vs a.1 b)

legal-committed : (n s : ℕ) (us : List Update) (c : Page) → Legal n (updates_of c) → Legal n us → Legal n (updates_of (committed_over s us c))
unfolding committed_over
legal-committed n s [] c a b = a
legal-committed n s (u ∷ us) tidy a b = b
legal-committed n s (u ∷ us) (dirty f vs) a b = legal-append n vs (u ∷ us) a b

legal-of_page : (n p : ℕ) (us : List Update) → Legal n us → Legal n (of_page p us)
unfolding Legal of_page
legal-of_page n p [] a = tt
legal-of_page n p (u ∷ us) a = by-eq p u.page (λ e. simp (eq-eqb _ _ e) (a.0, legal-of_page n p us a.1)) (λ z. simp (ne_eqb _ _ z) (legal-of_page n p us a.1))

length-put : (u : Update) (h : List ℕ) → u.offset + length u.bytes ≤ length h → length (put u h) ≡ length h
unfolding put
length-put u h l = simp length-append (omega (arith, length-take u.offset h, length-drop (u.offset + length u.bytes) h))

length-redo : (n : ℕ) (us : List Update) (h : List ℕ) → Legal n us → length h ≡ n → length (redo us h) ≡ n
unfolding redo Legal
length-redo n [] h a e = e
length-redo n (u ∷ us) h a e = length-redo n us (put u h) a.1 (length-put u h (rw e a.0) ∙ e)

first-committed : {history : List LogBlock} {m : ℕ} (s : ℕ) (us : List Update) (c : Page) → BeginsAt history m s → First history m c → First history m (committed_over s us c)
unfolding committed_over
first-committed s [] c g f = f
first-committed s (u ∷ us) tidy g f = some g
first-committed s (u ∷ us) (dirty x vs) g (some f) = some f

least-committed : {k : ℕ} (s : ℕ) (us : List Update) (c : Page) → k ≤ s → AtLeast k c → AtLeast k (committed_over s us c)
unfolding committed_over
least-committed s [] c h a = a
least-committed s (u ∷ us) tidy h a = AtLeast.some h
least-committed s (u ∷ us) (dirty x vs) h (AtLeast.some g) = AtLeast.some g

view-commit : (history : List LogBlock) (k t n s : ℕ) (g : List Update) (p : ℕ) → (view history p).group ≡ g → (view history p).start ≡ s
    → (view (history ++ (record { kind = commit n; keep_from = k; ticket = t } ∷ [])) p).page ≡ committed_over s (of_page p g) (view history p).page
unfolding view_block
view-commit history k t n s g p e f = ap (λ (t : View). t.page) (view-snoc history _ p) ∙ rw (e, f) refl

pub disk-commit : (history : List LogBlock) (home pages : ℕ → List ℕ) (m k n s : ℕ) (g : List Update) → Disk history home pages m
    → ((p : ℕ) → (view history p).group ≡ g) → ((p : ℕ) → (view history p).start ≡ s) → Legal 1024 g → BeginsAt history m s → k ≤ s
    → ((p : ℕ) → AtLeast k (view history p).page)
    → BeginsAt (history ++ (record { kind = commit n; keep_from = k; ticket = m + 1 } ∷ [])) (m + 1) k
    → Disk (history ++ (record { kind = commit n; keep_from = k; ticket = m + 1 } ∷ [])) home (λ p. redo (of_page p g) (pages p)) (m + 1)
disk-commit history home pages m k n s g d pd st lg bs ks a bg =
    let b : LogBlock = record { kind = commit n; keep_from = k; ticket = m + 1 } in
    let e : (p : ℕ) → (view (history ++ (b ∷ [])) p).page ≡ committed_over s (of_page p g) (view history p).page = λ p. view-commit history k (m + 1) n s g p (pd p) (st p) in
    record {
      right = λ p. rw (e p) (redo-committed s (of_page p g) (view history p).page (home p) ∙ ap (redo (of_page p g)) (d.right p));
      sized = d.sized;
      wide = λ p. length-redo 1024 (of_page p g) (pages p) (legal-of_page 1024 p g lg) (d.wide p);
      legal = λ p. rw (e p) (legal-committed 1024 s (of_page p g) (view history p).page (d.legal p) (legal-of_page 1024 p g lg));
      first_groups = λ p. rw (e p) (first-committed s (of_page p g) (view history p).page (begins-append b bs) (first-append b (d.first_groups p)));
      least = λ p. rw (e p, last_keep-snoc history b) (least-committed s (of_page p g) (view history p).page ks (a p));
      keep_from = keep_from-snoc history (m + 1) b bg;
    }

stage-commit : (home pages : ℕ → List ℕ) (g : List Update) (c : Cleaning) → Stage home pages c → Stage home (λ p. redo (of_page p g) (pages p)) (cleaning_after g c)
unfolding cleaning_after redo
stage-commit home pages g idle s = tt
stage-commit home pages g (second q) s = go (of_page q g) refl
  where
    go : (us : List Update) → of_page q g ≡ us → Stage home (λ p. redo (of_page p g) (pages p)) (idle_unless_none us (second q))
    go [] e = rw e s
    go (u ∷ us) e = tt
stage-commit home pages g (third q) s = go (of_page q g) refl
  where
    go : (us : List Update) → of_page q g ≡ us → Stage home (λ p. redo (of_page p g) (pages p)) (idle_unless_none us (third q))
    go [] e = rw e s
    go (u ∷ us) e = tt

abbrev pub committed : Book → List Update → List (List Update) → Book
committed b g r = record { pages = λ p. redo (of_page p g) (b.pages p); m = b.m + 1; queue = r; count = 0 }

-- all updates of the oldest group are stored
pub record Full (history : List LogBlock) (m n : ℕ) (g : List Update) : Type 0 where
  pub pd : (p : ℕ) → (view history p).group ≡ g
  pub st : (p : ℕ) → (view history p).start ≡ length history + 1 - n
  pub bg : BeginsAt history m (length history + 1 - n)

pub full : (history : List LogBlock) (m n : ℕ) (g : List Update) (q r : List (List Update)) → q ≡ g ∷ r → 0 < length g → length g ≤ n → Half history m n q → Full history m n g
full history m n g q r e z h (whole y) = absurd (omega arith)
full history m n g q r e z h (part g' r' e' y le pd st bg) =
    let s : g' ≡ g = cc in
    record { pd = λ p. pd p ∙ take_all n g' (rw s h) ∙ s; st = st; bg = bg }

pub invariant-commit : (w : World) (l : Live) (b : Book) (g : List Update) (r : List (List Update)) → Disk w.history w.home b.pages b.m → Alive w.history w.home l b
    → l.queue ≡ g ∷ r → length g ≤ l.count → Inv (commit_logged w l g r) (committed b g r)
unfolding commit_logged
invariant-commit w l b g r d a e h =
    let ws : Wells (g ∷ r) = rw e at a.wells in
    let f : Full w.history b.m l.count g = full w.history b.m l.count g l.queue r e ws.0.0 h a.half in
    let s : ℕ = length w.history + 1 - l.count in
    let k : ℕ = keep_from_of s l.dirty_pages in
    let x : LogBlock = record { kind = commit (length g); keep_from = k; ticket = l.ticket + 1 } in
    let y : LogBlock = record { kind = commit (length g); keep_from = k; ticket = b.m + 1 } in
    let xy : x ≡ y = ap (λ (n : ℕ). record { kind = commit (length g); keep_from = k; ticket = n + 1 }) a.ticket in
    let bg : BeginsAt (w.history ++ (y ∷ [])) (b.m + 1) k = keeps-append w.history b.m s y w.home l.dirty_pages a.distinct (λ p. first_good (a.sees p) (d.first_groups p)) (begins-append y f.bg) in
    record {
      disk = subst (λ (z : LogBlock). Disk (w.history ++ (z ∷ [])) w.home (λ p. redo (of_page p g) (b.pages p)) (b.m + 1)) (sym xy)
          (disk-commit w.history w.home b.pages b.m k (length g) s g d f.pd f.st ws.0.1 f.bg (keep_from-le s l.dirty_pages) (λ p. keep_from-least (w.home p) s p l.dirty_pages _ (a.sees p)) bg);
      lives = record {
        ticket = ap (λ (n : ℕ). n + 1) a.ticket;
        queue = refl;
        count = refl;
        sees = λ p. rw (view-commit w.history k (l.ticket + 1) (length g) s g p (f.pd p) (f.st p)) (sees-all s w.home p g l.dirty_pages (view w.history p).page (a.sees p));
        distinct = distinct-all s w.home g l.dirty_pages a.distinct;
        half = whole refl;
        wells = ws.1;
        stage = stage-commit w.home b.pages g l.cleaning a.stage;
      };
    }

-- ---- half a page is stored
pub same-page : (q : ℕ) (x : List ℕ) (home : ℕ → List ℕ) → set_page q x home q ≡ x
unfolding set_page
same-page q x home = simp (eq-eqb q q refl)

pub other-page : (p q : ℕ) (x : List ℕ) (home : ℕ → List ℕ) → (p ≡ q → ⊥) → set_page q x home p ≡ home p
unfolding set_page
other-page p q x home n = simp (ne_eqb p q n)

redo-half : (history : List LogBlock) (home pages : ℕ → List ℕ) (m q : ℕ) (x : List ℕ) → Disk history home pages m → Mix (home q) (pages q) x
    → (p : ℕ) → redo (updates_of (view history p).page) (set_page q x home p) ≡ redo (updates_of (view history p).page) (home p)
redo-half history home pages m q x d mx p = by-eq p q
    (λ e. rw (e, same-page q x home) (redo-mixed (updates_of (view history q).page) (home q) x (rw (d.right q, d.wide q) (d.legal q)) (rw (d.right q) mx)))
    (λ n. rw (other-page p q x home n) refl)

disk-half : (history : List LogBlock) (home pages : ℕ → List ℕ) (m q : ℕ) (x : List ℕ) → Disk history home pages m → Mix (home q) (pages q) x → Disk history (set_page q x home) pages m
disk-half history home pages m q x d mx = record {
  right = λ p. redo-half history home pages m q x d mx p ∙ d.right p;
  sized = λ p. by-eq p q (λ e. rw (e, same-page q x home) ((mixed-length mx).1 ∙ d.wide q)) (λ n. rw (other-page p q x home n) (d.sized p));
  wide = d.wide;
  legal = d.legal;
  first_groups = d.first_groups;
  least = d.least;
  keep_from = d.keep_from;
}

sees-home : (h h' : List ℕ) (x : Found) (c : Page) → redo (updates_of c) h' ≡ redo (updates_of c) h → Sees h x c → Sees h' x c
sees-home h h' x c e clear = clear
sees-home h h' x c e (held q) = held (q ∙ sym e)

-- the frame of a dirty page has the book's bytes
pub frame_right : (h b : List ℕ) (e : DirtyPage) (c : Page) → Sees h (at e) c → redo (updates_of c) h ≡ b → e.bytes ≡ b
frame_right h b e c (held q) r = q ∙ r

invariant-half : (w : World) (l : Live) (b : Book) (q : ℕ) (x : List ℕ) (c : Cleaning) → Disk w.history w.home b.pages b.m → Alive w.history w.home l b
    → Mix (w.home q) (b.pages q) x → Stage (set_page q x w.home) b.pages c → Inv (half_stored w l q x c) b
unfolding half_stored
invariant-half w l b q x c d a mx st = record {
  disk = disk-half w.history w.home b.pages b.m q x d mx;
  lives = record {
    ticket = a.ticket;
    queue = a.queue;
    count = a.count;
    sees = λ p. sees-home _ _ _ _ (redo-half w.history w.home b.pages b.m q x d mx p) (a.sees p);
    distinct = a.distinct;
    half = a.half;
    wells = a.wells;
    stage = st;
  };
}

take-front : (n : ℕ) (f h : List ℕ) → n ≤ length f → take n (take n f ++ drop n h) ≡ take n f
take-front n f h l = take_at (take n f) (drop n h) n (length-take-le n f l)

-- ---- Clean step
pub invariant-front : (w : World) (l : Live) (b : Book) (q : ℕ) (e : DirtyPage) → Disk w.history w.home b.pages b.m → Alive w.history w.home l b → look_up q l.dirty_pages ≡ at e
    → Inv (half_stored w l q (take 512 e.bytes ++ drop 512 (w.home q)) (second q)) b
invariant-front w l b q e d a f =
    let r : e.bytes ≡ b.pages q = frame_right _ _ e _ (rw f at (a.sees q)) (d.right q) in
    rw r (invariant-half w l b q _ (second q) d a (mixed-front 512 (w.home q) (b.pages q) (d.sized q ∙ sym (d.wide q)))
    (rw (same-page q) (take-front 512 (b.pages q) (w.home q) (omega (arith, d.wide q)))))

pub invariant-back : (w : World) (l : Live) (b : Book) (q : ℕ) (e : DirtyPage) → Disk w.history w.home b.pages b.m → Alive w.history w.home l b → look_up q l.dirty_pages ≡ at e
    → take 512 (w.home q) ≡ take 512 (b.pages q)
    → Inv (half_stored w l q (take 512 (w.home q) ++ drop 512 e.bytes) (third q)) b
invariant-back w l b q e d a f s =
    let r : e.bytes ≡ b.pages q = frame_right _ _ e _ (rw f at (a.sees q)) (d.right q) in
    rw r (invariant-half w l b q _ (third q) d a (mixed-back 512 (w.home q) (b.pages q) (d.sized q ∙ sym (d.wide q)))
    (rw (same-page q, s) (take-append-drop 512 (b.pages q))))

view-clean : (history : List LogBlock) (k t q p : ℕ) → (view (history ++ (record { kind = clean q; keep_from = k; ticket = t } ∷ [])) p).page ≡ cond (eqb p q) tidy (view history p).page
unfolding view_block
view-clean history k t q p = ap (λ (t : View). t.page) (view-snoc history _ p)

first-cond : {history : List LogBlock} {m : ℕ} (b : Bool) (c : Page) → First history m c → First history m (cond b tidy c)
first-cond true c f = none
first-cond false c f = f

legal-cond : (b : Bool) (c : Page) → Legal 1024 (updates_of c) → Legal 1024 (updates_of (cond b tidy c))
unfolding Legal
legal-cond true c f = tt
legal-cond false c f = f

pub invariant-clean : (w : World) (l : Live) (b : Book) (q : ℕ) → Disk w.history w.home b.pages b.m → Alive w.history w.home l b
    → w.home q ≡ b.pages q → l.count ≡ 0 → Inv (clean_logged w l q) b
unfolding clean_logged redo
invariant-clean w l b q d a h z =
    let es : List DirtyPage = without q l.dirty_pages in
    let k : ℕ = keep_from_of (length w.history + 1) es in
    let x : LogBlock = record { kind = clean q; keep_from = k; ticket = l.ticket } in
    let e : (p : ℕ) → (view (w.history ++ (x ∷ [])) p).page ≡ cond (eqb p q) tidy (view w.history p).page = λ p. view-clean w.history k l.ticket q p in
    let ss : (p : ℕ) → Sees (w.home p) (look_up p es) (view (w.history ++ (x ∷ [])) p).page = λ p. rw (e p) (sees-without (w.home p) p q l.dirty_pages (view w.history p).page (a.sees p)) in
    let fs : (p : ℕ) → First (w.history ++ (x ∷ [])) b.m (view (w.history ++ (x ∷ [])) p).page = λ p. rw (e p) (first-cond (eqb p q) _ (subst (λ (n : ℕ). First (w.history ++ (x ∷ [])) n (view w.history p).page) (omega arith) (first-append x (d.first_groups p)))) in
    let ds : Distinct es = distinct_without q l.dirty_pages a.distinct in
    let bg : BeginsAt (w.history ++ (x ∷ [])) b.m k = keep_from-begins (w.history ++ (x ∷ [])) b.m (length w.history + 1) es ds (λ p. first_good (ss p) (fs p)) (begins-last w.history b.m x cleans (omega (arith, a.ticket))) in
    record {
      disk = record {
        right = λ p. rw (e p) (by-eq p q (λ y. simp (eq-eqb _ _ y) (rw y h)) (λ n. simp (ne_eqb _ _ n) (d.right p)));
        sized = d.sized;
        wide = d.wide;
        legal = λ p. rw (e p) (legal-cond (eqb p q) _ (d.legal p));
        first_groups = fs;
        least = λ p. rw (last_keep-snoc w.history x) (keep_from-least (w.home p) _ p es _ (ss p));
        keep_from = keep_from-snoc w.history b.m x bg;
      };
      lives = record {
        ticket = a.ticket;
        queue = a.queue;
        count = a.count;
        sees = ss;
        distinct = ds;
        half = whole z;
        wells = a.wells;
        stage = tt;
      };
    }
