-- The claim, by induction over the list.
use mathlib.Core.Path.{◌≡◌, refl, sym, ap, ◌∙◌, subst}
use Prim.Native.Nat.{ℕ, suc, ◌+◌, ◌-◌, ◌≤◌, ◌<◌}
use native.Mathlib.Omega.{arith}
use native.Mathlib.Decide.{dec_le}
use mathlib.Core.List.{List, [], ◌∷◌, ◌++◌}
use lib.ListN.{length, drop}
use lib.Seq.{drop_at}
use Rattle.promises.proofs.History.Legal.{Legal}
use Rattle.promises.specs.Updates.{Update, redo}
use Rattle.promises.proofs.History.Views.{Page, updates_of, no_view, view_from}
use Rattle.promises.specs.Blocks.{LogBlock}
use Rattle.promises.proofs.History.Machine.{last_keep, Live, World, down, up, walk, recover, shown_in}
use Rattle.promises.specs.DirtyPages.{Found, look_up, shown}
use Rattle.promises.specs.Walk.{Walk, walk_block, believed}
use Rattle.promises.proofs.History.Ledger.{Book, gone}
use Rattle.promises.proofs.History.Since.{AtLeast, Below, from-keep_from, below-track}
use Rattle.promises.proofs.History.Sees.{Sees, clear, held, tells-walk}
use Rattle.promises.proofs.History.WalkStart.{BeginsAt, Distinct, commits}
use Rattle.promises.proofs.History.Accepted.{step-distinct, step-ticket}
use Rattle.promises.proofs.History.Invariant.{view, First, Disk, Keep, empty, from, Half, whole, part, Well, Wells, Alive, Inv}

-- ---- Open
abbrev walk_at : ℕ → Walk
walk_at t = record { group = []; start = 0; ticket = t; dirty_pages = [] }

walk-distinct : (home : ℕ → List ℕ) (j : ℕ) (bs : List LogBlock) (v : Walk) → Distinct v.dirty_pages → Distinct (walk home j bs v).dirty_pages
unfolding walk
walk-distinct home j [] v d = d
walk-distinct home j (b ∷ bs) v d = walk-distinct home (suc j) bs _ (step-distinct home j b.kind v d)

walk-ticket : (home : ℕ → List ℕ) (j : ℕ) (bs : List LogBlock) (v : Walk) → (walk home j bs v).ticket ≡ v.ticket + commits bs
unfolding walk
walk-ticket home j [] v = omega arith
walk-ticket home j (b ∷ bs) v = omega (arith, walk-ticket home (suc j) bs (walk_block home j b.kind v), step-ticket home j b.kind v)

-- what Open walks over
pub rest : (history : List LogBlock) (m k : ℕ) (g : BeginsAt history m k) → drop (k - 1) history ≡ g.block ∷ g.post
rest history m k g = ap (drop (k - 1)) g.split ∙ drop_at g.pre (g.block ∷ g.post) (k - 1) (omega (arith, g.place))

tail_at : (history : List LogBlock) (m k p : ℕ) → BeginsAt history m k → AtLeast k (view history p).page → (view_from p k (drop (k - 1) history) no_view).page ≡ (view history p).page
tail_at history m k p g a =
    let l : Below k (view_from p 1 g.pre no_view).page = subst (λ (n : ℕ). Below n (view_from p 1 g.pre no_view).page) g.place (below-track p 1 g.pre no_view (omega arith) (omega arith) Below.none) in
    let a' : AtLeast k (view_from p 1 (g.pre ++ (g.block ∷ g.post)) no_view).page = subst (λ (x : List LogBlock). AtLeast k (view x p).page) g.split a in
    ap (λ (x : List LogBlock). (view_from p k x no_view).page) (rest history m k g)
    ∙ sym (from-keep_from p k g.pre g.block g.post g.place g.begins l a')
    ∙ ap (λ (x : List LogBlock). (view x p).page) (sym g.split)

tail-view : (history : List LogBlock) (m p : ℕ) → Keep history m → AtLeast (last_keep history) (view history p).page
    → (view_from p (last_keep history) (drop (last_keep history - 1) history) no_view).page ≡ (view history p).page
unfolding view_from last_keep
tail-view history m p (empty e z) a = rw e refl
tail-view history m p (from g) a = tail_at history m (last_keep history) p g a

tail-ticket : (history : List LogBlock) (m : ℕ) → Keep history m → believed (drop (last_keep history - 1) history) + commits (drop (last_keep history - 1) history) ≡ m
unfolding last_keep
tail-ticket history m (empty e z) = rw e (omega arith)
tail-ticket history m (from g) = rw (rest history m (last_keep history) g) g.tick

pub invariant-open : (w : World) (b : Book) → Disk w.history w.home b.pages b.m → Alive w.history w.home (recover w.home w.history) (gone b)
unfolding recover look_up
invariant-open w b d =
    let k : ℕ = last_keep w.history in
    let bs : List LogBlock = drop (k - 1) w.history in
    let v : Walk = walk_at (believed bs) in
    record {
      ticket = walk-ticket w.home k bs v ∙ tail-ticket w.history b.m d.keep_from;
      queue = refl;
      count = refl;
      sees = λ p. subst (λ (c : Page). Sees (w.home p) (look_up p (walk w.home k bs v).dirty_pages) c) (tail-view w.history b.m p d.keep_from (d.least p)) (tells-walk w.home p k bs v no_view (record { group = refl; start = refl; sees = clear })).sees;
      distinct = walk-distinct w.home k bs v tt;
      half = whole refl;
      wells = tt;
      stage = tt;
    }

-- ---- the calls
pub wells-append : (q : List (List Update)) (g : List Update) → Wells q → Well g → Wells (q ++ (g ∷ []))
wells-append [] g a b = (b, tt)
wells-append (x ∷ q) g a b = (a.0, wells-append q g a.1 b)

pub half-append : (history : List LogBlock) (m n : ℕ) (q : List (List Update)) (g : List Update) → Half history m n q → Half history m n (q ++ (g ∷ []))
half-append history m n q g (whole z) = whole z
half-append history m n q g (part x r e z l pd st bg) = part x (r ++ (g ∷ [])) (ap (λ (y : List (List Update)). y ++ (g ∷ [])) e) z l pd st bg

pub alive-end : (history : List LogBlock) (home : ℕ → List ℕ) (l : Live) (b : Book) (g : List Update) → Well g → Alive history home l b
    → Alive history home (record { ticket = l.ticket; queue = l.queue ++ (g ∷ []); count = l.count; dirty_pages = l.dirty_pages; cleaning = l.cleaning })
    (record { pages = b.pages; m = b.m; queue = b.queue ++ (g ∷ []); count = b.count })
alive-end history home l b g wg a = record {
  ticket = a.ticket;
  queue = ap (λ (y : List (List Update)). y ++ (g ∷ [])) a.queue;
  count = a.count;
  sees = a.sees;
  distinct = a.distinct;
  half = half-append history b.m l.count l.queue g a.half;
  wells = wells-append l.queue g a.wells wg;
  stage = a.stage;
}

-- a test of an order
pub by-lt {ℓ} : {X : Type ℓ} (a b : ℕ) → (a < b → X) → (b ≤ a → X) → X
by-lt a b f g = elim (dec_le (suc a) b) [ yes h ↦ f h | no h ↦ g (omega arith) ]

pub invariant-start : (home : ℕ → List ℕ) → ((p : ℕ) → length (home p) ≡ 1024) → Inv (record { history = []; home = home; live = down }) (record { pages = home; m = 0; queue = []; count = 0 })
unfolding view_from redo Legal
invariant-start home h = record {
  disk = record { right = λ p. refl; sized = h; wide = h; legal = λ p. tt; first_groups = λ p. First.none; least = λ p. AtLeast.none; keep_from = empty refl refl };
  lives = tt;
}

-- ---- what the invariant says to whoever looks
pub shows : (w : World) (l : Live) (b : Book) → Disk w.history w.home b.pages b.m → Alive w.history w.home l b → (p : ℕ) → shown_in w l p ≡ b.pages p
unfolding shown_in redo
shows w l b d a p = go (look_up p l.dirty_pages) (view w.history p).page (a.sees p) (d.right p)
  where
    go : (x : Found) (c : Page) → Sees (w.home p) x c → redo (updates_of c) (w.home p) ≡ b.pages p → shown x (w.home p) ≡ b.pages p
    go x c clear r = r
    go x c (held q) r = q ∙ r

pub shown-right : (history : List LogBlock) (home : ℕ → List ℕ) (l : Live) (b : Book) → Disk history home b.pages b.m → Alive history home l b → (p : ℕ) → shown (look_up p l.dirty_pages) (home p) ≡ b.pages p
unfolding shown_in
shown-right history home l b d al p = shows (record { history = history; home = home; live = up l }) l b d al p
