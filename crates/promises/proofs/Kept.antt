-- The invariant of a run: log and home hold a history, and a sound state says what the history and the book say.
-- Assumes nothing.
use mathlib.Core.Path.{◌≡◌, refl, sym, ap, ◌∙◌, subst}
use mathlib.Core.Bool.{true, false}
use Prim.Native.Nat.{ℕ, zero, suc, ◌+◌, ◌*◌, ◌≤◌, ◌<◌}
use mathlib.Core.List.{List, [], ◌∷◌, ◌++◌}
use native.Mathlib.Omega.{arith}
use lib.ListN.{length, get_or}
use borrow.Author.Tests.{eq-eqb, ne_eqb}
use Rattle.area.proofs.Laws.{by-eq}
use Rattle.promises.specs.declared.State.{State}
use Rattle.promises.specs.declared.Cleaning.{Cleaning}
use Rattle.promises.specs.declared.Cleaning.TheVariants.{Idle, First, Second, Third}
use Rattle.promises.specs.Areas.{page_at}
use Rattle.promises.specs.Updates.{Update, of_page}
use Rattle.promises.specs.Blocks.{LogBlock, slots_of}
use Rattle.promises.specs.DirtyPages.{DirtyPage, Found, look_up, apply, apply_all}
use Rattle.promises.specs.Contents.{Contents, contents_of, dirty_of, queue_of, list_of}
use Rattle.promises.specs.LogStep.{idle_unless_none, cleaning_after}
use Rattle.promises.specs.Sound.{sound}
use Rattle.promises.proofs.History.Legal.{Legal}
use Rattle.promises.proofs.History.Machine.{Live, idle, second, third}
use Rattle.promises.proofs.History.Machine as machine
use Rattle.promises.proofs.History.Ledger as ledger
use Rattle.promises.proofs.History.Sizes as full
use Rattle.promises.proofs.History.Sees.{Sees}
use Rattle.promises.proofs.History.WalkStart.{Distinct}
use Rattle.promises.proofs.History.Tally.{Pages}
use Rattle.promises.proofs.History.Accepted.{Ups}
use Rattle.promises.proofs.History.Invariant.{view, Half, Wells, Stage}
use Rattle.promises.proofs.History.Whole.{Kept, Runs, UpsQ}
use Rattle.promises.specs.Book.{Book}
use Rattle.promises.specs.Events.{Sizes, World}
use Rattle.promises.proofs.SoundFacts.{Facts, facts}

-- ---- the invariant's own terms
abbrev pub sizes_of : Sizes → full.Sizes
sizes_of z = record { N = z.slots; F = z.frames; P = z.pages; base = 1 }

abbrev pub book_of : (ℕ → List ℕ) → Book → ledger.Book
book_of pages b = record { pages = pages; m = b.m; queue = b.queue; count = b.count }

-- a cleaning at its first store has stored nothing yet
abbrev pub stage_of : Cleaning → machine.Cleaning
stage_of Idle = idle
stage_of (First p) = idle
stage_of (Second p) = second p
stage_of (Third p) = third p

abbrev pub live_of : State → List ℕ → List ℕ → Live
live_of s frames staging = record { ticket = s.ticket; queue = queue_of s staging; count = s.stored; dirty_pages = dirty_of s frames; cleaning = stage_of s.cleaning }

-- updates that the layout allows
abbrev pub Fit : ℕ → Update → Type 0
Fit P u = (u.page < P) × (1 ≤ length u.bytes) × (length u.bytes ≤ 472) × (u.offset + length u.bytes ≤ 1024)

abbrev pub Fits : ℕ → List Update → Type 0
Fits P [] = Unit {0}
Fits P (u ∷ us) = Fit P u × Fits P us

abbrev pub FitsAll : ℕ → List (List Update) → Type 0
FitsAll P [] = Unit {0}
FitsAll P (g ∷ q) = (Fits P g × (length g ≤ 16)) × FitsAll P q

pub record Lives (z : Sizes) (w : World) (b : Book) (history : List LogBlock) (home pages : ℕ → List ℕ) : Type 0 where
  pub page_count : w.state.pages ≡ z.pages
  pub slot_count : w.state.slots ≡ z.slots
  pub frame_count : w.state.frames ≡ z.frames
  pub list : list_of w.state w.staging ≡ b.list
  pub list_fits : Fits z.pages b.list
  pub queue_fits : FitsAll z.pages b.queue
  pub runs : Runs (sizes_of z) home (book_of pages b) history w.state.next (live_of w.state w.frames w.staging)

-- home and pages are those of the world and the book, as far as there are pages
pub record Good (z : Sizes) (w : World) (b : Book) (history : List LogBlock) : Type 0 where
  pub home : ℕ → List ℕ
  pub pages : ℕ → List ℕ
  pub kept : Kept (sizes_of z) (slots_of z.slots z.pages w.log) home (book_of pages b) history
  pub log_long : length w.log ≡ z.slots * 512
  pub home_long : length w.home ≡ z.pages * 1024
  pub home_is : (p : ℕ) → p < z.pages → home p ≡ page_at w.home p
  pub pages_are : (p : ℕ) → p < z.pages → pages p ≡ b.pages p
  pub desk : w.state.copy ≡ false
  pub live : sound w.state ≡ true → Lives z w b history home pages

-- ---- fits
pub fits-legal : (P : ℕ) (us : List Update) → Fits P us → Legal 1024 us
unfolding Legal
fits-legal P [] f = tt
fits-legal P (u ∷ us) f = (f.0.3, fits-legal P us f.1)

pub fits-updates : (P : ℕ) (us : List Update) → Fits P us → Ups P us
fits-updates P [] f = tt
fits-updates P (u ∷ us) f = (f.0.0, fits-updates P us f.1)

pub fits_more : (P : ℕ) (us : List Update) (u : Update) → Fits P us → Fit P u → Fits P (us ++ (u ∷ []))
fits_more P [] u f h = (h, tt)
fits_more P (v ∷ us) u f h = (f.0, fits_more P us u f.1 h)

pub fits-at : (P : ℕ) (us : List Update) (n : ℕ) (d : Update) → n < length us → Fits P us → Fit P (get_or us n d)
fits-at P [] n d h f = absurd (omega arith)
fits-at P (u ∷ us) zero d h f = f.0
fits-at P (u ∷ us) (suc n) d h f = fits-at P us n d (omega arith) f.1

pub all_more : (P : ℕ) (q : List (List Update)) (g : List Update) → FitsAll P q → Fits P g → length g ≤ 16 → FitsAll P (q ++ (g ∷ []))
all_more P [] g f h l = ((h, l), tt)
all_more P (x ∷ q) g f h l = (f.0, all_more P q g f.1 h l)

-- ---- a page's home bytes count only where the page is
pub apply-cong : (P s : ℕ) (home home' : ℕ → List ℕ) (u : Update) (es : List DirtyPage) → ((p : ℕ) → p < P → home p ≡ home' p) → u.page < P → apply s home u es ≡ apply s home' u es
unfolding apply
apply-cong P s home home' u [] h l = rw (h u.page l)
apply-cong P s home home' u (e ∷ es) h l = by-eq u.page e.page (λ q. simp (eq-eqb _ _ q)) (λ n. simp (ne_eqb _ _ n) (ap (λ (x : List DirtyPage). e ∷ x) (apply-cong P s home home' u es h l)))

pub apply-all-cong : (P s : ℕ) (home home' : ℕ → List ℕ) (us : List Update) (es : List DirtyPage) → ((p : ℕ) → p < P → home p ≡ home' p) → Ups P us → apply_all s home us es ≡ apply_all s home' us es
unfolding apply_all
apply-all-cong P s home home' [] es h l = refl
apply-all-cong P s home home' (u ∷ us) es h l = rw (apply-cong P s home home' u es h l.0) (apply-all-cong P s home home' us (apply s home' u es) h l.1)

-- ---- the same runs, said of another list of dirty pages that finds the same
module _ (z : full.Sizes) (home : ℕ → List ℕ) (b : ledger.Book) (history : List LogBlock) (n : ℕ) (l l' : Live) where
  pub runs_as : l'.ticket ≡ l.ticket → l'.queue ≡ l.queue → l'.count ≡ l.count → l'.cleaning ≡ l.cleaning
      → ((p : ℕ) → look_up p l'.dirty_pages ≡ look_up p l.dirty_pages) → Distinct l'.dirty_pages → Pages z.P l'.dirty_pages → Runs z home b history n l → Runs z home b history n l'
  runs_as t q c k d u p r =
      let a = r.alive in
      record {
        next = r.next;
        alive = record {
          ticket = t ∙ a.ticket;
          queue = q ∙ a.queue;
          count = c ∙ a.count;
          sees = λ x. subst (λ (f : Found). Sees (home x) f (view history x).page) (sym (d x)) (a.sees x);
          distinct = u;
          half = subst (λ (y : List (List Update)). Half history b.m l'.count y) (sym q) (subst (λ (y : ℕ). Half history b.m y l.queue) (sym c) a.half);
          wells = subst Wells (sym q) a.wells;
          stage = subst (Stage home b.pages) (sym k) a.stage;
        };
        pages = p;
        places = subst (UpsQ z.P) (sym q) r.places;
      }

-- what a state is seen to be, against the machine's terms
pub record Matches (z : Sizes) (v : Contents) (l : Live) (n : ℕ) (b : Book) : Type 0 where
  pub page_count : v.pages ≡ z.pages
  pub slot_count : v.slots ≡ z.slots
  pub frame_count : v.frames ≡ z.frames
  pub next : v.next ≡ n
  pub ticket : v.ticket ≡ l.ticket
  pub queue : v.queue ≡ l.queue
  pub stored : v.stored ≡ l.count
  pub cleaning : stage_of v.cleaning ≡ l.cleaning
  pub list : v.list ≡ b.list

-- A NEW STATE LIVES
pub lives-from : (z : Sizes) (w : World) (b : Book) (history : List LogBlock) (home pages : ℕ → List ℕ) (v : Contents) (l : Live) (n : ℕ) → Matches z v l n b
    → sound w.state ≡ true → contents_of w.state w.staging ≡ v → ((p : ℕ) → look_up p (dirty_of w.state w.frames) ≡ look_up p l.dirty_pages)
    → Fits z.pages b.list → FitsAll z.pages b.queue → Runs (sizes_of z) home (book_of pages b) history n l → Lives z w b history home pages
lives-from z w b history home pages v l n m so e d f fq r =
    let fs : Facts w.state w.frames = facts w.state w.frames so in
    let pc : w.state.pages ≡ z.pages = ap (λ (x : Contents). x.pages) e ∙ m.page_count in
    record {
      page_count = pc;
      slot_count = ap (λ (x : Contents). x.slots) e ∙ m.slot_count;
      frame_count = ap (λ (x : Contents). x.frames) e ∙ m.frame_count;
      list = ap (λ (x : Contents). x.list) e ∙ m.list;
      list_fits = f;
      queue_fits = fq;
      runs = runs_as (sizes_of z) home (book_of pages b) history w.state.next l (live_of w.state w.frames w.staging)
          (ap (λ (x : Contents). x.ticket) e ∙ m.ticket) (ap (λ (x : Contents). x.queue) e ∙ m.queue) (ap (λ (x : Contents). x.stored) e ∙ m.stored)
          (ap (λ (x : Contents). stage_of x.cleaning) e ∙ m.cleaning) d fs.distinct (subst (λ (p : ℕ). Pages p (dirty_of w.state w.frames)) pc fs.pages)
          (subst (λ (i : ℕ). Runs (sizes_of z) home (book_of pages b) history i l) (sym (ap (λ (x : Contents). x.next) e ∙ m.next)) r);
    }

-- a commit and the cleaning
pub cleaning-after : (g : List Update) (c : Cleaning) → stage_of (cleaning_after g c) ≡ machine.cleaning_after g (stage_of c)
unfolding cleaning_after machine.cleaning_after
cleaning-after g Idle = refl
cleaning-after g (First p) = go (of_page p g)
  where
    go : (us : List Update) → stage_of (idle_unless_none us (First p)) ≡ idle
    go [] = refl
    go (u ∷ us) = refl
cleaning-after g (Second p) = go (of_page p g)
  where
    go : (us : List Update) → stage_of (idle_unless_none us (Second p)) ≡ machine.idle_unless_none us (second p)
    go [] = refl
    go (u ∷ us) = refl
cleaning-after g (Third p) = go (of_page p g)
  where
    go : (us : List Update) → stage_of (idle_unless_none us (Third p)) ≡ machine.idle_unless_none us (third p)
    go [] = refl
    go (u ∷ us) = refl
