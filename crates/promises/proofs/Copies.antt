-- The invariant of a copy's run: log and home hold the blocks taken, and a sound state stands where they end. A feed keeps it.
-- Assumes nothing.
use mathlib.Core.Path.{◌≡◌, refl, sym, ap, ◌∙◌, subst, subst₂}
use mathlib.Core.Logic.{⊎_elim}
use mathlib.Core.Bool.{true}
use Prim.Native.Nat.{ℕ, zero, suc, ◌+◌, ◌*◌, ◌-◌, ◌%◌, ◌≤◌, ◌<◌}
use mathlib.Core.List.{List, [], ◌∷◌, ◌++◌, append-nil}
use native.Mathlib.Omega.{arith}
use native.Mathlib.Nat.{mod-lt}
use lib.ListN.{length, take, drop, set, length-append, length-take, length-drop}
use lib.Dec.{eqb}
use Rattle.area.specs.Part.{part}
use Rattle.area.proofs.Parts.{length-splice}
use Rattle.promises.specs.declared.Outcome.{Outcome}
use Rattle.promises.specs.declared.Stop.{Stop}
use Rattle.promises.specs.declared.Fed.{Fed}
use Rattle.promises.specs.declared.State.{State}
use Rattle.promises.specs.declared.Dirty.{Dirty}
use Rattle.promises.specs.declared.Cleaning.{Cleaning}
use Rattle.promises.specs.declared.Cleaning.TheVariants.{Second, Third}
use Rattle.promises.specs.Areas.{page_at, with_slot, with_first_half, with_second_half}
use Rattle.promises.specs.Updates.{Update, redo, of_page}
use Rattle.promises.specs.Blocks.{Kind, update, commit, clean, LogBlock, Slot, valid, slots_of}
use Rattle.promises.specs.DirtyPages.{DirtyPage, Found, absent, at, look_up, keep_from_of}
use Rattle.promises.specs.Contents.{dirty_of}
use Rattle.promises.specs.Walk.{Walk, walk_block, in_order, framed}
use Rattle.promises.specs.Sound.{copy_sound, readable}
use Rattle.promises.specs.Answers.{Reply, fed_answered}
use Rattle.promises.specs.Feed.{own_start, updates_from, standing, keep_right, span_fits, Feeding, stops, had, first, second, takes, fed_slot, feeding, FramesAfter, Takes, Same, after}
use Rattle.promises.specs.States.{set_cleaning}
use Rattle.promises.specs.Events.{Sizes, World}
use Rattle.promises.specs.Copy.{CopyBook, took, took_all, feeds, taken_in, CopyFeeding}
use Rattle.promises.proofs.History.Machine.{Live, idle, second as second', set_page, half_stored, World as Machine, up}
use Rattle.promises.proofs.History.Ledger as ledger
use Rattle.promises.proofs.History.Stored.{store}
use Rattle.promises.proofs.History.Sees.{by-eq, Sees, clear}
use Rattle.promises.proofs.History.Views.{Page, updates_of, View}
use Rattle.promises.proofs.History.Tally.{look_up-page}
use Rattle.promises.proofs.History.Invariant as inv
use Rattle.promises.proofs.History.Invariant.{Stage, Disk, Alive, view, view-snoc, frame_right, invariant-front, invariant-back, same-page, other-page}
use Rattle.promises.proofs.History.Whole.{Kept}
use Rattle.promises.proofs.History.Fed.{Follows}
use Rattle.promises.proofs.History.FedTurn.{Tests, after-book, AtHome, turns-on, follows-as}
use Rattle.promises.proofs.Ranges.{Ranged}
use Rattle.promises.proofs.Pages.{first-half, second-half, first-other, second-other}
use Rattle.promises.proofs.Slots.{slots_with}
use Rattle.promises.proofs.Kept.{sizes_of, stage_of}
use Rattle.promises.proofs.Openings.{framed-cong, block_cong}
use Rattle.promises.proofs.CleanSteps.{part-front-is, part-back-is}
use Rattle.promises.proofs.FedBytes.{fed-facts, Placed}
use Rattle.promises.proofs.Passed.{Passed, passed, first_of, second-of, Ready, takes_of}
use Rattle.promises.proofs.Taken.{group-step}

abbrev pub ledger_of : (ℕ → List ℕ) → ℕ → ledger.Book
ledger_of pages m = record { pages = pages; m = m; queue = []; count = 0 }

pub record CopyLives (z : Sizes) (s : State) (log frames : List ℕ) (m : ℕ) (history : List LogBlock) (home pages : ℕ → List ℕ) : Type 0 where
  pub page_count : s.pages ≡ z.pages
  pub slot_count : s.slots ≡ z.slots
  pub frame_count : s.frames ≡ z.frames
  pub frames_long : length frames ≡ z.frames * 1024
  pub next : s.next ≡ length history + 1
  pub follows : Follows (sizes_of z) home m history (standing s (slots_of z.slots z.pages log) frames)
  pub stage : Stage home pages (stage_of s.cleaning)

-- home and pages are those of the areas and the book, as far as there are pages
pub record CopyGood (z : Sizes) (s : State) (log home frames : List ℕ) (b : CopyBook) (history : List LogBlock) : Type 0 where
  pub home_pages : ℕ → List ℕ
  pub pages : ℕ → List ℕ
  pub kept : Kept (sizes_of z) (slots_of z.slots z.pages log) home_pages (ledger_of pages b.m) history
  pub log_long : length log ≡ z.slots * 512
  pub home_long : length home ≡ z.pages * 1024
  pub home_is : (p : ℕ) → p < z.pages → home_pages p ≡ page_at home p
  pub pages_are : (p : ℕ) → p < z.pages → pages p ≡ b.pages p
  pub half : b.group ≡ (view history 0).group
  pub live : copy_sound s ≡ true → CopyLives z s log frames b.m history home_pages pages
  -- the state is no desk's
  pub copy : readable s ≡ true → copy_sound s ≡ true

abbrev pub CopyGoodIn : Sizes → World → CopyBook → List LogBlock → Type 0
CopyGoodIn z w b history = CopyGood z w.state w.log w.home w.frames b history

tidy-home : (h x : List ℕ) (c : Page) → Sees h absent c → redo (updates_of c) h ≡ x → h ≡ x
unfolding redo
tidy-home h x c clear e = e

frames-long : (c : Kind) (entries entries' : List Dirty) (frames frames' : List ℕ) → FramesAfter c entries frames entries' frames' → length frames' ≡ length frames
frames-long (update i u) entries entries' frames frames' e = ap length e.1
frames-long (commit n) entries entries' frames frames' e = e.1
frames-long (clean q) entries entries' frames frames' e = ap length e.1

pub length-updates : (c : ℕ) (slots : List Slot) (i j : ℕ) → length (updates_from c slots i j) ≡ i
unfolding updates_from
length-updates c slots zero j = refl
length-updates c slots (suc i) j = ap suc (length-updates c slots i (suc j))

module _ (z : Sizes) (range : Ranged z) (s : State) (log home frames : List ℕ) (b : CopyBook) {history : List LogBlock} (g : CopyGood z s log home frames b history) where
  abbrev slots₀ : List Slot
  slots₀ = slots_of z.slots z.pages log

  abbrev stands : Walk
  stands = standing s slots₀ frames

  abbrev ledger₀ : ledger.Book
  ledger₀ = ledger_of g.pages b.m

  abbrev n : ℕ
  n = length history + 1

  big : 0 < z.slots
  big = omega arith

  -- ---- half a page is stored
  abbrev ghost : Live
  ghost = record { ticket = s.ticket; queue = []; count = 0; dirty_pages = dirty_of s frames; cleaning = idle }

  abbrev at₀ : Machine
  at₀ = record { history = history; home = g.home_pages; live = up ghost }

  alive-ghost : copy_sound s ≡ true → Alive history g.home_pages ghost ledger₀
  alive-ghost so =
      let f = (g.live so).follows in
      record { ticket = f.ticket; queue = refl; count = refl; sees = λ p. (f.tells p).sees; distinct = f.distinct; half = inv.whole refl; wells = tt; stage = tt }

  half-good : copy_sound s ≡ true → (home' : ℕ → List ℕ) (bytes : List ℕ) (c : Cleaning) → Disk history home' g.pages b.m
      → ((p : ℕ) → Sees (home' p) (look_up p (dirty_of s frames)) (view history p).page) → Stage home' g.pages (stage_of c)
      → length bytes ≡ length home → ((p : ℕ) → p < z.pages → home' p ≡ page_at bytes p)
      → copy_sound (set_cleaning s c) ≡ true → CopyGood z (set_cleaning s c) log bytes frames b history
  half-good so home' bytes c d ss sg ln hi to =
      let l = g.live so in
      let k = g.kept in
      let f = l.follows in
      let k' : Kept (sizes_of z) slots₀ home' ledger₀ history = record { holds = k.holds; based = k.based; half = k.half; formed = k.formed; ruled = k.ruled; total = k.total; roomy = k.roomy; disk = d } in
      let f' : Follows (sizes_of z) home' b.m history stands = record {
        tells = λ p. record { group = (f.tells p).group; start = (f.tells p).start; sees = ss p };
        ticket = f.ticket;
        distinct = f.distinct;
        pages = f.pages;
        places = f.places;
        legal = f.legal;
        tail = f.tail;
      } in
      let e4 : s.stored ≡ length stands.group = sym (length-updates s.slots slots₀ s.stored (s.next - s.stored)) in
      record {
        home_pages = home';
        pages = g.pages;
        kept = k';
        log_long = g.log_long;
        home_long = ln ∙ g.home_long;
        home_is = hi;
        pages_are = g.pages_are;
        half = g.half;
        live = λ y. record {
          page_count = l.page_count;
          slot_count = l.slot_count;
          frame_count = l.frame_count;
          frames_long = l.frames_long;
          next = l.next;
          follows = follows-as (sizes_of z) slots₀ home' ledger₀ history stands k' f' (set_cleaning s c) frames to l.slot_count l.page_count l.next e4 refl (λ p. refl);
          stage = sg;
        };
        copy = λ y. to;
      }

  -- what half a page starts from
  record Found₀ (q : ℕ) (e : DirtyPage) : Type 0 where
    below : q < z.pages
    fits : q * 1024 + 1024 ≤ length home
    long : length e.bytes ≡ 1024

  found₀ : copy_sound s ≡ true → (q : ℕ) (e : DirtyPage) → look_up q (dirty_of s frames) ≡ at e → Found₀ q e
  found₀ so q e f =
      let fl = (g.live so).follows in
      let h : q < z.pages = look_up-page z.pages q e (dirty_of s frames) f fl.pages in
      let fr : e.bytes ≡ g.pages q = frame_right _ _ e _ (subst (λ (x : Found). Sees (g.home_pages q) x (view history q).page) f (fl.tells q).sees) (g.kept.disk.right q) in
      record { below = h; fits = omega (arith, g.home_long); long = ap length fr ∙ g.kept.disk.wide q }

  pub do-first : copy_sound s ≡ true → (q : ℕ) (e : DirtyPage) → look_up q (dirty_of s frames) ≡ at e
      → copy_sound (set_cleaning s (Second q)) ≡ true → CopyGood z (set_cleaning s (Second q)) log (with_first_half home q (part e.bytes 0 512)) frames b history
  unfolding half_stored
  do-first so q e f to =
      let r = found₀ so q e f in
      let x : List ℕ = take 512 e.bytes ++ drop 512 (g.home_pages q) in
      let i = invariant-front at₀ ghost ledger₀ q e g.kept.disk (alive-ghost so) f in
      let ln : length (part e.bytes 0 512) ≡ 512 = ap length (part-front-is e.bytes) ∙ length-take 512 e.bytes ∙ omega (arith, r.long) in
      half-good so (set_page q x g.home_pages) (with_first_half home q (part e.bytes 0 512)) (Second q) i.disk i.lives.sees i.lives.stage
      (length-splice home (q * 1024) 512 (part e.bytes 0 512) (omega (arith, r.fits)) ln)
      (λ p h. by-eq p q
      (λ y. rw y (same-page q x g.home_pages ∙ sym (first-half home q r.fits (part e.bytes 0 512) ln ∙ rw (part-front-is e.bytes, ← (g.home_is q r.below)) refl)))
      (λ d. other-page p q x g.home_pages d ∙ g.home_is p h ∙ sym (first-other home q r.fits (part e.bytes 0 512) ln p d)))
      to

  pub do-second : copy_sound s ≡ true → (q : ℕ) (e : DirtyPage) → look_up q (dirty_of s frames) ≡ at e → s.cleaning ≡ Second q
      → copy_sound (set_cleaning s (Third q)) ≡ true → CopyGood z (set_cleaning s (Third q)) log (with_second_half home q (part e.bytes 512 512)) frames b history
  unfolding half_stored
  do-second so q e f c to =
      let r = found₀ so q e f in
      let x : List ℕ = take 512 (g.home_pages q) ++ drop 512 e.bytes in
      let sg : Stage g.home_pages g.pages (second' q) = subst (λ (y : Cleaning). Stage g.home_pages g.pages (stage_of y)) c (g.live so).stage in
      let i = invariant-back at₀ ghost ledger₀ q e g.kept.disk (alive-ghost so) f sg in
      let ln : length (part e.bytes 512 512) ≡ 512 = ap length (part-back-is e.bytes r.long) ∙ length-drop 512 e.bytes ∙ omega (arith, r.long) in
      half-good so (set_page q x g.home_pages) (with_second_half home q (part e.bytes 512 512)) (Third q) i.disk i.lives.sees i.lives.stage
      (length-splice home (q * 1024 + 512) 512 (part e.bytes 512 512) (omega (arith, r.fits)) ln)
      (λ p h. by-eq p q
      (λ y. rw y (same-page q x g.home_pages ∙ sym (second-half home q r.fits (part e.bytes 512 512) ln ∙ rw (part-back-is e.bytes r.long, ← (g.home_is q r.below)) refl)))
      (λ d. other-page p q x g.home_pages d ∙ g.home_is p h ∙ sym (second-other home q r.fits (part e.bytes 512 512) ln p d)))
      to

  -- ---- a block is taken
  sl : copy_sound s ≡ true → slots_of s.slots s.pages log ≡ slots₀
  sl so = let l = g.live so in ap (λ (i : ℕ). slots_of i s.pages log) l.slot_count ∙ ap (λ (i : ℕ). slots_of z.slots i log) l.page_count

  -- the walk reads home only at pages that are there
  same-walk : copy_sound s ≡ true → (c : Kind) → walk_block (page_at home) n c stands ≡ walk_block g.home_pages n c stands
  same-walk so c = block_cong z.pages n (page_at home) g.home_pages c stands (λ p h. sym (g.home_is p h)) (g.live so).follows.places

  after_is : copy_sound s ≡ true → (x : LogBlock) → after s log home frames x ≡ walk_block g.home_pages n x.kind stands
  after_is so x =
      ap (λ (y : List Slot). walk_block (page_at home) s.next x.kind (standing s y frames)) (sl so)
      ∙ ap (λ (i : ℕ). walk_block (page_at home) i x.kind stands) (g.live so).next ∙ same-walk so x.kind

  pub tests : (bytes : List ℕ) (x : LogBlock) (y : Feeding) → Passed s log home frames bytes x y → Tests z.slots z.frames n g.home_pages stands x
  tests bytes x y p =
      let so = p.is_sound in
      let l = g.live so in
      let k1 = subst (λ (a : List Slot). keep_right (page_at home) s.next x (standing s a frames) ≡ true) (sl so) p.keep in
      let k2 = subst (λ (i : ℕ). keep_right (page_at home) i x stands ≡ true) l.next k1 in
      let s1 = subst (λ (a : List Slot). span_fits s.slots (s.next + 1) (walk_block (page_at home) s.next x.kind (standing s a frames)) ≡ true) (sl so) p.span in
      let s2 = subst (λ (i : ℕ). span_fits s.slots (i + 1) (walk_block (page_at home) i x.kind stands) ≡ true) l.next s1 in
      let s3 = subst (λ (i : ℕ). span_fits i (n + 1) (walk_block (page_at home) n x.kind stands) ≡ true) l.slot_count s2 in
      let f1 = subst (λ (a : List Slot). framed s.frames (page_at home) x.kind (standing s a frames) ≡ true) (sl so) p.few in
      let f2 = subst (λ (i : ℕ). framed i (page_at home) x.kind stands ≡ true) l.frame_count f1 in
      record {
        order = subst (λ (a : List Slot). in_order x.kind x.ticket (standing s a frames) ≡ true) (sl so) p.order;
        keep = subst (λ (a : Walk). eqb x.keep_from (keep_from_of (own_start n x.kind stands) a.dirty_pages) ≡ true) (same-walk so x.kind) k2;
        span = subst (λ (a : Walk). span_fits z.slots (n + 1) a ≡ true) (same-walk so x.kind) s3;
        few = sym (framed-cong z.pages z.frames (page_at home) g.home_pages x.kind stands (λ p h. sym (g.home_is p h)) l.follows.places) ∙ f2;
      }

  at_home : (so : copy_sound s ≡ true) (c : Kind) → Ready s frames c → AtHome (sizes_of z) slots₀ g.home_pages ledger₀ history stands big g.kept (g.live so).follows c
  at_home so (update i u) r = tt
  at_home so (commit c) r = tt
  at_home so (clean q) r = ⊎_elim
      (λ (a : look_up q (dirty_of s frames) ≡ absent). tidy-home (g.home_pages q) (g.pages q) (view history q).page (subst (λ (x : Found). Sees (g.home_pages q) x (view history q).page) a ((g.live so).follows.tells q).sees) (g.kept.disk.right q))
      (λ (c : s.cleaning ≡ Third q). subst (λ (y : Cleaning). Stage g.home_pages g.pages (stage_of y)) c (g.live so).stage) r

  -- the slots, once the bytes are in theirs
  slots-taken : (bytes : List ℕ) (x : LogBlock) (y : Feeding) → Passed s log home frames bytes x y → slots_of z.slots z.pages (with_slot log (s.next % s.slots) bytes) ≡ store z.slots n x slots₀
  unfolding store
  slots-taken bytes x y p =
      let l = g.live p.is_sound in
      let fs : fed_slot z.slots z.pages bytes ≡ valid n x = subst (λ (i : ℕ). fed_slot z.slots z.pages bytes ≡ valid i x) l.next
      (subst₂ (λ (i j : ℕ). fed_slot i j bytes ≡ valid s.next x) l.slot_count l.page_count p.slot) in
      ap (λ (i : ℕ). slots_of z.slots z.pages (with_slot log (i % s.slots) bytes)) l.next
      ∙ ap (λ (i : ℕ). slots_of z.slots z.pages (with_slot log (n % i) bytes)) l.slot_count
      ∙ slots_with z.slots z.pages (n % z.slots) log bytes (mod-lt n big) g.log_long p.long
      ∙ ap (set slots₀ (n % z.slots)) (fed-facts z.slots z.pages n bytes x fs).slot

  abbrev book_after : copy_sound s ≡ true → Kind → ledger.Book
  book_after so c = after-book (sizes_of z) slots₀ g.home_pages ledger₀ history stands big g.kept (g.live so).follows c

  book-is : (so : copy_sound s ≡ true) (c : Kind) → book_after so c ≡ ledger_of (book_after so c).pages (took c b).m
  book-is so (update i u) = refl
  book-is so (commit c) = refl
  book-is so (clean q) = refl

  pages-after : (so : copy_sound s ≡ true) (c : Kind) (p : ℕ) → p < z.pages → (book_after so c).pages p ≡ (took c b).pages p
  pages-after so (update i u) p h = g.pages_are p h
  pages-after so (commit c) p h =
      ap (λ (us : List Update). redo (of_page p us) (g.pages p)) (((g.live so).follows.tells 0).group ∙ sym g.half) ∙ ap (redo (of_page p b.group)) (g.pages_are p h)
  pages-after so (clean q) p h = g.pages_are p h

  -- A BLOCK IS TAKEN
  pub do-taken : (bytes : List ℕ) (x y : LogBlock) → Passed s log home frames bytes x (takes y) → (result : Outcome Fed Stop) (log' home' frames' : List ℕ)
      → Takes s log home frames bytes x.kind (after s log home frames x) result log' home' frames' → CopyGood z result.state log' home' frames' (took x.kind b) (history ++ (x ∷ []))
  do-taken bytes x y p result log' home' frames' t =
      let so = p.is_sound in
      let l = g.live so in
      let rd = (takes_of s frames x.kind x y p.store).1 in
      let pl : Placed z.pages x.kind = (fed-facts z.slots z.pages s.next bytes x (subst₂ (λ (i j : ℕ). fed_slot i j bytes ≡ valid s.next x) l.slot_count l.page_count p.slot)).placed in
      let r = turns-on (sizes_of z) slots₀ g.home_pages ledger₀ history stands big g.kept l.follows x.kind x.keep_from x.ticket (tests bytes x (takes y) p) pl (at_home so x.kind rd) in
      let pages' : ℕ → List ℕ = (book_after so x.kind).pages in
      let m' : ℕ = (took x.kind b).m in
      let h' : List LogBlock = history ++ (x ∷ []) in
      let v' : Walk = walk_block g.home_pages n x.kind stands in
      let se : slots_of z.slots z.pages log' ≡ store z.slots n x slots₀ = ap (slots_of z.slots z.pages) t.log_is ∙ slots-taken bytes x (takes y) p in
      let k' : Kept (sizes_of z) (slots_of z.slots z.pages log') g.home_pages (ledger_of pages' m') h' =
      subst₂ (λ (a : List Slot) (c : ledger.Book). Kept (sizes_of z) a g.home_pages c h') (sym se) (book-is so x.kind) r.0 in
      let f' : Follows (sizes_of z) g.home_pages m' h' v' = subst (λ (c : ledger.Book). Follows (sizes_of z) g.home_pages c.m h' v') (book-is so x.kind) r.1 in
      let ce = t.state_is in
      let aw = after_is so x in
      let ln : length h' ≡ length history + 1 = length-append history (x ∷ []) in
      let e1 : result.state.slots ≡ z.slots = ap (λ (c : State). c.slots) ce ∙ l.slot_count in
      let e2 : result.state.pages ≡ z.pages = ap (λ (c : State). c.pages) ce ∙ l.page_count in
      let e3 : result.state.next ≡ length h' + 1 = ap (λ (c : State). c.next) ce ∙ omega (arith, l.next, ln) in
      let e4 : result.state.stored ≡ length v'.group = ap (λ (c : State). c.stored) ce ∙ ap (λ (c : Walk). length c.group) aw in
      let e5 : result.state.ticket ≡ v'.ticket = ap (λ (c : State). c.ticket) ce ∙ ap (λ (c : Walk). c.ticket) aw in
      let md : s.next % s.slots < z.slots = rw l.slot_count (mod-lt s.next big) in
      record {
        home_pages = g.home_pages;
        pages = pages';
        kept = k';
        log_long = ap length t.log_is ∙ length-splice log (s.next % s.slots * 512) 512 bytes (omega (arith, g.log_long)) p.long ∙ g.log_long;
        home_long = ap length t.home_is ∙ g.home_long;
        home_is = λ q h. g.home_is q h ∙ ap (λ (a : List ℕ). page_at a q) (sym t.home_is);
        pages_are = pages-after so x.kind;
        half = group-step 0 n x.kind b (view history 0) g.half ∙ ap (λ (a : View). a.group) (sym (view-snoc history x 0));
        live = λ a. record {
          page_count = e2;
          slot_count = e1;
          frame_count = ap (λ (c : State). c.frames) ce ∙ l.frame_count;
          frames_long = frames-long x.kind s.dirty result.state.dirty frames frames' t.frames_are ∙ l.frames_long;
          next = e3;
          follows = follows-as (sizes_of z) (slots_of z.slots z.pages log') g.home_pages (ledger_of pages' m') h' v' k' f' result.state frames' t.stays_sound e1 e2 e3 e4 e5
              (λ q. t.dirty_are q ∙ ap (λ (c : Walk). look_up q c.dirty_pages) aw);
          stage = subst (λ (c : Cleaning). Stage g.home_pages pages' (stage_of c)) (sym (ap (λ (c : State). c.cleaning) ce)) tt;
        };
        copy = λ a. t.stays_sound;
      }

-- ---- a feed
module _ (z : Sizes) (range : Ranged z) (w : World) (b : CopyBook) {history : List LogBlock} (g : CopyGoodIn z w b history) where
  abbrev Fed₁ : World → List LogBlock → Type 0
  Fed₁ w' more = CopyGoodIn z w' (took_all more b) (history ++ more)

  quiet : (w' : World) → CopyGoodIn z w' b history → Fed₁ w' []
  unfolding took_all
  quiet w' x = subst (CopyGoodIn z w' b) (sym (append-nil history)) x

  one-taken : (w' : World) (x : LogBlock) → CopyGoodIn z w' (took x.kind b) (history ++ (x ∷ [])) → Fed₁ w' (x ∷ [])
  unfolding took_all
  one-taken w' x h = h

  as_before : (result : Outcome Fed Stop) (log' home' frames' : List ℕ) → Same w.state w.log w.home w.frames result log' home' frames' → CopyGood z result.state log' home' frames' b history
  as_before result log' home' frames' q =
      subst (λ (a : List ℕ). CopyGood z result.state log' home' a b history) (sym q.frames_are)
      (subst (λ (a : List ℕ). CopyGood z result.state log' a w.frames b history) (sym q.home_is)
      (subst (λ (a : List ℕ). CopyGood z result.state a w.home w.frames b history) (sym q.log_is)
      (subst (λ (a : State). CopyGood z a w.log w.home w.frames b history) (sym q.state_is) g)))

  -- THE FEED KEEPS IT, OVER THE BLOCKS TAKEN
  pub do-feed : (bytes : List ℕ) (a : Reply) (w' : World) → CopyFeeding w bytes a w' → Fed₁ w' (taken_in z (feeds bytes) a)
  do-feed bytes a w' st = rw (st.reply_is, st.after) (go (feeding w.state w.log w.home w.frames bytes) refl)
    where
      w₁ : World
      w₁ = record { state = st.result.state; log = st.log'; home = st.home'; frames = st.frames'; staging = [] }

      go : (y : Feeding) → feeding w.state w.log w.home w.frames bytes ≡ y
          → CopyGood z st.result.state st.log' st.home' st.frames' (took_all (taken_in z (feeds bytes) (fed_answered st.result.answer)) b) (history ++ taken_in z (feeds bytes) (fed_answered st.result.answer))
      go (stops r p) e =
          let q = st.promise.refused r p e in
          rw q.0 (quiet w₁ (as_before st.result st.log' st.home' st.frames' q.2))
      go had e = let q = st.promise.already_had e in rw q.0 (quiet w₁ (as_before st.result st.log' st.home' st.frames' q.1))
      go (first p x) e =
          let q = st.promise.first_halved p x e in
          let c = passed w.state w.log w.home w.frames bytes (first p x) tt e in
          let h = first_of w.state w.frames c.block.kind c.block p x c.passed.store in
          let r = do-first z range w.state w.log w.home w.frames b g c.passed.is_sound p x h.found (subst (λ (t : State). copy_sound t ≡ true) q.state_is q.stays_sound) in
          rw (q.answer_is, q.log_is, q.home_is, q.frames_are, q.state_is) (quiet (record { state = set_cleaning w.state (Second p); log = w.log; home = with_first_half w.home p (part x.bytes 0 512); frames = w.frames; staging = [] }) r)
      go (second p x) e =
          let q = st.promise.second_halved p x e in
          let c = passed w.state w.log w.home w.frames bytes (second p x) tt e in
          let h = second-of w.state w.frames c.block.kind c.block p x c.passed.store in
          let r = do-second z range w.state w.log w.home w.frames b g c.passed.is_sound p x h.0.found h.1 (subst (λ (t : State). copy_sound t ≡ true) q.state_is q.stays_sound) in
          rw (q.answer_is, q.log_is, q.home_is, q.frames_are, q.state_is) (quiet (record { state = set_cleaning w.state (Third p); log = w.log; home = with_second_half w.home p (part x.bytes 512 512); frames = w.frames; staging = [] }) r)
      go (takes y) e =
          let q = st.promise.taken y e in
          let c = passed w.state w.log w.home w.frames bytes (takes y) tt e in
          let x : LogBlock = c.block in
          let xy : x ≡ y = (takes_of w.state w.frames x.kind x y c.passed.store).0 in
          let l = g.live c.passed.is_sound in
          let fs : fed_slot z.slots z.pages bytes ≡ valid w.state.next x = subst₂ (λ (i j : ℕ). fed_slot i j bytes ≡ valid w.state.next x) l.slot_count l.page_count c.passed.slot in
          let r = do-taken z range w.state w.log w.home w.frames b g bytes x y c.passed st.result st.log' st.home' st.frames'
          (subst (λ (v : LogBlock). Takes w.state w.log w.home w.frames bytes v.kind (after w.state w.log w.home w.frames v) st.result st.log' st.home' st.frames') (sym xy) q) in
          rw (q.answer_is, fs) (one-taken w₁ x r)
