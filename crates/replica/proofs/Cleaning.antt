-- A clean block that is fed: half of its page goes home, or it is taken, and its page's frame is free.
-- Assumes nothing.
use mathlib.Core.Path.{◌≡◌, refl, sym, ap, ◌∙◌, subst}
use mathlib.Core.Bool.{Bool, true, false, cond, not, ◌&&◌}
use mathlib.Core.List.{List, []}
use Prim.Native.Nat.{ℕ, ◌*◌, ◌≤◌, ◌<◌}
use native.Mathlib.Omega.{arith}
use lib.Dec.{eqb}
use lib.ListN.{length, get_or, set}
use borrow.Author.Tests.{eqb-true, eqb-false, not-true}
use Rattle.area.proofs.Laws.{and_both}
use Rattle.block.specs.Legal.{slot_of}
use Rattle.promises.specs.declared.State.{State}
use Rattle.promises.specs.declared.Dirty.{Dirty}
use Rattle.promises.specs.declared.Cleaning.{Cleaning}
use Rattle.promises.specs.declared.Cleaning.TheVariants.{Idle, First, Second, Third}
use Rattle.promises.specs.declared.Fed.TheVariants.{NotYet}
use Rattle.std.specs.Prelude.{Ok}
use Rattle.promises.specs.declared.Outcome.{Outcome}
use Rattle.promises.specs.declared.Fed.{Fed}
use Rattle.promises.specs.declared.Stop.{Stop}
use Rattle.promises.specs.Areas.{page_at, first_half, second_half, with_first_half, with_second_half, with_slot}
use Rattle.promises.specs.Answers.{fed_answered}
use Rattle.promises.specs.Blocks.{Kind, clean, LogBlock, slots_of}
use Rattle.promises.specs.DirtyPages.{DirtyPage, Found, absent, at, look_up, without}
use Rattle.promises.specs.Contents.{dirty_of}
use Rattle.promises.specs.Read.{at_home, in_frame, held_in}
use Rattle.promises.specs.Sound.{copy_sound, names, member, dirty_numbers}
use Rattle.promises.specs.States.{free, is_of, freed, set_cleaning}
use Rattle.promises.specs.Walk.{Walk, walk_block}
use Rattle.promises.specs.Feed.{standing, Feeding, stops, had, first, second, takes, clean_stage, clean_found, store_of, feeding, after, FramesAfter, Feeds}
use Rattle.promises.proofs.Soundness.{SoundAs, sound-as-of, of-sound-as}
use Rattle.promises.proofs.Table.{without-none}
use Rattle.promises.proofs.FedBytes as fed
use Rattle.promises.proofs.Passed.{Acts, Block, Passed, passed, first_of, second-of, takes_of}
use Rattle.promises.proofs.CopyPromised.{feeds-first, feeds-second}
use Rattle.table.specs.Table.{Holds}
use Rattle.table.proofs.Entries.{freed-is}
use Rattle.table.proofs.Holding.{sound-holds-as}
use Rattle.stepping.specs.Tables.{table_with, table_of}
use Rattle.stepping.proofs.Held.{held-named}
use Rattle.cleaning.specs.Cleans.{Fitting}
use Rattle.cleaning.proofs.Storing.{drops-page}
use Rattle.replica.specs.Taking.{made_of, taken_with}
use Rattle.replica.proofs.Held.{not-dirty, not-freed, in_frame_lem}
use Rattle.replica.proofs.Taking.{feeds-by}

-- ---- which store it is, by the stores made

stage-two : (c : Cleaning) (p : ℕ) (d : DirtyPage) (x : LogBlock) → made_of c p ≡ 2 → clean_stage c p d x ≡ takes x
stage-two Idle p d x e = absurd (omega arith)
stage-two (First n) p d x e = absurd (omega arith)
stage-two (Second n) p d x e = go (eqb n p) e
  where
    go : (b : Bool) → ◌≡◌ {A = ℕ} (cond b 1 0) 2 → cond b (second p d) (first p d) ≡ takes x
    go true e = absurd (omega arith)
    go false e = absurd (omega arith)
stage-two (Third n) p d x e = go (eqb n p) e
  where
    go : (b : Bool) → ◌≡◌ {A = ℕ} (cond b 2 0) 2 → cond b (takes x) (first p d) ≡ takes x
    go true e = refl
    go false e = absurd (omega arith)

stage-one : (c : Cleaning) (p : ℕ) (d : DirtyPage) (x : LogBlock) → made_of c p ≡ 1 → clean_stage c p d x ≡ second p d
stage-one Idle p d x e = absurd (omega arith)
stage-one (First n) p d x e = absurd (omega arith)
stage-one (Second n) p d x e = go (eqb n p) e
  where
    go : (b : Bool) → ◌≡◌ {A = ℕ} (cond b 1 0) 1 → cond b (second p d) (first p d) ≡ second p d
    go true e = refl
    go false e = absurd (omega arith)
stage-one (Third n) p d x e = go (eqb n p) e
  where
    go : (b : Bool) → ◌≡◌ {A = ℕ} (cond b 2 0) 1 → cond b (takes x) (first p d) ≡ second p d
    go true e = absurd (omega arith)
    go false e = absurd (omega arith)

stage-none : (c : Cleaning) (p : ℕ) (d : DirtyPage) (x : LogBlock) → (made_of c p ≡ 2 → ⊥) → (made_of c p ≡ 1 → ⊥) → clean_stage c p d x ≡ first p d
stage-none Idle p d x n m = refl
stage-none (First q) p d x n m = refl
stage-none (Second q) p d x n m = go (eqb q p) m
  where
    go : (b : Bool) → (◌≡◌ {A = ℕ} (cond b 1 0) 1 → ⊥) → cond b (second p d) (first p d) ≡ first p d
    go true m = absurd (m refl)
    go false m = refl
stage-none (Third q) p d x n m = go (eqb q p) n
  where
    go : (b : Bool) → (◌≡◌ {A = ℕ} (cond b 2 0) 2 → ⊥) → cond b (takes x) (first p d) ≡ first p d
    go true n = absurd (n refl)
    go false n = refl

acts-clean : (c : Cleaning) (p : ℕ) (f : Found) (x : LogBlock) → Acts (clean_found c p f x)
acts-clean c p absent x = tt
acts-clean Idle p (at d) x = tt
acts-clean (First n) p (at d) x = tt
acts-clean (Second n) p (at d) x = go (eqb n p)
  where
    go : (b : Bool) → Acts (cond b (second p d) (first p d))
    go true = tt
    go false = tt
acts-clean (Third n) p (at d) x = go (eqb n p)
  where
    go : (b : Bool) → Acts (cond b (takes x) (first p d))
    go true = tt
    go false = tt

-- ---- a copy's state stays sound with another cleaning of a dirty page
sound-halved : (s : State) (c : Cleaning) → copy_sound s ≡ true → names c (dirty_numbers s.dirty) ≡ true → copy_sound (set_cleaning s c) ≡ true
sound-halved s c so h =
    let f : SoundAs true s = sound-as-of true s so in
    of-sound-as true (set_cleaning s c) (record {
      pages = f.pages;
      slots = f.slots;
      frames = f.frames;
      distinct_pages = f.distinct_pages;
      pages_below = f.pages_below;
      frames_below = f.frames_below;
      firsts_below = f.firsts_below;
      ticket = f.ticket;
      distinct_areas = f.distinct_areas;
      areas_below = f.areas_below;
      places = f.places;
      groups = f.groups;
      queued = f.queued;
      staged = f.staged;
      reserved = f.reserved;
      described = f.described;
      stored = f.stored;
      cleaning = h;
      slot_sum = f.slot_sum;
      frame_sum = f.frame_sum;
      sequence_sum = f.sequence_sum;
      mark = f.mark;
    })

pub record Fits (s : State) (log home frames bytes : List ℕ) (page : ℕ) : Type 0 where
  pub is_sound : copy_sound s ≡ true
  pub below : page < s.pages
  pub few : s.pages ≤ 4096
  pub frame_few : s.frames ≤ 32
  pub home_long : length home ≡ s.pages * 1024
  pub frames_long : length frames ≡ s.frames * 1024

module _ (s : State) (log home frames bytes : List ℕ) (page : ℕ) (x : LogBlock) (k : x.kind ≡ clean page)
    (e : feeding s log home frames bytes ≡ store_of s frames (clean page) x) where
  acts : Acts (store_of s frames (clean page) x)
  acts = acts-clean s.cleaning page (look_up page (dirty_of s frames)) x

  kind-of : (b : LogBlock) (y : Feeding) → store_of s frames (clean page) x ≡ y → store_of s frames b.kind b ≡ y → b.kind ≡ clean page
  kind-of b (stops n m) q r = absurd (subst Acts q acts)
  kind-of b had q r = absurd (subst Acts q acts)
  kind-of b (first p d) q r = (first_of s frames b.kind b p d r).cleans ∙ sym (first_of s frames (clean page) x p d q).cleans
  kind-of b (second p d) q r = (second-of s frames b.kind b p d r).0.cleans ∙ sym (second-of s frames (clean page) x p d q).0.cleans
  kind-of b (takes z) q r = ap (λ (y : LogBlock). y.kind) ((takes_of s frames b.kind b z r).0 ∙ sym (takes_of s frames (clean page) x z q).0) ∙ k

  pub fits : Fits s log home frames bytes page
  fits =
      let c : Block s log home frames bytes (store_of s frames (clean page) x) = passed s log home frames bytes (store_of s frames (clean page) x) acts e in
      let t : Passed s log home frames bytes c.block (store_of s frames (clean page) x) = c.passed in
      let f : SoundAs true s = sound-as-of true s t.is_sound in
      let a = and_both (eqb (length log) (s.slots * 512) && eqb (length home) (s.pages * 1024)) (eqb (length frames) (s.frames * 1024)) t.fits in
      record {
        is_sound = t.is_sound;
        below = subst (fed.Placed s.pages) (kind-of c.block _ refl t.store) (fed.fed-facts s.slots s.pages s.next bytes c.block t.slot).placed;
        few = f.pages.1;
        frame_few = f.frames.1;
        home_long = eqb-true _ _ (and_both (eqb (length log) (s.slots * 512)) (eqb (length home) (s.pages * 1024)) a.0).1;
        frames_long = eqb-true _ _ a.1;
      }

  sound₂ : SoundAs true s
  sound₂ = sound-as-of true s fits.is_sound

  pub page-fits : page < 65536
  page-fits = omega (arith, fits.below, fits.few)

  walk-clean : after s log home frames x ≡ record { group = []; start = 0; ticket = s.ticket; dirty_pages = without page (dirty_of s frames) }
  unfolding walk_block
  walk-clean = ap (λ (c : Kind). walk_block (page_at home) s.next c (standing s (slots_of s.slots s.pages log) frames)) k

  -- taken, with these entries
  feeds-cleaned : feeding s log home frames bytes ≡ takes x → (dirty : List Dirty) → Holds (table_with s dirty) frames (without page (dirty_of s frames))
      → dirty ≡ freed page s.dirty → (r : Outcome Fed Stop) (log' : List ℕ) → r ≡ taken_with s s.ticket dirty 0
      → log' ≡ with_slot log (slot_of s.slots s.next) bytes → Feeds s log home frames bytes r log' home frames
  feeds-cleaned t dirty holds d r log' i l =
      feeds-by s log home frames bytes x t dirty frames
      (subst (λ (v : Walk). Holds (table_with s dirty) frames v.dirty_pages) (sym walk-clean) holds) r log'
      (i ∙ ap (λ (v : Walk). taken_with s v.ticket dirty (length v.group)) (sym walk-clean)) l
      (subst (λ (c : Kind). FramesAfter c s.dirty frames dirty frames) (sym k) (d, refl))

  module _ (held : held_in page 0 s.dirty ≡ at_home) where
    -- the page is not dirty
    pub takes-gone : feeding s log home frames bytes ≡ takes x
    takes-gone = e ∙ ap (λ (f : Found). clean_found s.cleaning page f x) (not-dirty page frames s.dirty held)

    pub feeds-gone : (r : Outcome Fed Stop) (log' : List ℕ) → r ≡ taken_with s s.ticket s.dirty 0
        → log' ≡ with_slot log (slot_of s.slots s.next) bytes → Feeds s log home frames bytes r log' home frames
    feeds-gone r log' i l =
        feeds-cleaned takes-gone s.dirty
        (subst (λ (es : List DirtyPage). Holds (table_of s) frames es)
        (sym (without-none page (dirty_of s frames) (not-dirty page frames s.dirty held))) (sound-holds-as true s frames fits.is_sound))
        (sym (not-freed page frames s.dirty held)) r log' i l

  module _ (frame : ℕ) (held : held_in page 0 s.dirty ≡ in_frame frame) where
    -- the page is in a frame
    module _ (h : frame < s.frames) (entry : Dirty) (is : entry ≡ get_or s.dirty frame free) where
      own : is_of page (get_or s.dirty frame free) ≡ true
      own = (in_frame_lem page frame frames s.dirty held).0

      abbrev there : DirtyPage
      there = record { page = (get_or s.dirty frame free).page; first = (get_or s.dirty frame free).first; bytes = page_at frames frame }

      found : look_up page (dirty_of s frames) ≡ at there
      found = (in_frame_lem page frame frames s.dirty held).1

      parts : (eqb (get_or s.dirty frame free).first 0 ≡ false) × (page ≡ (get_or s.dirty frame free).page)
      parts =
          let b = and_both (not (eqb (get_or s.dirty frame free).first 0)) (eqb page (get_or s.dirty frame free).page) own in
          (not-true _ b.0, eqb-true _ _ b.1)

      pub page-is : entry.page ≡ page
      page-is = ap (λ (d : Dirty). d.page) is ∙ sym parts.1

      staged : feeding s log home frames bytes ≡ clean_stage s.cleaning page there x
      staged = e ∙ ap (λ (f : Found). clean_found s.cleaning page f x) found

      pub fitting : Fitting (length home) (length frames) entry.page frame
      fitting =
          let f : Fits s log home frames bytes page = fits in
          record {
            frame_few = omega (arith, f.frame_few);
            page_few = omega (arith, page-is, f.below, f.few);
            page_within = omega (arith, page-is, f.below, f.home_long);
            frame_within = omega (arith, f.frames_long);
          }

      pub takes-third : made_of s.cleaning page ≡ 2 → feeding s log home frames bytes ≡ takes x
      takes-third m = staged ∙ stage-two s.cleaning page there x m

      pub feeds-third : made_of s.cleaning page ≡ 2 → length s.dirty ≡ 32 → (r : Outcome Fed Stop) (log' : List ℕ)
          → r ≡ taken_with s s.ticket (set s.dirty frame free) 0
          → log' ≡ with_slot log (slot_of s.slots s.next) bytes → Feeds s log home frames bytes r log' home frames
      feeds-third m long r log' i l =
          feeds-cleaned (takes-third m) (set s.dirty frame free)
          (subst (λ (p : ℕ). Holds (table_with s (set s.dirty frame free)) frames (without p (dirty_of s frames))) (sym parts.1)
          (drops-page s frame h (omega (arith, fits.frame_few)) (eqb-false _ _ parts.0) frames (dirty_of s frames) (sound-holds-as true s frames fits.is_sound)))
          (freed-is page frame s.dirty sound₂.distinct_pages own) r log' i l

      named : member page (dirty_numbers s.dirty) ≡ true
      named = held-named (table_of s) frames (dirty_of s frames) (sound-holds-as true s frames fits.is_sound) page there found

      pub feeds-half-two : made_of s.cleaning page ≡ 1 → (r : Outcome Fed Stop) (home' : List ℕ) → r.answer ≡ Ok NotYet → r.state ≡ set_cleaning s (Third entry.page)
          → home' ≡ with_second_half home entry.page (second_half (page_at frames frame)) → Feeds s log home frames bytes r log home' frames
      feeds-half-two m r home' a i g =
          let st : r.state ≡ set_cleaning s (Third page) = i ∙ ap (λ (p : ℕ). set_cleaning s (Third p)) page-is in
          feeds-second s log home frames bytes r log home' frames page there (staged ∙ stage-one s.cleaning page there x m)
          (record {
            answer_is = ap fed_answered a;
            log_is = refl;
            home_is = g ∙ ap (λ (p : ℕ). with_second_half home p (second_half (page_at frames frame))) page-is;
            frames_are = refl;
            state_is = st;
            stays_sound = ap copy_sound st ∙ sound-halved s (Third page) fits.is_sound named;
          })

      pub feeds-half-one : (made_of s.cleaning page ≡ 2 → ⊥) → (made_of s.cleaning page ≡ 1 → ⊥) → (r : Outcome Fed Stop) (home' : List ℕ) → r.answer ≡ Ok NotYet
          → r.state ≡ set_cleaning s (Second entry.page) → home' ≡ with_first_half home entry.page (first_half (page_at frames frame))
          → Feeds s log home frames bytes r log home' frames
      feeds-half-one n m r home' a i g =
          let st : r.state ≡ set_cleaning s (Second page) = i ∙ ap (λ (p : ℕ). set_cleaning s (Second p)) page-is in
          feeds-first s log home frames bytes r log home' frames page there (staged ∙ stage-none s.cleaning page there x n m)
          (record {
            answer_is = ap fed_answered a;
            log_is = refl;
            home_is = g ∙ ap (λ (p : ℕ). with_first_half home p (first_half (page_at frames frame))) page-is;
            frames_are = refl;
            state_is = st;
            stays_sound = ap copy_sound st ∙ sound-halved s (Second page) fits.is_sound named;
          })
