-- An accepted Clean step keeps its whole promise: the first half, the second half, or the clean block.
-- Assumes nothing.
use mathlib.Core.Path.{◌≡◌, refl, sym, ap, ◌∙◌, subst}
use mathlib.Core.Logic.{◌⊎◌, inl, inr}
use mathlib.Core.Bool.{true}
use mathlib.Core.List.{List, []}
use Prim.Native.Nat.{ℕ, ◌*◌, ◌^◌, ◌≤◌, ◌<◌}
use native.Mathlib.Omega.{arith}
use lib.ListN.{length, get_or, set}
use borrow.Author.Tests.{eq-eqb, ne_eqb}
use Rattle.std.proofs.lemmas.List.{drop_all}
use Rattle.block.proofs.Tests.{tests}
use Rattle.promises.specs.declared.State.{State}
use Rattle.promises.specs.declared.Dirty.{Dirty}
use Rattle.promises.specs.declared.Cleaning.{Cleaning}
use Rattle.promises.specs.declared.Cleaning.TheVariants.{Idle, First, Second, Third}
use Rattle.std.specs.Prelude.{Result}
use Rattle.promises.specs.declared.Refusal.{Refusal}
use Rattle.promises.specs.Answers.{done, replied, refusal_in}
use Rattle.promises.specs.Areas.{page_at, first_half, second_half, with_first_half, with_second_half}
use Rattle.promises.specs.Blocks.{clean, stored}
use Rattle.promises.specs.DirtyPages.{DirtyPage, at, look_up, without}
use Rattle.promises.specs.Contents.{contents_of, dirty_of}
use Rattle.promises.specs.States.{free, is_of, set_cleaning}
use Rattle.promises.specs.Sums.{dirty_count, first_groups, sequences_taken}
use Rattle.promises.specs.Sound.{sound, names, member, dirty_numbers}
use Rattle.promises.specs.CleanStep.{NoLater, Takes, clean_store, third_refusal, clean_refusal_of, CleanStep, CleanSteps}
use Rattle.promises.proofs.Replies.{answered-by}
use Rattle.promises.proofs.Soundness.{Sound, sound-of, of-sound}
use Rattle.promises.proofs.Changes.{sound-cleaning}
use Rattle.table.specs.Table.{Holds}
use Rattle.table.proofs.Entries.{freed-is, used-below}
use Rattle.table.proofs.Holding.{held-keep, sound-holds}
use Rattle.stepping.specs.Tables.{table_with, table_of}
use Rattle.stepping.proofs.Held.{held-named}
use Rattle.cleaning.specs.Cleans.{entry_at, rank_in, named_in, stores_made, TakesFrame, Named, Chosen, Fitting, cleaned_log, clean_done}
use Rattle.cleaning.proofs.Decision.{Accepted, accepted, block-passed}
use Rattle.cleaning.proofs.Choosing.{rank-zero, rank-named, dirty-at, first-used, rank-order, named_here, pages-small, frames-below, look-frame, look-all}
use Rattle.cleaning.proofs.Storing.{drops-page, sound-clean}

-- ---- the frame that is cleaned

-- an idle cleaning's is the one that comes first
chosen-first : (s : State) (frame : ℕ) → Sound s → (dirty_count s ≡ 0 → ⊥) → s.cleaning ≡ Idle
    → ((other : ℕ) → other < length s.dirty → rank_in 65536 (entry_at s frame) ≤ rank_in 65536 (entry_at s other)) → Chosen s frame
chosen-first s frame f some e least =
    let used : (entry_at s frame).first ≡ 0 → ⊥ = first-used s f frame some least in
    record { below = frames-below s f frame used; used = used; takes = subst (λ (c : Cleaning). TakesFrame c s frame) (sym e) least }

-- a named page's is the frame that holds it
chosen-named : (s : State) (page frame : ℕ) (c : Cleaning) → s.cleaning ≡ c → Named s page frame → TakesFrame c s frame → Chosen s frame
chosen-named s page frame c e n t = record { below = n.below; used = n.used; takes = subst (λ (x : Cleaning). TakesFrame x s frame) (sym e) t }

-- the page that a cleaning names is dirty
names-dirty : (s : State) (c : Cleaning) → sound s ≡ true → s.cleaning ≡ c → names c (dirty_numbers s.dirty) ≡ true
names-dirty s c h e = subst (λ (x : Cleaning). names x (dirty_numbers s.dirty) ≡ true) e (sound-of s h).cleaning

-- the frame with the least rank is the one that is cleaned
pub chosen-least : (s : State) (frame : ℕ) → sound s ≡ true → (dirty_count s ≡ 0 → ⊥)
    → ((other : ℕ) → rank_in (named_in s.cleaning) (entry_at s frame) ≤ rank_in (named_in s.cleaning) (entry_at s other)) → Chosen s frame
chosen-least s frame h some least = go s.cleaning refl
  where
    f : Sound s
    f = sound-of s h

    by_name : (page : ℕ) (c : Cleaning) → s.cleaning ≡ c → named_in c ≡ page → member page (dirty_numbers s.dirty) ≡ true → (page ≡ (entry_at s frame).page → TakesFrame c s frame) → Chosen s frame
    by_name page c e is m takes =
        let named : named_in s.cleaning ≡ page = ap named_in e ∙ is in
        let low : (other : ℕ) → rank_in page (entry_at s frame) ≤ rank_in page (entry_at s other) = subst (λ (n : ℕ). (other : ℕ) → rank_in n (entry_at s frame) ≤ rank_in n (entry_at s other)) named least in
        let zero : rank_in page (entry_at s frame) ≡ 0 = dirty-at page s.dirty _ m (λ other o. omega (arith, low other, rank-named page (entry_at s other) o)) in
        let n = named_here s f page frame (rank-zero page (entry_at s frame) zero) in
        chosen-named s page frame c e n (takes n.page_is)

    go : (c : Cleaning) → s.cleaning ≡ c → Chosen s frame
    go Idle e =
        let low : (other : ℕ) → rank_in 65536 (entry_at s frame) ≤ rank_in 65536 (entry_at s other) = subst (λ (n : ℕ). (other : ℕ) → rank_in n (entry_at s frame) ≤ rank_in n (entry_at s other)) (ap named_in e) least in
        chosen-first s frame f some e (λ other l. low other)
    go (First page) e = by_name page (First page) e refl (names-dirty s (First page) h e) (λ p. p)
    go (Second page) e = by_name page (Second page) e refl (names-dirty s (Second page) h e) (λ p. p)
    go (Third page) e = by_name page (Third page) e refl (names-dirty s (Third page) h e) (λ p. p)

-- ---- THE ACCEPTED STEP
module _ (s : State) (log home frames : List ℕ) (accepts : clean_refusal_of s log home frames ≡ 0) (frame : ℕ) (chosen : Chosen s frame) where
  tests-passed : Accepted s (length log) (length home) (length frames)
  tests-passed = accepted s (length log) (length home) (length frames) accepts

  facts : Sound s
  facts = sound-of s tests-passed.is_sound

  abbrev page : ℕ
  page = (entry_at s frame).page

  abbrev entry : DirtyPage
  entry = record { page = page; first = (entry_at s frame).first; bytes = page_at frames frame }

  abbrev pages : List DirtyPage
  pages = dirty_of s frames

  -- the frame is one of the entries, since it is used
  within : frame < length s.dirty
  unfolding first_groups
  within = used-below (length s.dirty) s.dirty frame (ap (λ (ds : List Dirty). length (first_groups ds)) (drop_all (length s.dirty) s.dirty (omega arith))) chosen.used

  page-found : look_up page pages ≡ at entry
  page-found = look-frame s facts frames frame within chosen.used

  pub fitting : (held : Dirty) → held ≡ entry_at s frame → Fitting (length home) (length frames) held.page frame
  fitting held same =
      let g = simp tests at tests-passed.fit in
      let e = ap (λ (d : Dirty). d.page) same in
      let p = pages-small s facts frame chosen.used in
      let l = chosen.below in
      let few = facts.frames.1 in
      let most = facts.pages.1 in
      record { frame_few = omega arith; page_few = omega arith; page_within = omega arith; frame_within = omega arith }

  takes-by : (c : Cleaning) → TakesFrame c s frame → Takes c pages page entry
  takes-by Idle t =
      λ other found q. look-all (NoLater entry.first page) other found frames 0 s.dirty (λ i h n. rank-order s facts frame i chosen.used n (t i h)) q
  takes-by (First named) t = sym t
  takes-by (Second named) t = sym t
  takes-by (Third named) t = sym t

  -- the step of a cleaning that is at this store
  step_by : (a : Result (Unit {0}) Refusal) (c : Cleaning) (r : State) (log' home' : List ℕ) → s.cleaning ≡ c → sound r ≡ true
      → log' ≡ (clean_store c s log home pages (contents_of s []) page entry).log → home' ≡ (clean_store c s log home pages (contents_of s []) page entry).home
      → r ≡ (clean_store c s log home pages (contents_of s []) page entry).state
      → ((staging : List ℕ) → contents_of r staging ≡ (clean_store c s log home pages (contents_of s staging) page entry).contents)
      → ((other : ℕ) → look_up other (dirty_of r frames) ≡ look_up other (clean_store c s log home pages (contents_of s []) page entry).dirty_pages)
      → CleanStep s log home frames (record { state = r; answer = a }) log' home'
  step_by a c r log' home' e so l h t k d = record {
    page = page;
    entry = entry;
    found = page-found;
    takes = takes-by s.cleaning chosen.takes;
    stays_sound = so;
    log_is = l ∙ ap (λ (x : Cleaning). (clean_store x s log home pages (contents_of s []) page entry).log) (sym e);
    home_is = h ∙ ap (λ (x : Cleaning). (clean_store x s log home pages (contents_of s []) page entry).home) (sym e);
    state_is = t ∙ ap (λ (x : Cleaning). (clean_store x s log home pages (contents_of s []) page entry).state) (sym e);
    contents_are = λ staging. k staging ∙ ap (λ (x : Cleaning). (clean_store x s log home pages (contents_of s staging) page entry).contents) (sym e);
    dirty_are = λ other. d other ∙ ap (λ (x : Cleaning). look_up other (clean_store x s log home pages (contents_of s []) page entry).dirty_pages) (sym e);
  }

  -- the page is dirty
  page-named : member page (dirty_numbers s.dirty) ≡ true
  page-named = held-named (table_of s) frames pages (sound-holds s frames tests-passed.is_sound) page entry page-found

  -- a half's store leaves the state but for the cleaning
  half-steps : (a : Result (Unit {0}) Refusal) (c after : Cleaning) (log' home' : List ℕ) → s.cleaning ≡ c → names after (dirty_numbers s.dirty) ≡ true
      → log' ≡ (clean_store c s log home pages (contents_of s []) page entry).log → home' ≡ (clean_store c s log home pages (contents_of s []) page entry).home
      → set_cleaning s after ≡ (clean_store c s log home pages (contents_of s []) page entry).state
      → ((staging : List ℕ) → contents_of (set_cleaning s after) staging ≡ (clean_store c s log home pages (contents_of s staging) page entry).contents)
      → ((other : ℕ) → look_up other (dirty_of s frames) ≡ look_up other (clean_store c s log home pages (contents_of s []) page entry).dirty_pages)
      → CleanStep s log home frames (record { state = set_cleaning s after; answer = a }) log' home'
  half-steps a c after log' home' e n l h t k d =
      step_by a c (set_cleaning s after) log' home' e (of-sound (set_cleaning s after) (sound-cleaning s after facts n)) l h t k d

  module _ (a : Result (Unit {0}) Refusal) (r : State) where
    -- the first half is stored
    pub first_made : (stores_made s.cleaning ≡ 2 → ⊥) → (stores_made s.cleaning ≡ 1 → ⊥) → (held : Dirty) → held ≡ entry_at s frame
        → (log' home' : List ℕ) → r ≡ set_cleaning s (Second held.page) → log' ≡ log → home' ≡ with_first_half home held.page (first_half (page_at frames frame))
        → CleanStep s log home frames (record { state = r; answer = a }) log' home'
    unfolding clean_store
    first_made two one held same log' home' t l h =
        subst (λ (x : State). CleanStep s log home frames (record { state = x; answer = a }) log' home') (sym (t ∙ ap (λ (d : Dirty). set_cleaning s (Second d.page)) same))
        (go s.cleaning refl two one l (h ∙ ap (λ (d : Dirty). with_first_half home d.page (first_half (page_at frames frame))) same))
      where
        go : (c : Cleaning) → s.cleaning ≡ c → (stores_made c ≡ 2 → ⊥) → (stores_made c ≡ 1 → ⊥) → log' ≡ log → home' ≡ with_first_half home page (first_half (page_at frames frame))
            → CleanStep s log home frames (record { state = set_cleaning s (Second page); answer = a }) log' home'
        go Idle e two one l h = half-steps a Idle (Second page) log' home' e page-named l h refl (λ staging. refl) (λ other. refl)
        go (First named) e two one l h = half-steps a (First named) (Second page) log' home' e page-named l h refl (λ staging. refl) (λ other. refl)
        go (Second named) e two one l h = absurd (one refl)
        go (Third named) e two one l h = absurd (two refl)

    -- the second half is stored
    pub second-made : stores_made s.cleaning ≡ 1 → (held : Dirty) → held ≡ entry_at s frame
        → (log' home' : List ℕ) → r ≡ set_cleaning s (Third held.page) → log' ≡ log → home' ≡ with_second_half home held.page (second_half (page_at frames frame))
        → CleanStep s log home frames (record { state = r; answer = a }) log' home'
    unfolding clean_store
    second-made one held same log' home' t l h =
        subst (λ (x : State). CleanStep s log home frames (record { state = x; answer = a }) log' home') (sym (t ∙ ap (λ (d : Dirty). set_cleaning s (Third d.page)) same))
        (go s.cleaning refl one l (h ∙ ap (λ (d : Dirty). with_second_half home d.page (second_half (page_at frames frame))) same))
      where
        go : (c : Cleaning) → s.cleaning ≡ c → stores_made c ≡ 1 → log' ≡ log → home' ≡ with_second_half home page (second_half (page_at frames frame))
            → CleanStep s log home frames (record { state = set_cleaning s (Third page); answer = a }) log' home'
        go Idle e one l h = absurd (omega (arith, one))
        go (First named) e one l h = absurd (omega (arith, one))
        go (Second named) e one l h = half-steps a (Second named) (Third page) log' home' e page-named l h refl (λ staging. refl) (λ other. refl)
        go (Third named) e one l h = absurd (omega (arith, one))

  -- the sequence of a clean block that is accepted
  third-passed : stores_made s.cleaning ≡ 2 → (s.stored ≡ 0) × (sequences_taken s ≡ 2 ^ 48 → ⊥)
  third-passed two = go s.cleaning two tests-passed.third
    where
      go : (c : Cleaning) → stores_made c ≡ 2 → third_refusal s c ≡ 0 → (s.stored ≡ 0) × (sequences_taken s ≡ 2 ^ 48 → ⊥)
      go Idle two z = absurd (omega (arith, two))
      go (First named) two z = absurd (omega (arith, two))
      go (Second named) two z = absurd (omega (arith, two))
      go (Third named) two z = block-passed s named z

  -- what the clean block's store leans on
  pub third-ready : stores_made s.cleaning ≡ 2 → (1 ≤ s.slots) × (s.slots ≤ 1024) × (length log ≡ s.slots * 512) × (s.next < 2 ^ 48)
  third-ready two =
      let g = simp tests at tests-passed.fit in
      let n : sequences_taken s ≡ 2 ^ 48 → ⊥ = (third-passed two).1 in
      (omega (arith, facts.slots.0), facts.slots.1, omega arith, omega (arith, facts.sequence_sum, n))

  page-of : is_of page (get_or s.dirty frame free) ≡ true
  page-of = rw (ne_eqb _ _ chosen.used, eq-eqb page page refl)

  -- the clean block is stored, and the frame is free
  pub block_made : length s.dirty ≡ 32 → (a : Result (Unit {0}) Refusal) (r : State) → stores_made s.cleaning ≡ 2 → (log' home' : List ℕ) → r ≡ clean_done s (set s.dirty frame free) → log' ≡ cleaned_log s log frame
      → home' ≡ home → CleanStep s log home frames (record { state = r; answer = a }) log' home'
  unfolding clean_store
  block_made long a r two log' home' t l h =
      subst (λ (x : State). CleanStep s log home frames (record { state = x; answer = a }) log' home') (sym t) (go s.cleaning refl two)
    where
      held : Holds (table_with s (set s.dirty frame free)) frames (without page pages)
      held = drops-page s frame chosen.below (omega (arith, long, facts.frames.1)) chosen.used frames pages (sound-holds s frames tests-passed.is_sound)

      go : (c : Cleaning) → s.cleaning ≡ c → stores_made c ≡ 2 → CleanStep s log home frames (record { state = clean_done s (set s.dirty frame free); answer = a }) log' home'
      go Idle e two = absurd (omega (arith, two))
      go (First named) e two = absurd (omega (arith, two))
      go (Second named) e two = absurd (omega (arith, two))
      go (Third named) e two =
          let p = third-passed (ap stores_made e) in
          step_by a (Third named) (clean_done s (set s.dirty frame free)) log' home' e
          (of-sound _ (sound-clean s frames page entry (set s.dirty frame free) facts p.0 p.1 page-found held))
          (l ∙ ap (λ (n : ℕ). stored s.slots log s.next (record { kind = clean page; keep_from = n; ticket = s.ticket })) (held-keep (table_with s (set s.dirty frame free)) frames (without page pages) held s.next))
          h
          (ap (clean_done s) (freed-is page frame s.dirty facts.distinct_pages page-of))
          (λ staging. refl) held.looks

-- ---- THE WHOLE STEP: by what its test answers it is refused and leaves everything, or it makes its store
pub steps-by : (s : State) (log home frames : List ℕ) (r : State) (a : Result (Unit {0}) Refusal) (log' home' : List ℕ)
    → refusal_in a ≡ clean_refusal_of s log home frames
    → ((refusal_in a ≡ 0) × CleanStep s log home frames (record { state = r; answer = a }) log' home') ⊎ ((refusal_in a ≡ 0 → ⊥) × (r ≡ s) × (log' ≡ log) × (home' ≡ home))
    → CleanSteps s log home frames (record { state = r; answer = a }) log' home'
steps-by s log home frames r a log' home' e (inl w) = record {
  answer_is = answered-by a ∙ ap (λ (n : ℕ). replied n done) e;
  refused = λ n. absurd (n (sym e ∙ w.0));
  accepted = λ z. w.1;
}
steps-by s log home frames r a log' home' e (inr w) = record {
  answer_is = answered-by a ∙ ap (λ (n : ℕ). replied n done) e;
  refused = λ n. (w.1, w.2, w.3);
  accepted = λ z. absurd (w.0 (e ∙ z));
}
