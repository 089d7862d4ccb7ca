-- What the tests of the block of sequence next give, kind by kind, from the smallest first groups and the count of the pages dirty then.
-- Assumes nothing.
use mathlib.Core.Path.{◌≡◌, refl, sym, ap, ◌∙◌}
use mathlib.Core.Bool.{Bool, true, false, cond, ◌&&◌}
use mathlib.Core.List.{List, [], ◌∷◌, ◌++◌}
use Prim.Native.Nat.{ℕ, ◌+◌, ◌-◌}
use lib.Dec.{eqb, leb}
use lib.ListN.{length}
use Rattle.area.proofs.Laws.{by_cases}
use Rattle.promises.specs.declared.State.{State}
use Rattle.promises.specs.Updates.{Update}
use Rattle.promises.specs.Blocks.{update, commit, clean, LogBlock, slots_of}
use Rattle.promises.specs.DirtyPages.{DirtyPage, apply_all, without, keep_from_of}
use Rattle.promises.specs.Walk.{Walk, walk_block, in_order, framed}
use Rattle.promises.specs.Feed.{half_start, keep_right, span_fits, standing}
use Rattle.promises.proofs.Copies.{length-updates}
use Rattle.outline.specs.declared.Mark.{Mark}
use Rattle.outline.specs.Marks.{marks_of, pages_of, marked_all, unmarked, earliest}
use Rattle.outline.proofs.Alike.{marks-apply-all, marks-without, marks-earliest, marks-length}
use Rattle.feeding.specs.Tests.{turn_number}

-- ---- the number, from the tests
module _ (s : State) (home : ℕ → List ℕ) (v : Walk) (x : LogBlock) where
  abbrev fits₀ : Bool
  fits₀ = keep_right home s.next x v && span_fits s.slots (s.next + 1) (walk_block home s.next x.kind v)

  pub out_of_order_lem : in_order x.kind x.ticket v ≡ false → 8 ≡ turn_number s home v x
  unfolding turn_number
  out_of_order_lem e = rw e refl

  together : (a b c : Bool) → a ≡ true → (a && b && c) ≡ (b && c)
  together true b c e = refl
  together false b c e = ap (λ (t : Bool). t && (b && c)) e

  number_is : in_order x.kind x.ticket v ≡ true → turn_number s home v x ≡ cond fits₀ (cond (framed s.frames home x.kind v) 0 9) 8
  unfolding turn_number
  number_is e = ap (λ (t : Bool). cond t (cond (framed s.frames home x.kind v) 0 9) 8) (together (in_order x.kind x.ticket v) (keep_right home s.next x v) (span_fits s.slots (s.next + 1) (walk_block home s.next x.kind v)) e)

  module _ (fit : Bool) (is : fit ≡ fits₀) (order : in_order x.kind x.ticket v ≡ true) where
    pub unfit : fit ≡ false → 8 ≡ turn_number s home v x
    unfit e = sym (number_is order ∙ ap (λ (t : Bool). cond t (cond (framed s.frames home x.kind v) 0 9) 8) (sym is ∙ e))

    pub many : fit ≡ true → framed s.frames home x.kind v ≡ false → 9 ≡ turn_number s home v x
    many e f = sym (number_is order ∙ ap (λ (t : Bool). cond t (cond (framed s.frames home x.kind v) 0 9) 8) (sym is ∙ e) ∙ ap (λ (t : Bool). cond t 0 9) f)

    pub passes : fit ≡ true → framed s.frames home x.kind v ≡ true → 0 ≡ turn_number s home v x
    passes e f = sym (number_is order ∙ ap (λ (t : Bool). cond t (cond (framed s.frames home x.kind v) 0 9) 8) (sym is ∙ e) ∙ ap (λ (t : Bool). cond t 0 9) f)

-- ---- keep-from and H + D, over dirty pages without their bytes
abbrev pub fits_over : ℕ → ℕ → ℕ → ℕ → ℕ → List Mark → Bool
fits_over N next k own half marks = eqb k (earliest own marks) && leb (next + 1 - earliest half marks + length marks) N

over : (N next k own half : ℕ) (es : List DirtyPage) (marks : List Mark) → marks ≡ marks_of es
    → fits_over N next k own half marks ≡ (eqb k (keep_from_of own es) && leb (next + 1 - keep_from_of half es + length es) N)
over N next k own half es marks e = rw (e, marks-earliest own es, marks-earliest half es, marks-length es) refl

half-snoc : (next start : ℕ) (us : List Update) (u : Update) → half_start next (us ++ (u ∷ [])) start ≡ start
half-snoc next start [] u = refl
half-snoc next start (v ∷ us) u = refl

module _ (s : State) (home : ℕ → List ℕ) (v : Walk) (k t : ℕ) where
  -- an update leaves the dirty pages as they are
  pub update-fits-is : (index : ℕ) (u : Update) (own : ℕ) (marks : List Mark) → own ≡ cond (eqb index 1) s.next v.start → marks ≡ marks_of v.dirty_pages
      → fits_over s.slots s.next k own own marks ≡ fits₀ s home v (record { kind = update index u; keep_from = k; ticket = t })
  unfolding walk_block
  update-fits-is index u own marks o e = over s.slots s.next k own own v.dirty_pages marks e ∙ by_cases (eqb index 1)
      (λ h. rw (o, h) refl)
      (λ h. rw (o, h, half-snoc (s.next + 1) v.start v.group u) refl)

  pub clean-fits-is : (page : ℕ) (marks : List Mark) → marks ≡ unmarked page (marks_of v.dirty_pages)
      → fits_over s.slots s.next k s.next (s.next + 1) marks ≡ fits₀ s home v (record { kind = clean page; keep_from = k; ticket = t })
  unfolding walk_block
  clean-fits-is page marks e = over s.slots s.next k s.next (s.next + 1) (without page v.dirty_pages) marks (e ∙ sym (marks-without page v.dirty_pages))

  module _ (updates : ℕ) (marks : List Mark) (e : marks ≡ marked_all v.start (pages_of v.group) (marks_of v.dirty_pages)) where
    committed : marks ≡ marks_of (apply_all v.start home v.group v.dirty_pages)
    committed = e ∙ sym (marks-apply-all v.start home v.group v.dirty_pages)

    pub commit-fits-is : fits_over s.slots s.next k v.start (s.next + 1) marks ≡ fits₀ s home v (record { kind = commit updates; keep_from = k; ticket = t })
    unfolding walk_block
    commit-fits-is = over s.slots s.next k v.start (s.next + 1) (apply_all v.start home v.group v.dirty_pages) marks committed

    pub commit-framed : framed s.frames home (commit updates) v ≡ leb (length marks) s.frames
    unfolding framed
    commit-framed = ap (λ (n : ℕ). leb n s.frames) (marks-length (apply_all v.start home v.group v.dirty_pages) ∙ ap (λ (ms : List Mark). length ms) (sym committed))

pub update-framed : (frames : ℕ) (home : ℕ → List ℕ) (index : ℕ) (u : Update) (v : Walk) → framed frames home (update index u) v ≡ true
unfolding framed
update-framed frames home index u v = refl

pub clean-framed : (frames : ℕ) (home : ℕ → List ℕ) (page : ℕ) (v : Walk) → framed frames home (clean page) v ≡ true
unfolding framed
clean-framed frames home page v = refl

-- ---- where a copy stands, over a log and frames
module _ (s : State) (log frames : List ℕ) where
  abbrev pub stands : Walk
  stands = standing s (slots_of s.slots s.pages log) frames

  pub stored_is : s.stored ≡ length stands.group
  stored_is = sym (length-updates s.slots (slots_of s.slots s.pages log) s.stored (s.next - s.stored))
