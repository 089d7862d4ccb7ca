-- Open's walk with the bytes left out: it is the walk without bytes, so no refusal, no place, no ticket and no first group depends on home.
-- Assumes nothing.
use mathlib.Core.Path.{◌≡◌, refl, sym, ap, ◌∙◌}
use mathlib.Core.Bool.{Bool, true, false, cond}
use mathlib.Core.List.{List, [], ◌∷◌, ◌++◌}
use Prim.Native.Nat.{ℕ, suc, ◌+◌, ◌-◌, min}
use native.Mathlib.Omega.{arith}
use lib.Dec.{eqb, leb}
use lib.ListN.{length}
use Rattle.area.proofs.Laws.{by_cases}
use Rattle.block.specs.declared.Block.{Block}
use Rattle.block.specs.declared.Kind as format
use Rattle.block.specs.declared.Kind.TheVariants as formats
use Rattle.promises.specs.Areas.{page_at}
use Rattle.promises.specs.Updates.{Update}
use Rattle.promises.specs.Blocks.{Kind, update, commit, clean, kind_in, LogBlock, slots_of}
use Rattle.promises.specs.DirtyPages.{DirtyPage, apply, apply_all, without, keep_from_of}
use Rattle.promises.specs.Newest.{Gathered, missing, blocks, newest, keep_of, gathered}
use Rattle.promises.specs.Walk.{
  Walk,
  Finding,
  stops as finding_stops,
  stands as finding_stands,
  walk_block,
  in_order,
  framed,
  ending,
  walk_from,
  walk_gathered,
  finding,
  start_with,
  believed,
}
use Rattle.recovery.specs.Order.{in_order_after}
use Rattle.recovery.proofs.Ordering.{order_is, change-any}
use Rattle.outline.specs.declared.Mark.{Mark}
use Rattle.outline.specs.Marks.{marks_of, pages_of, marked, marked_all, unmarked, earliest}
use Rattle.outline.specs.Outline.{
  Outline,
  stops,
  stands,
  outline_of,
  sketch_of,
  outline_fits,
  seated,
  after,
  turned,
  steps,
  ended,
}

-- ---- dirty pages

marks-apply : (group : ℕ) (home : ℕ → List ℕ) (u : Update) (es : List DirtyPage) → marks_of (apply group home u es) ≡ marked group u.page (marks_of es)
unfolding apply marked
marks-apply group home u [] = refl
marks-apply group home u (e ∷ es) =
    by_cases (eqb u.page e.page)
    (λ t. rw t)
    (λ t. rw t (ap (λ (ms : List Mark). record { page = e.page; first = e.first } ∷ ms) (marks-apply group home u es)))

pub marks-apply-all : (group : ℕ) (home : ℕ → List ℕ) (us : List Update) (es : List DirtyPage)
    → marks_of (apply_all group home us es) ≡ marked_all group (pages_of us) (marks_of es)
unfolding apply_all marked_all
marks-apply-all group home [] es = refl
marks-apply-all group home (u ∷ us) es =
    marks-apply-all group home us (apply group home u es) ∙ ap (marked_all group (pages_of us)) (marks-apply group home u es)

pub marks-without : (page : ℕ) (es : List DirtyPage) → marks_of (without page es) ≡ unmarked page (marks_of es)
unfolding without unmarked
marks-without page [] = refl
marks-without page (e ∷ es) =
    by_cases (eqb page e.page)
    (λ t. rw t (marks-without page es))
    (λ t. rw t (ap (λ (ms : List Mark). record { page = e.page; first = e.first } ∷ ms) (marks-without page es)))

pub marks-earliest : (own : ℕ) (es : List DirtyPage) → keep_from_of own es ≡ earliest own (marks_of es)
unfolding keep_from_of earliest
marks-earliest own [] = refl
marks-earliest own (e ∷ es) = ap (min e.first) (marks-earliest own es)

pub marks-length : (es : List DirtyPage) → length es ≡ length (marks_of es)
marks-length [] = refl
marks-length (e ∷ es) = ap suc (marks-length es)

pub pages-length : (us : List Update) → length us ≡ length (pages_of us)
pages-length [] = refl
pages-length (u ∷ us) = ap suc (pages-length us)

pub pages-snoc : (us : List Update) (u : Update) → pages_of (us ++ (u ∷ [])) ≡ pages_of us ++ (u.page ∷ [])
pages-snoc [] u = refl
pages-snoc (v ∷ us) u = ap (λ (ps : List ℕ). v.page ∷ ps) (pages-snoc us u)

-- ---- one block

-- the kind as the format has it; its length plays no part
abbrev pub form_of : Kind → format.Kind
form_of (update index change) = formats.Update index change.page 0 0
form_of (commit updates) = formats.Commit updates
form_of (clean page) = formats.Clean page

form-alike : (kind : Kind) (ticket count walked : ℕ) → in_order_after kind ticket count walked ≡ in_order_after (kind_in (form_of kind) []) ticket count walked
form-alike (update index change) ticket count walked = change-any index ticket count walked change _
form-alike (commit updates) ticket count walked = refl
form-alike (clean page) ticket count walked = refl

order_alike : (kind : Kind) (ticket : ℕ) (walk : Walk) → in_order kind ticket walk ≡ outline_fits (outline_of walk) (form_of kind) ticket
order_alike kind ticket walk =
    order_is kind ticket (length (pages_of walk.group)) walk.ticket walk (sym (pages-length walk.group)) refl
    ∙ form-alike kind ticket (length (pages_of walk.group)) walk.ticket

frames-alike : (frames : ℕ) (home : ℕ → List ℕ) (kind : Kind) (walk : Walk) → framed frames home kind walk ≡ seated frames (form_of kind) (outline_of walk)
unfolding framed seated
frames-alike frames home (update index change) walk = refl
frames-alike frames home (commit updates) walk =
    ap (λ (n : ℕ). leb n frames)
    (marks-length (apply_all walk.start home walk.group walk.dirty_pages)
    ∙ ap (λ (ms : List Mark). length ms) (marks-apply-all walk.start home walk.group walk.dirty_pages))
frames-alike frames home (clean page) walk = refl

block-alike : (home : ℕ → List ℕ) (sequence : ℕ) (kind : Kind) (walk : Walk) → outline_of (walk_block home sequence kind walk) ≡ after sequence (form_of kind) (outline_of walk)
unfolding walk_block after
block-alike home sequence (update index change) walk =
    by_cases (eqb index 1)
    (λ t. rw t)
    (λ t. rw t
    (ap (λ (ps : List ℕ). record { group = ps; start = walk.start; ticket = walk.ticket; marks = marks_of walk.dirty_pages }) (pages-snoc walk.group change)))
block-alike home sequence (commit updates) walk =
    ap (λ (ms : List Mark). record { group = []; start = 0; ticket = walk.ticket + 1; marks = ms })
    (marks-apply-all walk.start home walk.group walk.dirty_pages)
block-alike home sequence (clean page) walk =
    ap (λ (ms : List Mark). record { group = []; start = 0; ticket = walk.ticket; marks = ms }) (marks-without page walk.dirty_pages)

end-alike : (slots next : ℕ) (walk : Walk) → sketch_of (ending slots next walk) ≡ ended slots (stands next (outline_of walk))
unfolding ended
end-alike slots next walk =
    ap (λ (t : Bool). sketch_of (cond t (finding_stands next walk) (finding_stops 8 (next - 1)))) test ∙ out (leb (next - earliest next (marks_of walk.dirty_pages) + length (marks_of walk.dirty_pages)) slots)
  where
    test : leb (next - keep_from_of next walk.dirty_pages + length walk.dirty_pages) slots
        ≡ leb (next - earliest next (marks_of walk.dirty_pages) + length (marks_of walk.dirty_pages)) slots
    test = rw (marks-earliest next walk.dirty_pages, marks-length walk.dirty_pages)

    out : (t : Bool) → sketch_of (cond t (finding_stands next walk) (finding_stops 8 (next - 1))) ≡ cond t (stands next (outline_of walk)) (stops 8 (next - 1))
    out true = refl
    out false = refl

-- ---- all blocks

-- the fields of so many blocks from a sequence on
unfoldable pub fields_from : ℕ → List LogBlock → List Block
fields_from sequence [] = []
fields_from sequence (block ∷ list) =
    record { sequence = sequence; keep_from = block.keep_from; kind = form_of block.kind; ticket = block.ticket } ∷ fields_from (suc sequence) list

pub steps-stopped : (frames : ℕ) (list : List Block) (refusal place : ℕ) → steps frames list (stops refusal place) ≡ stops refusal place
unfolding steps
steps-stopped frames [] refusal place = refl
steps-stopped frames (block ∷ list) refusal place = steps-stopped frames list refusal place

-- THE WALK WITHOUT BYTES is the promised walk, whatever home holds
pub walk-alike : (slots frames : ℕ) (home : ℕ → List ℕ) (next sequence : ℕ) (list : List LogBlock) (walk : Walk) → sequence + length list ≡ next
    → sketch_of (walk_from slots frames home next sequence list walk) ≡ ended slots (steps frames (fields_from sequence list) (stands sequence (outline_of walk)))
unfolding walk_from steps fields_from turned
walk-alike slots frames home next sequence [] walk e =
    end-alike slots next walk ∙ ap (λ (n : ℕ). ended slots (stands n (outline_of walk))) (omega arith)
walk-alike slots frames home next sequence (block ∷ list) walk e =
    turn (in_order block.kind block.ticket walk) (framed frames home block.kind walk) (order_alike block.kind block.ticket walk) (frames-alike frames home block.kind walk)
    (walk-alike slots frames home next (suc sequence) list (walk_block home sequence block.kind walk) (omega arith))
  where
    stopped : (refusal : ℕ) → stops refusal sequence ≡ ended slots (steps frames (fields_from (suc sequence) list) (stops refusal sequence))
    stopped refusal = unfold ended in sym (ap (ended slots) (steps-stopped frames (fields_from (suc sequence) list) refusal sequence))

    turn : (a b : Bool) → a ≡ outline_fits (outline_of walk) (form_of block.kind) block.ticket → b ≡ seated frames (form_of block.kind) (outline_of walk)
        → sketch_of (walk_from slots frames home next (suc sequence) list (walk_block home sequence block.kind walk))
        ≡ ended slots (steps frames (fields_from (suc sequence) list) (stands (suc sequence) (outline_of (walk_block home sequence block.kind walk))))
        → sketch_of (cond a (cond b (walk_from slots frames home next (suc sequence) list (walk_block home sequence block.kind walk)) (finding_stops 9 sequence)) (finding_stops 8 sequence))
        ≡ ended slots (steps frames (fields_from (suc sequence) list)
        (cond (outline_fits (outline_of walk) (form_of block.kind) block.ticket)
        (cond (seated frames (form_of block.kind) (outline_of walk)) (stands (suc sequence) (after sequence (form_of block.kind) (outline_of walk))) (stops 9 sequence))
        (stops 8 sequence)))
    turn true true p q ih = rw (← p, ← q, ← block-alike home sequence block.kind walk) ih
    turn true false p q ih = rw (← p, ← q) (stopped 9)
    turn false b p q ih = rw (← p) (stopped 8)

-- two walks that differ only in bytes, over two homes
module _ (slots frames : ℕ) (home home' : ℕ → List ℕ) (next : ℕ) where
  walk_same : (sequence : ℕ) (list : List LogBlock) (walk walk' : Walk) → outline_of walk ≡ outline_of walk'
      → sketch_of (walk_from slots frames home next sequence list walk) ≡ sketch_of (walk_from slots frames home' next sequence list walk')
  unfolding walk_from
  walk_same sequence [] walk walk' e = end-alike slots next walk ∙ ap (λ (o : Outline). ended slots (stands next o)) e ∙ sym (end-alike slots next walk')
  walk_same sequence (block ∷ list) walk walk' e =
      turn (in_order block.kind block.ticket walk) (framed frames home block.kind walk)
      (order_alike block.kind block.ticket walk ∙ ap (λ (o : Outline). outline_fits o (form_of block.kind) block.ticket) e ∙ sym (order_alike block.kind block.ticket walk'))
      (frames-alike frames home block.kind walk ∙ ap (seated frames (form_of block.kind)) e ∙ sym (frames-alike frames home' block.kind walk'))
      (walk_same (suc sequence) list (walk_block home sequence block.kind walk) (walk_block home' sequence block.kind walk')
      (block-alike home sequence block.kind walk ∙ ap (after sequence (form_of block.kind)) e ∙ sym (block-alike home' sequence block.kind walk')))
    where
      on : Finding
      on = walk_from slots frames home next (suc sequence) list (walk_block home sequence block.kind walk)

      on' : Finding
      on' = walk_from slots frames home' next (suc sequence) list (walk_block home' sequence block.kind walk')

      turn : (a b : Bool) → a ≡ in_order block.kind block.ticket walk' → b ≡ framed frames home' block.kind walk' → sketch_of on ≡ sketch_of on'
          → sketch_of (cond a (cond b on (finding_stops 9 sequence)) (finding_stops 8 sequence))
          ≡ sketch_of (cond (in_order block.kind block.ticket walk') (cond (framed frames home' block.kind walk') on' (finding_stops 9 sequence)) (finding_stops 8 sequence))
      turn true true p q ih = rw (← p, ← q) ih
      turn true false p q ih = rw (← p, ← q)
      turn false b p q ih = rw (← p)

-- NO REFUSAL AND NO LINE DEPENDS ON HOME: with other home bytes Open finds the same refusal and place, or the same next, ticket and dirty pages
-- with the same first groups
pub home-not-needed : (slots pages frames : ℕ) (log home home' : List ℕ)
    → sketch_of (finding slots pages frames log home) ≡ sketch_of (finding slots pages frames log home')
unfolding finding
home-not-needed slots pages frames log home home' = by-gathered (gathered slots (slots_of slots pages log))
  where
    by-gathered : (found : Gathered)
        → sketch_of (walk_gathered slots frames (page_at home) (slots_of slots pages log) found) ≡ sketch_of (walk_gathered slots frames (page_at home') (slots_of slots pages log) found)
    by-gathered (missing sequence) = refl
    by-gathered (blocks list) =
        walk_same slots frames (page_at home) (page_at home') (newest (slots_of slots pages log) + 1) (keep_of slots (slots_of slots pages log)) list
        (start_with (believed list)) (start_with (believed list)) refl
