-- What the scan and the walk without bytes find is what Open finds with 4,096 pages and 32 frames, whatever home holds.
-- Assumes nothing.
use mathlib.Core.Path.{◌≡◌, refl, sym, ap, ◌∙◌, subst}
use mathlib.Core.Bool.{Bool, true, false, cond}
use mathlib.Core.List.{List, [], ◌∷◌}
use Prim.Native.Nat.{ℕ, zero, suc, ◌+◌, ◌-◌, ◌≤◌, ◌<◌}
use native.Mathlib.Numerals.{add-one}
use native.Mathlib.Omega.{arith}
use lib.Dec.{leb}
use lib.ListN.{length, get_or, replicate, length-replicate}
use borrow.Author.Tests.{le-leb}
use Rattle.block.specs.Legal.{legal, slot_of}
use Rattle.block.specs.declared.Block.{Block}
use Rattle.block.specs.declared.Kind as format
use Rattle.block.specs.declared.Kind.TheVariants.{Update, Commit, Clean}
use Rattle.promises.specs.Areas.{page_at, slots_in, pages_in}
use Rattle.promises.specs.Blocks.{Slot, unused, damaged, valid, kind_in, slot_at, slots_of}
use Rattle.promises.specs.DirtyPages.{keep_from_of}
use Rattle.promises.specs.Newest.{sequence_in, newest, keep_in, keep_of, blocks, all_unused, is_damaged, gathered}
use Rattle.promises.specs.Walk.{Walk, Finding, stops as finding_stops, stands as finding_stands, walk_from, finding, start_with}
use Rattle.recovery.specs.Log.{header_of, block_of, blocks_from, Legal}
use Rattle.opening.proofs.Gathering.{stands-legal, newest-stands, keep-is, finds-fresh, finds-damaged, finds-missing, finds-end, gathers-blocks, finds-blocks}
use Rattle.outline.specs.Outline.{
  Outline,
  Sketch,
  stops,
  stands,
  outline_of,
  sketch_of,
  outline_fits,
  seated,
  after,
  turned,
  step,
  steps,
  ended,
  started,
}
use Rattle.outline.specs.Marks.{earliest}
use Rattle.outline.proofs.Turning.{turned-update}
use Rattle.outline.proofs.Alike.{form_of, fields_from, steps-stopped, walk-alike, home-not-needed}
use Rattle.listing.specs.Listing.{headers_from}

-- ---- the fields of blocks, with their offsets and lengths or without

turned-form : (frames : ℕ) (kind : format.Kind) (bytes : List ℕ) (ticket sequence : ℕ) (outline : Outline)
    → turned frames kind ticket sequence outline ≡ turned frames (form_of (kind_in kind bytes)) ticket sequence outline
turned-form frames (Update index page offset size) bytes ticket sequence outline = sym (turned-update frames index page offset size ticket sequence outline)
turned-form frames (Commit updates) bytes ticket sequence outline = refl
turned-form frames (Clean page) bytes ticket sequence outline = refl

steps-form : (frames : ℕ) (log : List ℕ) (more sequence : ℕ) (sketch : Sketch)
    → steps frames (fields_from sequence (blocks_from log sequence more)) sketch ≡ steps frames (headers_from log sequence more) sketch
unfolding steps fields_from blocks_from headers_from
steps-form frames log zero sequence sketch = refl
steps-form frames log (suc more) sequence (stops refusal place) = steps-form frames log more (suc sequence) (stops refusal place)
steps-form frames log (suc more) sequence (stands next outline) =
    steps-form frames log more (suc sequence) (turned frames (form_of (block_of log sequence).kind) (header_of log sequence).ticket next outline)
    ∙ ap (steps frames (headers_from log (suc sequence) more)) (sym (turned-form frames (header_of log sequence).kind _ (header_of log sequence).ticket next outline))

blocks-length : (log : List ℕ) (sequence more : ℕ) → length (blocks_from log sequence more) ≡ more
unfolding blocks_from
blocks-length log sequence zero = refl
blocks-length log sequence (suc more) = ap suc (blocks-length log (suc sequence) more)

-- one block less is left
pub steps_next : (log : List ℕ) (sequence last : ℕ) (sketch sketch' : Sketch) → sequence ≤ last → sketch' ≡ step 32 (header_of log sequence) sketch
    → steps 32 (headers_from log (sequence + 1) (last + 1 - (sequence + 1))) sketch' ≡ steps 32 (headers_from log sequence (last + 1 - sequence)) sketch
unfolding steps headers_from
steps_next log sequence last sketch sketch' h e =
    let p : last + 1 - sequence ≡ suc (last + 1 - (sequence + 1)) = omega arith in
    rw (p, e, add-one)

pub steps-end : (log : List ℕ) (sequence last : ℕ) (sketch : Sketch) → last < sequence → steps 32 (headers_from log sequence (last + 1 - sequence)) sketch ≡ sketch
unfolding steps headers_from
steps-end log sequence last sketch h = let p : last + 1 - sequence ≡ 0 = omega arith in rw p

-- a walk that is refused at a block stays so
pub steps-refused : (log : List ℕ) (sequence last : ℕ) (sketch : Sketch) (refusal place : ℕ) → sequence ≤ last → stops refusal place ≡ step 32 (header_of log sequence) sketch
    → stops refusal place ≡ steps 32 (headers_from log sequence (last + 1 - sequence)) sketch
steps-refused log sequence last sketch refusal place h e =
    sym (steps-stopped 32 (headers_from log (sequence + 1) (last + 1 - (sequence + 1))) refusal place) ∙ steps_next log sequence last sketch (stops refusal place) h e

-- the last test leaves a refused walk as it is
pub ended-stopped : (slots refusal place : ℕ) → stops refusal place ≡ ended slots (stops refusal place)
unfolding ended
ended-stopped slots refusal place = refl

-- a walk that stands after so many blocks is so many places further
steps-place : (list : List Block) (sequence : ℕ) (outline : Outline) (next : ℕ) (outline' : Outline) → steps 32 list (stands sequence outline) ≡ stands next outline'
    → next ≡ sequence + length list
unfolding steps turned
steps-place [] sequence outline next outline' e = let p : sequence ≡ next = cc in omega arith
steps-place (block ∷ list) sequence outline next outline' e =
    turn (outline_fits outline block.kind block.ticket) (seated 32 block.kind outline) e
    (λ h. steps-place list (suc sequence) (after sequence block.kind outline) next outline' h)
  where
    stopped : (refusal : ℕ) (more : List Block) → steps 32 more (stops refusal sequence) ≡ stands next outline' → ⊥
    stopped refusal [] h = let z : ◌≡◌ {A = ℕ} 0 1 = cc in omega arith
    stopped refusal (b ∷ more) h = stopped refusal more h

    turn : (a b : Bool)
        → steps 32 list (cond a (cond b (stands (suc sequence) (after sequence block.kind outline)) (stops 9 sequence)) (stops 8 sequence)) ≡ stands next outline'
        → (steps 32 list (stands (suc sequence) (after sequence block.kind outline)) ≡ stands next outline' → next ≡ suc sequence + length list)
        → next ≡ sequence + suc (length list)
    turn true true h ih = omega (arith, ih h)
    turn true false h ih = absurd (stopped 9 list h)
    turn false b h ih = absurd (stopped 8 list h)

headers-length : (log : List ℕ) (sequence more : ℕ) → length (headers_from log sequence more) ≡ more
unfolding headers_from
headers-length log sequence zero = refl
headers-length log sequence (suc more) = ap suc (headers-length log (suc sequence) more)

-- a walk that stands at the end stands after the newest block
pub ended-place : (slots : ℕ) (log : List ℕ) (first last ticket next : ℕ) (outline : Outline) → first ≤ last
    → ended slots (steps 32 (headers_from log first (last + 1 - first)) (started first ticket)) ≡ stands next outline → next ≡ last + 1
unfolding ended
ended-place slots log first last ticket next outline h e =
    let w = within (steps 32 (headers_from log first (last + 1 - first)) (started first ticket)) e in
    omega (arith, steps-place (headers_from log first (last + 1 - first)) first _ next outline w, headers-length log first (last + 1 - first))
  where
    within : (sketch : Sketch) → ended slots sketch ≡ stands next outline → sketch ≡ stands next outline
    within (stops refusal place) k = k
    within (stands n o) k = test (leb (n - earliest n o.marks + length o.marks) slots) k
      where
        test : (t : Bool) → cond t (stands n o) (stops 8 (n - 1)) ≡ stands next outline → stands n o ≡ stands next outline
        test true k = k
        test false k = let z : ◌≡◌ {A = ℕ} 0 1 = cc in absurd (omega arith)

-- ---- a home of 4,096 pages

blank : ℕ → List ℕ
blank size = replicate size 0

blank-long : (size : ℕ) → length (blank size) ≡ size
unfolding blank
blank-long size = length-replicate size 0

paged : pages_in (length (blank 4194304)) ≡ 4096
paged = ap pages_in (blank-long 4194304)

-- ---- what is found tells what the sketch tells

pub from-stops : (f : Finding) (refusal place : ℕ) → sketch_of f ≡ stops refusal place → f ≡ finding_stops refusal place
from-stops (finding_stops r p) refusal place e = cc
from-stops (finding_stands n w) refusal place e = let z : ◌≡◌ {A = ℕ} 0 1 = cc in absurd (omega arith)

pub from-stands : (f : Finding) (next : ℕ) (outline : Outline) → sketch_of f ≡ stands next outline → (walk : Walk) × (f ≡ finding_stands next walk) × (outline_of walk ≡ outline)
from-stands (finding_stops r p) next outline e = let z : ◌≡◌ {A = ℕ} 0 1 = cc in absurd (omega arith)
from-stands (finding_stands n w) next outline e =
    let p : n ≡ next = cc in
    let q : outline_of w ≡ outline = cc in
    (w, ap (λ (m : ℕ). finding_stands m w) p, q)

unused-keep : (slots : List Slot) (i : ℕ) → all_unused slots ≡ true → keep_in (get_or slots i unused) ≡ 0
unfolding all_unused
unused-keep [] i e = refl
unused-keep (unused ∷ slots) zero e = refl
unused-keep (unused ∷ slots) (suc i) e = unused-keep slots i e
unused-keep (damaged ∷ slots) i e = let z : ◌≡◌ {A = ℕ} 0 1 = cc in absurd (omega arith)
unused-keep (valid sequence block ∷ slots) i e = let z : ◌≡◌ {A = ℕ} 0 1 = cc in absurd (omega arith)

-- ---- what Open finds

module _ (log : List ℕ) (big : 512 ≤ length log) where
  abbrev N : ℕ
  N = slots_in (length log)

  abbrev slots : List Slot
  slots = slots_of N 4096 log

  at_home : sketch_of (finding N 4096 32 log []) ≡ sketch_of (finding N (pages_in (length (blank 4194304))) 32 log (blank 4194304))
  at_home = home-not-needed N 4096 32 log [] (blank 4194304) ∙ ap (λ (pages : ℕ). sketch_of (finding N pages 32 log (blank 4194304))) (sym paged)

  -- no block
  pub found-fresh : all_unused slots ≡ true → sketch_of (finding N 4096 32 log []) ≡ started 1 0
  unfolding walk_from blocks_from keep_from_of
  found-fresh e = at_home ∙ ap sketch_of (finds-fresh log (blank 4194304) big 32 (ap (λ (pages : ℕ). all_unused (slots_of N pages log)) paged ∙ e))
      ∙ ap (λ (t : Bool). sketch_of (cond t (finding_stands 1 (start_with 0)) (finding_stops 8 0))) (le-leb 0 N (omega arith))

  pub keep-fresh : all_unused slots ≡ true → keep_of N slots ≡ 0
  keep-fresh e = unused-keep slots (slot_of N (newest slots)) e

  pub found-damaged : all_unused slots ≡ false → newest slots ≡ 0 → sketch_of (finding N 4096 32 log []) ≡ stops 7 0
  found-damaged e z =
      at_home
      ∙ ap sketch_of (finds-damaged log (blank 4194304) big 32 (ap (λ (pages : ℕ). all_unused (slots_of N pages log)) paged ∙ e)
      (ap (λ (pages : ℕ). newest (slots_of N pages log)) paged ∙ z))

  -- a sequence stands in its slot
  abbrev pub Stands : ℕ → Type 0
  Stands s = sequence_in (slot_at N 4096 log (slot_of N s)) ≡ s

  there : (s : ℕ) → Stands s → sequence_in (slot_at N (pages_in (length (blank 4194304))) log (slot_of N s)) ≡ s
  there s e = ap (λ (pages : ℕ). sequence_in (slot_at N pages log (slot_of N s))) paged ∙ e

  pub standing-legal : (s : ℕ) → 1 ≤ s → Stands s → (legal N 4096 (header_of log s) ≡ true) × ((header_of log s).sequence ≡ s)
  standing-legal s h e =
      let l : Legal log (blank 4194304) s = stands-legal log (blank 4194304) big s h (there s e) in
      (ap (λ (pages : ℕ). legal N pages (header_of log s)) (sym paged) ∙ l.rules, l.sequence_is)

  module _ (m k : ℕ) (is-newest : m ≡ newest slots) (is-keep : k ≡ (header_of log m).keep_from) (some : m ≡ 0 → ⊥) where
    at-pages : m ≡ newest (slots_of N (pages_in (length (blank 4194304))) log)
    at-pages = is-newest ∙ ap (λ (pages : ℕ). newest (slots_of N pages log)) (sym paged)

    pub newest-standing : Stands m
    newest-standing =
        subst Stands (sym is-newest)
        (subst (λ (pages : ℕ). sequence_in (slot_at N pages log (slot_of N (newest (slots_of N pages log)))) ≡ newest (slots_of N pages log)) paged
        (newest-stands log (blank 4194304) big (λ z. some (at-pages ∙ z))))

    pub keep-shown : keep_of N slots ≡ k
    keep-shown =
        subst (λ (pages : ℕ). keep_of N (slots_of N pages log) ≡ (header_of log (newest (slots_of N pages log))).keep_from) paged
        (keep-is log (blank 4194304) big (λ z. some (at-pages ∙ z)))
        ∙ ap (λ (x : ℕ). (header_of log x).keep_from) (sym is-newest) ∙ sym is-keep

    pub found-missing : (lost : ℕ) → 1 ≤ k → k ≤ m → k ≤ lost → lost ≤ m → ((s : ℕ) → k ≤ s → s < lost → Stands s) → (Stands lost → ⊥)
        → sketch_of (finding N 4096 32 log []) ≡ stops 7 lost
    found-missing lost one most l h f g =
        at_home
        ∙ ap sketch_of (finds-missing log (blank 4194304) big 32 m k at-pages is-keep some lost one l (omega arith) (λ s x y. there s (f s x y))
        (λ e. g (ap (λ (pages : ℕ). sequence_in (slot_at N pages log (slot_of N lost))) (sym paged) ∙ e)))

    module _ (one : 1 ≤ k) (most : k ≤ m) (all : (s : ℕ) → k ≤ s → s ≤ m → Stands s) where
      -- the slot after the newest
      end-there : (d : Bool) → is_damaged (slot_at N 4096 log (slot_of N (m + 1))) ≡ d → is_damaged (slot_at N (pages_in (length (blank 4194304))) log (slot_of N (m + 1))) ≡ d
      end-there d e = ap (λ (pages : ℕ). is_damaged (slot_at N pages log (slot_of N (m + 1)))) paged ∙ e

      pub found-end : is_damaged (slot_at N 4096 log (slot_of N (m + 1))) ≡ true → sketch_of (finding N 4096 32 log []) ≡ stops 7 (m + 1)
      found-end d =
          at_home
          ∙ ap sketch_of (finds-end log (blank 4194304) big 32 m k at-pages is-keep some one most (λ s x y. there s (all s x y)) (end-there true d))

      module _ (whole : is_damaged (slot_at N 4096 log (slot_of N (m + 1))) ≡ false) where
        pub found-blocks : sketch_of (finding N 4096 32 log []) ≡ ended N (steps 32 (headers_from log k (m + 1 - k)) (started k (header_of log k).ticket))
        found-blocks =
            at_home
            ∙ ap sketch_of (finds-blocks log (blank 4194304) big 32 m k at-pages is-keep some one most (λ s x y. there s (all s x y)) (end-there false whole))
            ∙ walk-alike N 32 (page_at (blank 4194304)) (m + 1) k (blocks_from log k (m + 1 - k)) (start_with (header_of log k).ticket)
            (omega (arith, blocks-length log k (m + 1 - k)))
            ∙ ap (ended N) (steps-form 32 log (m + 1 - k) k (started k (header_of log k).ticket))

        pub gathered-blocks : gathered N slots ≡ blocks (blocks_from log k (m + 1 - k))
        gathered-blocks =
            subst (λ (pages : ℕ). gathered N (slots_of N pages log) ≡ blocks (blocks_from log k (m + 1 - k))) paged
            (gathers-blocks log (blank 4194304) big 32 m k at-pages is-keep some one most (λ s x y. there s (all s x y)) (end-there false whole))
