-- The lines of a log, by what its examination tells.
-- Assumes nothing.
use mathlib.Core.Path.{◌≡◌, refl, sym, ap, subst, ◌∙◌}
use mathlib.Core.Bool.{Bool, true, cond}
use mathlib.Core.List.{List, [], ◌∷◌}
use Prim.Native.Nat.{ℕ, zero, suc, ◌+◌, ◌-◌, ◌*◌, ◌/◌, ◌≤◌, ◌<◌}
use native.Mathlib.Omega.{arith}
use lib.ListN.{length, get_or}
use borrow.Author.Tests.{eq-eqb, ne_eqb}
use Rattle.area.proofs.Parts.{length_part}
use Rattle.block.specs.Kind.{length_of, update_block}
use Rattle.block.specs.Legal.{legal}
use Rattle.block.specs.declared.Kind as format
use Rattle.block.specs.declared.Kind.TheVariants.{Update, Commit, Clean}
use Rattle.block.proofs.Facts.{facts, Facts}
use Rattle.block.proofs.Tests.{tests}
use Rattle.std.specs.Prelude.{Result, Ok, Err}
use Rattle.promises.specs.declared.Stop.{Stop}
use Rattle.promises.specs.Answers.{number_of}
use Rattle.promises.specs.Areas.{slots_in}
use Rattle.promises.specs.Blocks.{fields_of, kind_in}
use Rattle.promises.specs.Newest.{Gathered}
use Rattle.promises.specs.Walk.{stops}
use Rattle.recovery.specs.Log.{bytes_of, header_of, block_of, blocks_from}
use Rattle.recovery.proofs.Scanning.{length-slot}
use Rattle.lines.specs.Text.{first_line, block_line, line_of, refused_line, Shows}
use Rattle.listing.specs.declared.Examined.{Examined}
use Rattle.listing.specs.Listing.{shown_length, found, keep_shown, lines_from, block_lines, lines_in, lines_of, blocks_shown, Accepts, Examines}

-- ---- a block's line

fields_back : (sequence keep ticket : ℕ) (kind : format.Kind) (bytes : List ℕ) → length_of kind ≤ 472 → length bytes ≡ 512
    → fields_of sequence keep ticket (kind_in kind bytes) ≡ record { sequence = sequence; keep_from = keep; kind = kind; ticket = ticket }
fields_back sequence keep ticket (Update index page offset size) bytes h e =
    ap (λ (n : ℕ). update_block sequence keep index page offset n ticket) (length_part bytes 36 size (omega arith))
fields_back sequence keep ticket (Commit updates) bytes h e = refl
fields_back sequence keep ticket (Clean page) bytes h e = refl

-- the line of a legal block is the line of its header
pub line-of-header : (log : List ℕ) (sequence : ℕ) → 512 ≤ length log → legal (slots_in (length log)) 4096 (header_of log sequence) ≡ true → (header_of log sequence).sequence ≡ sequence
    → line_of sequence (block_of log sequence) ≡ block_line (header_of log sequence)
line-of-header log sequence big rules e =
    let f : Facts (slots_in (length log)) 4096 (header_of log sequence) = facts (slots_in (length log)) 4096 (header_of log sequence) rules in
    ap block_line
    (fields_back sequence (header_of log sequence).keep_from (header_of log sequence).ticket (header_of log sequence).kind (bytes_of log sequence) f.length (length-slot log sequence big)
    ∙ ap (λ (s : ℕ). record { sequence = s; keep_from = (header_of log sequence).keep_from; kind = (header_of log sequence).kind; ticket = (header_of log sequence).ticket }) (sym e))

-- ---- the lines of blocks

lines-length : (log : List ℕ) (keep count : ℕ) → length (lines_from keep (blocks_from log keep count)) ≡ count
unfolding lines_from blocks_from
lines-length log keep zero = refl
lines-length log keep (suc count) = ap suc (lines-length log (suc keep) count)

line_at : (log : List ℕ) (keep count i : ℕ) → i < count → get_or (lines_from keep (blocks_from log keep count)) i [] ≡ line_of (keep + i) (block_of log (keep + i))
unfolding lines_from blocks_from
line_at log keep zero i h = absurd (omega arith)
line_at log keep (suc count) zero h = ap (λ (s : ℕ). line_of s (block_of log s)) (omega arith)
line_at log keep (suc count) (suc i) h = line_at log (suc keep) count i (omega arith) ∙ ap (λ (s : ℕ). line_of s (block_of log s)) (omega arith)

-- ---- the lines of a log

module _ (log : List ℕ) (refusal place : ℕ) (e : found log ≡ stops refusal place) where
  pub lines-refused : lines_of log ≡ refused_line refusal place ∷ []
  unfolding lines_of
  lines-refused = ap (lines_in log) e

  pub count-refused : 1 ≡ length (lines_of log)
  count-refused = ap length (sym lines-refused)

  pub refused-shown : (index : ℕ) → index < length (lines_of log) → refused_line refusal place ≡ get_or (lines_of log) index []
  refused-shown index h =
      let z : index ≡ 0 = omega (arith, count-refused) in
      sym (ap (λ (ls : List (List ℕ)). get_or ls index []) lines-refused ∙ ap (λ (i : ℕ). get_or (refused_line refusal place ∷ []) i []) z)

module _ (log : List ℕ) (examined : Examined) where
  pub lines-accepted : Accepts log examined
      → lines_of log
      ≡ first_line (slots_in (length log)) examined.newest examined.keep examined.ticket ∷ lines_from examined.keep (blocks_from log examined.keep (blocks_shown examined))
  unfolding lines_of
  lines-accepted a =
      ap (lines_in log) a.found_is
      ∙ ap (λ (g : Gathered). first_line (slots_in (length log)) (examined.newest + 1 - 1) (keep_shown log) a.walk.ticket ∷ block_lines (keep_shown log) g) a.blocks_are
      ∙ ap (λ (k : ℕ). first_line (slots_in (length log)) (examined.newest + 1 - 1) k a.walk.ticket ∷ lines_from k (blocks_from log examined.keep (blocks_shown examined))) (sym a.keep_is)
      ∙ ap (λ (t : ℕ). first_line (slots_in (length log)) (examined.newest + 1 - 1) examined.keep t ∷ lines_from examined.keep (blocks_from log examined.keep (blocks_shown examined))) (sym a.ticket_is)
      ∙ ap (λ (m : ℕ). first_line (slots_in (length log)) m examined.keep examined.ticket ∷ lines_from examined.keep (blocks_from log examined.keep (blocks_shown examined))) same
    where
      same : examined.newest + 1 - 1 ≡ examined.newest
      same = omega arith

  pub count-accepted : Accepts log examined → length (lines_of log) ≡ suc (blocks_shown examined)
  count-accepted a = ap length (lines-accepted a) ∙ ap suc (lines-length log examined.keep (blocks_shown examined))

  pub first-shown : Accepts log examined → (index : ℕ) → index ≡ 0
      → first_line (slots_in (length log)) examined.newest examined.keep examined.ticket ≡ get_or (lines_of log) index []
  first-shown a index z = sym (ap (λ (ls : List (List ℕ)). get_or ls index []) (lines-accepted a) ∙ ap (λ (i : ℕ). get_or (first_line (slots_in (length log)) examined.newest examined.keep examined.ticket ∷ lines_from examined.keep (blocks_from log examined.keep (blocks_shown examined))) i []) z)

  pub block-shown : Accepts log examined → 512 ≤ length log → (index : ℕ) → index < length (lines_of log) → (index ≡ 0 → ⊥) → (sequence : ℕ)
      → sequence ≡ examined.keep + (index - 1) → block_line (header_of log sequence) ≡ get_or (lines_of log) index []
  block-shown a big zero h n sequence e = absurd (n refl)
  block-shown a big (suc i) h n sequence e =
      let few : i < blocks_shown examined = omega (arith, count-accepted a) in
      let l = a.legal_are i few in
      let at : sequence ≡ examined.keep + i = e ∙ omega arith in
      ap (λ (s : ℕ). block_line (header_of log s)) at
      ∙ sym (line-of-header log (examined.keep + i) big l.0 l.1)
      ∙ sym (line_at log examined.keep (blocks_shown examined) i few)
      ∙ sym (ap (λ (ls : List (List ℕ)). get_or ls (suc i) []) (lines-accepted a))

  -- how many blocks are shown
  pub shown-none : examined.newest ≡ 0 → blocks_shown examined ≡ 0
  shown-none z = ap (λ (b : Bool). cond b 0 (examined.newest + 1 - examined.keep)) (eq-eqb _ _ z)

  pub shown-some : (examined.newest ≡ 0 → ⊥) → blocks_shown examined ≡ examined.newest + 1 - examined.keep
  shown-some n = ap (λ (b : Bool). cond b 0 (examined.newest + 1 - examined.keep)) (ne_eqb _ _ n)

-- at most the first line and 128 blocks
pub lines-few : (log : List ℕ) (examined : Result Examined Stop) → Examines log examined → length (lines_of log) ≤ 129
lines-few log (Ok examined) x = omega (arith, count-accepted log examined x.1, x.1.blocks_few)
lines-few log (Err stop) x = omega (arith, count-refused log (number_of stop.refusal) stop.place x)

-- ---- lengths

pub shown-range : (size : ℕ) → shown_length size ≡ true → (size / 512 * 512 ≡ size) × (8 ≤ size / 512) × (size / 512 ≤ 128)
shown-range size h = let g = simp tests at h in omega arith

pub shows-as : (text text' area area' : List ℕ) (end : ℕ) → text ≡ text' → Shows text area area' end → Shows text' area area' end
shows-as text text' area area' end e s = subst (λ (t : List ℕ). Shows t area area' end) e s
