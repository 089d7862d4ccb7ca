-- A listing answers as Open does with 4,096 pages and 32 frames, whatever home holds.
-- Assumes nothing.
use mathlib.Core.Path.{◌≡◌, refl, sym, ap, ◌∙◌}
use mathlib.Core.Bool.{Bool, true, cond, ◌&&◌}
use mathlib.Core.List.{List, [], ◌∷◌}
use Prim.Native.Nat.{ℕ, ◌-◌, ◌*◌, ◌/◌, ◌≤◌}
use native.Mathlib.Omega.{arith}
use lib.ListN.{length}
use borrow.Author.Tests.{eq-eqb, le-leb}
use Rattle.area.proofs.Laws.{and2}
use Rattle.promises.specs.Areas.{slots_in, pages_in, home_length, frames_length, staging_length, log_fits, home_fits, frames_fit}
use Rattle.promises.specs.Walk.{Finding, stops, stands, finding}
use Rattle.promises.specs.Open.{open_finding}
use Rattle.lines.specs.Text.{first_line, refused_line}
use Rattle.outline.specs.Outline as outline
use Rattle.outline.specs.Outline.{Sketch, sketch_of}
use Rattle.outline.proofs.Alike.{home-not-needed}
use Rattle.listing.specs.Listing.{pages_shown, frames_shown, shown_length, found, keep_shown, gathered_in, block_lines, lines_in, lines_of}
use Rattle.listing.proofs.Showing.{shown-range}

-- a log of 8 to 128 whole slots, with a home of 4,096 pages, 32 frames and staging for them: what Open finds is what is listed, the bytes
-- of the dirty pages left out
pub as-open : (log home : List ℕ) → shown_length (length log) ≡ true → length home ≡ home_length pages_shown
    → sketch_of (open_finding log home (frames_length frames_shown) (staging_length frames_shown)) ≡ sketch_of (found log)
unfolding open_finding found
as-open log home fits size =
    ap (λ (t : Bool). sketch_of (cond t (finding (slots_in (length log)) (pages_in (length home)) 32 log home) (stops 1 0))) lengths
    ∙ ap (λ (n : ℕ). sketch_of (finding (slots_in (length log)) n 32 log home)) (ap pages_in size)
    ∙ home-not-needed (slots_in (length log)) 4096 32 log home []
    ∙ sym (ap (λ (t : Bool). sketch_of (cond t (finding (slots_in (length log)) 4096 32 log []) (stops 1 0))) fits)
  where
    range : (length log / 512 * 512 ≡ length log) × (8 ≤ length log / 512) × (length log / 512 ≤ 128)
    range = shown-range (length log) fits

    log-fits : log_fits (length log) ≡ true
    log-fits = and2 (eq-eqb (length log / 512 * 512) (length log) range.0) (and2 (le-leb 8 (length log / 512) range.1) (le-leb (length log / 512) 1024 (omega (arith, range.2))))

    home_fits_lem : home_fits (length home) ≡ true
    home_fits_lem = ap home_fits size

    lengths : (log_fits (length log) && home_fits (length home) && frames_fit 32768 15104) ≡ true
    lengths = and2 (and2 log-fits home_fits_lem) refl

-- the lines, by what is left of an opening's outcome without bytes
abbrev lines_by : List ℕ → Sketch → List (List ℕ)
lines_by log (outline.stops refusal place) = refused_line refusal place ∷ []
lines_by log (outline.stands next walk) =
    first_line (slots_in (length log)) (next - 1) (keep_shown log) walk.ticket ∷ block_lines (keep_shown log) (gathered_in log)

lines-by : (log : List ℕ) (finding : Finding) → lines_in log finding ≡ lines_by log (sketch_of finding)
lines-by log (stops refusal place) = refl
lines-by log (stands next walk) = refl

-- NO LINE DEPENDS ON HOME: the lines by what Open finds, whatever home holds, are the lines of the log
pub lines-as-open : (log home : List ℕ) → shown_length (length log) ≡ true → length home ≡ home_length pages_shown
    → lines_in log (open_finding log home (frames_length frames_shown) (staging_length frames_shown)) ≡ lines_of log
unfolding lines_of
lines-as-open log home fits size =
    lines-by log (open_finding log home (frames_length frames_shown) (staging_length frames_shown))
    ∙ ap (lines_by log) (as-open log home fits size)
    ∙ sym (lines-by log (found log))
