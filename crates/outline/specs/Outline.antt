-- Open's walk without bytes, block by block, over the fields of the blocks alone. That it is the promised walk with the bytes left out is
-- proved in proofs/Alike.antt.
-- Assumes nothing.
use Rattle.std.specs.Prelude.{ℕ, suc, ◌+◌, ◌-◌, ◌≤◌, ◌<◌, ◌≡◌, Bool, true, cond, List, [], ◌∷◌, ◌++◌, length, eqb, leb, Result, Ok, Err, MatchResult}
use Rattle.block.specs.Sizes.{sequence_end, group_most}
use Rattle.block.specs.declared.Block.{Block}
use Rattle.block.specs.declared.Kind.{Kind}
use Rattle.block.specs.declared.Kind.TheVariants.{Update, Commit, Clean}
use Rattle.promises.specs.declared.Stop.{Stop}
use Rattle.promises.specs.Answers.{number_of}
use Rattle.promises.specs.Blocks.{kind_in}
use Rattle.promises.specs.Walk.{Walk, Finding, stops as finding_stops, stands as finding_stands}
use Rattle.recovery.specs.Order.{in_order_after}
use Rattle.outline.specs.declared.Mark.{Mark}
use Rattle.outline.specs.declared.Course.{Course}
use Rattle.outline.specs.Marks.{marks_of, pages_of, marked_all, unmarked, earliest}

-- a walk without bytes
pub record Outline : Type 0 where
  pub group : List ℕ
  pub start : ℕ
  pub ticket : ℕ
  pub marks : List Mark

-- what comes of a walk without bytes: a refusal and its place, or the sequence that is next and where the walk is
pub data Sketch : Type 0 where
  stops : ℕ → ℕ → Sketch
  stands : ℕ → Outline → Sketch

abbrev pub outline_of : Walk → Outline
outline_of walk = record { group = pages_of walk.group; start = walk.start; ticket = walk.ticket; marks = marks_of walk.dirty_pages }

-- what is left of an opening's outcome without bytes
abbrev pub sketch_of : Finding → Sketch
sketch_of (finding_stops refusal place) = stops refusal place
sketch_of (finding_stands next walk) = stands next (outline_of walk)

-- ---- one block

-- no refusal 8
abbrev pub outline_fits : Outline → Kind → ℕ → Bool
outline_fits outline kind ticket = in_order_after (kind_in kind []) ticket (length outline.group) outline.ticket

abbrev pub committed : Outline → List Mark
committed outline = marked_all outline.start outline.group outline.marks

-- no refusal 9
unfoldable pub seated : ℕ → Kind → Outline → Bool
seated frames (Update index page offset size) outline = true
seated frames (Commit updates) outline = leb (length (committed outline)) frames
seated frames (Clean page) outline = true

-- where the walk is after a block
unfoldable pub after : ℕ → Kind → Outline → Outline
after sequence (Update index page offset size) outline =
    cond (eqb index 1)
    (record { group = page ∷ []; start = sequence; ticket = outline.ticket; marks = outline.marks })
    (record { group = outline.group ++ (page ∷ []); start = outline.start; ticket = outline.ticket; marks = outline.marks })
after sequence (Commit updates) outline = record { group = []; start = 0; ticket = outline.ticket + 1; marks = committed outline }
after sequence (Clean page) outline = record { group = []; start = 0; ticket = outline.ticket; marks = unmarked page outline.marks }

-- what a block makes of a walk: 8, then 9, then the next place
unfoldable pub turned : ℕ → Kind → ℕ → ℕ → Outline → Sketch
turned frames kind ticket sequence outline =
    cond (outline_fits outline kind ticket)
    (cond (seated frames kind outline) (stands (suc sequence) (after sequence kind outline)) (stops 9 sequence))
    (stops 8 sequence)

-- nothing happens once refused
abbrev pub step : ℕ → Block → Sketch → Sketch
step frames block (stops refusal place) = stops refusal place
step frames block (stands sequence outline) = turned frames block.kind block.ticket sequence outline

-- ---- all blocks

unfoldable pub steps : ℕ → List Block → Sketch → Sketch
steps frames [] sketch = sketch
steps frames (block ∷ blocks) sketch = steps frames blocks (step frames block sketch)

-- at the end, H + D above N is 8 at M
unfoldable pub ended : ℕ → Sketch → Sketch
ended slots (stops refusal place) = stops refusal place
ended slots (stands next outline) =
    cond (leb (next - earliest next outline.marks + length outline.marks) slots) (stands next outline) (stops 8 (next - 1))

-- ---- what the code's walk stands for

abbrev pub outline_in : Course → Outline
outline_in course = record {
  group = course.group.pages.items;
  start = course.group.start;
  ticket = course.ticket;
  marks = course.marks.items;
}

-- a walk that stands, or the stop of one that is refused
abbrev pub sketch_in : Result Course Stop → Sketch
sketch_in (Ok course) = stands course.next (outline_in course)
sketch_in (Err stop) = stops (number_of stop.refusal) stop.place

-- a half group has at most 16 updates, at most 32 pages are dirty, and the ticket is below 2^48
pub record Bounded (course : Course) : Type 0 where
  pub few : length course.group.pages.items ≤ group_most
  pub framed : length course.marks.items ≤ 32
  pub ticket_below : course.ticket < sequence_end

-- an update's index is at most 16
abbrev pub Indexed : Kind → Type 0
Indexed (Update index page offset size) = index ≤ group_most
Indexed (Commit updates) = Unit {0}
Indexed (Clean page) = Unit {0}

-- what a legal block keeps to
pub record Ordinary (block : Block) : Type 0 where
  pub indexed : Indexed block.kind
  pub ticket_below : block.ticket < sequence_end

-- what a block of this kind and ticket makes of a walk
pub record Turns (kind : Kind) (ticket : ℕ) (course : Course) (result : Result Course Stop) : Type 0 where
  pub sketch_is : sketch_in result ≡ turned 32 kind ticket course.next (outline_in course)
  pub next_is : MatchResult result (λ walked. Bounded walked × (walked.next ≡ course.next + 1)) (λ stop. stop.place ≡ course.next)

-- what the walk needs to meet a block of this kind and ticket
pub record Meets (kind : Kind) (ticket : ℕ) (course : Course) : Type 0 where
  pub bounded : Bounded course
  pub next_below : course.next < sequence_end
  pub indexed : Indexed kind
  pub ticket_below : ticket < sequence_end

-- a walk that starts at a sequence, with a ticket that is believed
abbrev pub started : ℕ → ℕ → Sketch
started sequence ticket = stands sequence (record { group = []; start = 0; ticket = ticket; marks = [] })
