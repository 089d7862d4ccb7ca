-- One block of the walk without bytes: refused, or one place further.
-- Assumes nothing.
use mathlib.Core.Path.{◌≡◌, refl, sym, ap, ◌∙◌}
use Rattle.std.specs.Prelude.{Result, Ok, Err, MatchResult}
use mathlib.Core.Bool.{true, false}
use mathlib.Core.List.{List, [], ◌∷◌, ◌++◌}
use Prim.Native.Nat.{ℕ, suc, ◌+◌, ◌-◌, ◌≤◌, ◌<◌}
use native.Mathlib.Numerals.{add-one}
use lib.ListN.{length}
use borrow.Author.Tests.{eq-eqb, ne_eqb, lt-leb, le-leb}
use Rattle.block.specs.Slot.{new_bytes_at}
use Rattle.block.specs.declared.Block.{Block}
use Rattle.block.specs.declared.Kind.{Kind}
use Rattle.block.specs.declared.Kind.TheVariants.{Update, Commit, Clean}
use Rattle.promises.specs.declared.Refusal.TheVariants.{TooFewFrames}
use Rattle.promises.specs.declared.Stop.{Stop}
use Rattle.promises.specs.Walk.{Walk}
use Rattle.recovery.specs.Order.{counted}
use Rattle.recovery.specs.Walking.{out_of_order_at}
use Rattle.recovery.proofs.Ordering.{count-is, change-any, next-told}
use Rattle.outline.specs.declared.Mark.{Mark}
use Rattle.outline.specs.declared.Course.{Course}
use Rattle.outline.specs.Marks.{unmarked, earliest}
use Rattle.outline.specs.Outline.{Outline, stands, outline_fits, committed, seated, after, turned, step, ended, outline_in, started, sketch_in, Bounded, Turns}

-- ---- one block

module _ (course : Course) (kind : Kind) (ticket : ℕ) where
  -- out of order: 8
  pub turned-out : (stop : Stop) → stop ≡ out_of_order_at course.next → outline_fits (outline_in course) kind ticket ≡ false → Turns kind ticket course (Err stop)
  unfolding turned
  turned-out stop e out = rw e (record { sketch_is = rw out; next_is = refl })

  module _ (right : outline_fits (outline_in course) kind ticket ≡ true) where
    -- too few frames: 9
    pub turned-full : seated 32 kind (outline_in course) ≡ false → Turns kind ticket course (Err (record { refusal = TooFewFrames; place = course.next }))
    unfolding turned
    turned-full full = record { sketch_is = rw (right, full); next_is = refl }

    -- the walk goes on
    pub turned_on : (walked : Course) → walked.next ≡ course.next + 1 → seated 32 kind (outline_in course) ≡ true
        → after course.next kind (outline_in course) ≡ outline_in walked → Bounded walked → Turns kind ticket course (Ok walked)
    unfolding turned
    turned_on walked next seat is within = record {
      sketch_is = ap (λ (n : ℕ). stands n (outline_in walked)) (next ∙ add-one course.next) ∙ sym (rw (right, seat) (ap (stands (suc course.next)) is));
      next_is = (within, next);
    }

-- ---- the order, by the counts

-- the walk of which the code's test speaks
abbrev pub counted_in : Course → Walk
counted_in course = counted (length course.group.pages.items) course.ticket

module _ (course : Course) where
  pub counted_is : length course.group.pages.items ≡ length (counted_in course).group
  counted_is = count-is (length course.group.pages.items) course.ticket

  -- an index that is not 1 is the next
  pub next-index : (index page ticket : ℕ) → outline_fits (outline_in course) (Update index page 0 0) ticket ≡ true → (index ≡ 1 → ⊥)
      → index ≡ length course.group.pages.items + 1
  next-index index page ticket e n = (next-told ticket (length course.group.pages.items) course.ticket index _ e n).1

-- ---- a block, as the walk meets it

-- an update's offset and length play no part
pub turned-update : (frames index page offset size ticket sequence : ℕ) (outline : Outline)
    → turned frames (Update index page 0 0) ticket sequence outline ≡ turned frames (Update index page offset size) ticket sequence outline
unfolding turned seated after
turned-update frames index page offset size ticket sequence outline =
    rw (change-any index ticket (length outline.group) outline.ticket (record { page = page; offset = 0; bytes = new_bytes_at [] 0 }) (record { page = page; offset = offset; bytes = new_bytes_at [] size }))

pub step-turns : (block : Block) (kind : Kind) (course : Course) (result : Result Course Stop)
    → (turned 32 kind block.ticket course.next (outline_in course) ≡ turned 32 block.kind block.ticket course.next (outline_in course))
    → Turns kind block.ticket course result
    → (sketch_in result ≡ step 32 block (sketch_in (Ok course))) × MatchResult result (λ walked. Bounded walked × (walked.next ≡ course.next + 1)) (λ stop. stop.place ≡ course.next)
step-turns block kind course result e t = (t.sketch_is ∙ e, t.next_is)

-- ---- where the walk is after a block

module _ (course : Course) (ticket start : ℕ) (pages : List ℕ) (marks : List Mark) where
  abbrev there : Outline
  there = record { group = pages; start = start; ticket = ticket; marks = marks }

  module _ (index page : ℕ) (same : ticket ≡ course.ticket) (held : marks ≡ course.marks.items) where
    pub after_first : index ≡ 1 → pages ≡ page ∷ [] → start ≡ course.next → after course.next (Update index page 0 0) (outline_in course) ≡ there
    unfolding after
    after_first one p s = rw (eq-eqb _ _ one) (cc)

    pub after_next : (index ≡ 1 → ⊥) → pages ≡ course.group.pages.items ++ (page ∷ []) → start ≡ course.group.start
        → after course.next (Update index page 0 0) (outline_in course) ≡ there
    unfolding after
    after_next other p s = rw (ne_eqb _ _ other) (cc)

  module _ (none : pages ≡ []) (zero : start ≡ 0) where
    pub after-commit : (updates : ℕ) → ticket ≡ course.ticket + 1 → marks ≡ committed (outline_in course)
        → after course.next (Commit updates) (outline_in course) ≡ there
    unfolding after
    after-commit updates t m = cc

    pub after-clean : (page : ℕ) → ticket ≡ course.ticket → marks ≡ unmarked page course.marks.items
        → after course.next (Clean page) (outline_in course) ≡ there
    unfolding after
    after-clean page t m = cc

-- ---- the last test

module _ (course : Course) (slots low : ℕ) (low-is : low ≡ earliest course.next course.marks.items) where
  span : course.next - earliest course.next course.marks.items + length course.marks.items ≡ course.next - low + length course.marks.items
  span = rw low-is

  pub ends-within : course.next - low + length course.marks.items ≤ slots → sketch_in (Ok course) ≡ ended slots (sketch_in (Ok course))
  unfolding ended
  ends-within h = rw (span, le-leb _ _ h)

  pub ends-beyond : (stop : Stop) → slots < course.next - low + length course.marks.items → stop ≡ out_of_order_at (course.next - 1)
      → sketch_in (Err stop) ≡ ended slots (sketch_in (Ok course))
  unfolding ended
  ends-beyond stop h e = rw (e, span, lt-leb _ _ h)

-- ---- the start

pub starts : (course : Course) (sequence ticket : ℕ) → course.next ≡ sequence → course.ticket ≡ ticket → course.group.pages.items ≡ []
    → course.group.start ≡ 0 → course.marks.items ≡ [] → sketch_in (Ok course) ≡ started sequence ticket
starts course sequence ticket p t g s m = cc
