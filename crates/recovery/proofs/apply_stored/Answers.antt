-- `recovery::apply_stored` meets its contract: a legal update's place, and the other kinds ruled out.
-- Assumes nothing.
use Prim.Native.Nat.{ℕ}
use mathlib.Core.Path.{◌≡◌, refl, ap, ◌∙◌, subst}
use mathlib.Core.Bool.{false}
use mathlib.Core.List.{List}
use lib.ListN.{length}
use Rattle.area.proofs.Parts.{length-part-most}
use Rattle.block.specs.Slot.{new_bytes_at}
use Rattle.block.specs.declared.Kind.{Kind}
use Rattle.promises.specs.Areas.{pages_in}
use Rattle.table.specs.Seats.{seated}
use Rattle.recovery.specs.Log.{bytes_of, header_of, Placed}
use Rattle.recovery.proofs.Scanning.{bytes-are, kind-is}
use Rattle.recovery.proofs.Groups.{update-is, applies-same, unplaced}
use native.Mathlib.Omega.{arith}
use Rattle.recovery.proofs.apply_stored.Goals as goal
use Rattle.recovery.proofs.apply_stored.Goals.{After-header-block}

-- the bytes and the kind are those of the sequence, and the kind has a place
stored : (c : After-header-block) → c.slot_bytes-stored.result.now ≡ bytes_of c.args.log.now c.args.s
stored c = bytes-are c.args.log.now c.args.s c.args.slot _ c.slot_bytes-stored.ensures.0 c.requires.7

told : (c : After-header-block) (kind : Kind) → c.header-block.result.kind ≡ kind → (header_of c.args.log.now c.args.s).kind ≡ kind
told c kind e = kind-is c.args.log.now c.args.s _ _ kind (stored c) c.header-block.ensures e

fits : (c : After-header-block) (kind : Kind) → c.header-block.result.kind ≡ kind → Placed (pages_in (length c.args.home.now)) kind
fits c kind e = subst (Placed (pages_in (length c.args.home.now))) (told c kind e) c.requires.6

pub new_bytes-bytes-requires : goal.new_bytes-bytes-requires
new_bytes-bytes-requires c = (c.slot_bytes-stored.ensures.1, (fits (goal.at.new_bytes-bytes-requires c).After-header-block _ c.in-Update.is).1)

pub apply-requires : goal.apply-requires
apply-requires c =
    let placed = fits (goal.at.apply-requires c).After-header-block _ c.in-Update.is in
    let few = length-part-most c.slot_bytes-stored.result.now 36 c.in-Update.length in
    (omega arith, omega arith, omega arith, omega arith, omega (arith, few, ap length c.new_bytes-bytes.ensures), omega arith, omega arith)

pub returns-in-Update : goal.returns-in-Update
returns-in-Update c =
    let a = c.args in
    let read = (goal.at.returns-in-Update c).After-header-block in
    applies-same (seated false a.seats.now) _ a.home.now a.frames.now _ _ _ a.group
    (ap (λ (l : List ℕ). record { page = c.in-Update.page; offset = c.in-Update.offset; bytes = l })
    (c.new_bytes-bytes.ensures ∙ ap (λ (l : List ℕ). new_bytes_at l c.in-Update.length) (stored read))
    ∙ update-is a.log.now a.s _ (told read _ c.in-Update.is))
    c.apply.ensures

pub returns-in_default : goal.returns-in_default
returns-in_default c = absurd (unplaced _ _ c.in_default.not-Update (fits (goal.at.returns-in_default c).After-header-block _ refl))
