-- `feeding::lacking_at` meets its contract, kind by kind.
-- Assumes nothing.
use mathlib.Core.Path.{◌≡◌, refl, sym, ap, ◌∙◌}
use mathlib.Core.List.{List}
use Prim.Native.Nat.{ℕ, ◌/◌, ◌*◌, ◌-◌, ◌≤◌}
use lib.ListN.{length}
use Rattle.block.specs.declared.Kind.{Kind}
use Rattle.block.specs.declared.Kind.TheVariants.{Update, Commit, Clean}
use Rattle.promises.specs.declared.State.{State}
use Rattle.promises.specs.Blocks.{Slot, kind_in, slots_of}
use Rattle.promises.specs.Feed.{lacking, lacking_at}
use Rattle.std.specs.Prelude.{Option, None, Some}
use Rattle.feeding.specs.Tests.{Lacks}
use Rattle.feeding.proofs.Testing.{numbers_of}
use native.Mathlib.Omega.{arith}
use Rattle.feeding.proofs.lacking_at.Goals as goal

-- the count of slots is that of the state
slots-are : (s : State) (log : List ℕ) → length log ≡ s.slots * 512 → length log / 512 ≡ s.slots
slots-are s log h = omega arith

-- none is lacking at a block that is no commit
none-lacking : (s : State) (slots : List Slot) (k : Kind) (bytes : List ℕ) → ((updates : ℕ) → k ≡ Commit updates → ⊥) → lacking_at s slots (kind_in k bytes) ≡ 0
none-lacking s slots (Update index page offset size) bytes other = refl
none-lacking s slots (Commit updates) bytes other = absurd (other updates refl)
none-lacking s slots (Clean page) bytes other = refl

lacks-as : (found : Option ℕ) (least least' lacking lacking' : ℕ) → least' ≤ least → lacking ≡ lacking' → Lacks found least lacking → Lacks found least' lacking'
lacks-as None least least' lacking lacking' h e l = sym e ∙ l
lacks-as (Some lost) least least' lacking lacking' h e l = (l.0 ∙ e, omega (arith, l.1))

pub overflow_sub-state : goal.overflow_sub-state
overflow_sub-state c = let n = numbers_of c.args.state c.requires.0 in omega (arith, n.stored)

pub lacking-requires : goal.lacking-requires
lacking-requires c =
    let n = numbers_of c.args.state c.requires.0 in
    (omega arith, omega (arith, n.slots.0), omega (arith, n.stored, n.next))

pub returns-in-Commit : goal.returns-in-Commit
returns-in-Commit c = λ bytes.
    let a = c.args in
    let n = numbers_of a.state c.requires.0 in
    lacks-as c.lacking.result _ 1 _ _ (omega (arith, n.stored))
    (ap (λ (n : ℕ). lacking n (slots_of n a.state.pages a.log.now) a.state.stored (a.state.next - a.state.stored) 1) (slots-are a.state a.log.now c.requires.1)
    ∙ sym (ap (λ (k : Kind). lacking_at a.state (slots_of a.state.slots a.state.pages a.log.now) (kind_in k bytes)) c.in-Commit.is))
    c.lacking.ensures
