-- `feeding::decide` meets its contract: no sound state of a copy, a wrong length, bytes that are no block, or what is decided of the block.
-- Assumes nothing.
use mathlib.Core.Path.{◌≡◌, refl, sym, ap, ◌∙◌, subst}
use mathlib.Core.Bool.{Bool, true, false, ◌&&◌}
use mathlib.Core.Logic.{◌⊎◌, ⊎_elim}
use mathlib.Core.List.{List}
use Prim.Native.Nat.{ℕ, ◌*◌}
use lib.Dec.{eqb}
use lib.ListN.{length}
use borrow.Author.Tests.{eq-eqb, ne_eqb, eqb-true}
use Rattle.area.proofs.Laws.{and_both}
use Rattle.block.proofs.ReadBack.{valid-holds}
use Rattle.promises.specs.declared.State.{State}
use Rattle.promises.specs.LogStep.{areas_fit}
use Rattle.promises.specs.Sound.{copy_sound}
use Rattle.feeding.specs.Tests.{Decides}
use Rattle.feeding.proofs.Testing.{numbers_of}
use Rattle.feeding.proofs.Deciding.{stopped-at, no_copy, misfit, judged-as}
use native.Mathlib.Omega.{arith}
use Rattle.feeding.proofs.decide.Goals as goal

-- the lengths, as the code tests them
lengths-are : (s : State) (log home frames bytes : List ℕ) (h f : ℕ) (fit : Bool) → fit ≡ areas_fit s (length log) h f → length home ≡ h → length frames ≡ f
    → (areas_fit s (length log) (length home) (length frames) && eqb (length bytes) 512) ≡ (fit && eqb (length bytes) 512)
lengths-are s log home frames bytes h f fit is e g =
    ap (λ (n : ℕ). areas_fit s (length log) n (length frames) && eqb (length bytes) 512) e
    ∙ ap (λ (n : ℕ). areas_fit s (length log) h n && eqb (length bytes) 512) g
    ∙ ap (λ (b : Bool). b && eqb (length bytes) 512) (sym is)

fits-both : (a b : Bool) → a ≡ true → b ≡ true → (a && b) ≡ true
fits-both true b e f = f
fits-both false b e f = cc

not-both : (a : Bool) (n : ℕ) → (a ≡ false) ⊎ ((a ≡ true) × (n ≡ 512 → ⊥)) → (a && eqb n 512) ≡ false
not-both false n h = refl
not-both true n h = ⊎_elim (λ e. cc) (λ p. ne_eqb n 512 p.1) h

pub returns-then-not-holds : goal.returns-then-not-holds
returns-then-not-holds c = λ home frames e f.
    let a = c.args in
    no_copy a.state a.log.now home frames a.bytes.now (sym c.requires ∙ c.if-not-holds.true) ∙ ap stopped-at (sym c.nowhere.ensures)

pub areas_fit-fit-requires : goal.areas_fit-fit-requires
areas_fit-fit-requires c =
    let n = numbers_of c.args.state (sym c.requires ∙ c.if-not-holds.false) in
    (n.slots.1, n.pages.1, n.frames.1)

pub returns-then-not-fit : goal.returns-then-not-fit
returns-then-not-fit c = λ home frames e f.
    let a = c.args in
    let sound : copy_sound a.state ≡ true = sym c.requires ∙ c.if-not-holds.false in
    let misfits = lengths-are a.state a.log.now home frames a.bytes.now a.home a.frames c.areas_fit-fit.result c.areas_fit-fit.ensures e f ∙ not-both c.areas_fit-fit.result (length a.bytes.now) c.then-not-fit.either in
    misfit a.state a.log.now home frames a.bytes.now sound misfits ∙ ap stopped-at (sym c.nowhere-then-not-fit.ensures)

pub judge_fed-requires : goal.judge_fed-requires
judge_fed-requires c =
    let n = numbers_of c.args.state (sym c.requires ∙ c.if-not-holds.false) in
    (c.if-bytes-ne-SIZE.false, omega (arith, n.slots.0))

pub decide_valid-requires : goal.decide_valid-requires
decide_valid-requires c =
    let a = c.args in
    let sound : copy_sound a.state ≡ true = sym c.requires ∙ c.if-not-holds.false in
    let two = and_both _ (eqb a.frames (a.state.frames * 1024)) (sym c.areas_fit-fit.ensures ∙ c.if-not-fit.false) in
    let long = eqb-true _ _ (and_both (eqb (length a.log.now) (a.state.slots * 512)) (eqb a.home (a.state.pages * 1024)) two.0).0 in
    let held = valid-holds a.state.slots a.state.pages _ a.bytes.now _ (sym c.judge_fed.ensures ∙ c.in-Valid.is) in
    (sound, long, held.is-legal)

pub returns-in-Unused : goal.returns-in-Unused
returns-in-Unused c = λ home frames e f.
    let a = c.args in
    let sound : copy_sound a.state ≡ true = sym c.requires ∙ c.if-not-holds.false in
    judged-as a.state a.log.now home frames a.bytes.now sound (lengths-are a.state a.log.now home frames a.bytes.now a.home a.frames c.areas_fit-fit.result c.areas_fit-fit.ensures e f ∙ fits-both c.areas_fit-fit.result _ c.if-not-fit.false (eq-eqb _ _ c.if-bytes-ne-SIZE.false)) _
    (sym c.judge_fed.ensures ∙ c.in-Unused.is) ∙ ap stopped-at (sym c.nowhere-in-Unused.ensures)

pub returns-in-Damaged : goal.returns-in-Damaged
returns-in-Damaged c = λ home frames e f.
    let a = c.args in
    let sound : copy_sound a.state ≡ true = sym c.requires ∙ c.if-not-holds.false in
    judged-as a.state a.log.now home frames a.bytes.now sound (lengths-are a.state a.log.now home frames a.bytes.now a.home a.frames c.areas_fit-fit.result c.areas_fit-fit.ensures e f ∙ fits-both c.areas_fit-fit.result _ c.if-not-fit.false (eq-eqb _ _ c.if-bytes-ne-SIZE.false)) _
    (sym c.judge_fed.ensures ∙ c.in-Damaged.is) ∙ ap stopped-at (sym c.nowhere-in-Damaged.ensures)

pub returns-in-Valid : goal.returns-in-Valid
returns-in-Valid c = λ home frames e f.
    let a = c.args in
    let sound : copy_sound a.state ≡ true = sym c.requires ∙ c.if-not-holds.false in
    let is = judged-as a.state a.log.now home frames a.bytes.now sound (lengths-are a.state a.log.now home frames a.bytes.now a.home a.frames c.areas_fit-fit.result c.areas_fit-fit.ensures e f ∙ fits-both c.areas_fit-fit.result _ c.if-not-fit.false (eq-eqb _ _ c.if-bytes-ne-SIZE.false)) _
    (sym c.judge_fed.ensures ∙ c.in-Valid.is) in
    subst (Decides a.state frames a.bytes.now c.decide_valid.result) (sym is) (c.decide_valid.ensures home frames a.bytes.now)
