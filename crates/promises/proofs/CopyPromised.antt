-- A feed's whole promise from what one outcome of it leaves.
-- Assumes nothing.
use mathlib.Core.Path.{◌≡◌, sym, ap, ◌∙◌, subst}
use Prim.Native.Nat.{ℕ}
use mathlib.Core.List.{List}
use native.Mathlib.Omega.{arith}
use lib.ListN.{length}
use Rattle.promises.specs.declared.Outcome.{Outcome}
use Rattle.promises.specs.declared.Stop.{Stop}
use Rattle.promises.specs.declared.Fed.{Fed}
use Rattle.promises.specs.declared.State.{State}
use Rattle.promises.specs.declared.Cleaning.TheVariants.{Second, Third}
use Rattle.promises.specs.Areas.{first_half, second_half, with_first_half, with_second_half}
use Rattle.promises.specs.Blocks.{LogBlock}
use Rattle.promises.specs.DirtyPages.{DirtyPage}
use Rattle.promises.specs.Walk as walking
use Rattle.promises.specs.Walk.{Walk}
use Rattle.promises.specs.Answers.{refuses, had as had_reply, fed_answered, fed_place_in}
use Rattle.promises.specs.CopyOpen.{copy_finding, CopyStands, OpensCopy}
use Rattle.promises.specs.Feed.{Feeding, stops, had, first, second, takes, feeding, Takes, Halves, Same, after, Feeds}

-- which outcome it is
which : Feeding → ℕ
which (stops refusal place) = 0
which had = 1
which (first page entry) = 2
which (second page entry) = 3
which (takes block) = 4

module _ (s : State) (log home frames bytes : List ℕ) (result : Outcome Fed Stop) (log' home' frames' : List ℕ) where
  abbrev outcome : Feeding
  outcome = feeding s log home frames bytes

  clash : {X : Type 0} {a b : Feeding} → outcome ≡ a → outcome ≡ b → (which a ≡ which b → ⊥) → X
  clash e f n = absurd (n (ap which (sym e ∙ f)))

  pub feeds-refused : (refusal place : ℕ) → outcome ≡ stops refusal place → fed_answered result.answer ≡ refuses refusal → fed_place_in result.answer ≡ place
      → Same s log home frames result log' home' frames' → Feeds s log home frames bytes result log' home' frames'
  unfolding which
  feeds-refused refusal place e a b q = record {
    refused = λ r p f. let h : stops refusal place ≡ stops r p = sym e ∙ f in let er : refusal ≡ r = cc in let ep : place ≡ p = cc in (a ∙ ap refuses er, b ∙ ep, q);
    already_had = λ f. clash e f (λ n. omega arith);
    first_halved = λ p x f. clash e f (λ n. omega arith);
    second_halved = λ p x f. clash e f (λ n. omega arith);
    taken = λ x f. clash e f (λ n. omega arith);
  }

  pub feeds-had : outcome ≡ had → fed_answered result.answer ≡ had_reply → Same s log home frames result log' home' frames' → Feeds s log home frames bytes result log' home' frames'
  unfolding which
  feeds-had e a q = record {
    refused = λ r p f. clash e f (λ n. omega arith);
    already_had = λ f. (a, q);
    first_halved = λ p x f. clash e f (λ n. omega arith);
    second_halved = λ p x f. clash e f (λ n. omega arith);
    taken = λ x f. clash e f (λ n. omega arith);
  }

  pub feeds-first : (page : ℕ) (entry : DirtyPage) → outcome ≡ first page entry
      → Halves s log frames (Second page) (with_first_half home page (first_half entry.bytes)) result log' home' frames' → Feeds s log home frames bytes result log' home' frames'
  unfolding which
  feeds-first page entry e h = record {
    refused = λ r p f. clash e f (λ n. omega arith);
    already_had = λ f. clash e f (λ n. omega arith);
    first_halved = λ p x f. let q : first page entry ≡ first p x = sym e ∙ f in let ep : page ≡ p = cc in let ex : entry ≡ x = cc in
        subst (λ (y : DirtyPage). Halves s log frames (Second p) (with_first_half home p (first_half y.bytes)) result log' home' frames') ex
        (subst (λ (y : ℕ). Halves s log frames (Second y) (with_first_half home y (first_half entry.bytes)) result log' home' frames') ep h);
    second_halved = λ p x f. clash e f (λ n. omega arith);
    taken = λ x f. clash e f (λ n. omega arith);
  }

  pub feeds-second : (page : ℕ) (entry : DirtyPage) → outcome ≡ second page entry
      → Halves s log frames (Third page) (with_second_half home page (second_half entry.bytes)) result log' home' frames' → Feeds s log home frames bytes result log' home' frames'
  unfolding which
  feeds-second page entry e h = record {
    refused = λ r p f. clash e f (λ n. omega arith);
    already_had = λ f. clash e f (λ n. omega arith);
    first_halved = λ p x f. clash e f (λ n. omega arith);
    second_halved = λ p x f. let q : second page entry ≡ second p x = sym e ∙ f in let ep : page ≡ p = cc in let ex : entry ≡ x = cc in
        subst (λ (y : DirtyPage). Halves s log frames (Third p) (with_second_half home p (second_half y.bytes)) result log' home' frames') ex
        (subst (λ (y : ℕ). Halves s log frames (Third y) (with_second_half home y (second_half entry.bytes)) result log' home' frames') ep h);
    taken = λ x f. clash e f (λ n. omega arith);
  }

  pub feeds-taken : (block : LogBlock) → outcome ≡ takes block → Takes s log home frames bytes block.kind (after s log home frames block) result log' home' frames'
      → Feeds s log home frames bytes result log' home' frames'
  unfolding which
  feeds-taken block e h = record {
    refused = λ r p f. clash e f (λ n. omega arith);
    already_had = λ f. clash e f (λ n. omega arith);
    first_halved = λ p x f. clash e f (λ n. omega arith);
    second_halved = λ p x f. clash e f (λ n. omega arith);
    taken = λ x f. let q : takes block ≡ takes x = sym e ∙ f in let ex : block ≡ x = cc in
        subst (λ (y : LogBlock). Takes s log home frames bytes y.kind (after s log home frames y) result log' home' frames') ex h;
  }

stands-not-stops : {X : Type 0} (n j m : ℕ) (v : Walk) → walking.stands m v ≡ walking.stops n j → X
stands-not-stops n j m v e = let z : ◌≡◌ {A = ℕ} 0 1 = cc in absurd (omega arith)

pub copy-accepts : (log home frames : List ℕ) (r : Outcome ℕ Stop) (frames' : List ℕ) (next : ℕ) (walk : Walk) → copy_finding log home (length frames) ≡ walking.stands next walk
    → CopyStands next walk log home frames r frames' → OpensCopy log home frames r frames'
copy-accepts log home frames r frames' next walk e step = record {
  refused = λ n j x. stands-not-stops n j next walk (sym e ∙ x);
  accepted = λ m v x.
      let h : walking.stands next walk ≡ walking.stands m v = sym e ∙ x in
      let p : next ≡ m = cc in
      let q : walk ≡ v = cc in
      subst (λ (y : Walk). CopyStands m y log home frames r frames') q (subst (λ (y : ℕ). CopyStands y walk log home frames r frames') p step);
}
