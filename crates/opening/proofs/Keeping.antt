-- The last test of a copy: its half group's start counts, as in `kept_ending`.
-- Assumes nothing.
use mathlib.Core.Path.{◌≡◌, sym, ap, ◌∙◌}
use mathlib.Core.Bool.{Bool, true, false, cond}
use mathlib.Core.List.{List, [], ◌∷◌}
use Prim.Native.Nat.{ℕ, ◌+◌, ◌-◌, ◌<◌}
use native.Mathlib.Omega.{arith}
use native.Mathlib.Decide.{ℕ_discrete}
use lib.Dec.{eqb}
use lib.ListN.{length}
use borrow.Author.Tests.{eq-eqb, ne_eqb}
use Rattle.promises.specs.Areas.{slots_in}
use Rattle.promises.specs.Updates.{Update}
use Rattle.promises.specs.DirtyPages.{keep_from_of}
use Rattle.promises.specs.Walk.{Walk as PaperWalk, Finding, stops, stands}
use Rattle.promises.specs.Feed as feed
use Rattle.promises.specs.Feed.{half_start}
use Rattle.promises.specs.CopyOpen.{kept_ending}
use Rattle.recovery.specs.declared.Stage.{Stage}
use Rattle.recovery.specs.Walking.{Walk, refused_at, span_fits, Ready, Stands}
use Rattle.recovery.proofs.Groups.{group-length}
use Rattle.opening.specs.Findings.{FoundWalk, Accepts, Finds, kept_from, Keeps}
use Rattle.opening.proofs.Ending.{span-is}

-- ---- where a half group starts

module _ (stage : Stage) (next : ℕ) where
  pub from-none : stage.count ≡ 0 → next ≡ kept_from stage next
  from-none e = sym (ap (λ (b : Bool). cond b next stage.start) (eq-eqb _ _ e))

  pub from-half : (stage.count ≡ 0 → ⊥) → stage.start ≡ kept_from stage next
  from-half n = sym (ap (λ (b : Bool). cond b next stage.start) (ne_eqb _ _ n))

-- a half group ends before next
pub from_is : (log home : List ℕ) (next : ℕ) (walk : Walk) → Ready log home next walk → kept_from walk.stage next ≡ next - walk.stage.count
from_is log home next walk y =
    elim (ℕ_discrete walk.stage.count 0) [
      | yes z ↦ omega (arith, from-none walk.stage next z)
      | no n ↦ omega (arith, from-half walk.stage next n, y.half (omega arith))
    ]

pub ticket-early : (log home : List ℕ) (next : ℕ) (walk : Walk) → Ready log home next walk → walk.stage.ticket < next - walk.stage.count
ticket-early log home next walk y =
    elim (ℕ_discrete walk.stage.count 0) [
      | yes z ↦ omega (arith, y.ticket_below)
      | no n ↦ omega (arith, y.half (omega arith), y.ticket_early (omega arith))
    ]

-- as the promised walk has it
half-from : (next start count : ℕ) (group : List Update) → length group ≡ count → half_start next group start ≡ cond (eqb count 0) next start
half-from next start count [] e = sym (ap (λ (b : Bool). cond b next start) (eq-eqb count 0 (sym e)))
half-from next start count (u ∷ us) e = sym (ap (λ (b : Bool). cond b next start) (ne_eqb count 0 (λ z. absurd (omega arith))))

module _ (log home : List ℕ) (next : ℕ) (walk : Walk) (frames : List ℕ) (paper : PaperWalk) (st : Stands log home next walk frames paper) where
  pub group-count : length paper.group ≡ walk.stage.count
  group-count = ap length (sym st.group_is) ∙ group-length log walk.stage.start walk.stage.count

  half_is : half_start next paper.group paper.start ≡ kept_from walk.stage next
  half_is = half-from next paper.start walk.stage.count paper.group group-count ∙ ap (λ (n : ℕ). cond (eqb walk.stage.count 0) next n) (sym st.start_is)

  -- the code's test is the promised one
  test-is : (slots : ℕ) → feed.span_fits slots next paper ≡ span_fits walk.table slots next (kept_from walk.stage next)
  test-is slots =
      ap (λ (own : ℕ). lib.Dec.leb (next - keep_from_of own paper.dirty_pages + length paper.dirty_pages) slots) half_is
      ∙ sym (span-is log home next walk frames paper slots next (kept_from walk.stage next) st)

-- ---- what was found, tested

module _ (log home : List ℕ) (count : ℕ) (found : Finding) (r : FoundWalk) (frames : List ℕ) (x : Finds log home count found r frames) where
  abbrev N : ℕ
  N = slots_in (length log)

  module _ (z : r.walk.refusal ≡ 0) where
    abbrev acc : Accepts log home found r frames
    acc = x.accepted z

    by-test : (b : Bool) → span_fits r.walk.table N (r.newest + 1) (kept_from r.walk.stage (r.newest + 1)) ≡ b
        → kept_ending N found ≡ cond b (stands (r.newest + 1) acc.paper) (stops 8 (r.newest + 1 - 1))
    by-test b e =
        ap (kept_ending N) acc.found_is
        ∙ ap (λ (t : Bool). cond t (stands (r.newest + 1) acc.paper) (stops 8 (r.newest + 1 - 1)))
        (test-is log home (r.newest + 1) r.walk frames acc.paper acc.stands_for N ∙ e)

    pub keeps-passes : span_fits r.walk.table N (r.newest + 1) (kept_from r.walk.stage (r.newest + 1)) ≡ true → Keeps log home count found r frames
    keeps-passes e = record {
      count_is = x.count_is;
      refused = λ n. absurd (n z);
      accepted = λ y. record { accepts = acc; kept_is = by-test true e; half_within = e };
    }

    pub keeps-fails : span_fits r.walk.table N (r.newest + 1) (kept_from r.walk.stage (r.newest + 1)) ≡ false
        → Keeps log home count found (record { newest = 0; walk = refused_at r.walk 8 r.newest }) frames
    keeps-fails e = record {
      count_is = x.count_is;
      refused = λ n. by-test false e ∙ ap (stops 8) one_less;
      accepted = λ y. absurd (omega arith);
    }
      where
        one_less : r.newest + 1 - 1 ≡ r.newest
        one_less = omega arith
