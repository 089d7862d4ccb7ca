-- What a walk leads to, turn by turn: the finding of the promised walk.
-- Assumes nothing.
use mathlib.Core.Path.{◌≡◌, sym, ap, ◌∙◌, subst}
use mathlib.Core.Bool.{true, false}
use mathlib.Core.List.{List, ◌∷◌}
use Prim.Native.Nat.{ℕ, suc, ◌+◌, ◌-◌, ◌≤◌, ◌<◌}
use native.Mathlib.Omega.{arith}
use native.Mathlib.Decide.{ℕ_discrete}
use Rattle.area.proofs.Laws.{by_cases}
use Rattle.promises.specs.Areas.{page_at}
use Rattle.promises.specs.Blocks.{LogBlock}
use Rattle.promises.specs.Walk.{Walk as PaperWalk, walk_block, in_order, framed, Finding, stops, walk_from}
use Rattle.recovery.specs.Log.{block_of, blocks_from}
use Rattle.recovery.specs.Walking.{Walk, Stands, Refused, Ready, Turns, Leads, Walks}

-- ---- the promised walk over one block more

module _ (slots frames : ℕ) (home : ℕ → List ℕ) (next s : ℕ) (block : LogBlock) (rest : List LogBlock) (paper : PaperWalk) where
  walks-out-of-order : in_order block.kind block.ticket paper ≡ false → walk_from slots frames home next s (block ∷ rest) paper ≡ stops 8 s
  unfolding walk_from
  walks-out-of-order e = rw e

  walks-too-few : in_order block.kind block.ticket paper ≡ true → framed frames home block.kind paper ≡ false
      → walk_from slots frames home next s (block ∷ rest) paper ≡ stops 9 s
  unfolding walk_from
  walks-too-few e f = rw (e, f)

  walks-on : in_order block.kind block.ticket paper ≡ true → framed frames home block.kind paper ≡ true
      → walk_from slots frames home next s (block ∷ rest) paper ≡ walk_from slots frames home next (suc s) rest (walk_block home s block.kind paper)
  unfolding walk_from
  walks-on e f = rw (e, f)

-- a walk that is refused leads to that
leads-refused : (log home : List ℕ) (slots next s more : ℕ) (walk : Walk) (frames : List ℕ) (found : Finding) (refusal place : ℕ) → 0 < refusal
    → Refused walk refusal place → found ≡ stops refusal place → Leads log home slots next s more walk frames found
leads-refused log home slots next s more walk frames found refusal place h r e = record {
  refused = λ n. e ∙ sym (ap (λ (x : ℕ). stops x walk.place) r.refusal_is ∙ ap (stops refusal) r.place_is);
  goes = λ z. absurd (omega (arith, r.refusal_is));
}

-- one turn
pub leads-turn : (log home : List ℕ) (slots next s more : ℕ) (walk r : Walk) (frames frames' : List ℕ) (found : Finding)
    → Turns log home s (block_of log s).kind (block_of log s).ticket walk frames r frames'
    → Leads log home slots next s (suc more) walk frames found → Leads log home slots next (suc s) more r frames' found
unfolding blocks_from
leads-turn log home slots next s more walk r frames frames' found t l =
    elim (ℕ_discrete walk.refusal 0) [
      | yes z ↦ going (l.goes z).0 (l.goes z).1 (l.goes z).2
      | no n ↦ subst (λ (w : Walk). Leads log home slots next (suc s) more w frames' found) (sym (t.stays n))
          record { refused = λ m. l.refused n; goes = λ z. absurd (n z) }
    ]
  where
    rest : List LogBlock
    rest = blocks_from log (suc s) more

    going : (paper : PaperWalk) → Stands log home s walk frames paper
        → walk_from slots walk.table.count (page_at home) next s (block_of log s ∷ blocks_from log (suc s) more) paper ≡ found
        → Leads log home slots next (suc s) more r frames' found
    going paper st e =
        by_cases (in_order (block_of log s).kind (block_of log s).ticket paper)
        (λ f. by_cases (framed walk.table.count (page_at home) (block_of log s).kind paper)
        (λ g. let on = t.goes_on paper st f g in record {
          refused = λ n. absurd (n on.going);
          goes = λ z. (
            walk_block (page_at home) s (block_of log s).kind paper,
            on,
            ap (λ (n : ℕ). walk_from slots n (page_at home) next (suc s) (blocks_from log (suc s) more) (walk_block (page_at home) s (block_of log s).kind paper)) t.count_is
                ∙ sym (walks-on slots walk.table.count (page_at home) next s (block_of log s) (blocks_from log (suc s) more) paper f g) ∙ e,
          );
        })
        (λ g. leads-refused log home slots next (suc s) more r frames' found 9 s (omega arith) (t.too_few paper st f g)
        (sym e ∙ walks-too-few slots walk.table.count (page_at home) next s (block_of log s) (blocks_from log (suc s) more) paper f g)))
        (λ f. leads-refused log home slots next (suc s) more r frames' found 8 s (omega arith) (t.out_of_order paper st f)
        (sym e ∙ walks-out-of-order slots walk.table.count (page_at home) next s (block_of log s) (blocks_from log (suc s) more) paper f))

-- ---- the loop

abbrev pub Leading : (log home : List ℕ) (first last : ℕ) (walk₀ : Walk) (frames₀ : List ℕ) (s : ℕ) (walk : Walk) (frames : List ℕ) → Type 0
Leading log home first last walk₀ frames₀ s walk frames =
    (slots next : ℕ) (found : Finding) → Leads log home slots next first (last + 1 - first) walk₀ frames₀ found
    → Leads log home slots next s (last + 1 - s) walk frames found

pub leading-more : (log home : List ℕ) (first last : ℕ) (walk₀ : Walk) (frames₀ : List ℕ) (s : ℕ) (walk r : Walk) (frames frames' : List ℕ) → s ≤ last
    → Turns log home s (block_of log s).kind (block_of log s).ticket walk frames r frames' → Leading log home first last walk₀ frames₀ s walk frames
    → Leading log home first last walk₀ frames₀ (s + 1) r frames'
leading-more log home first last walk₀ frames₀ s walk r frames frames' h t f slots next found l =
    subst (λ (n : ℕ). Leads log home slots next n (last + 1 - (s + 1)) r frames' found) one
    (leads-turn log home slots next s (last + 1 - (s + 1)) walk r frames frames' found t
    (subst (λ (n : ℕ). Leads log home slots next s n walk frames found) left (f slots next found l)))
  where
    one : suc s ≡ s + 1
    one = omega arith

    left : last + 1 - s ≡ suc (last + 1 - (s + 1))
    left = omega arith

-- the loop is through
pub walks-end : (log home : List ℕ) (first last : ℕ) (walk₀ : Walk) (frames₀ : List ℕ) (s : ℕ) (walk : Walk) (frames : List ℕ) → s ≡ last + 1
    → walk.table.count ≡ walk₀.table.count → (walk.refusal ≡ 0 → Ready log home s walk) → Leading log home first last walk₀ frames₀ s walk frames
    → Walks log home first last walk₀ frames₀ walk frames
walks-end log home first last walk₀ frames₀ s walk frames e c y f = record {
  count_is = c;
  ready = λ z. subst (λ (n : ℕ). Ready log home n walk) e (y z);
  leads = λ slots next found l. subst (λ (n : ℕ). Leads log home slots next n 0 walk frames found) e
      (subst (λ (n : ℕ). Leads log home slots next s n walk frames found) none (f slots next found l));
}
  where
    none : last + 1 - s ≡ 0
    none = omega arith

-- a turn refused the walk: the blocks behind are not walked over
pub walks-stopped : (log home : List ℕ) (first last : ℕ) (walk₀ : Walk) (frames₀ : List ℕ) (s : ℕ) (walk : Walk) (frames : List ℕ) → (walk.refusal ≡ 0 → ⊥)
    → walk.table.count ≡ walk₀.table.count → Leading log home first last walk₀ frames₀ s walk frames → Walks log home first last walk₀ frames₀ walk frames
walks-stopped log home first last walk₀ frames₀ s walk frames n c f = record {
  count_is = c;
  ready = λ z. absurd (n z);
  leads = λ slots next found l. record { refused = λ m. (f slots next found l).refused n; goes = λ z. absurd (n z) };
}
