-- `cleaning::frame_to_clean` meets its contract: the least rank of those passed, and the count of dirty pages that are left. At rank 0
-- none comes before.
-- Assumes nothing.
use Prim.Native.Nat.{ℕ, ◌+◌, ◌≤◌, ◌<◌}
use mathlib.Core.Path.{◌≡◌, refl, sym, ap, ◌∙◌, subst, subst₂}
use lib.ListN.{length, drop}
use Rattle.std.specs.Option.{unwrap_or}
use Rattle.promises.specs.Sums.{first_groups}
use Rattle.promises.proofs.Soundness.{sound-of}
use Rattle.soundness.proofs.Scans.{firsts-end}
use Rattle.table.proofs.Scans.{length-mapped}
use Rattle.cleaning.specs.Cleans.{entry_at, rank_in}
use Rattle.cleaning.proofs.Choosing.{left-used, left-free, Leads, leads-lower, leads-kept, leads-free, leads-all, leads-end, firsts-small}
use Rattle.cleaning.proofs.Stepped.{chosen-least}
use borrow.Author.Rules.{rules}
use native.Mathlib.Omega.{arith}
use Rattle.cleaning.proofs.frame_to_clean.Goals as goal
use Rattle.cleaning.proofs.frame_to_clean.Goals.{then-entry-ne0, else-entry-ne0, then-own-least, else-own-least, else-loop-i-test, then-loop-i-test+then-left-eq0, then-left-eq0-via-then-left-eq0, then-left-eq0-via-else-left-eq0+then-least-eq0}

pub rank-own-requires : goal.rank-own-requires
rank-own-requires c = firsts-small c.args.state (sound-of _ c.requires.0) c.loop-i.i

pub loop-i-preserved : goal.loop-i-preserved
loop-i-preserved c =
    let ds = c.args.state.dirty in
    let named = unwrap_or c.named_in-named.result 65536 in
    let l = c.loop-i in
    let long : length ds ≡ 32 = search (rules, length-mapped) in
    let here : l.i < length ds = omega (arith, c.loop-i-test.true) in
    elim c.if-entry-ne0.branch [
      | then-entry-ne0 w ↦ elim w.if-own-least.branch [
        | then-own-least v ↦ (
          omega (arith, w.best-is, v.best-is),
          w.left-is ∙ left-used ds l.left l.i l.invariant.1 here w.if-entry-ne0.true,
          subst₂ (λ (b m : ℕ). Leads named ds b m (l.i + 1)) (sym (w.best-is ∙ v.best-is)) (sym (w.least-is ∙ v.least-is))
              (leads-lower named ds l.best l.least l.i l.invariant.2 w.rank-own.result w.rank-own.ensures v.if-own-least.true),
        )
        | else-own-least v ↦ (
          omega (arith, w.best-is, v.best-is),
          w.left-is ∙ left-used ds l.left l.i l.invariant.1 here w.if-entry-ne0.true,
          subst₂ (λ (b m : ℕ). Leads named ds b m (l.i + 1)) (sym (w.best-is ∙ v.best-is)) (sym (w.least-is ∙ v.least-is))
              (leads-kept named ds l.best l.least l.i l.invariant.2 w.rank-own.result w.rank-own.ensures (omega arith) v.if-own-least.false),
        )
      ]
      | else-entry-ne0 w ↦ (
        omega (arith, w.best-is),
        w.left-is ∙ left-free ds l.left l.i l.invariant.1 here w.if-entry-ne0.false,
        subst₂ (λ (b m : ℕ). Leads named ds b m (l.i + 1)) (sym w.best-is) (sym w.least-is) (leads-free named ds l.best l.least l.i l.invariant.2 w.if-entry-ne0.false),
      )
    ]

pub returns : goal.returns
returns c =
    let s = c.args.state in
    let l = c.loop-i in
    let named = unwrap_or c.named_in-named.result 65536 in
    let long : length s.dirty ≡ 32 = search (rules, length-mapped) in
    let ended : length (first_groups (drop l.i s.dirty)) ≡ 0 → (other : ℕ) → rank_in named (entry_at s l.best) ≤ rank_in named (entry_at s other) =
    leads-end named s.dirty l.best l.least l.i l.invariant.2 in
    let least : (other : ℕ) → rank_in named (entry_at s l.best) ≤ rank_in named (entry_at s other) =
    elim c.loop-i-test.branch [
      | else-loop-i-test w ↦ ended (ap length (firsts-end s.dirty l.i (omega (arith, w.loop-i-test.false))))
      | then-loop-i-test+then-left-eq0 w ↦ elim w.then-left-eq0.branch [
        | then-left-eq0-via-then-left-eq0 v ↦ ended (sym l.invariant.1 ∙ v.if-left-eq0.true)
        | then-left-eq0-via-else-left-eq0+then-least-eq0 v ↦ leads-all named s.dirty l.best l.least l.i l.invariant.2 v.if-least-eq0.true
      ]
    ] in (
      chosen-least s l.best c.requires.0 c.requires.1
          (subst (λ (n : ℕ). (other : ℕ) → rank_in n (entry_at s l.best) ≤ rank_in n (entry_at s other)) c.named_in-named.ensures least),
      refl,
    )
