-- `feeding::group_of` meets its contract: the pages of the updates up to an index.
-- Assumes nothing.
use mathlib.Core.Path.{sym, ap, ◌∙◌}
use mathlib.Core.List.{List, [], ◌∷◌, ◌++◌}
use Prim.Native.Nat.{ℕ, ◌+◌}
use lib.ListN.{length}
use Rattle.block.specs.declared.Block.{Block}
use Rattle.recovery.specs.Log.{header_of}
use Rattle.feeding.specs.Tests.{page_of}
use Rattle.feeding.proofs.Testing.{pages-next, pages-none}
use native.Mathlib.Omega.{arith}
use Rattle.feeding.proofs.group_of.Goals as goal

pub loop-i-init : goal.loop-i-init
loop-i-init c = (ap length c.new-pages.ensures, c.new-pages.ensures ∙ sym (pages-none c.args.log.now c.args.start))

pub loop-i-preserved : goal.loop-i-preserved
loop-i-preserved c =
    let a = c.args in
    let l = c.loop-i in
    let page = c.page_of.ensures ∙ ap (λ (b : Block). page_of b.kind) c.header-block.ensures in (
      omega (arith, c.push.ensures.len, l.invariant.0),
      c.push.ensures.items ∙ ap (λ (p : ℕ). l.pages.items ++ (p ∷ [])) page ∙ ap (λ (ps : List ℕ). ps ++ (page_of (header_of a.log.now (a.start + l.i)).kind ∷ [])) l.invariant.1
          ∙ sym (pages-next a.log.now a.start l.i),
    )
