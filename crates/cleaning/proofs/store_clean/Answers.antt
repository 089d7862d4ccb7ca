-- `cleaning::store_clean` meets its contract: the page's clean block is in its slot.
-- Assumes nothing.
use mathlib.Core.Path.{refl, ap, ◌∙◌}
use Rattle.promises.specs.declared.Dirty.{Dirty}
use Rattle.cleaning.proofs.Storing.{cleaned-by}
use Rattle.cleaning.proofs.store_clean.Goals as goal

pub returns : goal.returns
returns c =
    let a = c.args in
    cleaned-by a.state a.log.now _ _ a.choice.frame _ _ _ (c.from-page.ensures ∙ ap (λ (d : Dirty). d.page) c.requires.4) c.oldest_but-keep_from.ensures
    c.clean-block.ensures refl c.store.ensures
