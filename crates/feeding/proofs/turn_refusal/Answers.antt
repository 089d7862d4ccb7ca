-- `feeding::turn_refusal` meets its contract, kind by kind.
-- Assumes nothing.
use mathlib.Core.Path.{sym, ap, ◌∙◌}
use mathlib.Core.List.{[]}
use Rattle.block.specs.declared.Kind.{Kind}
use Rattle.promises.specs.Blocks.{kind_in, slots_of}
use Rattle.promises.specs.Feed.{lacking_at}
use Rattle.feeding.proofs.Deciding.{few-updates}
use Rattle.feeding.proofs.turn_refusal.Goals as goal

pub commit_refusal-requires : goal.commit_refusal-requires
commit_refusal-requires c =
    let a = c.args in
    let p = c.requires in
    let e = c.in-Commit.is in
    (p.0, p.1, few-updates a.state.slots a.state.pages _ a.block p.2 e, sym (ap (λ (k : Kind). lacking_at a.state (slots_of a.state.slots a.state.pages a.log.now) (kind_in k [])) e) ∙ p.3 [])
