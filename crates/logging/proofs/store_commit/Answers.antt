-- `logging::store_commit` meets its contract: the commit block, and the group in the frames.
-- Assumes nothing.
use mathlib.Core.Path.{refl, ap, ◌∙◌}
use mathlib.Core.List.{map}
use Prim.Native.Nat.{ℕ}
use lib.ListN.{take}
use Rattle.table.specs.Seats.{cleared}
use Rattle.logging.proofs.Blocks.{commit-stored}
use Rattle.logging.proofs.Packing.{lent-long}
use Rattle.logging.proofs.Applied.{commits-by}
use Rattle.logging.proofs.store_commit.Goals as goal

pub returns : goal.returns
returns c =
    let a = c.args in
    let p = c.requires in
    let g = c.group_size-size.ensures in
    let long = lent-long a.state.frames p.frame_count in
    let same = λ (n : ℕ). map cleared (take n a.state.dirty) in
    commits-by a.state a.log.now a.home.now a.frames.now a.staging.now _ _ _ c.apply_group.new.seats _ c.apply_group.result a.keep_from _ g p.frame_count
    (c.pack.ensures.0 ∙ long) (c.pack.ensures.1 ∙ ap same long)
    (commit-stored a.state a.log.now _ a.keep_from _ _ _ g refl c.commit-block.ensures c.store.ensures)
    c.apply_group.ensures c.entries.ensures
