-- `replica::close_group` meets its contract: the seats packed, and the group in the frames.
-- Assumes nothing.
use mathlib.Core.Path.{◌≡◌, sym, ap, ◌∙◌}
use mathlib.Core.List.{map}
use Prim.Native.Nat.{ℕ}
use lib.ListN.{length, take}
use Rattle.table.specs.Seats.{entry_in, cleared, dirty_in}
use Rattle.logging.proofs.Packing.{lent-long, seats-room, seats-back, seats-long, seats-few}
use Rattle.replica.proofs.Closing.{lent_by, closes_by}
use native.Mathlib.Omega.{arith}
use Rattle.replica.proofs.close_group.Goals as goal

pub slice_bounds-pack-end : goal.slice_bounds-pack-end
slice_bounds-pack-end c = sym (lent-long c.args.state.frames c.requires.frame_count)

pub pack-requires : goal.pack-requires
pack-requires c = let h = lent-long c.args.state.frames c.requires.frame_count in let f = c.requires.frame_count in (omega arith, c.requires.firsts)

pub slice_bounds-seats-end-2 : goal.slice_bounds-seats-end-2
slice_bounds-seats-end-2 c = seats-room _ c.pack.new.seats _ (c.pack.ensures.0 ∙ lent-long c.args.state.frames c.requires.frame_count)

pub slice_bounds-apply_group-end : goal.slice_bounds-apply_group-end
slice_bounds-apply_group-end c = sym (seats-long _ c.pack.new.seats _ (c.pack.ensures.0 ∙ lent-long c.args.state.frames c.requires.frame_count))

pub apply_group-requires : goal.apply_group-requires
apply_group-requires c =
    let packed : length c.pack.new.seats ≡ c.args.state.frames = c.pack.ensures.0 ∙ lent-long c.args.state.frames c.requires.frame_count in
    lent_by c.args.state c.args.log.now _ _ _ c.requires (seats-long _ c.pack.new.seats _ packed)

pub slice_bounds-seats-end-3 : goal.slice_bounds-seats-end-3
slice_bounds-seats-end-3 c =
    let packed : length c.pack.new.seats ≡ c.args.state.frames = c.pack.ensures.0 ∙ lent-long c.args.state.frames c.requires.frame_count in
    let applied : length c.apply_group.new.seats ≡ c.args.state.frames = c.apply_group.auto.seats ∙ seats-long _ c.pack.new.seats _ packed in
    seats-room _ c.apply_group.new.seats _ applied

pub slice_bounds-entries-end : goal.slice_bounds-entries-end
slice_bounds-entries-end c =
    let packed : length c.pack.new.seats ≡ c.args.state.frames = c.pack.ensures.0 ∙ lent-long c.args.state.frames c.requires.frame_count in
    let applied : length c.apply_group.new.seats ≡ c.args.state.frames = c.apply_group.auto.seats ∙ seats-long _ c.pack.new.seats _ packed in
    sym (seats-long _ c.apply_group.new.seats _ applied)

pub entries-requires : goal.entries-requires
entries-requires c =
    let packed : length c.pack.new.seats ≡ c.args.state.frames = c.pack.ensures.0 ∙ lent-long c.args.state.frames c.requires.frame_count in
    let applied : length c.apply_group.new.seats ≡ c.args.state.frames = c.apply_group.auto.seats ∙ seats-long _ c.pack.new.seats _ packed in
    seats-few _ c.apply_group.new.seats _ applied c.requires.frame_count

pub returns : goal.returns
returns c =
    let a = c.args in
    let packed : length c.pack.new.seats ≡ c.args.state.frames = c.pack.ensures.0 ∙ lent-long c.args.state.frames c.requires.frame_count in
    let applied : length c.apply_group.new.seats ≡ c.args.state.frames = c.apply_group.auto.seats ∙ seats-long _ c.pack.new.seats _ packed in
    let same = λ (n : ℕ). map cleared (take n a.state.dirty) in
    closes_by a.state a.log.now a.home.now a.frames.now _ _ c.apply_group.new.seats _ c.apply_group.result c.requires.frame_count
    (seats-long _ c.pack.new.seats _ packed)
    (ap (map entry_in) (seats-back _ c.pack.new.seats _ packed) ∙ c.pack.ensures.1 ∙ ap same (lent-long a.state.frames c.requires.frame_count))
    c.apply_group.ensures
    (c.entries.ensures ∙ ap dirty_in (seats-back _ c.apply_group.new.seats _ applied))
