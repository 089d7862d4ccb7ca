-- What the code's sums are, when they can be added up, and how small they are in a sound state.
-- Assumes nothing.
use Rattle.std.specs.Prelude.{◌+◌, ◌^◌, ◌≤◌, ◌<◌, ◌≡◌}
use Rattle.promises.specs.declared.State.{State}
use Rattle.promises.specs.Sums.{held_slots, waiting_blocks, dirty_count, queued_updates}
use Rattle.soundness.specs.declared.sums.Sums.{Sums}

-- no sum over the state wraps
pub record Addable (state : State) : Type 0 where
  pub queued : state.queued ≤ 32
  pub reserved : state.reserved ≤ 16
  pub next : state.next ≤ 2 ^ 48
  pub stored : state.stored < state.next

-- H, W, D and V
pub record Summed (state : State) (sums : Sums) : Type 0 where
  pub held : sums.held ≡ held_slots state
  pub waiting : sums.waiting ≡ waiting_blocks state
  pub dirty : sums.dirty ≡ dirty_count state
  pub queued : sums.queued ≡ queued_updates state
  pub held-most : sums.held ≤ 2 ^ 48
  pub waiting-most : sums.waiting ≤ 8192
  pub dirty-most : sums.dirty ≤ 32
  pub queued-most : sums.queued ≤ 8160

-- in a sound state they are within the sizes
pub record Small (state : State) (sums : Sums) : Type 0 where
  pub slots : sums.held + sums.waiting + sums.dirty + sums.queued ≤ state.slots
  pub slots-most : state.slots ≤ 1024
  pub frames : sums.dirty + sums.queued ≤ state.frames
  pub frames-most : state.frames ≤ 32
  pub sequences : state.next + sums.waiting ≤ 2 ^ 48
