-- How long a feed waits that meets refusal 5. Said of every state with areas of the right lengths, not only of those that a run leads to.
-- Assumes nothing.
use Rattle.std.specs.Prelude.{ℕ, zero, suc, ◌+◌, ◌*◌, ◌≤◌, ◌≡◌, ◌⊎◌, true, [], length}
use Rattle.block.specs.Sizes.{sequence_end}
use Rattle.promises.specs.Areas.{log_length, home_length, frames_length, staging_length}
use Rattle.promises.specs.Sums.{open_ones, dirty_count, waiting_blocks}
use Rattle.promises.specs.Events.{World, Call, begin, log_step, clean_step}
use Rattle.promises.specs.Answers.{Reply, refuses, done, accepts}
use Rattle.promises.specs.Claim.{Steps}

-- all lengths are right
pub record Fitting (world : World) : Type 0 where
  pub log : length world.log ≡ log_length world.state.slots
  pub home : length world.home ≡ home_length world.state.pages
  pub frames : length world.frames ≡ frames_length world.state.frames
  pub staging : length world.staging ≡ staging_length world.state.frames

-- so many calls of one kind, no other call between them, whatever they answer
pub data Calls (by : Steps) (call : Call) : ℕ → World → World → Type 0 where
  none : {world world' : World} → world' ≡ world → Calls by call zero world world'
  more : {count : ℕ} {world world' world'' : World} (reply : Reply) → by.steps call world reply world' → Calls by call count world' world''
      → Calls by call (suc count) world world''

-- each of these calls is accepted
unfoldable pub AllAccepted : {by : Steps} {call : Call} {count : ℕ} {world world' : World} → Calls by call count world world' → Type 0
AllAccepted (none same) = Unit {0}
AllAccepted (more reply step rest) = (accepts reply ≡ true) × AllAccepted rest

-- none is dirty, and Begin is accepted
pub record Served (by : Steps) (u : ℕ) (world : World) : Type 0 where
  pub none_dirty : dirty_count world.state ≡ 0
  pub begins : (reply : Reply) (world' : World) → by.steps (begin u) world reply world' → reply ≡ done

-- along these clean steps: each is accepted while a page is dirty; some world among them, or the one after the last, has none dirty, and there
-- Begin is accepted
unfoldable pub Serves : {by : Steps} {count : ℕ} {world world' : World} → ℕ → Calls by clean_step count world world' → Type 0
Serves {by = by} u (none {world = world} same) = Served by u world
Serves {by = by} u (more {world = world} reply step rest) =
    Served by u world ⊎ ((dirty_count world.state ≡ 0 → ⊥) × (accepts reply ≡ true) × Serves u rest)

-- what is claimed of the log steps after a Begin that was refused, and of so many clean steps after them
pub record Waits {by : Steps} {count : ℕ} {world world' : World} (u cleanings : ℕ) (logged : Calls by log_step count world world') : Type 0 where
  pub accepted : AllAccepted logged
  pub none_queued : world'.state.queued ≡ 0
  pub serves : (world'' : World) (cleaned : Calls by clean_step cleanings world' world'') → Serves u cleaned

-- nothing is open, next is at most 2^48 - 4,096, and Begin is refused as full: W log steps, and after them at most 3 F clean steps
abbrev pub WaitBound : Steps → Type 0
WaitBound by = (world : World) (u : ℕ) → Fitting world → open_ones world.state ≡ [] → world.state.next + 4096 ≤ sequence_end
    → (full : World) → by.steps (begin u) world (refuses 5) full
    → (world' : World) (logged : Calls by log_step (waiting_blocks world.state) full world')
    → Waits u (3 * world.state.frames) logged
