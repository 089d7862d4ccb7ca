-- That a copy's promises can be met: its life over our first transaction, in 8 slots, 4 pages and 2 frames. It opens, is fed the update, opens
-- again with the half group, is fed the commit, and the clean block three times. Each promise is met by these states and areas, by computing.
-- Assumes nothing.
use mathlib.Core.Path.{◌≡◌, refl, ap}
use mathlib.Core.Bool.{true, false}
use Prim.Native.Nat.{ℕ, zero, suc}
use native.Mathlib.Omega.{arith}
use mathlib.Core.List.{List, [], ◌∷◌, ◌++◌}
use lib.ListN.{set, replicate, get_or}
use Rattle.area.specs.Part.{part, splice}
use Rattle.area.proofs.Laws.{get_d-all}
use Rattle.block.specs.Number.{to_bytes, from_bytes}
use Rattle.block.specs.Check.{plain, weighted, check_a, check_b}
use Rattle.block.specs.Kind.{kind_of}
use Rattle.block.specs.Layout.{middle, header, body, check, layout}
use Rattle.block.specs.Legal.{legal}
use Rattle.block.specs.Slot as format
use Rattle.block.specs.Slot.{all_zero, same, number_at, fields_at, block_at, judged}
use Rattle.std.specs.Prelude.{Ok, Err}
use Rattle.promises.specs.declared.State.{State}
use Rattle.promises.specs.declared.Dirty.{Dirty}
use Rattle.promises.specs.declared.Cleaning.{Cleaning}
use Rattle.promises.specs.declared.Cleaning.TheVariants.{Idle, Second, Third}
use Rattle.promises.specs.declared.Fed.TheVariants.{Had, NotYet, Taken}
use Rattle.promises.specs.declared.Refusal.TheVariants.{SequenceAhead}
use Rattle.promises.specs.Areas.{with_slot, with_first_half, with_second_half, first_half, second_half}
use Rattle.promises.specs.Updates.{put}
use Rattle.promises.specs.Blocks.{update, commit, clean, LogBlock, written, slot_at, slots_from}
use Rattle.promises.specs.DirtyPages.{DirtyPage, look_up, apply, apply_all, without, keep_from_of}
use Rattle.promises.specs.Newest.{newest, gather, all_unused, gathered}
use Rattle.promises.specs.Walk.{Walk, start_with, walk_block, in_order, framed, walk_from, finding}
use Rattle.promises.specs.Contents.{dirty_from}
use Rattle.promises.specs.States.{all_zero_state, free, freed, Fills}
use Rattle.promises.specs.Sums.{first_groups}
use Rattle.promises.specs.Sound.{sound_as, sound, dirty_numbers}
use Rattle.promises.specs.CopyOpen.{copy_finding, OpensCopy}
use Rattle.promises.specs.Feed.{updates_from, lacking, turned, feeding, Feeds}
use Rattle.promises.proofs.CopyPromised.{feeds-refused, feeds-had, feeds-first, feeds-second, feeds-taken, copy-accepts}

-- next, ticket, stored, page 0's first group (0: it is not dirty), cleaning
abbrev state : ℕ → ℕ → ℕ → ℕ → Cleaning → State
state next ticket count first_group cleaning = record {
  pages = 4;
  slots = 8;
  frames = 2;
  next = next;
  ticket = ticket;
  dirty = set all_zero_state.dirty 0 (record { page = 0; first = first_group });
  staged = all_zero_state.staged;
  groups = all_zero_state.groups;
  queued = 0;
  stored = count;
  reserved = 0;
  described = 0;
  cleaning = cleaning;
  copy = true;
}

-- nothing gets a frame, and page 0 the first
none_filled : Fills all_zero_state.dirty (state 1 0 0 0 Idle).dirty
none_filled = record { count = refl; kept = λ f n. absurd (n (ap (λ (d : Dirty). d.first) (get_d-all 32 f free))); free_zero = λ f e. get_d-all 32 f free }

one-filled : Fills (state 2 0 1 0 Idle).dirty (state 3 1 0 1 Idle).dirty
one-filled = record { count = refl; kept = λ f n. absurd (n (ap (λ (d : Dirty). d.first) (get_d-all 32 f free))); free_zero = zeroes }
  where
    zeroes : (f : ℕ) → (get_or (state 3 1 0 1 Idle).dirty f free).first ≡ 0 → get_or (state 3 1 0 1 Idle).dirty f free ≡ free
    zeroes zero e = absurd (omega arith)
    zeroes (suc f) e = get_d-all 31 f free

abbrev home : List ℕ
home = replicate 4096 9

abbrev log₀ : List ℕ
log₀ = replicate 4096 0

abbrev frames : List ℕ
frames = replicate 2048 0

-- ---- our blocks
abbrev one : LogBlock
one = record { kind = update 1 (record { page = 0; offset = 0; bytes = 42 ∷ [] }); keep_from = 1; ticket = 0 }

abbrev two : LogBlock
two = record { kind = commit 1; keep_from = 1; ticket = 1 }

abbrev three : LogBlock
three = record { kind = clean 0; keep_from = 3; ticket = 1 }

abbrev log₁ : List ℕ
log₁ = with_slot log₀ 1 (written 1 one)

abbrev log₂ : List ℕ
log₂ = with_slot log₁ 2 (written 2 two)

abbrev log₃ : List ℕ
log₃ = with_slot log₂ 3 (written 3 three)

abbrev page : List ℕ
page = 42 ∷ replicate 1023 9

abbrev entry : DirtyPage
entry = record { page = 0; first = 1; bytes = page }

abbrev frames' : List ℕ
frames' = page ++ replicate 1024 0

abbrev home₁ : List ℕ
home₁ = with_first_half home 0 (first_half page)

abbrev home₂ : List ℕ
home₂ = with_second_half home₁ 0 (second_half page)

abbrev half : Walk
half = record { group = record { page = 0; offset = 0; bytes = 42 ∷ [] } ∷ []; start = 1; ticket = 0; dirty_pages = [] }

-- it opens on the zero log, and, once it has the update, on that: the half group is kept
pub opens-empty : OpensCopy log₀ home frames (record { state = state 1 0 0 0 Idle; answer = Ok 0 }) frames
unfolding copy_finding finding gathered all_unused newest slots_from slot_at part walk_from judged all_zero keep_from_of sound_as first_groups dirty_numbers dirty_from
opens-empty = copy-accepts log₀ home frames _ frames 1 (start_with 0) refl
    (record { answer_is = refl; frames_long = refl; fills = none_filled; state_is = refl; stays_sound = refl; dirty_are = λ p. refl })

pub opens-half : OpensCopy log₁ home frames (record { state = state 2 0 1 0 Idle; answer = Ok 0 }) frames
unfolding copy_finding finding gathered gather all_unused newest slots_from slot_at part splice walk_from walk_block in_order framed judged all_zero format.valid same number_at fields_at block_at from_bytes to_bytes plain weighted check_a check_b kind_of middle header body check layout legal written keep_from_of sound_as first_groups dirty_numbers dirty_from
opens-half = copy-accepts log₁ home frames _ frames 2 half refl
    (record { answer_is = refl; frames_long = refl; fills = none_filled; state_is = refl; stays_sound = refl; dirty_are = λ p. refl })

-- the update is taken
pub fed-one : Feeds (state 1 0 0 0 Idle) log₀ home frames (written 1 one) (record { state = state 2 0 1 0 Idle; answer = Ok Taken }) log₁ home frames
unfolding feeding turned updates_from lacking slots_from slot_at part splice walk_block in_order framed judged all_zero format.valid same number_at fields_at block_at from_bytes to_bytes plain weighted check_a check_b kind_of middle header body check layout legal written keep_from_of sound_as first_groups dirty_numbers dirty_from look_up
fed-one = feeds-taken (state 1 0 0 0 Idle) log₀ home frames (written 1 one) _ log₁ home frames one refl
    (record { answer_is = refl; log_is = refl; home_is = refl; frames_are = (refl, refl); state_is = refl; stays_sound = refl; dirty_are = λ p. refl })

-- the commit is taken: its update comes from the copy's own log
pub fed-two : Feeds (state 2 0 1 0 Idle) log₁ home frames (written 2 two) (record { state = state 3 1 0 1 Idle; answer = Ok Taken }) log₂ home frames'
unfolding feeding turned updates_from lacking slots_from slot_at part splice walk_block in_order framed judged all_zero format.valid same number_at fields_at block_at from_bytes to_bytes plain weighted check_a check_b kind_of middle header body check layout legal written keep_from_of sound_as first_groups dirty_numbers dirty_from look_up apply_all apply put
fed-two = feeds-taken (state 2 0 1 0 Idle) log₁ home frames (written 2 two) _ log₂ home frames' two refl
    (record { answer_is = refl; log_is = refl; home_is = refl; frames_are = (one-filled, refl); state_is = refl; stays_sound = refl; dirty_are = λ p. refl })

-- the clean block: both halves, then the block
pub fed-first : Feeds (state 3 1 0 1 Idle) log₂ home frames' (written 3 three) (record { state = state 3 1 0 1 (Second 0); answer = Ok NotYet }) log₂ home₁ frames'
unfolding feeding turned updates_from lacking slots_from slot_at part splice walk_block in_order framed judged all_zero format.valid same number_at fields_at block_at from_bytes to_bytes plain weighted check_a check_b kind_of middle header body check layout legal written keep_from_of sound_as first_groups dirty_numbers dirty_from look_up without
fed-first = feeds-first (state 3 1 0 1 Idle) log₂ home frames' (written 3 three) _ log₂ home₁ frames' 0 entry refl
    (record { answer_is = refl; log_is = refl; home_is = refl; frames_are = refl; state_is = refl; stays_sound = refl })

pub fed-second : Feeds (state 3 1 0 1 (Second 0)) log₂ home₁ frames' (written 3 three) (record { state = state 3 1 0 1 (Third 0); answer = Ok NotYet }) log₂ home₂ frames'
unfolding feeding turned updates_from lacking slots_from slot_at part splice walk_block in_order framed judged all_zero format.valid same number_at fields_at block_at from_bytes to_bytes plain weighted check_a check_b kind_of middle header body check layout legal written keep_from_of sound_as first_groups dirty_numbers dirty_from look_up without
fed-second = feeds-second (state 3 1 0 1 (Second 0)) log₂ home₁ frames' (written 3 three) _ log₂ home₂ frames' 0 entry refl
    (record { answer_is = refl; log_is = refl; home_is = refl; frames_are = refl; state_is = refl; stays_sound = refl })

pub fed-three : Feeds (state 3 1 0 1 (Third 0)) log₂ home₂ frames' (written 3 three) (record { state = state 4 1 0 0 Idle; answer = Ok Taken }) log₃ home₂ frames'
unfolding feeding turned updates_from lacking slots_from slot_at part splice walk_block in_order framed judged all_zero format.valid same number_at fields_at block_at from_bytes to_bytes plain weighted check_a check_b kind_of middle header body check layout legal written keep_from_of sound_as first_groups dirty_numbers dirty_from look_up without freed
fed-three = feeds-taken (state 3 1 0 1 (Third 0)) log₂ home₂ frames' (written 3 three) _ log₃ home₂ frames' three refl
    (record { answer_is = refl; log_is = refl; home_is = refl; frames_are = (refl, refl); state_is = refl; stays_sound = refl; dirty_are = λ p. refl })

-- the update once more: already had; a block too far ahead: 14
pub fed-again : Feeds (state 4 1 0 0 Idle) log₃ home₂ frames' (written 1 one) (record { state = state 4 1 0 0 Idle; answer = Ok Had }) log₃ home₂ frames'
unfolding feeding turned slots_from slot_at part splice judged all_zero format.valid same number_at fields_at block_at from_bytes to_bytes plain weighted check_a check_b kind_of middle header body check layout legal written sound_as first_groups dirty_numbers
fed-again = feeds-had (state 4 1 0 0 Idle) log₃ home₂ frames' (written 1 one) _ log₃ home₂ frames' refl refl (record { state_is = refl; log_is = refl; home_is = refl; frames_are = refl })

pub fed-ahead : Feeds (state 1 0 0 0 Idle) log₀ home frames (written 2 two) (record { state = state 1 0 0 0 Idle; answer = Err (record { refusal = SequenceAhead; place = 0 }) }) log₀ home frames
unfolding feeding turned slots_from slot_at part splice judged all_zero format.valid same number_at fields_at block_at from_bytes to_bytes plain weighted check_a check_b kind_of middle header body check layout legal written sound_as first_groups dirty_numbers
fed-ahead = feeds-refused (state 1 0 0 0 Idle) log₀ home frames (written 2 two) _ log₀ home frames 14 0 refl refl refl (record { state_is = refl; log_is = refl; home_is = refl; frames_are = refl })

-- a copy's state is a desk's to no call, and a desk's is none to the feed
pub no-desk : sound (state 1 0 0 0 Idle) ≡ false
unfolding sound_as first_groups dirty_numbers
no-desk = refl
