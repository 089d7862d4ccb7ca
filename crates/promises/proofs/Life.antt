-- That the promises can be met: the life of one transaction in 8 slots, 4 pages and 2 frames, from Open to its clean block. Each promise
-- is met by these states and areas, by computing.
-- Assumes nothing.
use denote.Ref.{Bor}
use mathlib.Core.Path.{◌≡◌, refl, sym, ap, ◌∙◌}
use native.Mathlib.Omega.{arith}
use lib.Dec.{eqb}
use mathlib.Core.Bool.{Bool, true, false, cond}
use mathlib.Core.Logic.{inr}
use borrow.Author.Tests.{eqb-true}
use Prim.Native.Nat.{ℕ, zero, suc}
use mathlib.Core.List.{List, [], ◌∷◌}
use lib.ListN.{length, get_or, set, replicate}
use Rattle.area.proofs.Laws.{get_d-all}
use Rattle.area.specs.Part.{part, splice}
use Rattle.std.specs.Prelude.{Ok}
use Rattle.promises.specs.declared.State.{State}
use Rattle.promises.specs.declared.Dirty.{Dirty}
use Rattle.promises.specs.declared.Cleaning.{Cleaning}
use Rattle.promises.specs.declared.Cleaning.TheVariants.{Idle, Second, Third}
use Rattle.promises.specs.declared.Logged.TheVariants.{Stored, Settled}
use Rattle.promises.specs.Areas.{page_at}
use Rattle.promises.specs.Updates.{Update, put}
use Rattle.promises.specs.Blocks.{Slot, clean, stored}
use Rattle.promises.specs.DirtyPages.{DirtyPage, absent, at, look_up, shown, apply, apply_all, without, keep_from_of}
use Rattle.promises.specs.Newest.{newest, all_unused, gathered}
use Rattle.promises.specs.Walk.{start_with, stands, walk_from, walk_gathered, finding}
use Rattle.promises.specs.Contents.{dirty_from, dirty_of, grouped}
use Rattle.promises.specs.States.{free, all_zero_state, freed, Fills}
use Rattle.promises.specs.Sums.{first_groups}
use Rattle.promises.specs.Sound.{sound_as, dirty_numbers}
use Rattle.promises.specs.Answers.{replied}
use Rattle.promises.specs.Format.{Formats}
use Rattle.promises.specs.Open.{open_finding, Opens}
use Rattle.promises.specs.Begin.{begin_refusal, Begins}
use Rattle.promises.specs.Describe.{describe_refusal, Describes}
use Rattle.promises.specs.End.{end_refusal, Ends}
use Rattle.promises.specs.LogStep.{log_refusal, update_block, commit_block, dirty_after, cleaning_after, shifted, UpdateStep, LogSteps}
use Rattle.promises.specs.CleanStep.{NoLater, clean_refusal, clean_store, CleanStep, CleanSteps}
use Rattle.promises.specs.Read.{read_refusal, held_in, Reads}
use Rattle.promises.specs.Settled.{settled_refusal, Settles}
use Rattle.promises.proofs.Slots.{blank-from}
use Rattle.promises.proofs.Promised.{open-accepts, log-updates, log-commits, clean-accepts}

-- a state of the life: next, ticket, the dirty page's first group (0: none), the first staged update's length and the first group's size
-- (0: never used), queued groups, stored, reserved, described, cleaning
abbrev state : ℕ → ℕ → ℕ → ℕ → ℕ → ℕ → ℕ → ℕ → ℕ → Cleaning → State
state next ticket first long size queued count reserved described cleaning = record {
  pages = 4;
  slots = 8;
  frames = 2;
  next = next;
  ticket = ticket;
  dirty = set all_zero_state.dirty 0 (record { page = 0; first = first });
  staged = set all_zero_state.staged 0 (record { page = 0; offset = 0; length = long; area = 0 });
  groups = set all_zero_state.groups 0 size;
  queued = queued;
  stored = count;
  reserved = reserved;
  described = described;
  cleaning = cleaning;
  copy = false;
}

abbrev awoken : State
awoken = state 1 0 0 0 0 0 0 0 0 Idle

abbrev opened : State
opened = state 1 0 0 0 0 0 0 1 0 Idle

abbrev described : State
described = state 1 0 0 1 0 0 0 1 1 Idle

abbrev closed : State
closed = state 1 0 0 1 1 1 0 0 0 Idle

abbrev half : State
half = state 2 0 0 1 1 1 1 0 0 Idle

-- the staged update and the group have left
abbrev dirty : State
dirty = state 3 1 1 0 0 0 0 0 0 Idle

abbrev home : List ℕ
home = replicate 4096 0

abbrev log₀ : List ℕ
log₀ = replicate 4096 0

abbrev frames : List ℕ
frames = replicate 2048 0

abbrev staging : List ℕ
staging = replicate 944 0

abbrev staging' : List ℕ
staging' = 42 ∷ replicate 943 0

abbrev frames' : List ℕ
frames' = 42 ∷ replicate 2047 0

abbrev group : List Update
group = record { page = 0; offset = 0; bytes = 42 ∷ [] } ∷ []

-- the dirty pages: none, or page 0
abbrev entry : DirtyPage
entry = record { page = 0; first = 1; bytes = 42 ∷ replicate 1023 0 }

none-dirty : (x : List ℕ) → dirty_from x 0 awoken.dirty ≡ []
unfolding dirty_from
none-dirty x = refl

one-dirty : dirty_from frames' 0 dirty.dirty ≡ entry ∷ []
unfolding dirty_from part
one-dirty = refl

applied : apply_all 1 (page_at home) group [] ≡ entry ∷ []
unfolding apply_all apply put part
applied = refl

cleansed : without 0 (entry ∷ []) ≡ []
unfolding without
cleansed = refl

only : (p : ℕ) (e x : DirtyPage) → look_up p (e ∷ []) ≡ at x → NoLater e.first e.page x.first p
unfolding look_up
only p e x q = go (eqb p e.page) refl q
  where
    go : (b : Bool) → eqb p e.page ≡ b → cond b (at e) absent ≡ at x → NoLater e.first e.page x.first p
    go true o q = let s : e ≡ x = cc in inr (ap (λ (y : DirtyPage). y.first) s, omega (arith, eqb-true p e.page o))
    go false o q = let n : ◌≡◌ {A = ℕ} 0 1 = cc in absurd (omega arith)

-- the frames' entries: all free, and page 0 newly in frame 0
none_filled : Fills all_zero_state.dirty awoken.dirty
none_filled = record { count = refl; kept = λ f n. absurd (n (ap (λ (d : Dirty). d.first) (get_d-all 32 f free))); free_zero = λ f e. get_d-all 32 f free }

one-filled : Fills half.dirty dirty.dirty
one-filled = record { count = refl; kept = λ f n. absurd (n (ap (λ (d : Dirty). d.first) (get_d-all 32 f free))); free_zero = zeroes }
  where
    zeroes : (f : ℕ) → (get_or dirty.dirty f free).first ≡ 0 → get_or dirty.dirty f free ≡ free
    zeroes zero e = absurd (omega arith)
    zeroes (suc f) e = get_d-all 31 f free

-- a log of zeros has nothing in it
fresh : open_finding log₀ home 2048 944 ≡ stands 1 (start_with 0)
unfolding open_finding finding gathered all_unused newest walk_from keep_from_of
fresh = ap (λ (slots : List Slot). walk_gathered 8 2 (page_at home) slots (gathered 8 slots)) (blank-from 8 4 4096 0 8 (omega arith))

found-entry : shown (look_up 0 (entry ∷ [])) (page_at home 0) ≡ entry.bytes
unfolding look_up
found-entry = refl

found-home : shown (look_up 3 (entry ∷ [])) (page_at home 3) ≡ replicate 1024 0
unfolding look_up part
found-home = refl

pub format-met : Formats (replicate 4096 255) (Ok tt) log₀
unfolding replied
format-met = record { answer_is = refl; refused = λ n. absurd (n refl); accepted = λ e. refl }

pub open-met : Opens log₀ home frames staging (record { state = awoken; answer = Ok 0 }) frames
unfolding sound_as first_groups dirty_numbers dirty_from grouped
open-met = open-accepts log₀ home frames staging (record { state = awoken; answer = Ok 0 }) frames 1 (start_with 0) fresh (record {
  answer_is = refl;
  frames_long = refl;
  fills = none_filled;
  state_is = refl;
  stays_sound = refl;
  contents_are = λ x. refl;
  dirty_are = λ p. ap (look_up p) (none-dirty frames);
})

pub begin-met : Begins awoken 1 (record { state = opened; answer = Ok tt })
unfolding replied begin_refusal sound_as first_groups dirty_numbers dirty_from grouped
begin-met = record { answer_is = refl; refused = λ n. absurd (n refl); state_is = λ e. refl; leaves = λ e x. record { stays_sound = refl; contents_are = refl; dirty_are = λ y p. refl } }

pub describe-met : Describes opened (record { page = 0; offset = 0; bytes = 42 ∷ [] }) staging (record { state = described; answer = Ok tt }) staging'
unfolding replied describe_refusal sound_as first_groups dirty_numbers dirty_from grouped part splice
describe-met = record {
  answer_is = refl;
  refused = λ n. absurd (n refl);
  accepted = λ e. record {
    area = 0;
    area_below = omega arith;
    area_free = refl;
    staging_is = refl;
    state_is = refl;
    leaves = record { stays_sound = refl; contents_are = refl; dirty_are = λ y p. refl };
  };
}

pub end-met : Ends described (record { state = closed; answer = Ok 1 })
unfolding replied end_refusal sound_as first_groups dirty_numbers dirty_from grouped part
end-met = record { answer_is = refl; refused = λ n. absurd (n refl); state_is = λ e. refl; leaves = λ e x. record { stays_sound = refl; contents_are = refl; dirty_are = λ y p. refl } }

-- ---- the two blocks of the group

abbrev log₁ : List ℕ
log₁ = stored 8 log₀ 1 (update_block closed group (dirty_of closed frames))

update-step : UpdateStep closed group log₀ frames staging' (record { state = half; answer = Ok Stored }) log₁ frames
unfolding sound_as first_groups dirty_numbers dirty_from grouped part
update-step = record { answer_is = refl; log_is = refl; frames_are = refl; state_is = refl; stays_sound = refl; contents_are = refl; dirty_are = λ p. refl }

pub update-met : LogSteps closed log₀ home frames staging' (record { state = half; answer = Ok Stored }) log₁ frames
unfolding log_refusal sound_as first_groups dirty_numbers grouped part
update-met =
    log-updates closed log₀ home frames staging' (record { state = half; answer = Ok Stored }) log₁ frames refl group [] refl (omega arith) update-step

abbrev log₂ : List ℕ → List ℕ
log₂ log = stored 8 log 2 (commit_block half group (dirty_after half group home frames))

half-accepted : (n : ℕ) → n ≡ 4096 → log_refusal half n 4096 2048 944 ≡ 0
unfolding log_refusal sound_as first_groups dirty_numbers
half-accepted n e = rw e

pub commit-met : (log : List ℕ) → length log ≡ 4096
    → LogSteps half log home frames staging' (record { state = dirty; answer = Ok (Settled 1) }) (log₂ log) frames'
unfolding sound_as first_groups dirty_numbers dirty_from grouped part cleaning_after shifted apply_all apply put
commit-met log e =
    log-commits half log home frames staging' (record { state = dirty; answer = Ok (Settled 1) }) (log₂ log) frames'
    (half-accepted (length log) e) group [] refl (omega arith) (record {
      answer_is = refl;
      log_is = refl;
      frames_long = refl;
      fills = one-filled;
      state_is = refl;
      stays_sound = refl;
      contents_are = refl;
      dirty_are = λ p. ap (look_up p) (one-dirty ∙ sym (ap (apply_all 1 (page_at home) group) (none-dirty frames) ∙ applied));
    })

pub settled-met : Settles dirty 1 (Ok true)
unfolding replied settled_refusal sound_as first_groups dirty_numbers
settled-met = record { answer_is = refl }

-- ---- the two halves and the clean block

abbrev cleaned : State
cleaned = state 4 1 0 0 0 0 0 0 0 Idle

abbrev at_second : State
at_second = state 3 1 1 0 0 0 0 0 0 (Second 0)

abbrev at_third : State
at_third = state 3 1 1 0 0 0 0 0 0 (Third 0)

second-step : (log pages : List ℕ)
    → CleanStep at_second log pages frames' (record { state = at_third; answer = Ok tt }) log (splice pages 512 512 (replicate 512 0))
unfolding clean_store sound_as first_groups dirty_numbers dirty_from grouped part look_up
second-step log pages = record {
  page = 0;
  entry = entry;
  found = refl;
  takes = refl;
  stays_sound = refl;
  log_is = refl;
  home_is = refl;
  state_is = refl;
  contents_are = λ x. refl;
  dirty_are = λ p. refl;
}

abbrev log₃ : List ℕ → List ℕ
log₃ log = stored 8 log 3 (record { kind = clean 0; keep_from = 3; ticket = 1 })

clean_step_lem : (log pages : List ℕ) → CleanStep at_third log pages frames' (record { state = cleaned; answer = Ok tt }) (log₃ log) pages
unfolding clean_store sound_as first_groups dirty_numbers dirty_from grouped part look_up without keep_from_of freed
clean_step_lem log pages = record {
  page = 0;
  entry = entry;
  found = refl;
  takes = refl;
  stays_sound = refl;
  log_is = refl;
  home_is = refl;
  state_is = refl;
  contents_are = λ x. refl;
  dirty_are = λ p. ap (look_up p) (none-dirty frames' ∙ sym (ap (without 0) one-dirty ∙ cleansed));
}

clean-accepted : (n m : ℕ) → n ≡ 4096 → m ≡ 4096
    → (clean_refusal dirty n m 2048 ≡ 0) × (clean_refusal at_second n m 2048 ≡ 0) × (clean_refusal at_third n m 2048 ≡ 0)
unfolding clean_refusal sound_as first_groups dirty_numbers
clean-accepted n m e f = rw (e, f) (refl, refl, refl)

pub first-met : (log : List ℕ) → length log ≡ 4096
    → CleanSteps dirty log home frames' (record { state = at_second; answer = Ok tt }) log (splice home 0 512 (42 ∷ replicate 511 0))
unfolding clean_store sound_as first_groups dirty_numbers dirty_from grouped part look_up
first-met log e =
    clean-accepts dirty log home frames' (record { state = at_second; answer = Ok tt }) log (splice home 0 512 (42 ∷ replicate 511 0))
    (clean-accepted (length log) 4096 e refl).0 refl (record {
      page = 0;
      entry = entry;
      found = refl;
      takes = λ p x e. only p entry x (sym (ap (look_up p) one-dirty) ∙ e);
      stays_sound = refl;
      log_is = refl;
      home_is = refl;
      state_is = refl;
      contents_are = λ x. refl;
      dirty_are = λ p. refl;
    })

pub second-met : (log pages : List ℕ) → length log ≡ 4096 → length pages ≡ 4096
    → CleanSteps at_second log pages frames' (record { state = at_third; answer = Ok tt }) log (splice pages 512 512 (replicate 512 0))
second-met log pages e f =
    clean-accepts at_second log pages frames' (record { state = at_third; answer = Ok tt }) log (splice pages 512 512 (replicate 512 0))
    (clean-accepted (length log) (length pages) e f).1 refl (second-step log pages)

pub third-met : (log pages : List ℕ) → length log ≡ 4096 → length pages ≡ 4096
    → CleanSteps at_third log pages frames' (record { state = cleaned; answer = Ok tt }) (log₃ log) pages
third-met log pages e f =
    clean-accepts at_third log pages frames' (record { state = cleaned; answer = Ok tt }) (log₃ log) pages
    (clean-accepted (length log) (length pages) e f).2 refl (clean_step_lem log pages)

-- ---- Read: the dirty page from its frame, another one from home

abbrev home_lent : Bor (List ℕ)
home_lent = record { ref_ptr = (1, 0); now = home }

abbrev frames_lent : Bor (List ℕ)
frames_lent = record { ref_ptr = (2, 0); now = frames' }

pub read-dirty-met : Reads dirty home_lent frames_lent 0 0 (record { ref_ptr = (2, 0); now = entry.bytes })
unfolding read_refusal held_in sound_as first_groups dirty_numbers
read-dirty-met = record {
  refusal = refl;
  refused = λ n. absurd (n refl);
  place_is = λ e. refl;
  bytes_are = λ e. sym (ap (λ (es : List DirtyPage). shown (look_up 0 es) (page_at home 0)) one-dirty ∙ found-entry);
}

pub read-home-met : Reads dirty home_lent frames_lent 3 0 (record { ref_ptr = (1, 3072); now = replicate 1024 0 })
unfolding read_refusal held_in sound_as first_groups dirty_numbers
read-home-met = record {
  refusal = refl;
  refused = λ n. absurd (n refl);
  place_is = λ e. refl;
  bytes_are = λ e. sym (ap (λ (es : List DirtyPage). shown (look_up 3 es) (page_at home 3)) one-dirty ∙ found-home);
}

-- and the refusals on the way: nothing queued, nothing dirty
nothing-to-do : (log_refusal awoken 4096 4096 2048 944 ≡ 10) × (clean_refusal awoken 4096 4096 2048 ≡ 10) × (clean_refusal half 4096 4096 2048 ≡ 10)
unfolding log_refusal clean_refusal sound_as first_groups dirty_numbers
nothing-to-do = (refl, refl, refl)
