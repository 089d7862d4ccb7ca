-- An accepted Log step keeps its whole promise: the update that it stores, or the commit.
-- Assumes nothing.
use mathlib.Core.Path.{◌≡◌, refl, sym, ap, ◌∙◌, subst}
use mathlib.Core.List.{List, ◌∷◌, map}
use Prim.Native.Nat.{ℕ, ◌+◌, ◌-◌, ◌≤◌, ◌<◌}
use native.Mathlib.Omega.{arith}
use lib.ListN.{length, take, get_or, length-map, get_or-map}
use lib.Seq.{get_or-take, length-take-le}
use Rattle.area.specs.Part.{part}
use Rattle.promises.specs.declared.State.{State}
use Rattle.promises.specs.declared.Staged.{Staged}
use Rattle.promises.specs.declared.Dirty.{Dirty}
use Rattle.promises.specs.declared.Cleaning.{Cleaning}
use Rattle.std.specs.Prelude.{Ok}
use Rattle.promises.specs.declared.Logged.TheVariants.{Stored, Settled}
use Rattle.promises.specs.Areas.{page_at}
use Rattle.promises.specs.Updates.{Update}
use Rattle.promises.specs.Blocks.{update, commit, stored}
use Rattle.promises.specs.DirtyPages.{keep_from_of}
use Rattle.promises.specs.Contents.{waiting, total, queue_of, dirty_of}
use Rattle.promises.specs.Sums.{first_groups, group_start, smallest}
use Rattle.promises.specs.States.{state_with}
use Rattle.promises.specs.LogStep.{no_update, update_block, commit_block, dirty_after, update_stored_state, commit_stored_state, cleaning_after, shifted, log_refusal_of, UpdateStep, LogSteps}
use Rattle.promises.proofs.Soundness.{Sound, sound-of, of-sound}
use Rattle.promises.proofs.SoundFacts.{length-dirty, keep_from-dirty}
use Rattle.promises.proofs.Changes.{update-met}
use Rattle.promises.proofs.History.KeepFrom.{keep-applied}
use Rattle.promises.proofs.Promised.{log-updates, log-commits}
use Rattle.table.proofs.Entries.{used-below}
use Rattle.table.proofs.Holding.{sound-holds}
use Rattle.queue.specs.Queue.{cleaning_left, commit_done}
use Rattle.queue.proofs.Leaving.{queue-left, cleaning-left-is, contents-left}
use Rattle.logging.specs.Logging.{no_staged, size_of, staged_at, oldest_group, update_at, commit_at, Commits}
use Rattle.logging.proofs.Committing.{sound-commit}
use Rattle.logging.proofs.Decision.{accepted, Accepted, size-and-rest}

no-update : (staging : List ℕ) → waiting staging no_staged ≡ no_update
unfolding part
no-update staging = refl

module _ (s : State) (log home frames staging : List ℕ) (accepts : log_refusal_of s log home frames staging ≡ 0) (keep : ℕ)
    (keep-is : keep ≡ smallest (group_start s) (first_groups s.dirty)) where
  tests-passed : Accepted s (length log) (length home) (length frames) (length staging)
  tests-passed = accepted s (length log) (length home) (length frames) (length staging) accepts

  facts : Sound s
  facts = sound-of s tests-passed.is_sound

  some : 1 ≤ s.queued
  some = let n : s.queued ≡ 0 → ⊥ = tests-passed.some in omega (arith, n)

  abbrev group : List Update
  group = oldest_group s staging

  abbrev others : List (List Update)
  others = queue_of (commit_done s s.dirty (size_of s)) staging

  queue-is : queue_of s staging ≡ group ∷ others
  queue-is = queue-left s s.dirty facts some staging

  size_few : size_of s + s.described ≤ length s.staged
  size_few = omega (arith, facts.staged, ap total (size-and-rest s facts some))

  group-long : length group ≡ size_of s
  group-long = length-take-le (size_of s) (map (waiting staging) s.staged) (omega (arith, size_few, length-map s.staged (waiting staging)))

  keep-of : keep ≡ keep_from_of (group_start s) (dirty_of s frames)
  keep-of = keep-is ∙ sym (keep_from-dirty (group_start s) frames 0 s.dirty)

  -- ---- the update
  next-update : s.stored < size_of s → waiting staging (staged_at s s.stored) ≡ get_or group s.stored no_update
  next-update h =
      sym (get_or-map (waiting staging) s.staged s.stored no_staged)
      ∙ ap (get_or (map (waiting staging) s.staged) s.stored) (no-update staging)
      ∙ sym (get_or-take (size_of s) (map (waiting staging) s.staged) s.stored no_update h)

  update-is : s.stored < size_of s → update_at s staging keep ≡ update_block s group (dirty_of s frames)
  update-is h =
      ap (λ (u : Update). record { kind = update (s.stored + 1) u; keep_from = keep; ticket = s.ticket }) (next-update h)
      ∙ ap (λ (k : ℕ). record { kind = update (s.stored + 1) (get_or group s.stored no_update); keep_from = k; ticket = s.ticket }) keep-of

  pub update-steps : (log' : List ℕ) → s.stored < size_of s → log' ≡ stored s.slots log s.next (update_at s staging keep)
      → LogSteps s log home frames staging (record { state = update_stored_state s; answer = Ok Stored }) log' frames
  update-steps log' h l =
      log-updates s log home frames staging (record { state = update_stored_state s; answer = Ok Stored }) log' frames accepts group others queue-is (omega (arith, group-long))
      (subst (λ (x : List ℕ). UpdateStep s group log frames staging (record { state = update_stored_state s; answer = Ok Stored }) x frames)
      (sym (l ∙ ap (stored s.slots log s.next) (update-is h)))
      (update-met s group others log frames staging tests-passed.is_sound queue-is (omega (arith, group-long))))

  -- ---- the commit
  abbrev with_queue : List Dirty → List Staged → List ℕ → Cleaning → State
  with_queue dirty staged groups cleaning =
      state_with s (s.next + 1) (s.ticket + 1) dirty staged groups (s.queued - 1) 0 s.reserved s.described cleaning

  -- the state that the promise names
  state-is : (dirty : List Dirty) → commit_done s dirty (size_of s) ≡ commit_stored_state s group dirty
  state-is dirty =
      ap (with_queue dirty (shifted s.staged (size_of s)) (shifted s.groups 1)) (cleaning-left-is staging (size_of s) s.staged s.cleaning)
      ∙ ap (λ (n : ℕ). with_queue dirty (shifted s.staged n) (shifted s.groups 1) (cleaning_after group s.cleaning)) (sym group-long)

  commit-is : commit_at s keep ≡ commit_block s group (dirty_after s group home frames)
  commit-is =
      ap (λ (n : ℕ). record { kind = commit n; keep_from = keep; ticket = s.ticket + 1 }) (sym group-long)
      ∙ ap (λ (k : ℕ). record { kind = commit (length group); keep_from = k; ticket = s.ticket + 1 })
      (keep-of ∙ sym (keep-applied (group_start s) (page_at home) group (dirty_of s frames)))

  commit-met : (dirty : List Dirty) (log' frames' : List ℕ) → length s.dirty ≡ 32 → size_of s ≤ s.stored → Commits s log home frames staging keep dirty log' frames'
      → LogSteps s log home frames staging (record { state = commit_done s dirty (size_of s); answer = Ok (Settled (s.ticket + 1)) }) log' frames'
  commit-met dirty log' frames' full h m =
      let r : State = commit_done s dirty (size_of s) in
      let room : length (dirty_of s frames) + size_of s ≤ s.frames =
      omega (arith, facts.frame_sum, length-dirty frames 0 s.dirty, ap total (size-and-rest s facts some)) in
      let held = m.holds (sound-holds s frames tests-passed.is_sound) room in
      log-commits s log home frames staging (record { state = r; answer = Ok (Settled (s.ticket + 1)) }) log' frames' accepts group others queue-is (omega (arith, group-long))
      (record {
        answer_is = refl;
        log_is = m.log_is ∙ ap (stored s.slots log s.next) commit-is;
        frames_long = m.frames_long;
        fills = m.fills full (λ f used. used-below s.frames s.dirty f facts.frames_below used);
        state_is = state-is dirty;
        stays_sound = of-sound r (sound-commit s facts some h (page_at home) frames frames' staging dirty held);
        contents_are = contents-left s dirty staging group others facts some queue-is;
        dirty_are = held.looks;
      })

  -- the state with the group's size, and with the queue and the cleaning that the code puts in
  pub commit-steps : (dirty : List Dirty) (log' frames' : List ℕ) (size : ℕ) (staged : List Staged) (groups : List ℕ) (cleaning : Cleaning) (r : State) → length s.dirty ≡ 32 → size ≡ size_of s
      → staged ≡ shifted s.staged size → groups ≡ shifted s.groups 1 → cleaning ≡ cleaning_left (take size s.staged) s.cleaning
      → size_of s ≤ s.stored → r ≡ with_queue dirty staged groups cleaning → Commits s log home frames staging keep dirty log' frames'
      → LogSteps s log home frames staging (record { state = r; answer = Ok (Settled (s.ticket + 1)) }) log' frames'
  commit-steps dirty log' frames' size staged groups cleaning r full n a b c h t m =
      subst (λ (x : State). LogSteps s log home frames staging (record { state = x; answer = Ok (Settled (s.ticket + 1)) }) log' frames')
      (sym (t ∙ ap (λ (x : List Staged). with_queue dirty x groups cleaning) a ∙ ap (λ (x : List ℕ). with_queue dirty (shifted s.staged size) x cleaning) b
      ∙ ap (with_queue dirty (shifted s.staged size) (shifted s.groups 1)) c ∙ ap (commit_done s dirty) n))
      (commit-met dirty log' frames' full h m)
