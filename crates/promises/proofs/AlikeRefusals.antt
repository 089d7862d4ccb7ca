-- Two sound states that say the same have the same sums and are refused the same.
-- Assumes nothing.
use mathlib.Core.Path.{◌≡◌, refl, sym, ap, ◌∙◌}
use mathlib.Core.Bool.{Bool, true, false, cond}
use Prim.Native.Nat.{ℕ, ◌-◌, ◌≤◌}
use mathlib.Core.List.{List, [], ◌∷◌, ◌++◌, map}
use native.Mathlib.Omega.{arith}
use lib.ListN.{length, drop, length-drop, length-map}
use lib.Seq.{length-take-le}
use Rattle.promises.specs.declared.State.{State}
use Rattle.promises.specs.declared.Cleaning.{Cleaning}
use Rattle.promises.specs.Updates.{Update}
use Rattle.promises.specs.Contents.{Contents, contents_of, dirty_of, groups_of, grouped, queue_of, waiting, total}
use Rattle.promises.specs.Sums.{first_groups, half_starts, smallest, dirty_count, held_slots}
use Rattle.promises.specs.Sound.{sound, readable}
use Rattle.promises.specs.declared.Cleaning.TheVariants.{Idle, First, Second, Third}
use Rattle.promises.specs.Begin.{begin_refusal}
use Rattle.promises.specs.Describe.{describe_refusal}
use Rattle.promises.specs.End.{end_refusal}
use Rattle.promises.specs.LogStep.{log_refusal, log_refusal_of}
use Rattle.promises.specs.CleanStep.{third_refusal, clean_refusal, clean_refusal_of}
use Rattle.promises.specs.Read.{read_refusal, read_refusal_of}
use Rattle.promises.specs.Settled.{settled_refusal}
use Rattle.promises.specs.Events.{World}
use Rattle.promises.specs.Alike.{Alike}
use Rattle.promises.proofs.Soundness.{Sound, sound-of, readable-desk}
use Rattle.promises.proofs.Changes.{held-is}
use Rattle.promises.proofs.SoundFacts.{length-dirty, keep_from-dirty, distinct-dirty, length-list, length-queue}
use Rattle.promises.proofs.History.WalkStart.{Distinct}
use Rattle.promises.proofs.SameDirty.{Same, same_count, same-keep}

-- the sizes of the queued groups are those of the queue's lists
sizes-of : (ns : List ℕ) (us : List Update) → total ns ≤ length us → map length (grouped ns us) ≡ ns
unfolding grouped
sizes-of [] us h = refl
sizes-of (n ∷ ns) us h =
    ap (λ (m : ℕ). m ∷ map length (grouped ns (drop n us))) (length-take-le n us (omega arith))
    ∙ ap (λ (ms : List ℕ). n ∷ ms) (sizes-of ns (drop n us) (omega (arith, length-drop n us)))

module _ (s : State) (f : Sound s) (staging : List ℕ) where
  groups-are : map length (queue_of s staging) ≡ groups_of s
  groups-are = sizes-of (groups_of s) (map (waiting staging) s.staged) (omega (arith, length-map s.staged (waiting staging), f.staged))

-- two sound states that say the same
module _ (s t : State) (x y frames frames' : List ℕ) (f : Sound s) (g : Sound t) (e : contents_of s x ≡ contents_of t y)
    (d : Same (dirty_of s frames) (dirty_of t frames')) where
  groups-same : groups_of s ≡ groups_of t
  groups-same = sym (groups-are s f x) ∙ ap (λ (c : Contents). map length c.queue) e ∙ groups-are t g y

  queued-same : s.queued ≡ t.queued
  queued-same = sym (length-queue s x f.queued) ∙ ap (λ (c : Contents). length c.queue) e ∙ length-queue t y g.queued

  described-same : s.described ≡ t.described
  described-same = sym (length-list s x f.staged) ∙ ap (λ (c : Contents). length c.list) e ∙ length-list t y g.staged

  abbrev once : Distinct (dirty_of s frames)
  once = distinct-dirty frames 0 s.dirty f.distinct_pages

  abbrev once' : Distinct (dirty_of t frames')
  once' = distinct-dirty frames' 0 t.dirty g.distinct_pages

  count_same : dirty_count s ≡ dirty_count t
  count_same = sym (length-dirty frames 0 s.dirty) ∙ same_count (dirty_of t frames') (dirty_of s frames) once' once d ∙ length-dirty frames' 0 t.dirty

  held_same : held_slots s ≡ held_slots t
  held_same =
      let k : smallest (s.next - s.stored) (first_groups s.dirty) ≡ smallest (s.next - s.stored) (first_groups t.dirty) =
      sym (keep_from-dirty (s.next - s.stored) frames 0 s.dirty) ∙ same-keep (s.next - s.stored) (dirty_of t frames') (dirty_of s frames) once' once d ∙ keep_from-dirty (s.next - s.stored) frames' 0 t.dirty in
      let a : smallest s.next (half_starts s ++ first_groups s.dirty) ≡ smallest t.next (half_starts t ++ first_groups t.dirty) =
      held-is s ∙ k ∙ ap (λ (c : Contents). smallest (c.next - c.stored) (first_groups t.dirty)) e ∙ sym (held-is t) in
      ap (λ (n : ℕ). s.next - n) a ∙ ap (λ (c : Contents). c.next - smallest t.next (half_starts t ++ first_groups t.dirty)) e

-- ---- refusals
-- two worlds alike are refused the same
module _ (w v : World) (a : Alike w v) where
  abbrev s : State
  s = w.state

  abbrev t : State
  t = v.state

  -- what is tested of a sound state
  by-sound : (m n k : ℕ) → (sound s ≡ true → m ≡ n) → cond (sound s) m k ≡ cond (sound t) n k
  by-sound m n k h = rw (← a.sound_is) (go (sound s) refl)
    where
      go : (b : Bool) → sound s ≡ b → cond b m k ≡ cond b n k
      go true e = h e
      go false e = refl

  -- and to Read and Settled
  by-readable : (m n k : ℕ) → (sound s ≡ true → m ≡ n) → cond (readable s) m k ≡ cond (readable t) n k
  by-readable m n k h = rw (readable-desk s a.desks.0, readable-desk t a.desks.1) (by-sound m n k h)

  module _ (so : sound s ≡ true) where
    facts : Sound s
    facts = sound-of s so

    facts' : Sound t
    facts' = sound-of t (sym a.sound_is ∙ so)

    pub groups-alike : groups_of s ≡ groups_of t
    groups-alike = groups-same s t w.staging v.staging w.frames v.frames facts facts' a.contents_are a.dirty_are

    pub queued-alike : s.queued ≡ t.queued
    queued-alike = queued-same s t w.staging v.staging w.frames v.frames facts facts' a.contents_are a.dirty_are

    described-alike : s.described ≡ t.described
    described-alike = described-same s t w.staging v.staging w.frames v.frames facts facts' a.contents_are a.dirty_are

    count-alike : dirty_count s ≡ dirty_count t
    count-alike = count_same s t w.staging v.staging w.frames v.frames facts facts' a.contents_are a.dirty_are

    held-alike : held_slots s ≡ held_slots t
    held-alike = held_same s t w.staging v.staging w.frames v.frames facts facts' a.contents_are a.dirty_are

  abbrev pages-alike : s.pages ≡ t.pages
  pages-alike = ap (λ (c : Contents). c.pages) a.contents_are

  abbrev slots-alike : s.slots ≡ t.slots
  slots-alike = ap (λ (c : Contents). c.slots) a.contents_are

  abbrev frames-alike : s.frames ≡ t.frames
  frames-alike = ap (λ (c : Contents). c.frames) a.contents_are

  abbrev next-alike : s.next ≡ t.next
  next-alike = ap (λ (c : Contents). c.next) a.contents_are

  abbrev ticket-alike : s.ticket ≡ t.ticket
  ticket-alike = ap (λ (c : Contents). c.ticket) a.contents_are

  abbrev stored-alike : s.stored ≡ t.stored
  stored-alike = ap (λ (c : Contents). c.stored) a.contents_are

  abbrev reserved-alike : s.reserved ≡ t.reserved
  reserved-alike = ap (λ (c : Contents). c.reserved) a.contents_are

  abbrev cleaning-alike : s.cleaning ≡ t.cleaning
  cleaning-alike = ap (λ (c : Contents). c.cleaning) a.contents_are

  pub begin-alike : (u : ℕ) → begin_refusal s u ≡ begin_refusal t u
  unfolding begin_refusal
  begin-alike u = by-sound _ _ 2 (λ so.
      rw (held-alike so, groups-alike so, count-alike so, slots-alike, frames-alike, next-alike, stored-alike, reserved-alike) refl)

  pub describe-alike : (page offset count : ℕ)
      → describe_refusal s (length w.staging) page offset count ≡ describe_refusal t (length v.staging) page offset count
  unfolding describe_refusal
  describe-alike page offset count = by-sound _ _ 2 (λ so. rw (a.staging_long so, frames-alike, reserved-alike, pages-alike, described-alike so) refl)

  pub end-alike : end_refusal s ≡ end_refusal t
  unfolding end_refusal
  end-alike = by-sound _ _ 2 (λ so. rw (reserved-alike, described-alike so) refl)

  pub log-alike : log_refusal_of s w.log w.home w.frames w.staging ≡ log_refusal_of t v.log v.home v.frames v.staging
  unfolding log_refusal
  log-alike = by-sound _ _ 2 (λ so.
      rw (a.log_is, a.home_is, a.frames_long so, a.staging_long so, slots-alike, pages-alike, frames-alike, queued-alike so) refl)

  pub clean-alike : clean_refusal_of s w.log w.home w.frames ≡ clean_refusal_of t v.log v.home v.frames
  unfolding clean_refusal
  clean-alike = by-sound _ _ 2 (λ so.
      let last : third_refusal s s.cleaning ≡ third_refusal t t.cleaning = third s.cleaning so ∙ ap (third_refusal t) cleaning-alike in
      rw (last, a.log_is, a.home_is, a.frames_long so, slots-alike, pages-alike, frames-alike, count-alike so) refl)
    where
      third : (c : Cleaning) → sound s ≡ true → third_refusal s c ≡ third_refusal t c
      third Idle so = refl
      third (First p) so = refl
      third (Second p) so = refl
      third (Third p) so = rw (groups-alike so, next-alike, stored-alike, reserved-alike) refl

  pub read_alike : (page : ℕ) → read_refusal_of s w.home w.frames page ≡ read_refusal_of t v.home v.frames page
  unfolding read_refusal
  read_alike page = by-readable _ _ 2 (λ so. rw (a.home_is, a.frames_long so, pages-alike, frames-alike) refl)

  pub settled-alike : (ticket : ℕ) → settled_refusal s ticket ≡ settled_refusal t ticket
  unfolding settled_refusal
  settled-alike ticket = by-readable _ _ 2 (λ so. rw (ticket-alike, queued-alike so) refl)
