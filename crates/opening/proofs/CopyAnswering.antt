-- What the opening of a copy answers is what it promises: a refusal with its place, or a copy's sound state with its half group.
-- Assumes nothing.
use mathlib.Core.Path.{◌≡◌, refl, sym, ap, ◌∙◌, subst}
use mathlib.Core.Bool.{Bool, true, false, cond, ◌&&◌}
use mathlib.Core.List.{List, ◌++◌}
use Prim.Native.Nat.{ℕ, ◌+◌, ◌-◌, ◌≤◌}
use native.Mathlib.Omega.{arith}
use lib.ListN.{length, get_or, replicate}
use borrow.Author.Tests.{leb-true, eq-eqb, ne_eqb}
use Rattle.area.proofs.Laws.{by_cases}
use Rattle.promises.specs.declared.State.{State}
use Rattle.promises.specs.declared.Dirty.{Dirty}
use Rattle.promises.specs.declared.Outcome.{Outcome}
use Rattle.promises.specs.declared.Stop.{Stop}
use Rattle.promises.specs.Areas.{whole, log_fits, home_fits, frames_in_range, slots_in, pages_in, frames_in, staging_length}
use Rattle.promises.specs.Answers.{refuses, settles, open_answered, place_in}
use Rattle.promises.specs.Contents.{dirty_of}
use Rattle.promises.specs.States.{free, all_zero_state, Fills}
use Rattle.promises.specs.DirtyPages.{look_up}
use Rattle.promises.specs.Sums.{first_groups, half_starts, smallest}
use Rattle.promises.specs.Sound.{copy_sound}
use Rattle.promises.specs.Walk.{Walk as PaperWalk, Finding, stops, stands, finding}
use Rattle.promises.specs.Feed.{span_fits}
use Rattle.std.specs.Prelude.{Result, Ok, Err, MatchResult}
use Rattle.promises.specs.Open.{lengths_fit, opened_state, OpenStops}
use Rattle.promises.specs.CopyOpen.{copy_lengths_fit, copy_finding, kept_ending, CopyStands, OpensCopy}
use Rattle.promises.proofs.Soundness.{SoundAs, of-sound-as}
use Rattle.promises.proofs.Changes.{held-is}
use Rattle.promises.proofs.CopyPromised.{copy-accepts}
use Rattle.promises.proofs.OpenFindings.{finding-refusals}
use Rattle.table.specs.Table.{Holds}
use Rattle.table.specs.Seats.{dirty_in}
use Rattle.table.proofs.Seating.{length-dirty, free-zero}
use Rattle.promises.proofs.Replies.{numbered}
use Rattle.opening.specs.declared.Found.{Found}
use Rattle.opening.specs.Findings.{FoundWalk, found_of, outcome_refused, outcome_found, Accepts, Keeps, kept_from}
use Rattle.opening.proofs.Keeping.{from_is, ticket-early, group-count}
use Rattle.opening.proofs.Answering.{Lengths, lengths-told, entries-filled, state_as, state-sound}

-- ---- the lengths

-- as Open's, with a staging of the frames' count
pub lengths-as : (log home frames : ℕ) → lengths_fit log home frames (staging_length (frames_in frames)) ≡ copy_lengths_fit log home frames
lengths-as log home frames =
    ap (λ (b : Bool). log_fits log && home_fits home && (whole 1024 frames && frames_in_range (frames_in frames) && b)) (eq-eqb (staging_length (frames_in frames)) (staging_length (frames_in frames)) refl)
    ∙ ap (λ (b : Bool). log_fits log && home_fits home && b) (and-true (whole 1024 frames && frames_in_range (frames_in frames)))
  where
    and-true : (a : Bool) → (a && true) ≡ a
    and-true true = refl
    and-true false = refl

pub copy-lengths-told : (log home frames : ℕ) → copy_lengths_fit log home frames ≡ true → Lengths log home frames (staging_length (frames_in frames))
copy-lengths-told log home frames h = lengths-told log home frames (staging_length (frames_in frames)) (lengths-as log home frames ∙ h)

-- ---- what an opening is refused with

ending-refusals : (slots : ℕ) (found : Finding) (refusal place : ℕ) → ((r p : ℕ) → found ≡ stops r p → (7 ≤ r) × (r ≤ 9)) → kept_ending slots found ≡ stops refusal place
    → (7 ≤ refusal) × (refusal ≤ 9)
ending-refusals slots (stops r p) refusal place f e = f refusal place e
ending-refusals slots (stands next walk) refusal place f e =
    by_cases (span_fits slots next walk)
    (λ t. let h : stands next walk ≡ stops refusal place = sym (ap (λ (b : Bool). cond b (stands next walk) (stops 8 (next - 1))) t) ∙ e in let z : ◌≡◌ {A = ℕ} 0 1 = cc in absurd (omega arith))
    (λ t. let h : stops 8 (next - 1) ≡ stops refusal place = sym (ap (λ (b : Bool). cond b (stands next walk) (stops 8 (next - 1))) t) ∙ e in let z : 8 ≡ refusal = cc in (omega arith, omega arith))

module _ (log home : List ℕ) (count : ℕ) (found : FoundWalk) (frames : List ℕ) (slots pages : ℕ)
    (x : Keeps log home count (finding slots pages count log home) found frames) where
  pub kept-range : (found.walk.refusal ≡ 0 → ⊥) → (7 ≤ found.walk.refusal) × (found.walk.refusal ≤ 9)
  kept-range n = ending-refusals (slots_in (length log)) (finding slots pages count log home) _ found.walk.place (finding-refusals slots pages count log home) (x.refused n)

-- ---- from the finding to the promise

-- a desk's idle state made a copy's, with so many stored updates
abbrev pub as_copy : ℕ → State → State
as_copy stored s = record {
  pages = s.pages;
  slots = s.slots;
  frames = s.frames;
  next = s.next;
  ticket = s.ticket;
  dirty = s.dirty;
  staged = s.staged;
  groups = s.groups;
  queued = s.queued;
  stored = stored;
  reserved = s.reserved;
  described = s.described;
  cleaning = s.cleaning;
  copy = true;
}

module _ (log home frames : List ℕ) (r : Outcome ℕ Stop) (frames' : List ℕ) where
  -- refused
  copy-stopped : (refusal place : ℕ) → copy_finding log home (length frames) ≡ stops refusal place → OpenStops refusal place frames r frames'
      → OpensCopy log home frames r frames'
  copy-stopped refusal place e s = record { refused = stopped; accepted = never }
    where
      stopped : (refusal' place' : ℕ) → copy_finding log home (length frames) ≡ stops refusal' place' → OpenStops refusal' place' frames r frames'
      stopped refusal' place' f =
          let q : stops refusal place ≡ stops refusal' place' = sym e ∙ f in
          let x : refusal ≡ refusal' = cc in
          let y : place ≡ place' = cc in
          subst (λ (p : ℕ). OpenStops refusal' p frames r frames') y (subst (λ (n : ℕ). OpenStops n place frames r frames') x s)

      never : (next : ℕ) (walk : PaperWalk) → copy_finding log home (length frames) ≡ stands next walk → CopyStands next walk log home frames r frames'
      never next walk f = let q : stops refusal place ≡ stands next walk = sym e ∙ f in let z : ◌≡◌ {A = ℕ} 0 1 = cc in absurd (omega arith)

  abbrev held : Finding
  held = kept_ending (slots_in (length log)) (finding (slots_in (length log)) (pages_in (length home)) (frames_in (length frames)) log home)

  by_lengths : (b : Bool) → copy_lengths_fit (length log) (length home) (length frames) ≡ b → copy_finding log home (length frames) ≡ cond b held (stops 1 0)
  unfolding copy_finding
  by_lengths b e = ap (λ (c : Bool). cond c held (stops 1 0)) e

  -- refusal 1 changes nothing
  pub copy-lengths : copy_lengths_fit (length log) (length home) (length frames) ≡ false → open_answered r.answer ≡ refuses 1 → place_in r.answer ≡ 0
      → r.state ≡ all_zero_state → frames' ≡ frames → OpensCopy log home frames r frames'
  copy-lengths e a p s f = copy-stopped 1 0 (by_lengths false e) record { answer_is = a; place_is = p; state_is = s; frames_are = f }

  module _ (fit : copy_lengths_fit (length log) (length home) (length frames) ≡ true) (found : FoundWalk) (mid : List ℕ)
      (x : Keeps log home (frames_in (length frames)) (finding (slots_in (length log)) (pages_in (length home)) (frames_in (length frames)) log home) found mid) where
    told : Lengths (length log) (length home) (length frames) (staging_length (frames_in (length frames)))
    told = copy-lengths-told (length log) (length home) (length frames) fit

    -- after 7, 8 and 9 the frames are zero
    pub copy-refused : (found.walk.refusal ≡ 0 → ⊥) → open_answered r.answer ≡ refuses found.walk.refusal → place_in r.answer ≡ found.walk.place
        → r.state ≡ all_zero_state → length mid ≡ length frames → frames' ≡ replicate (length mid) 0 → OpensCopy log home frames r frames'
    copy-refused n a p s l f =
        copy-stopped found.walk.refusal found.walk.place (by_lengths true fit ∙ x.refused n)
        record {
          answer_is = a;
          place_is = p;
          state_is = s;
          frames_are = f ∙ ap (λ (m : ℕ). replicate m 0) l
              ∙ sym (ap (λ (b : Bool). cond b frames (replicate (length frames) 0)) (ne_eqb found.walk.refusal 1 (λ q. absurd (omega (arith, (kept-range log home (frames_in (length frames)) found mid (slots_in (length log)) (pages_in (length home)) x n).0)))));
        }

    -- an opened copy's state is sound, whatever the log holds
    module _ (z : found.walk.refusal ≡ 0) where
      abbrev acc : Accepts log home (finding (slots_in (length log)) (pages_in (length home)) (frames_in (length frames)) log home) found mid
      acc = (x.accepted z).accepts

      -- with this ticket, these entries and so many stored updates
      abbrev state_with : ℕ → List Dirty → ℕ → State
      state_with ticket dirty stored = state_as true (pages_in (length home)) (slots_in (length log)) (frames_in (length frames)) (found.newest + 1) ticket dirty stored

      abbrev state : State
      state = state_with found.walk.stage.ticket found.walk.table.dirty found.walk.stage.count

      holds : Holds found.walk.table mid acc.paper.dirty_pages
      holds = acc.stands_for.holds

      span : found.newest + 1 - smallest (found.newest + 1) (half_starts state ++ first_groups found.walk.table.dirty) + length (first_groups found.walk.table.dirty) ≤ slots_in (length log)
      span =
          let own : kept_from found.walk.stage (found.newest + 1) ≡ found.newest + 1 - found.walk.stage.count = from_is log home (found.newest + 1) found.walk acc.ready in
          let low : smallest (found.newest + 1) (half_starts state ++ first_groups found.walk.table.dirty) ≡ smallest (kept_from found.walk.stage (found.newest + 1)) (first_groups found.walk.table.dirty) =
          held-is state ∙ ap (λ (n : ℕ). smallest n (first_groups found.walk.table.dirty)) (sym own) in
          let fits : found.newest + 1 - smallest (kept_from found.walk.stage (found.newest + 1)) (first_groups found.walk.table.dirty) + length (first_groups found.walk.table.dirty) ≤ slots_in (length log) =
          leb-true _ _ (x.accepted z).half_within in
          omega (arith, low, fits)

      stays-sound : SoundAs true state
      stays-sound =
          state-sound log home _ found mid acc (length frames) (staging_length (frames_in (length frames))) told x.count_is true found.walk.stage.count
          (ticket-early log home (found.newest + 1) found.walk acc.ready) refl refl span

      pub copy-accepted : open_answered r.answer ≡ settles found.walk.stage.ticket → r.state ≡ state → length found.walk.table.dirty ≡ 32
          → ((f : ℕ) → (get_or found.walk.table.dirty f free).first ≡ 0 → get_or found.walk.table.dirty f free ≡ free) → length mid ≡ length frames → frames' ≡ mid
          → OpensCopy log home frames r frames'
      copy-accepted a s full zeroes l f =
          copy-accepts log home frames r frames' (found.newest + 1) acc.paper (by_lengths true fit ∙ (x.accepted z).kept_is)
          record {
            answer_is = a ∙ ap settles acc.stands_for.ticket_is;
            frames_long = ap length f ∙ l;
            fills = subst (λ (y : State). Fills all_zero_state.dirty y.dirty) (sym s) (entries-filled found.walk.table.dirty full zeroes);
            state_is = s ∙ ap (λ (y : State). state_with found.walk.stage.ticket y.dirty found.walk.stage.count) (sym s)
                ∙ ap (λ (t : ℕ). state_with t r.state.dirty found.walk.stage.count) acc.stands_for.ticket_is
                ∙ ap (λ (n : ℕ). state_with acc.paper.ticket r.state.dirty n) (sym (group-count log home (found.newest + 1) found.walk mid acc.paper acc.stands_for));
            stays_sound = ap copy_sound s ∙ of-sound-as true state stays-sound;
            dirty_are = λ page. ap (λ (y : State). look_up page (dirty_of y frames')) s
                ∙ ap (λ (y : List ℕ). look_up page (dirty_of state y)) f ∙ holds.looks page;
          }

-- what is answered to what was found: a copy's state is a desk's with its half group
module _ (log home frames : List ℕ) (o : Outcome ℕ Stop) (frames' : List ℕ) (fit : copy_lengths_fit (length log) (length home) (length frames) ≡ true)
    (found : Result Found Stop) (seats lent mid : List ℕ) (long : length seats ≡ frames_in (length frames)) (e : lent ≡ seats) (l : length mid ≡ length frames)
    (x : Keeps log home (frames_in (length frames)) (finding (slots_in (length log)) (pages_in (length home)) (frames_in (length frames)) log home) (found_of found seats) mid)
    (m : MatchResult found
    (λ f. (o ≡ outcome_found (pages_in (length home)) (slots_in (length log)) (frames_in (length mid)) f (dirty_in lent)) × (frames' ≡ mid))
    (λ stop. (o ≡ outcome_refused stop) × (frames' ≡ replicate (length mid) 0))) where
  pub copy-found : (f : Found) → found ≡ Ok f → OpensCopy log home frames (record { state = as_copy f.stage.count o.state; answer = o.answer }) frames'
  copy-found f q =
      let t : Lengths (length log) (length home) (length frames) (staging_length (frames_in (length frames))) = copy-lengths-told (length log) (length home) (length frames) fit in
      let y = subst (λ (z : Result Found Stop). Keeps log home (frames_in (length frames)) (finding (slots_in (length log)) (pages_in (length home)) (frames_in (length frames)) log home) (found_of z seats) mid) q x in
      let told =
      subst (λ (z : Result Found Stop). MatchResult z
      (λ f. (o ≡ outcome_found (pages_in (length home)) (slots_in (length log)) (frames_in (length mid)) f (dirty_in lent)) × (frames' ≡ mid))
      (λ stop. (o ≡ outcome_refused stop) × (frames' ≡ replicate (length mid) 0))) q m in
      copy-accepted log home frames (record { state = as_copy f.stage.count o.state; answer = o.answer }) frames' fit (found_of (Ok f) seats) mid y refl
      (ap (λ (w : Outcome ℕ Stop). open_answered w.answer) told.0)
      (ap (λ (w : Outcome ℕ Stop). as_copy f.stage.count w.state) told.0
      ∙ ap (λ (n : ℕ). as_copy f.stage.count (opened_state (pages_in (length home)) (slots_in (length log)) (frames_in n) (f.newest + 1) f.stage.ticket (dirty_in lent))) l
      ∙ ap (λ (es : List ℕ). as_copy f.stage.count (opened_state (pages_in (length home)) (slots_in (length log)) (frames_in (length frames)) (f.newest + 1) f.stage.ticket (dirty_in es))) e)
      (length-dirty seats (omega (arith, long, t.frames_most))) (free-zero seats) l told.1

pub copy-not-found : (log home frames : List ℕ) (o : Outcome ℕ Stop) (frames' : List ℕ) → copy_lengths_fit (length log) (length home) (length frames) ≡ true
    → (found : Result Found Stop) (seats lent mid : List ℕ) → length mid ≡ length frames
    → Keeps log home (frames_in (length frames)) (finding (slots_in (length log)) (pages_in (length home)) (frames_in (length frames)) log home) (found_of found seats) mid
    → MatchResult found
    (λ f. (o ≡ outcome_found (pages_in (length home)) (slots_in (length log)) (frames_in (length mid)) f (dirty_in lent)) × (frames' ≡ mid))
    (λ stop. (o ≡ outcome_refused stop) × (frames' ≡ replicate (length mid) 0))
    → ((f : Found) → found ≡ Ok f → ⊥) → OpensCopy log home frames o frames'
copy-not-found log home frames o frames' fit (Ok f) seats lent mid l x m n = absurd (n f refl)
copy-not-found log home frames o frames' fit (Err stop) seats lent mid l x m n =
    copy-refused log home frames o frames' fit (found_of (Err stop) seats) mid x (numbered _)
    (ap (λ (w : Outcome ℕ Stop). open_answered w.answer) m.0) (ap (λ (w : Outcome ℕ Stop). place_in w.answer) m.0) (ap (λ (w : Outcome ℕ Stop). w.state) m.0) l m.1
