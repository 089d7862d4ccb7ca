-- What Open answers is what it promises: a refusal with its place, or a sound state.
-- Assumes nothing.
use mathlib.Core.Path.{◌≡◌, refl, sym, ap, ◌∙◌, subst}
use mathlib.Core.Bool.{Bool, true, false, cond}
use mathlib.Core.List.{List, [], ◌∷◌, ◌++◌}
use Prim.Native.Nat.{ℕ, ◌+◌, ◌-◌, ◌*◌, ◌≤◌, ◌<◌}
use native.Mathlib.Omega.{arith}
use lib.ListN.{length, drop, get_or, replicate}
use Rattle.area.proofs.Laws.{get_d-all}
use borrow.Author.Tests.{leb-true, ne_eqb}
use Rattle.std.specs.Prelude.{Result, Ok, Err, MatchResult}
use Rattle.block.proofs.Tests.{tests}
use Rattle.promises.specs.declared.State.{State}
use Rattle.promises.specs.declared.Dirty.{Dirty}
use Rattle.promises.specs.declared.Outcome.{Outcome}
use Rattle.promises.specs.declared.Stop.{Stop}
use Rattle.promises.specs.Areas.{slots_in, pages_in, frames_in}
use Rattle.promises.specs.Answers.{refuses, settles, open_answered, place_in}
use Rattle.promises.specs.Contents.{contents_of, dirty_of, grouped}
use Rattle.promises.specs.States.{free, all_zero_state, empty_state, set_block, set_dirty, set_stored, Fills}
use Rattle.promises.specs.DirtyPages.{DirtyPage, look_up}
use Rattle.promises.specs.Sums.{first_groups, half_starts, smallest}
use Rattle.promises.specs.Sound.{sound, all_below, dirty_numbers, half_group_sound, mark_sound}
use Rattle.promises.specs.Walk.{Walk as PaperWalk, Finding, stops, stands, finding}
use Rattle.promises.specs.Open.{lengths_fit, open_finding, opened, opened_state, OpenStops, OpenStands, Opens}
use Rattle.promises.proofs.Soundness.{SoundAs, Sound, of-sound}
use Rattle.promises.proofs.OpenFindings.{finding-refusals}
use Rattle.table.specs.Table.{Holds, Each}
use Rattle.table.proofs.Entries.{within-most}
use Rattle.table.proofs.Holding.{held_below, Below}
use Rattle.table.specs.Seats.{dirty_in}
use Rattle.table.proofs.Seating.{length-dirty, free-zero}
use Rattle.recovery.specs.Walking.{Early}
use Rattle.promises.proofs.Replies.{numbered}
use Rattle.opening.specs.declared.Found.{Found}
use Rattle.opening.specs.Findings.{FoundWalk, found_of, outcome_refused, outcome_found, Accepts, Finds}

-- ---- the lengths

pub record Lengths (log home frames staging : ℕ) : Type 0 where
  pub log_whole : log ≡ slots_in log * 512
  pub slots_least : 8 ≤ slots_in log
  pub slots_most : slots_in log ≤ 1024
  pub pages_least : 1 ≤ pages_in home
  pub pages_most : pages_in home ≤ 4096
  pub frames_whole : frames ≡ frames_in frames * 1024
  pub frames_least : 1 ≤ frames_in frames
  pub frames_most : frames_in frames ≤ 32

pub lengths-told : (log home frames staging : ℕ) → lengths_fit log home frames staging ≡ true → Lengths log home frames staging
lengths-told log home frames staging h =
    let g = simp tests at h in
    record {
      log_whole = omega arith;
      slots_least = omega arith;
      slots_most = omega arith;
      pages_least = omega arith;
      pages_most = omega arith;
      frames_whole = omega arith;
      frames_least = omega arith;
      frames_most = omega arith;
    }

-- ---- what an opening is refused with

module _ (log home : List ℕ) (count : ℕ) (found : FoundWalk) (frames : List ℕ) (slots pages : ℕ)
    (x : Finds log home count (finding slots pages count log home) found frames) where
  pub refusal-range : (found.walk.refusal ≡ 0 → ⊥) → (7 ≤ found.walk.refusal) × (found.walk.refusal ≤ 9)
  refusal-range n = finding-refusals slots pages count log home found.walk.refusal found.walk.place (x.refused n)

-- ---- the frames' entries: none was in use before

pub entries-filled : (dirty : List Dirty) → length dirty ≡ 32 → ((f : ℕ) → (get_or dirty f free).first ≡ 0 → get_or dirty f free ≡ free) → Fills all_zero_state.dirty dirty
entries-filled dirty full zeroes = record { count = full; kept = λ f used. absurd (used (ap (λ (d : Dirty). d.first) (get_d-all 32 f free))); free_zero = zeroes }

-- ---- the state of an accepted walk is sound, as a desk's or as a copy's

abbrev pub state_as : Bool → ℕ → ℕ → ℕ → ℕ → ℕ → List Dirty → ℕ → State
state_as copy pages slots frames next ticket dirty stored = set_stored (set_dirty (set_block (empty_state copy pages slots frames) next ticket) dirty) stored

module _ (log home : List ℕ) (found : Finding) (result : FoundWalk) (frames : List ℕ) (acc : Accepts log home found result frames) where
  below : (es : List DirtyPage) → Each (Early (pages_in (length home)) (result.newest + 1)) es → Each (Below (pages_in (length home)) (result.newest + 1)) es
  below [] e = tt
  below (d ∷ es) e = ((e.0.0, e.0.2), below es e.1)

  bounds : (all_below (pages_in (length home)) (dirty_numbers result.walk.table.dirty) ≡ true)
      × (all_below (result.newest + 1) (first_groups result.walk.table.dirty) ≡ true)
  bounds =
      held_below (pages_in (length home)) (result.newest + 1) result.walk.table frames acc.paper.dirty_pages acc.stands_for.holds
      (below acc.paper.dirty_pages acc.stands_for.early)

  module _ (lent staging : ℕ) (told : Lengths (length log) (length home) lent staging) (counted : result.walk.table.count ≡ frames_in lent) (copy : Bool) (stored : ℕ) where
    -- with so many updates of a half group stored
    abbrev pub walk_state : State
    walk_state = state_as copy (pages_in (length home)) (slots_in (length log)) (frames_in lent) (result.newest + 1) result.walk.stage.ticket result.walk.table.dirty stored

    pub state-sound : result.walk.stage.ticket < result.newest + 1 - stored → half_group_sound copy walk_state ≡ true → mark_sound copy walk_state ≡ true
        → result.newest + 1 - smallest (result.newest + 1) (half_starts walk_state ++ first_groups result.walk.table.dirty) + length (first_groups result.walk.table.dirty) ≤ slots_in (length log)
        → SoundAs copy walk_state
    state-sound early half mark span = record {
      pages = (told.pages_least, told.pages_most);
      slots = (told.slots_least, told.slots_most);
      frames = (told.frames_least, told.frames_most);
      distinct_pages = acc.stands_for.holds.table_distinct;
      pages_below = bounds.0;
      frames_below = ap (λ (n : ℕ). length (first_groups (drop n result.walk.table.dirty))) (sym counted) ∙ acc.stands_for.holds.within;
      firsts_below = bounds.1;
      ticket = early;
      distinct_areas = refl;
      areas_below = refl;
      places = refl;
      groups = refl;
      queued = omega arith;
      staged = omega arith;
      reserved = omega arith;
      described = omega arith;
      stored = half;
      cleaning = refl;
      slot_sum = omega (arith, span);
      frame_sum = omega (arith, within-most result.walk.table.count result.walk.table.dirty acc.stands_for.holds.within, counted);
      sequence_sum = omega (arith, acc.newest_below);
      mark = mark;
    }

-- ---- from the finding to the promise

module _ (log home frames staging : List ℕ) (r : Outcome ℕ Stop) (frames' : List ℕ) where
  -- refused
  opens_stopped : (refusal place : ℕ) → open_finding log home (length frames) (length staging) ≡ stops refusal place → OpenStops refusal place frames r frames'
      → Opens log home frames staging r frames'
  opens_stopped refusal place e s = record { refused = stopped; accepted = never }
    where
      stopped : (refusal' place' : ℕ) → open_finding log home (length frames) (length staging) ≡ stops refusal' place' → OpenStops refusal' place' frames r frames'
      stopped refusal' place' f =
          let q : stops refusal place ≡ stops refusal' place' = sym e ∙ f in
          let x : refusal ≡ refusal' = cc in
          let y : place ≡ place' = cc in
          subst (λ (p : ℕ). OpenStops refusal' p frames r frames') y (subst (λ (n : ℕ). OpenStops n place frames r frames') x s)

      never : (next : ℕ) (walk : PaperWalk) → open_finding log home (length frames) (length staging) ≡ stands next walk
          → OpenStands next walk log home frames r frames'
      never next walk f = let q : stops refusal place ≡ stands next walk = sym e ∙ f in let z : ◌≡◌ {A = ℕ} 0 1 = cc in absurd (omega arith)

  -- accepted
  opens-standing : (next : ℕ) (walk : PaperWalk) → open_finding log home (length frames) (length staging) ≡ stands next walk
      → OpenStands next walk log home frames r frames' → Opens log home frames staging r frames'
  opens-standing next walk e s = record { refused = never; accepted = standing }
    where
      never : (refusal place : ℕ) → open_finding log home (length frames) (length staging) ≡ stops refusal place → OpenStops refusal place frames r frames'
      never refusal place f = let q : stands next walk ≡ stops refusal place = sym e ∙ f in let z : ◌≡◌ {A = ℕ} 0 1 = cc in absurd (omega arith)

      standing : (next' : ℕ) (walk' : PaperWalk) → open_finding log home (length frames) (length staging) ≡ stands next' walk'
          → OpenStands next' walk' log home frames r frames'
      standing next' walk' f =
          let q : stands next walk ≡ stands next' walk' = sym e ∙ f in
          let x : next ≡ next' = cc in
          let y : walk ≡ walk' = cc in
          subst (λ (w : PaperWalk). OpenStands next' w log home frames r frames') y (subst (λ (n : ℕ). OpenStands n walk log home frames r frames') x s)

  by_lengths : (b : Bool) → lengths_fit (length log) (length home) (length frames) (length staging) ≡ b
      → open_finding log home (length frames) (length staging)
      ≡ cond b (finding (slots_in (length log)) (pages_in (length home)) (frames_in (length frames)) log home) (stops 1 0)
  unfolding open_finding
  by_lengths b e = ap (λ (c : Bool). cond c (finding (slots_in (length log)) (pages_in (length home)) (frames_in (length frames)) log home) (stops 1 0)) e

  -- refusal 1 changes nothing
  pub opens-lengths : lengths_fit (length log) (length home) (length frames) (length staging) ≡ false → open_answered r.answer ≡ refuses 1 → place_in r.answer ≡ 0
      → r.state ≡ all_zero_state → frames' ≡ frames → Opens log home frames staging r frames'
  opens-lengths e a p s f = opens_stopped 1 0 (by_lengths false e) record { answer_is = a; place_is = p; state_is = s; frames_are = f }

  module _ (fit : lengths_fit (length log) (length home) (length frames) (length staging) ≡ true) (found : FoundWalk) (mid : List ℕ)
      (x : Finds log home (frames_in (length frames)) (finding (slots_in (length log)) (pages_in (length home)) (frames_in (length frames)) log home) found mid) where
    told : Lengths (length log) (length home) (length frames) (length staging)
    told = lengths-told (length log) (length home) (length frames) (length staging) fit

    -- after 7, 8 and 9 the frames are zero
    pub opens-refused : (found.walk.refusal ≡ 0 → ⊥) → open_answered r.answer ≡ refuses found.walk.refusal → place_in r.answer ≡ found.walk.place
        → r.state ≡ all_zero_state → length mid ≡ length frames → frames' ≡ replicate (length mid) 0 → Opens log home frames staging r frames'
    opens-refused n a p s l f =
        opens_stopped found.walk.refusal found.walk.place (by_lengths true fit ∙ x.refused n)
        record {
          answer_is = a;
          place_is = p;
          state_is = s;
          frames_are = f ∙ ap (λ (m : ℕ). replicate m 0) l
              ∙ sym (ap (λ (b : Bool). cond b frames (replicate (length frames) 0)) (ne_eqb found.walk.refusal 1 (λ q. absurd (omega (arith, (refusal-range log home (frames_in (length frames)) found mid (slots_in (length log)) (pages_in (length home)) x n).0)))));
        }

    -- an accepted Open's state is sound, whatever the log holds
    module _ (z : found.walk.refusal ≡ 0) where
      abbrev acc : Accepts log home (finding (slots_in (length log)) (pages_in (length home)) (frames_in (length frames)) log home) found mid
      acc = x.accepted z

      abbrev state : State
      state = opened_state (pages_in (length home)) (slots_in (length log)) (frames_in (length frames)) (found.newest + 1) found.walk.stage.ticket found.walk.table.dirty

      holds : Holds found.walk.table mid acc.paper.dirty_pages
      holds = acc.stands_for.holds

      stays-sound : Sound state
      stays-sound =
          state-sound log home _ found mid acc (length frames) (length staging) told x.count_is false 0 (omega (arith, acc.ready.ticket_below)) refl refl
          (leb-true _ _ acc.span_within)

      pub opens-accepted : open_answered r.answer ≡ settles found.walk.stage.ticket → r.state ≡ state → length found.walk.table.dirty ≡ 32
          → ((f : ℕ) → (get_or found.walk.table.dirty f free).first ≡ 0 → get_or found.walk.table.dirty f free ≡ free) → length mid ≡ length frames → frames' ≡ mid
          → Opens log home frames staging r frames'
      unfolding grouped
      opens-accepted a s full zeroes l f =
          opens-standing (found.newest + 1) acc.paper (by_lengths true fit ∙ acc.found_is)
          record {
            answer_is = a ∙ ap settles acc.stands_for.ticket_is;
            frames_long = ap length f ∙ l;
            fills = subst (λ (y : State). Fills all_zero_state.dirty y.dirty) (sym s) (entries-filled found.walk.table.dirty full zeroes);
            state_is = s ∙ ap (λ (y : State). set_dirty state y.dirty) (sym s)
                ∙ ap (λ (t : ℕ). opened_state (pages_in (length home)) (slots_in (length log)) (frames_in (length frames)) (found.newest + 1) t r.state.dirty) acc.stands_for.ticket_is;
            stays_sound = ap sound s ∙ of-sound state stays-sound;
            contents_are = λ staging'. ap (λ (y : State). contents_of y staging') s
                ∙ ap (opened (pages_in (length home)) (slots_in (length log)) (frames_in (length frames)) (found.newest + 1)) acc.stands_for.ticket_is;
            dirty_are = λ page. ap (λ (y : State). look_up page (dirty_of y frames')) s
                ∙ ap (λ (y : List ℕ). look_up page (dirty_of state y)) f ∙ holds.looks page;
          }

-- what is answered to what was found
pub opens-answered : (log home frames staging : List ℕ) (r : Outcome ℕ Stop) (frames' : List ℕ) → lengths_fit (length log) (length home) (length frames) (length staging) ≡ true
    → (found : Result Found Stop) (seats lent mid : List ℕ) → length seats ≡ frames_in (length frames) → lent ≡ seats → length mid ≡ length frames
    → Finds log home (frames_in (length frames)) (finding (slots_in (length log)) (pages_in (length home)) (frames_in (length frames)) log home) (found_of found seats) mid
    → MatchResult found
    (λ f. (r ≡ outcome_found (pages_in (length home)) (slots_in (length log)) (frames_in (length mid)) f (dirty_in lent)) × (frames' ≡ mid))
    (λ stop. (r ≡ outcome_refused stop) × (frames' ≡ replicate (length mid) 0))
    → Opens log home frames staging r frames'
opens-answered log home frames staging r frames' fit (Ok f) seats lent mid long e l x m =
    let t : Lengths (length log) (length home) (length frames) (length staging) = lengths-told (length log) (length home) (length frames) (length staging) fit in
    opens-accepted log home frames staging r frames' fit (found_of (Ok f) seats) mid x refl (ap (λ (o : Outcome ℕ Stop). open_answered o.answer) m.0)
    (ap (λ (o : Outcome ℕ Stop). o.state) m.0
    ∙ ap (λ (n : ℕ). opened_state (pages_in (length home)) (slots_in (length log)) (frames_in n) (f.newest + 1) f.stage.ticket (dirty_in lent)) l
    ∙ ap (λ (es : List ℕ). opened_state (pages_in (length home)) (slots_in (length log)) (frames_in (length frames)) (f.newest + 1) f.stage.ticket (dirty_in es)) e)
    (length-dirty seats (omega (arith, long, t.frames_most))) (free-zero seats) l m.1
opens-answered log home frames staging r frames' fit (Err stop) seats lent mid long e l x m =
    opens-refused log home frames staging r frames' fit (found_of (Err stop) seats) mid x (numbered _)
    (ap (λ (o : Outcome ℕ Stop). open_answered o.answer) m.0) (ap (λ (o : Outcome ℕ Stop). place_in o.answer) m.0) (ap (λ (o : Outcome ℕ Stop). o.state) m.0) l m.1
