-- Where slots of the log went bad, the next opening is refused with 7, or all is as before; refused it is where the newest block is among them.
-- Assumes nothing.
use mathlib.Core.Path.{◌≡◌, refl, sym, ap, ◌∙◌, subst}
use mathlib.Core.Logic.{◌⊎◌, inl, inr}
use mathlib.Core.Bool.{true}
use Prim.Native.Nat.{ℕ, ◌+◌, ◌*◌, ◌%◌, ◌≤◌, ◌<◌}
use mathlib.Core.List.{List, [], ◌∷◌}
use native.Mathlib.Omega.{arith}
use native.Mathlib.Nat.{mod-lt}
use lib.ListN.{length, get_or, set}
use lib.Seq.{get_or-set_same, get_or-set_other}
use Rattle.area.proofs.Laws.{by-eq, either}
use Rattle.area.proofs.Parts.{length-splice}
use Rattle.block.specs.declared.Judged.{Judged}
use Rattle.promises.specs.Areas.{page_at, slots_in, pages_in, frames_in, with_slot}
use Rattle.promises.specs.Blocks.{Kind, update, commit, clean, LogBlock, Slot, unused, damaged, slot_in, slots_of}
use Rattle.promises.specs.Newest.{newest, keep_of, Gathered, missing, blocks, gathered}
use Rattle.promises.specs.Walk.{stops, walk_from, walk_gathered, start_with, believed, finding}
use Rattle.promises.specs.Open.{open_finding, opened, opened_state}
use Rattle.promises.specs.Book.{Book}
use Rattle.promises.specs.Events.{Sizes, World, opening, reading, Opening, Reading}
use Rattle.promises.specs.Answers.{Reply, refuses, settles, shows, accepts}
use Rattle.promises.specs.Claim.{Steps, Run}
use Rattle.promises.specs.Stored.{stored_by}
use Rattle.promises.specs.SilentLoss.{with_log, NoSilentLoss, SettledStored, WentBad, NoOtherPages}
use Rattle.promises.proofs.History.WalkStart.{commits, is_commit}
use Rattle.promises.proofs.History.DamagedSlots as slots
use Rattle.promises.proofs.History.DamagedSlots.{found-bad, newest-bad}
use Rattle.promises.proofs.Ranges.{Ranged, ranged}
use Rattle.promises.proofs.Slots.{get-slot, size-slots, no_slot, same-slot, slots_with}
use Rattle.promises.proofs.Replies.{no-accept}
use Rattle.promises.proofs.OpenFindings.{open-finds}
use Rattle.promises.proofs.Openings.{opens-right, reads-right}
use Rattle.promises.proofs.Kept.{Good}
use Rattle.promises.proofs.Demand3.{good}
use Rattle.promises.proofs.Refines.{Refines, as-promised, same-stored}

-- ---- slots that went bad, by the bytes or by the list of slots

bytes-bad : (z : Sizes) (log log' : List ℕ) → WentBad z log log' → slots.WentBad (slots_of z.slots z.pages log) (slots_of z.slots z.pages log')
bytes-bad z log log' b i = either i z.slots
    (λ h. elim (b.slots_are i h) [
      | inl e ↦ inl (get-slot z.slots z.pages log' i h ∙ same-slot z.slots z.pages log log' i e ∙ sym (get-slot z.slots z.pages log i h))
      | inr e ↦ inr (get-slot z.slots z.pages log' i h ∙ e)
    ])
    (λ h. inl (no_slot z.slots z.pages log' i h ∙ sym (no_slot z.slots z.pages log i h)))

one-bad : (xs : List Slot) (i : ℕ) → i < length xs → slots.WentBad xs (set xs i damaged)
one-bad xs i h j = by-eq j i
    (λ e. inr (ap (λ (n : ℕ). get_or (set xs i damaged) n unused) e ∙ get_or-set_same xs i damaged unused h))
    (λ n. inl (get_or-set_other xs i j damaged unused n))

-- what the walk takes of the slots
same-walk : (N F : ℕ) (home : ℕ → List ℕ) (xs ys : List Slot) → newest ys ≡ newest xs → keep_of N ys ≡ keep_of N xs → (g : Gathered)
    → walk_gathered N F home ys g ≡ walk_gathered N F home xs g
same-walk N F home xs ys n k (missing s) = refl
same-walk N F home xs ys n k (blocks list) =
    ap (λ (m : ℕ). walk_from N F home (m + 1) (keep_of N ys) list (start_with (believed list))) n
    ∙ ap (λ (m : ℕ). walk_from N F home (newest xs + 1) m list (start_with (believed list))) k

-- ---- a world with a history, and another log with bad slots
module _ (z : Sizes) (range : Ranged z) (w : World) (b : Book) {history : List LogBlock} (g : Good z w b history)
    (log' : List ℕ) (long' : length log' ≡ z.slots * 512) (bad : slots.WentBad (slots_of z.slots z.pages w.log) (slots_of z.slots z.pages log')) where
  abbrev slots₀ : List Slot
  slots₀ = slots_of z.slots z.pages w.log

  abbrev slots' : List Slot
  slots' = slots_of z.slots z.pages log'

  abbrev Stops : Type 0
  Stops = (s : ℕ) × (finding z.slots z.pages z.frames log' w.home ≡ stops 7 s)

  stops-missing : slots.Missing z.slots slots' → Stops
  unfolding finding
  stops-missing r = (r.0, ap (walk_gathered z.slots z.frames (page_at w.home) slots') r.1)

  finds-bad : Stops ⊎ (finding z.slots z.pages z.frames log' w.home ≡ finding z.slots z.pages z.frames w.log w.home)
  unfolding finding
  finds-bad = elim (found-bad z.slots 1 slots₀ slots' history (omega (arith, range.slots)) g.kept.holds bad) [
    | inl r ↦ inl (stops-missing r)
    | inr r ↦ inr (ap (walk_gathered z.slots z.frames (page_at w.home) slots') r.gathers
        ∙ same-walk z.slots z.frames (page_at w.home) slots₀ slots' r.newest_is r.keep_is (gathered z.slots slots₀))
  ]

  finds-newest : 0 < length history → get_or slots' (length history % z.slots) unused ≡ damaged → Stops
  finds-newest some e = stops-missing (newest-bad z.slots 1 slots₀ slots' history (omega (arith, range.slots)) g.kept.holds bad (omega arith) e)

  module _ (frames staging : List ℕ) (ef : length frames ≡ z.frames * 1024) (es : length staging ≡ z.frames * 472) (a : Reply) (w' : World)
      (st : Opening (with_log w log') frames staging a w') where
    opens-refused : Stops → a ≡ refuses 7
    opens-refused r =
        let o = st.promise.refused 7 r.0 (open-finds z range log' w.home (length frames) (length staging) long' g.home_long ef es ∙ r.1) in
        st.reply_is ∙ o.answer_is

    -- an opening that finds the same is one of the log as it was
    as_before : finding z.slots z.pages z.frames log' w.home ≡ finding z.slots z.pages z.frames w.log w.home
        → Opening w frames staging a (with_log w' w.log)
    as_before e =
        let same : open_finding log' w.home (length frames) (length staging) ≡ open_finding w.log w.home (length frames) (length staging) =
        open-finds z range log' w.home (length frames) (length staging) long' g.home_long ef es ∙ e
        ∙ sym (open-finds z range w.log w.home (length frames) (length staging) g.log_long g.home_long ef es) in
        record {
          result = st.result;
          frames' = st.frames';
          promise = record {
            refused = λ r p q. st.promise.refused r p (same ∙ q);
            accepted = λ n v q.
                let o = st.promise.accepted n v (same ∙ q) in
                record {
                  answer_is = o.answer_is;
                  frames_long = o.frames_long;
                  fills = o.fills;
                  state_is = o.state_is
                      ∙ ap (λ (c : ℕ). opened_state (pages_in (length w.home)) (slots_in c) (frames_in (length frames)) n v.ticket st.result.state.dirty) (long' ∙ sym g.log_long);
                  stays_sound = o.stays_sound;
                  contents_are = λ x. o.contents_are x ∙ ap (λ (c : ℕ). opened (pages_in (length w.home)) (slots_in c) (frames_in (length frames)) n v.ticket) (long' ∙ sym g.log_long);
                  dirty_are = o.dirty_are;
                };
          };
          reply_is = st.reply_is;
          after = ap (λ (v : World). with_log v w.log) st.after;
        }

    opens-bad : (a ≡ refuses 7) ⊎ (a ≡ settles b.m)
    opens-bad = elim finds-bad [
      | inl r ↦ inl (opens-refused r)
      | inr e ↦ inr (opens-right z range w b g frames staging ef es a (with_log w' w.log) (as_before e))
    ]

    reads-bad : accepts a ≡ true → (p : ℕ) (x : Reply) (w'' : World) → p < z.pages → Reading w' p x w'' → x ≡ shows (b.pages p)
    reads-bad ok p x w'' h rd = elim finds-bad [
      | inl r ↦ no-accept (sym (ap accepts (opens-refused r)) ∙ ok)
      | inr e ↦ reads-right z range w b g frames staging ef es a (with_log w' w.log) (as_before e) p x (with_log w'' w.log) h (record {
        home = rd.home;
        frames = rd.frames;
        home_is = rd.home_is;
        frames_are = rd.frames_are;
        number = rd.number;
        result = rd.result;
        promise = rd.promise;
        reply_is = rd.reply_is;
        after = ap (λ (v : World). with_log v w.log) rd.after;
      })
    ]

commits-le : (history : List LogBlock) → commits history ≤ length history
commits-le [] = omega arith
commits-le (x ∷ xs) = omega (arith, commits-le xs, one x.kind)
  where
    one : (k : Kind) → is_commit k ≤ 1
    one (update i u) = omega arith
    one (commit n) = omega arith
    one (clean q) = omega arith

module _ (by : Steps) (r : Refines by) where
  good-by : (z : Sizes) → Ranged z → (w : World) (b : Book) (run : Run by z w b) → Good z w b (stored_by run)
  good-by z range w b run = subst (Good z w b) (same-stored by r z w b run) (good z range w b (as-promised by r z w b run))

  pub no-silent-loss : NoSilentLoss by
  no-silent-loss z in_range w b run some bytes long bad frames staging a w' l st =
      let range = ranged z in_range in
      let g : Good z w b (stored_by run) = good-by z range w b run in
      let i : ℕ = length (stored_by run) % z.slots in
      let inside : i < z.slots = mod-lt (length (stored_by run)) (omega (arith, range.slots)) in
      let log' : List ℕ = with_slot w.log i bytes in
      let long' : length log' ≡ z.slots * 512 = length-splice w.log (i * 512) 512 bytes (omega (arith, inside, g.log_long)) long ∙ g.log_long in
      let xs : List Slot = slots_of z.slots z.pages w.log in
      let inn : i < length xs = omega (arith, inside, size-slots z.slots z.pages w.log) in
      let e : slots_of z.slots z.pages log' ≡ set xs i damaged =
      slots_with z.slots z.pages i w.log bytes inside g.log_long long ∙ ap (λ (j : Judged). set xs i (slot_in j bytes)) bad in
      let wb : slots.WentBad xs (slots_of z.slots z.pages log') = subst (slots.WentBad xs) (sym e) (one-bad xs i inn) in
      let at : get_or (slots_of z.slots z.pages log') i unused ≡ damaged = ap (λ (ys : List Slot). get_or ys i unused) e ∙ get_or-set_same xs i damaged unused inn in
      opens-refused z range w b g log' long' wb frames staging l.0 l.1 a w' (r.steps (opening frames staging) (with_log w log') a w' st)
      (finds-newest z range w b g log' long' wb some at)

  pub settled-stored : SettledStored by
  settled-stored z in_range w b run =
      omega (arith, commits-le (stored_by run), (good-by z (ranged z in_range) w b run).kept.total)

  pub no-other-pages : NoOtherPages by
  no-other-pages z in_range w b run log' bad =
      let range = ranged z in_range in
      let g : Good z w b (stored_by run) = good-by z range w b run in
      let long' : length log' ≡ z.slots * 512 = bad.length_is ∙ g.log_long in
      let wb = bytes-bad z w.log log' bad in
      record {
        opens = λ frames staging a w' l st.
            opens-bad z range w b g log' long' wb frames staging l.0 l.1 a w' (r.steps (opening frames staging) (with_log w log') a w' st);
        reads = λ frames staging a w' l st ok p x w'' h rd.
            reads-bad z range w b g log' long' wb frames staging l.0 l.1 a w' (r.steps (opening frames staging) (with_log w log') a w' st) ok p x w'' h
            (r.steps (reading p) w' x w'' rd);
      }
