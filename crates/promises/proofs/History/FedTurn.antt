-- A copy: a block that passes the feed's tests, of any kind, is one more block of the history, and the walk goes on with it.
use mathlib.Core.Path.{◌≡◌, refl, sym, ap, ◌∙◌, subst, subst₂}
use Prim.Native.Nat.{ℕ, ◌+◌, ◌-◌, ◌≤◌, ◌<◌, min}
use native.Mathlib.Omega.{arith}
use mathlib.Core.Bool.{true, cond}
use mathlib.Core.List.{List, [], ◌∷◌, ◌++◌}
use lib.ListN.{length}
use lib.Dec.{eqb}
use borrow.Author.Tests.{eq-eqb, ne_eqb, eqb-true, leb-true}
use Rattle.promises.specs.declared.State.{State}
use Rattle.promises.specs.Updates.{Update, redo, of_page}
use Rattle.promises.specs.Blocks.{Kind, update, commit, clean, LogBlock, Slot}
use Rattle.promises.specs.DirtyPages.{DirtyPage, Found, look_up, apply_all, without, keep_from_of}
use Rattle.promises.specs.Contents.{dirty_of}
use Rattle.promises.specs.Sound.{copy_sound}
use Rattle.promises.specs.Walk.{Walk, walk_block, in_order, framed}
use Rattle.promises.specs.Feed.{own_start, keep_right, half_start, span_fits, updates_from, standing}
use Rattle.promises.proofs.CopyFacts.{copy-facts}
use Rattle.promises.proofs.FedBytes.{Placed}
use Rattle.promises.proofs.Passed.{update-order, commit-order, clean-order}
use Rattle.promises.proofs.History.Legal.{Legal}
use Rattle.promises.proofs.History.Ledger.{Book}
use Rattle.promises.proofs.History.Sizes.{Sizes}
use Rattle.promises.proofs.History.Stored.{store}
use Rattle.promises.proofs.History.Sees.{Sees, by-eq}
use Rattle.promises.proofs.History.WalkStart.{BeginsAt}
use Rattle.promises.proofs.History.Tally.{Pages}
use Rattle.promises.proofs.History.Invariant.{view}
use Rattle.promises.proofs.History.Accepted.{Ups}
use Rattle.promises.proofs.History.Firsts.{keep-cut, Firsts, firsts-past, firsts-before, keep-committed, whole-start}
use Rattle.promises.proofs.History.OwnLog.{in-own-log}
use Rattle.promises.proofs.History.Whole.{Kept}
use Rattle.promises.proofs.History.Fed.{Tail, whole, part, Follows, dirty-update, fed-update, fed-commit, fed-clean}
use Rattle.promises.proofs.History.HalfEnd.{HalfEnd, none, some, begins-le}

-- the feed's tests
pub record Tests (N F n : ℕ) (home : ℕ → List ℕ) (v : Walk) (x : LogBlock) : Type 0 where
  pub order : in_order x.kind x.ticket v ≡ true
  pub keep : keep_right home n x v ≡ true
  pub span : span_fits N (n + 1) (walk_block home n x.kind v) ≡ true
  pub few : framed F home x.kind v ≡ true

pub half-more : (next start : ℕ) (us : List Update) (u : Update) → half_start next (us ++ (u ∷ [])) start ≡ start
half-more next start [] u = refl
half-more next start (v ∷ us) u = refl

firsts-without : (k q : ℕ) (es : List DirtyPage) → Firsts k es → Firsts k (without q es)
unfolding without
firsts-without k q [] f = tt
firsts-without k q (e ∷ es) f = by-eq q e.page
    (λ x. simp (eq-eqb _ _ x) (firsts-without k q es f.1))
    (λ n. simp (ne_eqb _ _ n) (f.0, firsts-without k q es f.1))

-- H + D at most N, once a clean block is stored: the block itself takes a slot
clean-room : (N l : ℕ) (es : List DirtyPage) → 0 < N → Firsts l es → l + 1 + 1 - keep_from_of (l + 1 + 1) es + length es ≤ N → l + 2 - keep_from_of (l + 1) es + length es ≤ N
unfolding keep_from_of
clean-room N l [] z f h = omega arith
clean-room N l (e ∷ es) z f h = omega (arith, f.0, keep-cut (l + 1) (l + 1 + 1) es (omega arith))

module _ (z : Sizes) (log : List Slot) (home : ℕ → List ℕ) (b : Book) (history : List LogBlock) (v : Walk) (big : 0 < z.N) (k : Kept z log home b history) (f : Follows z home b.m history v) where
  abbrev n : ℕ
  n = length history + 1

  -- the book, once the block is taken
  abbrev pub after-book : Kind → Book
  after-book (update i u) = b
  after-book (commit c) = record { pages = λ p. redo (of_page p v.group) (b.pages p); m = b.m + 1; queue = b.queue; count = b.count }
  after-book (clean q) = b

  -- a clean block's page is at home
  abbrev pub AtHome : Kind → Type 0
  AtHome (update i u) = Unit {0}
  AtHome (commit c) = Unit {0}
  AtHome (clean q) = home q ≡ b.pages q

  abbrev Turned : LogBlock → Type 0
  Turned x = Kept z (store z.N n x log) home (after-book x.kind) (history ++ (x ∷ [])) × Follows z home (after-book x.kind).m (history ++ (x ∷ [])) (walk_block home n x.kind v)

  -- an update's own start is its half group's
  own-half : (i : ℕ) (u : Update) → own_start n (update i u) v ≡ half_start (n + 1) (walk_block home n (update i u) v).group (walk_block home n (update i u) v).start
  unfolding walk_block
  own-half i u = by-eq i 1 (λ e. simp (eq-eqb _ _ e)) (λ d. simp (ne_eqb _ _ d) (sym (half-more (n + 1) v.start v.group u)))

  keep-eq : (x : LogBlock) → Tests z.N z.F n home v x → x.keep_from ≡ keep_from_of (own_start n x.kind v) (walk_block home n x.kind v).dirty_pages
  keep-eq x t = eqb-true _ _ t.keep

  span-le : (x : LogBlock) → Tests z.N z.F n home v x
      → n + 1 - keep_from_of (half_start (n + 1) (walk_block home n x.kind v).group (walk_block home n x.kind v).start) (walk_block home n x.kind v).dirty_pages + length (walk_block home n x.kind v).dirty_pages ≤ z.N
  span-le x t = leb-true _ _ t.span

  turn-update : (i : ℕ) (u : Update) (kf t : ℕ) → Tests z.N z.F n home v (record { kind = update i u; keep_from = kf; ticket = t }) → Placed z.P (update i u) → Turned (record { kind = update i u; keep_from = kf; ticket = t })
  turn-update i u kf t ts pl =
      let x : LogBlock = record { kind = update i u; keep_from = kf; ticket = t } in
      let o = update-order i u t v ts.order in
      let own : ℕ = own_start n (update i u) v in
      let ek : kf ≡ keep_from_of own (walk_block home n (update i u) v).dirty_pages = keep-eq x ts in
      let eh : keep_from_of own (walk_block home n (update i u) v).dirty_pages
      ≡ keep_from_of (half_start (n + 1) (walk_block home n (update i u) v).group (walk_block home n (update i u) v).start) (walk_block home n (update i u) v).dirty_pages =
      ap (λ (d : ℕ). keep_from_of d (walk_block home n (update i u) v).dirty_pages) (own-half i u) in
      fed-update z log home b history v big k f i kf t u o.0 (o.1 ∙ f.ticket) pl.0 pl.1 (ek ∙ ap (keep_from_of own) (dirty-update z log home b history v big k f i u))
      (omega (arith, ek, eh, span-le x ts))

  firsts-start : 0 < length v.group → HalfEnd z.P history b.m → Firsts v.start v.dirty_pages
  firsts-start h (none e) = absurd (omega (arith, ap length ((f.tells 0).group ∙ e)))
  firsts-start h (some y s bg lk lg us sd) = subst (λ (i : ℕ). Firsts i v.dirty_pages) (sym (f.tells 0).start)
      (firsts-before history b.m home v.dirty_pages f.distinct (λ p. (f.tells p).sees) k.disk.first_groups (view history 0).start (view history 0).group (begins-le bg).0 s sd)

  start-le : 0 < length v.group → Tail history b.m v → v.start ≤ n + 1
  start-le h (whole e) = absurd (omega (arith, ap length e))
  start-le h (part y s bg lk) = omega arith

  turn-commit : (c kf t : ℕ) → Tests z.N z.F n home v (record { kind = commit c; keep_from = kf; ticket = t }) → Turned (record { kind = commit c; keep_from = kf; ticket = t })
  unfolding walk_block framed
  turn-commit c kf t ts =
      let x : LogBlock = record { kind = commit c; keep_from = kf; ticket = t } in
      let o = commit-order c t v ts.order in
      let es : List DirtyPage = apply_all v.start home v.group v.dirty_pages in
      let ek : kf ≡ keep_from_of v.start es = keep-eq x ts in
      let le : keep_from_of (n + 1) es ≤ v.start = keep-committed (n + 1) v.start home v.group v.dirty_pages o.0 (firsts-start o.0 k.half) in
      let ct : keep_from_of v.start es ≡ min v.start (keep_from_of (n + 1) es) = keep-cut v.start (n + 1) es (start-le o.0 f.tail) in
      let sp : n + 1 - keep_from_of (n + 1) es + length es ≤ z.N = span-le x ts in
      let r = fed-commit z log home b history v big k f kf o.0 (leb-true _ _ ts.few) ek (omega (arith, ek, le, ct, sp)) in
      subst₂ (λ (i j : ℕ). Turned (record { kind = commit i; keep_from = kf; ticket = j })) (sym o.1) (sym (o.2 ∙ ap (λ (i : ℕ). i + 1) f.ticket)) r

  turn-clean : (q kf t : ℕ) → Tests z.N z.F n home v (record { kind = clean q; keep_from = kf; ticket = t }) → home q ≡ b.pages q → Turned (record { kind = clean q; keep_from = kf; ticket = t })
  unfolding walk_block
  turn-clean q kf t ts hr =
      let x : LogBlock = record { kind = clean q; keep_from = kf; ticket = t } in
      let es : List DirtyPage = without q v.dirty_pages in
      let ek : kf ≡ keep_from_of n es = keep-eq x ts in
      let sp : n + 1 - keep_from_of (n + 1) es + length es ≤ z.N = span-le x ts in
      let fs : Firsts (length history) es = firsts-without (length history) q v.dirty_pages (firsts-past history b.m home v.dirty_pages f.distinct (λ p. (f.tells p).sees) k.disk.first_groups) in
      let r = fed-clean z log home b history v big k f q hr (clean-room z.N (length history) es big fs sp) in
      subst₂ (λ (i j : ℕ). Turned (record { kind = clean q; keep_from = i; ticket = j })) (sym ek) (sym (clean-order q t v ts.order)) r

  -- ANY BLOCK THAT PASSES
  pub turns-on : (c : Kind) (kf t : ℕ) → Tests z.N z.F n home v (record { kind = c; keep_from = kf; ticket = t }) → Placed z.P c → AtHome c → Turned (record { kind = c; keep_from = kf; ticket = t })
  turns-on (update i u) kf t ts pl hr = turn-update i u kf t ts pl
  turns-on (commit c) kf t ts pl hr = turn-commit c kf t ts
  turns-on (clean q) kf t ts pl hr = turn-clean q kf t ts hr

-- ---- where a copy's state stands, by what it says
module _ (z : Sizes) (log : List Slot) (home : ℕ → List ℕ) (b : Book) (history : List LogBlock) (v : Walk) (k : Kept z log home b history) (f : Follows z home b.m history v)
    (s : State) (frames : List ℕ) (so : copy_sound s ≡ true) (es : s.slots ≡ z.N) (ep : s.pages ≡ z.P) (en : s.next ≡ length history + 1)
    (ec : s.stored ≡ length v.group) (et : s.ticket ≡ v.ticket) (ed : (p : ℕ) → look_up p (dirty_of s frames) ≡ look_up p v.dirty_pages) where
  ge : v.group ≡ (view history 0).group
  ge = (f.tells 0).group

  se : v.start ≡ (view history 0).start
  se = (f.tells 0).start

  none_from : (c i j : ℕ) → i ≡ 0 → updates_from c log i j ≡ []
  unfolding updates_from
  none_from c i j e = rw e refl

  group-is : updates_from s.slots log s.stored (s.next - s.stored) ≡ v.group
  group-is = go k.half
    where
      go : HalfEnd z.P history b.m → updates_from s.slots log s.stored (s.next - s.stored) ≡ v.group
      go (none e) = none_from s.slots s.stored (s.next - s.stored) (ec ∙ ap length (ge ∙ e)) ∙ sym (ge ∙ e)
      go (some y st bg lk lg us sd) =
          let e1 : s.stored ≡ length (view history 0).group = ec ∙ ap length ge in
          let e2 : s.next - s.stored ≡ (view history 0).start = omega arith in
          rw (es, e2, e1) (in-own-log z.N z.base log history k.holds (view history 0).start (view history 0).group (omega (arith, k.based)) (begins-le bg).0 st (omega (arith, k.roomy)) sd).0 ∙ sym ge

  start_is_lem : cond (eqb s.stored 0) 0 (s.next - s.stored) ≡ v.start
  start_is_lem = go k.half
    where
      go : HalfEnd z.P history b.m → cond (eqb s.stored 0) 0 (s.next - s.stored) ≡ v.start
      go (none e) = simp (eq-eqb s.stored 0 (ec ∙ ap length (ge ∙ e))) (sym (se ∙ whole-start history 0 e))
      go (some y st bg lk lg us sd) =
          let e1 : s.stored ≡ length (view history 0).group = ec ∙ ap length ge in
          simp (ne_eqb s.stored 0 (omega arith)) (omega (arith, se))

  tail-is : Tail history b.m v → Tail history b.m (standing s log frames)
  tail-is (whole e) = whole (group-is ∙ e)
  tail-is (part y st bg lk) =
      let gl : length (standing s log frames).group ≡ length v.group = ap length group-is in
      part (omega arith) (omega (arith, start_is_lem)) (subst (BeginsAt history b.m) (sym start_is_lem) bg) (omega (arith, start_is_lem))

  -- IT STANDS WHERE THE WALK DOES
  pub follows-as : Follows z home b.m history (standing s log frames)
  follows-as =
      let c = copy-facts s frames so in
      record {
        tells = λ p. record {
          group = group-is ∙ (f.tells p).group;
          start = start_is_lem ∙ (f.tells p).start;
          sees = subst (λ (x : Found). Sees (home p) x (view history p).page) (sym (ed p)) (f.tells p).sees;
        };
        ticket = et ∙ f.ticket;
        distinct = c.distinct;
        pages = subst (λ (i : ℕ). Pages i (dirty_of s frames)) ep c.pages;
        places = subst (Ups z.P) (sym group-is) f.places;
        legal = subst (Legal 1024) (sym group-is) f.legal;
        tail = tail-is f.tail;
      }
