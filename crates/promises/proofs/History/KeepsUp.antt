-- KEEPS UP: a copy that stands where our history ends is not refused our next block.
use mathlib.Core.Path.{◌≡◌, refl, sym, ap, ◌∙◌, subst}
use Prim.Native.Nat.{ℕ, ◌+◌, ◌-◌, ◌≤◌, ◌<◌}
use native.Mathlib.Omega.{arith}
use mathlib.Core.Bool.{true}
use mathlib.Core.List.{List, [], ◌∷◌}
use lib.ListN.{length}
use borrow.Author.Tests.{eq-eqb, ne_eqb, le-leb}
use Rattle.promises.specs.declared.State.{State}
use Rattle.promises.specs.Blocks.{Kind, update, commit, clean, LogBlock, Slot}
use Rattle.promises.specs.DirtyPages.{DirtyPage, keep_from_of}
use Rattle.promises.specs.Walk.{Walk, walk_block, in_order, framed}
use Rattle.promises.specs.Feed.{own_start, keep_right, half_start, span_fits, lacking, store_of, turned}
use Rattle.promises.proofs.Openings.{ok-parts}
use Rattle.promises.proofs.History.Ledger.{Book}
use Rattle.promises.proofs.History.Sizes.{Sizes}
use Rattle.promises.proofs.History.Stands.{block_stands}
use Rattle.promises.proofs.History.Since.{same}
use Rattle.promises.proofs.History.Sees.{by-eq}
use Rattle.promises.proofs.History.WalkStart.{commits}
use Rattle.promises.proofs.History.Invariant.{view}
use Rattle.promises.proofs.History.Accepted.{Right, Beside, ok-block}
use Rattle.promises.proofs.History.Rules.{Rules}
use Rattle.promises.proofs.History.OwnLog.{in-own-log}
use Rattle.promises.proofs.History.Whole.{Kept}
use Rattle.promises.proofs.History.Fed.{Tail, whole, part, Follows, counted, keep-is}
use Rattle.promises.proofs.History.HalfEnd.{HalfEnd, none, some, begins-le}
use Rattle.promises.proofs.History.FedTurn.{half-more}

pub keep-mono : (d d' : ℕ) (es : List DirtyPage) → d ≤ d' → keep_from_of d es ≤ keep_from_of d' es
unfolding keep_from_of
keep-mono d d' [] h = h
keep-mono d d' (e ∷ es) h = omega (arith, keep-mono d d' es h)

module _ (z : Sizes) (log : List Slot) (home : ℕ → List ℕ) (b : Book) (history : List LogBlock) (v : Walk) (big : 0 < z.N) (k : Kept z log home b history) (f : Follows z home b.m history v) where
  abbrev n : ℕ
  n = length history + 1

  -- a commit finds its group's updates in the copy's own log
  pub in-log : 0 < length v.group → lacking z.N log (length v.group) v.start 1 ≡ 0
  in-log h = go k.half
    where
      ge : v.group ≡ (view history 0).group
      ge = (f.tells 0).group

      se : v.start ≡ (view history 0).start
      se = (f.tells 0).start

      go : HalfEnd z.P history b.m → lacking z.N log (length v.group) v.start 1 ≡ 0
      go (none e) = absurd (omega (arith, ap length (ge ∙ e)))
      go (some y s bg lk lg us sd) = rw (ge, se) (in-own-log z.N z.base log history k.holds (view history 0).start (view history 0).group (omega (arith, k.based)) (begins-le bg).0 s (omega (arith, k.roomy)) sd).1

  module _ (x : LogBlock) (r : Rules z.N z.F z.P history x) where
    abbrev after : Walk
    after = walk_block home n x.kind v

    beside : Beside 0 z.P (commits history) home v (view history) (view history)
    beside = record {
      sim = λ p. record { group = refl; start = refl; page = same };
      tells = f.tells;
      ticket = f.ticket ∙ sym k.total;
      updates_of = f.places;
      pages = f.pages;
      distinct = f.distinct;
    }

    stands : block_stands z.F home x.kind x.ticket v ≡ true
    stands = ok-block z.F 0 z.P n (commits history) home x.kind x.ticket v (view history) (view history) beside r.right

    -- 8 by the walk, and 9
    pub in_order_lem : in_order x.kind x.ticket v ≡ true
    in_order_lem = (ok-parts z.F home x.kind x.ticket v stands).0

    pub few-dirty : framed z.F home x.kind v ≡ true
    few-dirty = (ok-parts z.F home x.kind x.ticket v stands).1

    kept-is : x.keep_from ≡ keep_from_of (own_start n x.kind v) after.dirty_pages
    kept-is = r.keep ∙ sym (keep-is z log home b history v big k f x)

    -- 8 by keep-from
    pub keep-right : keep_right home n x v ≡ true
    keep-right = eq-eqb _ _ kept-is

    own-le : (y : Kind) → Right z.F z.P n (commits history) (view history) y x.ticket → own_start n y v ≤ half_start (n + 1) (walk_block home n y v).group (walk_block home n y v).start
    unfolding walk_block
    own-le (update i u) q = by-eq i 1 (λ e. simp (eq-eqb _ _ e) (omega arith)) (λ d. simp (ne_eqb _ _ d) (omega (arith, half-more (n + 1) v.start v.group u)))
    own-le (commit c) q = go f.tail
      where
        go : Tail history b.m v → v.start ≤ n + 1
        go (whole e) = absurd (omega (arith, q.0, ap length (sym (f.tells 0).group ∙ e)))
        go (part y s bg l) = omega arith
    own-le (clean q) t = omega arith

    -- 8 by H + D
    pub span_fits_lem : span_fits z.N (n + 1) after ≡ true
    span_fits_lem =
        let m = keep-mono (own_start n x.kind v) (half_start (n + 1) after.group after.start) after.dirty_pages (own-le x.kind r.right) in
        let e = kept-is in
        let c = counted z log home b history v big k f x in
        let l : n + 1 - keep_from_of (half_start (n + 1) after.group after.start) after.dirty_pages + length after.dirty_pages ≤ z.N = omega (arith, m, e, c, r.room) in
        le-leb _ _ l

    -- THE FEED'S TURN TAKES IT ON
    pub turns : (state : State) (frames : List ℕ) → state.next ≡ n → state.slots ≡ z.N → state.frames ≡ z.F → turned state home frames v x ≡ store_of state frames x.kind x
    unfolding turned
    turns state frames en es ef =
        let t1 : keep_right home state.next x v ≡ true = subst (λ (i : ℕ). keep_right home i x v ≡ true) (sym en) keep-right in
        let t2 : span_fits state.slots (state.next + 1) (walk_block home state.next x.kind v) ≡ true = subst (λ (i : ℕ). span_fits i (state.next + 1) (walk_block home state.next x.kind v) ≡ true) (sym es)
        (subst (λ (i : ℕ). span_fits z.N (i + 1) (walk_block home i x.kind v) ≡ true) (sym en) span_fits_lem) in
        let t3 : framed state.frames home x.kind v ≡ true = subst (λ (i : ℕ). framed i home x.kind v ≡ true) (sym ef) few-dirty in
        simp (in_order_lem, t1, t2, t3)
