-- A copy opens: the walk from keep-from on stands where the history ends, its half group too.
use mathlib.Core.Path.{◌≡◌, refl, sym, ap, ◌∙◌, subst}
use Prim.Native.Nat.{ℕ, suc, ◌+◌, ◌-◌, ◌≤◌, ◌<◌}
use native.Mathlib.Omega.{arith}
use mathlib.Core.List.{List, [], ◌∷◌}
use lib.ListN.{length, drop}
use Rattle.promises.proofs.History.Legal.{Legal}
use Rattle.promises.specs.Updates.{Update}
use Rattle.promises.proofs.History.Views.{View, no_view, view_block, view_from}
use Rattle.promises.specs.Blocks.{LogBlock, Slot}
use Rattle.promises.specs.DirtyPages.{look_up, keep_from_of}
use Rattle.promises.specs.Walk.{Walk, believed}
use Rattle.promises.specs.Feed.{half_start}
use Rattle.promises.proofs.History.Machine.{last_keep}
use Rattle.promises.proofs.History.Ledger.{Book, gone}
use Rattle.promises.proofs.History.Sizes.{Sizes, opened}
use Rattle.promises.proofs.History.Since.{Below, Sim, sim-begin, sim-track, track-append, below-track}
use Rattle.promises.proofs.History.Sees.{clear, Tells, tells-walk}
use Rattle.promises.proofs.History.WalkStart.{BeginsAt}
use Rattle.promises.proofs.History.Invariant.{view, Keep, empty, from}
use Rattle.promises.proofs.History.Tally.{tally}
use Rattle.promises.proofs.History.Accepted.{Ups, walk_at}
use Rattle.promises.proofs.History.Recovered.{rest}
use Rattle.promises.proofs.History.Whole.{Kept, dirty_of, count-dirty}
use Rattle.promises.proofs.History.Reopened.{vw, running, reports}
use Rattle.promises.proofs.History.Fed.{Tail, whole, part, Follows}
use Rattle.promises.proofs.History.HalfEnd.{HalfEnd, none, some}
use Rattle.promises.proofs.History.KeepFrom.{keep-le, keep-grows}

-- the walk from keep-from on ends with the same half group
pub record Ends (t s : View) : Type 0 where
  pub group : t.group ≡ s.group
  pub start : t.start ≡ s.start

tail-ends : (history : List LogBlock) (m p : ℕ) → Keep history m → Ends (view history p) (view_from p (last_keep history) (drop (last_keep history - 1) history) no_view)
unfolding view_from last_keep
tail-ends history m p (empty e z) = rw e (record { group = refl; start = refl })
tail-ends history m p (from g) =
    let k : ℕ = last_keep history in
    let l : Below k (view_from p 1 g.pre no_view).page = subst (λ (n : ℕ). Below n (view_from p 1 g.pre no_view).page) g.place (below-track p 1 g.pre no_view (omega arith) (omega arith) Below.none) in
    let r : Sim k (view_from p (suc k) g.post (view_block p k g.block.kind (view_from p 1 g.pre no_view))) (view_from p (suc k) g.post (view_block p k g.block.kind no_view)) =
    sim-track p (suc k) g.post _ _ (sim-begin p k g.block.kind (view_from p 1 g.pre no_view) g.begins l) in
    let q : view history p ≡ view_from p (suc k) g.post (view_block p k g.block.kind (view_from p 1 g.pre no_view)) =
    ap (λ (x : List LogBlock). view x p) g.split ∙ track-append p 1 g.pre (g.block ∷ g.post) no_view ∙ ap (λ (n : ℕ). view_from p n (g.block ∷ g.post) (view_from p 1 g.pre no_view)) g.place in
    let d : view_from p k (drop (k - 1) history) no_view ≡ view_from p (suc k) g.post (view_block p k g.block.kind no_view) = ap (λ (x : List LogBlock). view_from p k x no_view) (rest history m k g) in
    record {
      group = ap (λ (t : View). t.group) q ∙ r.group ∙ ap (λ (t : View). t.group) (sym d);
      start = ap (λ (t : View). t.start) q ∙ r.start ∙ ap (λ (t : View). t.start) (sym d);
    }

no-updates : Legal 1024 []
unfolding Legal
no-updates = tt

tells_none : (home : ℕ → List ℕ) (p t : ℕ) → Tells home p (walk_at t) no_view
unfolding look_up
tells_none home p t = record { group = refl; start = refl; sees = clear }

module _ (z : Sizes) (log : List Slot) (home : ℕ → List ℕ) (b : Book) (history : List LogBlock) (big : 0 < z.N) (k : Kept z log home b history) where
  abbrev h : HalfEnd z.P history b.m
  h = k.half

  abbrev w : Walk
  w = vw z log home b history big k

  tells-now : (p : ℕ) → Tells home p w (view history p)
  tells-now p =
      let t = tells-walk home p (last_keep history) (drop (last_keep history - 1) history) (walk_at (believed (drop (last_keep history - 1) history))) no_view (tells_none home p _) in
      let e = tail-ends history b.m p k.disk.keep_from in
      record { group = t.group ∙ sym e.group; start = t.start ∙ sym e.start; sees = (running z log home b history big k).alive.sees p }

  group-is : w.group ≡ (view history 0).group
  group-is = (tells-now 0).group

  start_is_lem : w.start ≡ (view history 0).start
  start_is_lem = (tells-now 0).start

  -- IT STANDS WHERE THE HISTORY ENDS
  pub resumed : Follows z home b.m history w
  resumed = record {
    tells = tells-now;
    ticket = reports z log home b history big k;
    distinct = (running z log home b history big k).alive.distinct;
    pages = (running z log home b history big k).pages;
    places = go-places h;
    legal = go-legal h;
    tail = go-tail h;
  }
    where
      go-places : HalfEnd z.P history b.m → Ups z.P w.group
      go-places (none e) = subst (Ups z.P) (sym (group-is ∙ e)) tt
      go-places (some a c bg l lg us sd) = subst (Ups z.P) (sym group-is) us

      go-legal : HalfEnd z.P history b.m → Legal 1024 w.group
      go-legal (none e) = subst (Legal 1024) (sym (group-is ∙ e)) no-updates
      go-legal (some a c bg l lg us sd) = subst (Legal 1024) (sym group-is) lg

      go-tail : HalfEnd z.P history b.m → Tail history b.m w
      go-tail (none e) = whole (group-is ∙ e)
      go-tail (some a c bg l lg us sd) =
          let gl : length w.group ≡ length (view history 0).group = ap length group-is in
          part (omega arith) (omega (arith, start_is_lem)) (subst (BeginsAt history b.m) (sym start_is_lem) bg) (omega (arith, start_is_lem))

  -- AND ITS H + D IS AT MOST N
  pub spans : length history + 1 - keep_from_of (half_start (length history + 1) w.group w.start) w.dirty_pages + length w.dirty_pages ≤ z.N
  spans =
      let r = running z log home b history big k in
      let a = r.alive in
      let cd : tally z.P (dirty_of history) ≡ length w.dirty_pages = count-dirty z home (gone b) history (opened w) a r.pages in
      let own : last_keep history ≤ half_start (length history + 1) w.group w.start = own-ge w.group refl h in
      let o : last_keep history ≤ keep_from_of (half_start (length history + 1) w.group w.start) w.dirty_pages = keep-grows history home b.pages b.m _ w.dirty_pages k.disk a.distinct a.sees own in
      omega (arith, k.roomy, cd, o)
    where
      own-ge : (us : List Update) → w.group ≡ us → HalfEnd z.P history b.m → last_keep history ≤ half_start (length history + 1) us w.start
      own-ge [] e x = keep-le history b.m k.disk.keep_from
      own-ge (u ∷ us) e (none y) = let q : length (u ∷ us) ≡ 0 = ap length (sym e ∙ group-is ∙ y) in absurd (omega arith)
      own-ge (u ∷ us) e (some a c bg l lg up sd) = omega (arith, start_is_lem)
