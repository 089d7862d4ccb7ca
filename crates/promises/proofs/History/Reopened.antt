-- Open is accepted on what the store wrote, and finds the book's pages.
use mathlib.Core.Path.{◌≡◌, refl, ap, ◌∙◌, subst}
use Prim.Native.Nat.{ℕ, zero, suc, ◌+◌, ◌-◌, ◌≤◌, ◌<◌}
use native.Mathlib.Omega.{arith}
use mathlib.Core.Bool.{true}
use mathlib.Core.List.{List, [], ◌∷◌}
use lib.ListN.{length, drop, get_or, length-drop}
use lib.Seq.{drop-nil}
use Rattle.promises.proofs.History.Views.{no_view}
use Rattle.promises.specs.Blocks.{LogBlock, no_block}
use Rattle.promises.proofs.History.Machine.{last_keep, down, walk, recover}
use Rattle.promises.specs.DirtyPages.{keep_from_of}
use Rattle.promises.specs.Walk.{Walk, walk_block, believed}
use Rattle.promises.proofs.History.Ledger.{Book, gone}
use Rattle.promises.specs.Blocks.{Slot, unused}
use Rattle.promises.specs.Newest.{newest, blocks, gathered}
use Rattle.promises.proofs.History.Stands.{all_stand}
use Rattle.promises.proofs.History.Sizes.{Sizes, opened}
use Rattle.promises.proofs.History.Since.{Below, below-track}
use Rattle.promises.proofs.History.WalkStart.{commits, is_commit}
use Rattle.promises.proofs.History.Invariant.{view, Keep, empty, from, Alive}
use Rattle.promises.proofs.History.Ring.{Holds, gathered_none, gathered-history, newest-le, past-le, newest-history}
use Rattle.promises.proofs.History.Tally.{tally, Pages}
use Rattle.promises.proofs.History.Accepted.{Ups, Views, after, Formed, formed-append, ok_from, walk_at, step-updates, step-pages}
use Rattle.promises.proofs.History.Recovered.{invariant-open, rest}
use Rattle.promises.proofs.History.HalfEnd.{begins-le}
use Rattle.promises.proofs.History.KeepFrom.{keep-le, keep-grows}
use Rattle.promises.proofs.History.Whole.{Kept, Runs, dirty_of, count-dirty}

pub last-keep_from : (history : List LogBlock) → 0 < length history → (get_or history (length history - 1) no_block).keep_from ≡ last_keep history
unfolding last_keep
last-keep_from [] z = absurd (omega arith)
last-keep_from (x ∷ []) z = refl
last-keep_from (x ∷ y ∷ history) z =
    let q : length (x ∷ y ∷ history) - 1 ≡ suc (length (y ∷ history) - 1) = omega arith in
    ap (λ (n : ℕ). (get_or (x ∷ y ∷ history) n no_block).keep_from) q ∙ last-keep_from (y ∷ history) (omega arith)

walk-pages : (F P j m : ℕ) (home : ℕ → List ℕ) (bs : List LogBlock) (v : Walk) (ts : Views) → Formed F P j m ts bs → Ups P v.group → Pages P v.dirty_pages → Pages P (walk home j bs v).dirty_pages
unfolding walk
walk-pages F P j m home [] v ts f a b = b
walk-pages F P j m home (x ∷ bs) v ts f a b = walk-pages F P (suc j) (m + is_commit x.kind) home bs (walk_block home j x.kind v) (after j x.kind ts) f.1
    (step-updates F P j m x.ticket home x.kind v ts f.0 a) (step-pages P j home x.kind v a b)

one-keep_from : {history : List LogBlock} → history ≡ [] → last_keep history ≡ 1
unfolding last_keep
one-keep_from e = rw e refl

ok-none : (F : ℕ) (home : ℕ → List ℕ) {history : List LogBlock} → history ≡ [] → all_stand F home (last_keep history) (drop (last_keep history - 1) history) (walk_at (believed (drop (last_keep history - 1) history))) ≡ true
unfolding all_stand last_keep
ok-none F home e = rw e refl

no-pages : (P : ℕ) (home : ℕ → List ℕ) {history : List LogBlock} → history ≡ [] → Pages P (walk home (last_keep history) (drop (last_keep history - 1) history) (walk_at (believed (drop (last_keep history - 1) history)))).dirty_pages
unfolding walk last_keep
no-pages P home e = rw e tt

module _ (z : Sizes) (log : List Slot) (home : ℕ → List ℕ) (b : Book) (history : List LogBlock) (big : 0 < z.N) (k : Kept z log home b history) where
  abbrev pub kf : ℕ
  kf = last_keep history

  abbrev pub bs : List LogBlock
  bs = drop (kf - 1) history

  abbrev pub vw : Walk
  vw = walk home kf bs (walk_at (believed bs))

  filled : Keep history b.m → 0 < length history → last_keep history ≤ length history
  filled (empty e m) h = absurd (omega (arith, ap length e))
  filled (from g) h = (begins-le g).1

  pub newest-is : newest log ≡ length history
  newest-is = go (length history) refl
    where
      go : (n : ℕ) → length history ≡ n → newest log ≡ length history
      go zero e = omega (arith, newest-le (length history) log (λ i. past-le z.N z.base (length history) i (get_or log i unused) (k.holds.past i)))
      go (suc n) e = newest-history z.N z.base log history k.holds (omega (arith, k.based, filled k.disk.keep_from (omega arith))) big

  pub gathered-is : gathered z.N log ≡ blocks bs
  gathered-is = go k.disk.keep_from
    where
      go : Keep history b.m → gathered z.N log ≡ blocks (drop (last_keep history - 1) history)
      go (empty e m) = rw (e, drop-nil) (gathered_none z.N z.base log (subst (Holds z.N z.base log) e k.holds))
      go (from g) = gathered-history z.N z.base log history (last_keep history) k.holds k.based (last-keep_from history (omega (arith, begins-le g))) (begins-le g).1 (omega (arith, k.roomy))

  keep_from-is : newest log + 1 - length bs ≡ kf
  keep_from-is = go k.disk.keep_from
    where
      go : Keep history b.m → newest log + 1 - length (drop (last_keep history - 1) history) ≡ last_keep history
      go (empty e m) = omega (arith, length-drop (last_keep history - 1) history, newest-is, one-keep_from e, ap length e)
      go (from g) = omega (arith, length-drop (last_keep history - 1) history, newest-is, begins-le g)

  keep_from-is' : length history + 1 - length bs ≡ kf
  keep_from-is' = omega (arith, keep_from-is, newest-is)

  pub okay : all_stand z.F home kf bs (walk_at (believed bs)) ≡ true
  okay = go k.disk.keep_from
    where
      go : Keep history b.m → all_stand z.F home (last_keep history) (drop (last_keep history - 1) history) (walk_at (believed (drop (last_keep history - 1) history))) ≡ true
      go (empty e m) = ok-none z.F home e
      go (from g) = rw (rest history b.m (last_keep history) g)
          (ok_from z.F (last_keep history) z.P (last_keep history) (0 + commits g.pre) home g.block g.post (view g.pre) g.begins
          (λ p. subst (λ (n : ℕ). Below n (view g.pre p).page) g.place (below-track p 1 g.pre no_view (omega arith) (omega arith) Below.none))
          (subst (λ (n : ℕ). Formed z.F z.P n (0 + commits g.pre) (view g.pre) (g.block ∷ g.post)) g.place
          (formed-append z.F z.P 1 0 (λ p. no_view) g.pre (g.block ∷ g.post) (subst (λ (x : List LogBlock). Formed z.F z.P 1 0 (λ p. no_view) x) g.split k.formed))))

  alive-now : Alive history home (recover home history) (gone b)
  alive-now = invariant-open (record { history = history; home = home; live = down }) b k.disk

  pages-now : Pages z.P vw.dirty_pages
  pages-now = go k.disk.keep_from
    where
      go : Keep history b.m → Pages z.P (walk home (last_keep history) (drop (last_keep history - 1) history) (walk_at (believed (drop (last_keep history - 1) history)))).dirty_pages
      go (empty e m) = no-pages z.P home e
      go (from g) = rw (rest history b.m (last_keep history) g)
          (walk-pages z.F z.P (last_keep history) (0 + commits g.pre) home (g.block ∷ g.post) (walk_at g.block.ticket) (view g.pre)
          (subst (λ (n : ℕ). Formed z.F z.P n (0 + commits g.pre) (view g.pre) (g.block ∷ g.post)) g.place
          (formed-append z.F z.P 1 0 (λ p. no_view) g.pre (g.block ∷ g.post) (subst (λ (x : List LogBlock). Formed z.F z.P 1 0 (λ p. no_view) x) g.split k.formed))) tt tt)

  pub fitting : length history + 1 - keep_from_of (length history + 1) vw.dirty_pages + length vw.dirty_pages ≤ z.N
  unfolding recover
  fitting =
      let a : Alive history home (recover home history) (gone b) = alive-now in
      let cd : tally z.P (dirty_of history) ≡ length vw.dirty_pages = count-dirty z home (gone b) history (recover home history) a pages-now in
      let o : kf ≤ keep_from_of (length history + 1) vw.dirty_pages =
      keep-grows history home b.pages b.m (length history + 1) vw.dirty_pages k.disk a.distinct a.sees (keep-le history b.m k.disk.keep_from) in
      omega (arith, k.roomy, cd, o)

  pub reports : vw.ticket ≡ b.m
  unfolding recover
  reports = alive-now.ticket

  pub running : Runs z home (gone b) history (length history + 1) (opened vw)
  unfolding recover
  running = record { next = refl; alive = alive-now; pages = pages-now; places = tt }
