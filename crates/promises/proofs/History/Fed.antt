-- A copy: a fed block that passes the feed's tests keeps what log and home hold. The history is the list of the blocks taken.
use mathlib.Core.Path.{◌≡◌, refl, sym, ap, ◌∙◌, subst}
use mathlib.Core.Logic.{◌⊎◌, inl, inr, ⊎_elim}
use Prim.Native.Nat.{ℕ, ◌+◌, ◌-◌, ◌≤◌, ◌<◌}
use native.Mathlib.Omega.{arith}
use mathlib.Core.Bool.{cond}
use mathlib.Core.List.{List, [], ◌∷◌, ◌++◌}
use lib.ListN.{length, length-append}
use lib.Dec.{eqb}
use borrow.Author.Tests.{eq-eqb, ne_eqb}
use Rattle.promises.proofs.History.Legal.{Legal}
use Rattle.promises.specs.Updates.{Update, redo, of_page}
use Rattle.promises.proofs.History.Views.{View, no_view, view_block, first}
use Rattle.promises.specs.Blocks.{Kind, update, commit, clean, LogBlock, Slot}
use Rattle.promises.specs.DirtyPages.{DirtyPage, look_up, without, keep_from_of}
use Rattle.promises.specs.Walk.{Walk, walk_block}
use Rattle.promises.specs.Feed.{own_start}
use Rattle.promises.proofs.History.Invariant as inv
use Rattle.promises.proofs.History.Machine.{last_keep, Live, up, idle, clean_logged}
use Rattle.promises.proofs.History.Ledger.{Book}
use Rattle.promises.proofs.History.Stored.{store}
use Rattle.promises.proofs.History.Sizes.{Sizes}
use Rattle.promises.proofs.History.Sees.{by-eq, Tells, tells-step}
use Rattle.promises.proofs.History.WalkStart.{BeginsAt, begins-append, begins-last, Distinct, keep_from-le, keep_from-least, is_commit, commits, commits-append, last_keep-snoc}
use Rattle.promises.proofs.History.Invariant.{view, view-snoc, Disk, Alive, Inv, invariant-clean, first_good, disk-update, disk-commit, keeps-append}
use Rattle.promises.proofs.History.Ring.{holds-store}
use Rattle.promises.proofs.History.Tally.{tally, tally-same, tally-look_up, here, Pages, is_dirty, sees-here}
use Rattle.promises.proofs.History.Accepted.{Ups, Right, formed-snoc, step-ticket, step-distinct, step-pages, step-updates}
use Rattle.promises.proofs.History.Rules.{own_in, ruled-snoc}
use Rattle.promises.proofs.History.Whole.{Kept, dirty_of, keep_from-without}
use Rattle.promises.proofs.History.HalfEnd.{HalfEnd, half-end-update, half-end-commit, half-end-clean}
use Rattle.promises.proofs.History.KeepFrom.{keep-grows, keep-le, least_of, least-is, keep-applied}

-- the half group at the history's end
pub data Tail (history : List LogBlock) (m : ℕ) (v : Walk) : Type 0 where
  whole : v.group ≡ [] → Tail history m v
  part : 0 < length v.group → v.start + length v.group ≡ length history + 1 → BeginsAt history m v.start → last_keep history ≤ v.start → Tail history m v

-- a walk that stands where the history ends
pub record Follows (z : Sizes) (home : ℕ → List ℕ) (m : ℕ) (history : List LogBlock) (v : Walk) : Type 0 where
  pub tells : (p : ℕ) → Tells home p v (view history p)
  pub ticket : v.ticket ≡ m
  pub distinct : Distinct v.dirty_pages
  pub pages : Pages z.P v.dirty_pages
  pub places : Ups z.P v.group
  pub legal : Legal 1024 v.group
  pub tail : Tail history m v

no_part : {X : Type 0} (us : List Update) → us ≡ [] → 0 < length us → X
no_part us e h = let z : length us ≡ 0 = ap length e in absurd (omega arith)

legal-snoc : (n : ℕ) (us : List Update) (u : Update) → Legal n us → u.offset + length u.bytes ≤ n → Legal n (us ++ (u ∷ []))
unfolding Legal
legal-snoc n [] u a h = (h, tt)
legal-snoc n (v ∷ us) u a h = (a.0, legal-snoc n us u a.1 h)

legal-one : (n : ℕ) (u : Update) → u.offset + length u.bytes ≤ n → Legal n (u ∷ [])
unfolding Legal
legal-one n u h = (h, tt)

module _ (z : Sizes) (log : List Slot) (home : ℕ → List ℕ) (b : Book) (history : List LogBlock) (v : Walk) (big : 0 < z.N) (k : Kept z log home b history) (f : Follows z home b.m history v) where
  abbrev pub n : ℕ
  n = length history + 1

  pub told : (x : LogBlock) (p : ℕ) → Tells home p (walk_block home n x.kind v) (view (history ++ (x ∷ [])) p)
  told x p = subst (Tells home p (walk_block home n x.kind v)) (sym (view-snoc history x p)) (tells-step home p n x.kind v (view history p) (f.tells p))

  pub counted : (x : LogBlock) → tally z.P (dirty_of (history ++ (x ∷ []))) ≡ length (walk_block home n x.kind v).dirty_pages
  counted x = tally-same z.P (dirty_of (history ++ (x ∷ []))) (λ p. here (look_up p (walk_block home n x.kind v).dirty_pages)) (λ p. sym (sees-here (told x p).sees))
      ∙ tally-look_up z.P (walk_block home n x.kind v).dirty_pages (step-distinct home n x.kind v f.distinct) (step-pages z.P n home x.kind v f.places f.pages)

  -- the walk's own start is the history's
  own_is : (x : Kind) → own_start n x v ≡ own_in n x (view history 0)
  own_is (update i u) = ap (cond (eqb i 1) n) (f.tells 0).start
  own_is (commit c) = (f.tells 0).start
  own_is (clean q) = refl

  -- the feed's keep-from is the one of the views
  pub keep-is : (x : LogBlock) → keep_from_of (own_start n x.kind v) (walk_block home n x.kind v).dirty_pages ≡ least_of z.P (own_in n x.kind (view history 0)) (λ p. (view (history ++ (x ∷ [])) p).page)
  keep-is x = least-is z.P (own_start n x.kind v) home (walk_block home n x.kind v).dirty_pages (λ p. (view (history ++ (x ∷ [])) p).page)
      (step-distinct home n x.kind v f.distinct) (step-pages z.P n home x.kind v f.places f.pages) (λ p. (told x p).sees)
      ∙ ap (λ (o : ℕ). least_of z.P o (λ p. (view (history ++ (x ∷ [])) p).page)) (own_is x.kind)

  -- a block is added that is right, and leaves room
  grown : (x : LogBlock) (b' : Book) → Right z.F z.P n b.m (view history) x.kind x.ticket → b'.m ≡ b.m + is_commit x.kind
      → Disk (history ++ (x ∷ [])) home b'.pages b'.m → length history + 2 - x.keep_from + tally z.P (dirty_of (history ++ (x ∷ []))) ≤ z.N
      → x.keep_from ≡ keep_from_of (own_start n x.kind v) (walk_block home n x.kind v).dirty_pages
      → last_keep history ≤ x.keep_from → HalfEnd z.P (history ++ (x ∷ [])) b'.m → Kept z (store z.N n x log) home b' (history ++ (x ∷ []))
  grown x b' rt em dk rm kp mn hf =
      let ln : length (history ++ (x ∷ [])) ≡ length history + 1 = length-append history (x ∷ []) in
      let rt' : Right z.F z.P n (commits history) (view history) x.kind x.ticket = subst (λ (i : ℕ). Right z.F z.P n i (view history) x.kind x.ticket) (sym k.total) rt in
      record {
        holds = holds-store z.N z.base log history x big (omega (arith, k.based, keep-le history b.m k.disk.keep_from)) k.holds;
        based = rw (last_keep-snoc history x) (omega (arith, k.based, mn));
        half = hf;
        formed = formed-snoc z.F z.P 1 0 (λ p. no_view) history x k.formed (subst (λ (i : ℕ). Right z.F z.P n i (view history) x.kind x.ticket) (omega arith) rt');
        ruled = ruled-snoc z.N z.F z.P z.base history x k.ruled (record { right = rt'; keep = kp ∙ keep-is x; room = rm });
        total = omega (arith, commits-append history (x ∷ []), k.total);
        roomy = rw (last_keep-snoc history x) (omega (arith, rm, ln));
        disk = dk;
      }

  abbrev pub NextIndex : ℕ → Type 0
  NextIndex i = (i ≡ 1) ⊎ ((0 < length v.group) × (i ≡ length v.group + 1))

  pub group-is : v.group ≡ (view history 0).group
  group-is = (f.tells 0).group

  -- keep-from never goes back
  mono : (own : ℕ) → last_keep history ≤ own → last_keep history ≤ keep_from_of own v.dirty_pages
  mono own h = keep-grows history home b.pages b.m own v.dirty_pages k.disk f.distinct (λ p. (f.tells p).sees) h

  start-ge : 0 < length v.group → Tail history b.m v → last_keep history ≤ v.start
  start-ge h (whole y) = no_part v.group y h
  start-ge h (part y s bg lk) = lk

  kl : last_keep history ≤ n
  kl = keep-le history b.m k.disk.keep_from

  own-ge : (i : ℕ) (u : Update) → NextIndex i → last_keep history ≤ own_start n (update i u) v
  own-ge i u x = by-eq i 1 (λ q. simp (eq-eqb _ _ q) kl)
      (λ d. simp (ne_eqb _ _ d) (start-ge (⊎_elim (λ (q : i ≡ 1). absurd (d q)) (λ (q : (0 < length v.group) × (i ≡ length v.group + 1)). q.0) x) f.tail))

  update-right : (i t : ℕ) (u : Update) → NextIndex i → t ≡ b.m → u.page < z.P → Right z.F z.P n b.m (view history) (update i u) t
  update-right i t u x e h = (⊎_elim (λ (q : i ≡ 1). inl q) (λ (q : (0 < length v.group) × (i ≡ length v.group + 1)). inr (rw (← group-is) (q.0, q.1))) x, h, e)

  -- where the update's own group begins
  own-begins : (i kf t : ℕ) (u : Update) → NextIndex i → t ≡ b.m
      → BeginsAt (history ++ (record { kind = update i u; keep_from = kf; ticket = t } ∷ [])) b.m (own_start n (update i u) v)
  own-begins i kf t u x e = by-eq i 1
      (λ q. simp (eq-eqb _ _ q) (begins-last history b.m _ (rw q first) (omega arith)))
      (λ d. simp (ne_eqb _ _ d) (⊎_elim (λ (q : i ≡ 1). absurd (d q)) (λ (q : (0 < length v.group) × (i ≡ length v.group + 1)). go q.0 f.tail) x))
    where
      go : 0 < length v.group → Tail history b.m v → BeginsAt (history ++ (record { kind = update i u; keep_from = kf; ticket = t } ∷ [])) b.m v.start
      go h (whole y) = no_part v.group y h
      go h (part y s bg lk) = subst (λ (c : ℕ). BeginsAt (history ++ (record { kind = update i u; keep_from = kf; ticket = t } ∷ [])) c v.start) (omega arith) (begins-append _ bg)

  step-legal : (i : ℕ) (u : Update) → u.offset + length u.bytes ≤ 1024 → Legal 1024 (walk_block home n (update i u) v).group
  unfolding walk_block
  step-legal i u h = by-eq i 1 (λ e. simp (eq-eqb _ _ e) (legal-one 1024 u h)) (λ d. simp (ne_eqb _ _ d) (legal-snoc 1024 v.group u f.legal h))

  -- the half group that the update ends
  step-tail : (i kf t : ℕ) (u : Update) → NextIndex i → t ≡ b.m → kf ≡ keep_from_of (own_start n (update i u) v) v.dirty_pages
      → Tail (history ++ (record { kind = update i u; keep_from = kf; ticket = t } ∷ [])) b.m (walk_block home n (update i u) v)
  unfolding walk_block
  step-tail i kf t u ix e ek =
      let x : LogBlock = record { kind = update i u; keep_from = kf; ticket = t } in
      let ln : length (history ++ (x ∷ [])) ≡ length history + 1 = length-append history (x ∷ []) in
      let lk : last_keep (history ++ (x ∷ [])) ≡ kf = last_keep-snoc history x in
      let le : kf ≤ own_start n (update i u) v = rw ek (keep_from-le (own_start n (update i u) v) v.dirty_pages) in
      let bo = own-begins i kf t u ix e in
      by-eq i 1
      (λ q. simp (eq-eqb _ _ q) (part (omega arith) (omega (arith, ln)) (simp (eq-eqb _ _ q) at bo) (omega (arith, lk, simp (eq-eqb _ _ q) at le))))
      (λ d. simp (ne_eqb _ _ d) (go (⊎_elim (λ (q : i ≡ 1). absurd (d q)) (λ (q : (0 < length v.group) × (i ≡ length v.group + 1)). q.0) ix) f.tail (simp (ne_eqb _ _ d) at bo) (omega (arith, lk, simp (ne_eqb _ _ d) at le)) ln))
    where
      go : {xs : List LogBlock} → 0 < length v.group → Tail history b.m v → BeginsAt xs b.m v.start → last_keep xs ≤ v.start → length xs ≡ length history + 1
          → Tail xs b.m (record { group = v.group ++ (u ∷ []); start = v.start; ticket = v.ticket; dirty_pages = v.dirty_pages })
      go h (whole y) bo l ln = no_part v.group y h
      go h (part y s bg lk) bo l ln = part (omega (arith, length-append v.group (u ∷ []))) (omega (arith, length-append v.group (u ∷ []), s, ln)) bo l

  pub dirty-update : (i : ℕ) (u : Update) → (walk_block home n (update i u) v).dirty_pages ≡ v.dirty_pages
  unfolding walk_block
  dirty-update i u = by-eq i 1 (λ e. simp (eq-eqb _ _ e)) (λ d. simp (ne_eqb _ _ d))

  -- AN UPDATE IS TAKEN
  pub fed-update : (i kf t : ℕ) (u : Update) → NextIndex i → t ≡ b.m → u.page < z.P → u.offset + length u.bytes ≤ 1024
      → kf ≡ keep_from_of (own_start n (update i u) v) v.dirty_pages → length history + 2 - kf + length (walk_block home n (update i u) v).dirty_pages ≤ z.N
      → Kept z (store z.N n (record { kind = update i u; keep_from = kf; ticket = t }) log) home b (history ++ (record { kind = update i u; keep_from = kf; ticket = t } ∷ []))
      × Follows z home b.m (history ++ (record { kind = update i u; keep_from = kf; ticket = t } ∷ [])) (walk_block home n (update i u) v)
  fed-update i kf t u ix e pg lg ek rm =
      let x : LogBlock = record { kind = update i u; keep_from = kf; ticket = t } in
      let own : ℕ = own_start n (update i u) v in
      let bo : BeginsAt (history ++ (x ∷ [])) b.m own = own-begins i kf t u ix e in
      let bk : BeginsAt (history ++ (x ∷ [])) b.m kf = subst (BeginsAt (history ++ (x ∷ [])) b.m) (sym ek)
      (subst (λ (c : ℕ). BeginsAt (history ++ (x ∷ [])) c (keep_from_of own v.dirty_pages)) (omega arith)
      (keeps-append history b.m own x home v.dirty_pages f.distinct (λ p. first_good (f.tells p).sees (k.disk.first_groups p))
      (subst (λ (c : ℕ). BeginsAt (history ++ (x ∷ [])) c own) (omega arith) bo))) in
      let rt = update-right i t u ix e pg in
      let dk : Disk (history ++ (x ∷ [])) home b.pages b.m = disk-update history home b.pages b.m kf t i u k.disk
      (λ p. rw ek (keep_from-least (home p) own p v.dirty_pages _ (f.tells p).sees)) bk in (
        grown x b rt (omega arith) dk (omega (arith, rm, counted x)) (ek ∙ ap (keep_from_of own) (sym (dirty-update i u))) (rw ek (mono own (own-ge i u ix)))
            (half-end-update z.P b.m kf i history t u k.half rt.0 e pg lg (rw (← (f.tells 0).start, ek) (keep_from-le own v.dirty_pages))),
        record {
          tells = told x;
          ticket = step-ticket home n (update i u) v ∙ omega (arith, f.ticket);
          distinct = step-distinct home n (update i u) v f.distinct;
          pages = step-pages z.P n home (update i u) v f.places f.pages;
          places = step-updates z.F z.P n b.m t home (update i u) v (view history) rt f.places;
          legal = step-legal i u lg;
          tail = step-tail i kf t u ix e ek;
        },
      )

  -- A COMMIT IS TAKEN
  abbrev pub committed : Book
  committed = record { pages = λ p. redo (of_page p v.group) (b.pages p); m = b.m + 1; queue = b.queue; count = b.count }

  abbrev pub commit_at : ℕ → LogBlock
  commit_at kf = record { kind = commit (length v.group); keep_from = kf; ticket = b.m + 1 }

  part-begins : 0 < length v.group → Tail history b.m v → BeginsAt history b.m v.start
  part-begins h (whole y) = no_part v.group y h
  part-begins h (part y s bg lk) = bg

  pub fed-commit : (kf : ℕ) → 0 < length v.group → length (walk_block home n (commit (length v.group)) v).dirty_pages ≤ z.F
      → kf ≡ keep_from_of v.start (walk_block home n (commit (length v.group)) v).dirty_pages
      → length history + 2 - kf + length (walk_block home n (commit (length v.group)) v).dirty_pages ≤ z.N
      → Kept z (store z.N n (commit_at kf) log) home committed (history ++ (commit_at kf ∷ []))
      × Follows z home (b.m + 1) (history ++ (commit_at kf ∷ [])) (walk_block home n (commit (length v.group)) v)
  unfolding walk_block Legal
  fed-commit kf h few ek rm =
      let x : LogBlock = commit_at kf in
      let es : List DirtyPage = v.dirty_pages in
      let bs : BeginsAt history b.m v.start = part-begins h f.tail in
      let e : kf ≡ keep_from_of v.start es = ek ∙ keep-applied v.start home v.group es in
      let bk : BeginsAt (history ++ (x ∷ [])) (b.m + 1) kf = subst (BeginsAt (history ++ (x ∷ [])) (b.m + 1)) (sym e)
      (keeps-append history b.m v.start x home es f.distinct (λ p. first_good (f.tells p).sees (k.disk.first_groups p)) (begins-append x bs)) in
      let dk : Disk (history ++ (x ∷ [])) home committed.pages (b.m + 1) = disk-commit history home b.pages b.m kf (length v.group) v.start v.group k.disk
      (λ p. sym (f.tells p).group) (λ p. sym (f.tells p).start) f.legal bs (rw e (keep_from-le v.start es)) (λ p. rw e (keep_from-least (home p) v.start p es _ (f.tells p).sees)) bk in
      let sv : tally z.P (λ p. is_dirty (view_block p n (commit (length v.group)) (view history p)).page) ≡ tally z.P (dirty_of (history ++ (x ∷ []))) =
      tally-same z.P _ _ (λ p. ap (λ (t : View). is_dirty t.page) (sym (view-snoc history x p))) in
      let gl : length v.group ≡ length (view history 0).group = ap length group-is in (
        grown x committed (omega arith, gl, refl, omega (arith, sv, counted x, few)) refl dk (omega (arith, rm, counted x)) ek (rw e (mono v.start (start-ge h f.tail))) (half-end-commit z.P _ _ _ _ history),
        record {
          tells = told x;
          ticket = ap (λ (i : ℕ). i + 1) f.ticket;
          distinct = step-distinct home n (commit (length v.group)) v f.distinct;
          pages = step-pages z.P n home (commit (length v.group)) v f.places f.pages;
          places = tt;
          legal = tt;
          tail = whole refl;
        },
      )

  -- A CLEAN BLOCK IS TAKEN
  abbrev pub clean_at : ℕ → LogBlock
  clean_at q = record { kind = clean q; keep_from = keep_from_of n (without q v.dirty_pages); ticket = v.ticket }

  abbrev ghost : Live
  ghost = record { ticket = v.ticket; queue = []; count = 0; dirty_pages = v.dirty_pages; cleaning = idle }

  abbrev bare : Book
  bare = record { pages = b.pages; m = b.m; queue = []; count = 0 }

  pub fed-clean : (q : ℕ) → home q ≡ b.pages q → length history + 2 - keep_from_of n (without q v.dirty_pages) + length (without q v.dirty_pages) ≤ z.N
      → Kept z (store z.N n (clean_at q) log) home b (history ++ (clean_at q ∷ []))
      × Follows z home b.m (history ++ (clean_at q ∷ [])) (walk_block home n (clean q) v)
  unfolding clean_logged walk_block Legal
  fed-clean q h rm =
      let x : LogBlock = clean_at q in
      let a : Alive history home ghost bare = record { ticket = f.ticket; queue = refl; count = refl; sees = λ p. (f.tells p).sees; distinct = f.distinct; half = inv.whole refl; wells = tt; stage = tt } in
      let i : Inv (clean_logged (record { history = history; home = home; live = up ghost }) ghost q) bare = invariant-clean (record { history = history; home = home; live = up ghost }) ghost bare q k.disk a h refl in (
        grown x b f.ticket (omega arith) i.disk (omega (arith, rm, counted x)) refl (omega (arith, mono n kl, keep_from-without n q v.dirty_pages)) (half-end-clean z.P _ _ _ _ history),
        record {
          tells = told x;
          ticket = f.ticket;
          distinct = step-distinct home n (clean q) v f.distinct;
          pages = step-pages z.P n home (clean q) v f.places f.pages;
          places = tt;
          legal = tt;
          tail = whole refl;
        },
      )
