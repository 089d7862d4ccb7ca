-- A copy keeps up: our next block passes every test of the feed, and our log holds the bytes to feed.
-- Assumes nothing.
use mathlib.Core.Path.{◌≡◌, refl, sym, ap, ◌∙◌, subst, subst₂}
use mathlib.Core.Logic.{◌⊎◌, inl, inr}
use mathlib.Core.Bool.{Bool, true, false, cond}
use Prim.Native.Nat.{ℕ, suc, ◌+◌, ◌*◌, ◌-◌, ◌%◌, ◌<◌}
use mathlib.Core.List.{List, ◌∷◌, ◌++◌, append-nil}
use native.Mathlib.Omega.{arith}
use native.Mathlib.Nat.{mod-lt}
use lib.ListN.{length, get_or, length-append}
use lib.Seq.{get_or-append_seam}
use lib.Dec.{eqb}
use borrow.Author.Tests.{eq-eqb, ne_eqb, le-ltb}
use Rattle.promises.specs.declared.State.{State}
use Rattle.promises.specs.declared.Cleaning.{Cleaning}
use Rattle.promises.specs.declared.Cleaning.TheVariants.{Idle, First, Second, Third}
use Rattle.promises.specs.Areas.{page_at}
use Rattle.promises.specs.Blocks.{Kind, update, commit, clean, LogBlock, Slot, valid, slot_at, slots_of, no_block}
use Rattle.promises.specs.DirtyPages.{DirtyPage, Found, absent, at, look_up, keep_from_of}
use Rattle.promises.specs.Contents.{dirty_of}
use Rattle.promises.specs.Walk.{Walk, walk_block, in_order, framed}
use Rattle.promises.specs.Sound.{copy_sound}
use Rattle.promises.specs.Answers.{Reply, not_yet, taken}
use Rattle.promises.specs.Feed.{standing, own_start, keep_right, span_fits, lacking, lacking_at, Feeding, stops, had, first, second, takes, clean_stage, clean_found, store_of, turned, by_sequence, fed_slot, feeding, Halves}
use Rattle.promises.specs.Events.{Sizes, World}
use Rattle.promises.specs.Claim.{promised}
use Rattle.promises.specs.Stored.{stored_by}
use Rattle.promises.specs.Copy.{CopyBook, took_all, feeds, CopyFeeding, copy_promised, taken_in, book_of, KeepsUp, InOurLog}
use Rattle.promises.proofs.History.Ledger as ledger
use Rattle.promises.proofs.History.WalkStart.{commits}
use Rattle.promises.proofs.History.Invariant.{view}
use Rattle.promises.proofs.History.Accepted.{Right}
use Rattle.promises.proofs.History.Rules.{Rules, ruled-at}
use Rattle.promises.proofs.History.KeepsUp.{in-log, in_order_lem, few-dirty, keep-right, span_fits_lem}
use Rattle.promises.proofs.Ranges.{Ranged, ranged}
use Rattle.promises.proofs.Kept.{sizes_of}
use Rattle.promises.proofs.Openings.{framed-cong, block_cong}
use Rattle.promises.proofs.Demand3.{good}
use Rattle.area.proofs.Parts.{length_part}
use Rattle.promises.proofs.Slots.{get-slot}
use Rattle.promises.proofs.FedBytes.{slot-fed}
use Rattle.promises.proofs.Passed.{Acts, first_of, second-of}
use Rattle.promises.proofs.Copies.{ledger_of, length-updates, CopyLives, CopyGoodIn, do-feed}
use Rattle.promises.proofs.CopyClaims.{copy-good}

module _ (z : Sizes) (range : Ranged z) (w : World) (b : CopyBook) {history : List LogBlock} (g : CopyGoodIn z w b history) (so : copy_sound w.state ≡ true)
    (x : LogBlock) (r : Rules z.slots z.frames z.pages history x) where
  abbrev s : State
  s = w.state

  abbrev slots₀ : List Slot
  slots₀ = slots_of z.slots z.pages w.log

  abbrev slots₁ : List Slot
  slots₁ = slots_of s.slots s.pages w.log

  abbrev v : Walk
  v = standing s slots₀ w.frames

  abbrev n : ℕ
  n = length history + 1

  abbrev book₀ : ledger.Book
  book₀ = ledger_of g.pages b.m

  live : CopyLives z s w.log w.frames b.m history g.home_pages g.pages
  live = g.live so

  big : 0 < z.slots
  big = omega arith

  back : slots₀ ≡ slots₁
  back = sym (ap (λ (i : ℕ). slots_of i s.pages w.log) live.slot_count ∙ ap (λ (i : ℕ). slots_of z.slots i w.log) live.page_count)

  same-walk : walk_block g.home_pages n x.kind v ≡ walk_block (page_at w.home) n x.kind v
  same-walk = block_cong z.pages n g.home_pages (page_at w.home) x.kind v g.home_is live.follows.places

  -- each test, as the feed makes it
  t-order : in_order x.kind x.ticket (standing s slots₁ w.frames) ≡ true
  t-order = subst (λ (a : List Slot). in_order x.kind x.ticket (standing s a w.frames) ≡ true) back (in_order_lem (sizes_of z) slots₀ g.home_pages book₀ history v big g.kept live.follows x r)

  t-keep : keep_right (page_at w.home) s.next x (standing s slots₁ w.frames) ≡ true
  t-keep =
      let k1 = subst (λ (a : Walk). eqb x.keep_from (keep_from_of (own_start n x.kind v) a.dirty_pages) ≡ true) same-walk (keep-right (sizes_of z) slots₀ g.home_pages book₀ history v big g.kept live.follows x r) in
      subst (λ (a : List Slot). keep_right (page_at w.home) s.next x (standing s a w.frames) ≡ true) back (subst (λ (i : ℕ). keep_right (page_at w.home) i x v ≡ true) (sym live.next) k1)

  t-span : span_fits s.slots (s.next + 1) (walk_block (page_at w.home) s.next x.kind (standing s slots₁ w.frames)) ≡ true
  t-span =
      let k1 = subst (λ (a : Walk). span_fits z.slots (n + 1) a ≡ true) same-walk (span_fits_lem (sizes_of z) slots₀ g.home_pages book₀ history v big g.kept live.follows x r) in
      let k2 = subst (λ (i : ℕ). span_fits i (n + 1) (walk_block (page_at w.home) n x.kind v) ≡ true) (sym live.slot_count) k1 in
      let k3 = subst (λ (i : ℕ). span_fits s.slots (i + 1) (walk_block (page_at w.home) i x.kind v) ≡ true) (sym live.next) k2 in
      subst (λ (a : List Slot). span_fits s.slots (s.next + 1) (walk_block (page_at w.home) s.next x.kind (standing s a w.frames)) ≡ true) back k3

  t-few : framed s.frames (page_at w.home) x.kind (standing s slots₁ w.frames) ≡ true
  t-few =
      let k1 : framed z.frames (page_at w.home) x.kind v ≡ true =
      sym (framed-cong z.pages z.frames g.home_pages (page_at w.home) x.kind v g.home_is live.follows.places) ∙ few-dirty (sizes_of z) slots₀ g.home_pages book₀ history v big g.kept live.follows x r in
      subst (λ (a : List Slot). framed s.frames (page_at w.home) x.kind (standing s a w.frames) ≡ true) back (subst (λ (i : ℕ). framed i (page_at w.home) x.kind v ≡ true) (sym live.frame_count) k1)

  t-lack : lacking_at s slots₁ x.kind ≡ 0
  t-lack = go x.kind r.right
    where
      go : (c : Kind) → Right z.frames z.pages n (commits history) (view history) c x.ticket → lacking_at s slots₁ c ≡ 0
      go (update i u) q = refl
      go (commit c) q =
          let ls : length v.group ≡ s.stored = length-updates s.slots slots₀ s.stored (s.next - s.stored) in
          let lg : 0 < length v.group = omega (arith, q.0, ap length (live.follows.tells 0).group) in
          let st : v.start ≡ s.next - s.stored = simp (ne_eqb s.stored 0 (omega arith)) in
          let k : lacking z.slots slots₀ (length v.group) v.start 1 ≡ 0 = in-log (sizes_of z) slots₀ g.home_pages book₀ history v big g.kept live.follows lg in
          subst (λ (a : List Slot). lacking s.slots a s.stored (s.next - s.stored) 1 ≡ 0) back
          (subst (λ (i : ℕ). lacking i slots₀ s.stored (s.next - s.stored) 1 ≡ 0) (sym live.slot_count)
          (subst₂ (λ (i j : ℕ). lacking z.slots slots₀ i j 1 ≡ 0) ls st k))
      go (clean q) t = refl

  -- THE FEED LETS IT PASS
  pub passes : (bytes : List ℕ) → length bytes ≡ 512 → fed_slot z.slots z.pages bytes ≡ valid n x
      → feeding s w.log w.home w.frames bytes ≡ store_of s w.frames x.kind x
  unfolding feeding turned
  passes bytes ln fs =
      let e1 : fed_slot s.slots s.pages bytes ≡ valid n x = subst₂ (λ (i j : ℕ). fed_slot i j bytes ≡ valid n x) (sym live.slot_count) (sym live.page_count) fs in
      let a1 : length w.log ≡ s.slots * 512 = omega (arith, g.log_long, live.slot_count) in
      let a2 : length w.home ≡ s.pages * 1024 = omega (arith, g.home_long, live.page_count) in
      let a3 : length w.frames ≡ s.frames * 1024 = omega (arith, live.frames_long, live.frame_count) in
      simp (so, eq-eqb _ _ a1, eq-eqb _ _ a2, eq-eqb _ _ a3, eq-eqb _ _ ln) (ap (by_sequence s (page_at w.home) w.frames slots₁) e1
      ∙ simp (le-ltb s.next n (omega (arith, live.next)), le-ltb n s.next (omega (arith, live.next)), t-lack, t-order, t-keep, t-span, t-few))

-- a block that passes is stored, or half of its page is
acts-cond : (c : Bool) (x y : Feeding) → Acts x → Acts y → Acts (cond c x y)
acts-cond true x y h k = h
acts-cond false x y h k = k

acts-store : (s : State) (frames : List ℕ) (c : Kind) (x : LogBlock) → Acts (store_of s frames c x)
acts-store s frames (update i u) x = tt
acts-store s frames (commit n) x = tt
acts-store s frames (clean q) x = go (look_up q (dirty_of s frames))
  where
    stage : (c : Cleaning) (e : DirtyPage) → Acts (clean_stage c q e x)
    stage Idle e = tt
    stage (First p) e = tt
    stage (Second p) e = acts-cond (eqb p q) (second q e) (first q e) tt tt
    stage (Third p) e = acts-cond (eqb p q) (takes x) (first q e) tt tt

    go : (f : Found) → Acts (clean_found s.cleaning q f x)
    go absent = tt
    go (at e) = stage s.cleaning e

store-second : (s : State) (frames : List ℕ) (c : Kind) (p : ℕ) (e : DirtyPage) (x : LogBlock) → c ≡ clean p → s.cleaning ≡ Second p → look_up p (dirty_of s frames) ≡ at e → store_of s frames c x ≡ second p e
store-second s frames c p e x k h f = rw (k, h, f) (simp (eq-eqb p p refl))

store-third : (s : State) (frames : List ℕ) (c : Kind) (p : ℕ) (e : DirtyPage) (x : LogBlock) → c ≡ clean p → s.cleaning ≡ Third p → look_up p (dirty_of s frames) ≡ at e → store_of s frames c x ≡ takes x
store-third s frames c p e x k h f = rw (k, h, f) (simp (eq-eqb p p refl))

-- a copy that stands at our history, with our next block
module _ (z : Sizes) (range : Ranged z) (b : CopyBook) (history : List LogBlock) (x : LogBlock) (r : Rules z.slots z.frames z.pages history x) (bytes : List ℕ) (ln : length bytes ≡ 512)
    (fs : fed_slot z.slots z.pages bytes ≡ valid (length history + 1) x) where
  pub record Stands (w : World) : Type 0 where
    pub is_good : CopyGoodIn z w b history
    pub is_sound : copy_sound w.state ≡ true

  comes : (w : World) → Stands w → feeding w.state w.log w.home w.frames bytes ≡ store_of w.state w.frames x.kind x
  comes w h = passes z range w b h.is_good h.is_sound x r bytes ln fs

  is-taken : (w w' : World) (a : Reply) → CopyFeeding w bytes a w' → (y : LogBlock) → feeding w.state w.log w.home w.frames bytes ≡ takes y → a ≡ taken
  is-taken w w' a st y e = st.reply_is ∙ (st.promise.taken y e).answer_is

  -- after a half
  record Halved₁ (w : World) (a : Reply) (w' : World) (c : Cleaning) : Type 0 where
    replied : a ≡ not_yet
    stands' : Stands w'
    cleaning_is : w'.state.cleaning ≡ c
    found : (p : ℕ) → look_up p (dirty_of w'.state w'.frames) ≡ look_up p (dirty_of w.state w.frames)

  goes_on_lem : (w w' : World) (a : Reply) → Stands w → (st : CopyFeeding w bytes a w') (c : Cleaning) (home' : List ℕ)
      → Halves w.state w.log w.frames c home' st.result st.log' st.home' st.frames' → Halved₁ w a w' c
  unfolding took_all
  goes_on_lem w w' a h st c home' hv =
      let ea : a ≡ not_yet = st.reply_is ∙ hv.answer_is in
      let g' : CopyGoodIn z w' b history = subst (CopyGoodIn z w' b) (append-nil history) (subst (λ (y : Reply). CopyGoodIn z w' (took_all (taken_in z (feeds bytes) y) b) (history ++ taken_in z (feeds bytes) y)) ea (do-feed z range w b h.is_good bytes a w' st)) in
      record {
        replied = ea;
        stands' = record { is_good = g'; is_sound = ap (λ (y : World). copy_sound y.state) st.after ∙ hv.stays_sound };
        cleaning_is = ap (λ (y : World). y.state.cleaning) st.after ∙ ap (λ (y : State). y.cleaning) hv.state_is;
        found = λ p. ap (λ (y : World). look_up p (dirty_of y.state y.frames)) st.after ∙ ap (λ (y : List ℕ). look_up p (dirty_of st.result.state y)) hv.frames_are ∙ ap (λ (y : State). look_up p (dirty_of y w.frames)) hv.state_is;
      }

  -- both halves are stored: it is taken
  third : (w w' : World) (a : Reply) → Stands w → (p : ℕ) (e : DirtyPage) → x.kind ≡ clean p → w.state.cleaning ≡ Third p → look_up p (dirty_of w.state w.frames) ≡ at e → CopyFeeding w bytes a w' → a ≡ taken
  third w w' a h p e k c f st = is-taken w w' a st x (comes w h ∙ store-third w.state w.frames x.kind p e x k c f)

  abbrev Last : World → Type 0
  Last w = (a : Reply) (w' : World) → CopyFeeding w bytes a w' → a ≡ taken

  -- the first half is stored
  second-half : (w w' : World) (a : Reply) → Stands w → (p : ℕ) (e : DirtyPage) → x.kind ≡ clean p → w.state.cleaning ≡ Second p → look_up p (dirty_of w.state w.frames) ≡ at e → CopyFeeding w bytes a w'
      → (a ≡ not_yet) × Last w'
  second-half w w' a h p e k c f st =
      let q : feeding w.state w.log w.home w.frames bytes ≡ second p e = comes w h ∙ store-second w.state w.frames x.kind p e x k c f in
      let o = goes_on_lem w w' a h st (Third p) _ (st.promise.second_halved p e q) in
      (o.replied, λ a' w'' st'. third w' w'' a' o.stands' p e k o.cleaning_is (o.found p ∙ f) st')

  abbrev Two : World → Type 0
  Two w = (a : Reply) (w' : World) → CopyFeeding w bytes a w' → (a ≡ taken) ⊎ ((a ≡ not_yet) × Last w')

  pub three : (w w' : World) (a : Reply) → Stands w → CopyFeeding w bytes a w' → (a ≡ taken) ⊎ ((a ≡ not_yet) × Two w')
  three w w' a h st = go (store_of w.state w.frames x.kind x) refl
    where
      go : (y : Feeding) → store_of w.state w.frames x.kind x ≡ y → (a ≡ taken) ⊎ ((a ≡ not_yet) × Two w')
      go (stops n m) q = absurd (subst Acts q (acts-store w.state w.frames x.kind x))
      go had q = absurd (subst Acts q (acts-store w.state w.frames x.kind x))
      go (takes y) q = inl (is-taken w w' a st y (comes w h ∙ q))
      go (first p e) q =
          let f = first_of w.state w.frames x.kind x p e q in
          let o = goes_on_lem w w' a h st (Second p) _ (st.promise.first_halved p e (comes w h ∙ q)) in
          inr (o.replied, λ a' w'' st'. inr (second-half w' w'' a' o.stands' p e f.cleans o.cleaning_is (o.found p ∙ f.found) st'))
      go (second p e) q =
          let f = (second-of w.state w.frames x.kind x p e q).0 in
          let o = goes_on_lem w w' a h st (Third p) _ (st.promise.second_halved p e (comes w h ∙ q)) in
          inr (o.replied, λ a' w'' st'. inl (third w' w'' a' o.stands' p e f.cleans o.cleaning_is (o.found p ∙ f.found) st'))

-- IT KEEPS UP
pub keeps-up : KeepsUp promised copy_promised
keeps-up z in_range origin book run origin' book' run' begins w blocks r so x rest e bytes ln fs a w₁ st =
    let range = ranged z in_range in
    let g = copy-good z range run w blocks r in
    let g' = good z range origin' book' run' in
    let rules : Rules z.slots z.frames z.pages (stored_by run ++ blocks) x = ruled-at z.slots z.frames z.pages 1 (stored_by run') (stored_by run ++ blocks) x rest g'.kept.ruled e (omega arith) in
    three z range (book_of run blocks) (stored_by run ++ blocks) x rules bytes ln fs w w₁ a (record { is_good = g; is_sound = so }) st

-- OUR LOG HOLDS THE BYTES TO FEED
pub in-our-log : InOurLog promised
in-our-log z in_range w b run xs x rest e h =
    let range = ranged z in_range in
    let g = good z range w b run in
    let n : ℕ = length xs + 1 in
    let ln : length (stored_by run) ≡ length xs + suc (length rest) = ap length e ∙ length-append xs (x ∷ rest) in
    let lt : n % z.slots < z.slots = mod-lt n (omega arith) in
    let at_x : get_or (stored_by run) (n - 1) no_block ≡ x = ap (λ (i : ℕ). get_or (stored_by run) i no_block) (omega arith) ∙ ap (λ (ys : List LogBlock). get_or ys (length xs) no_block) e ∙ get_or-append_seam xs x rest no_block in
    let q : slot_at z.slots z.pages w.log (n % z.slots) ≡ valid n x =
    sym (get-slot z.slots z.pages w.log (n % z.slots) lt) ∙ g.kept.holds.recent n (omega arith) (omega (arith, ln)) (omega (arith, ln)) ∙ ap (valid n) at_x in
    (length_part w.log (n % z.slots * 512) 512 (omega (arith, g.log_long)), slot-fed z.slots z.pages (n % z.slots) n w.log x q)
