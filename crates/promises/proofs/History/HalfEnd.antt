-- The half group at a history's end: updates without their commit, the last blocks of the history.
use mathlib.Core.Path.{◌≡◌, refl, sym, ap, ◌∙◌, subst}
use mathlib.Core.Logic.{◌⊎◌, ⊎_elim}
use Prim.Native.Nat.{ℕ, zero, suc, ◌+◌, ◌-◌, ◌≤◌, ◌<◌}
use native.Mathlib.Omega.{arith}
use mathlib.Core.Bool.{cond}
use mathlib.Core.List.{List, [], ◌∷◌, ◌++◌}
use lib.ListN.{length, get_or, length-append, get_or-append}
use lib.Seq.{get_or-append_seam}
use lib.Dec.{eqb}
use borrow.Author.Tests.{eq-eqb, ne_eqb}
use Rattle.promises.specs.Blocks.{update, commit, clean, LogBlock, no_block}
use Rattle.promises.specs.Updates.{Update}
use Rattle.promises.proofs.History.Legal.{Legal}
use Rattle.promises.proofs.History.Views.{View, view_block, first}
use Rattle.promises.proofs.History.Machine.{last_keep, no_update}
use Rattle.promises.proofs.History.Sees.{by-eq}
use Rattle.promises.proofs.History.WalkStart.{BeginsAt, begins-append, begins-last, last_keep-snoc}
use Rattle.promises.proofs.History.Invariant.{view, view-snoc, legal-append}
use Rattle.promises.proofs.History.Accepted.{Ups, updates-snoc}

pub begins-le : {history : List LogBlock} {m k : ℕ} → BeginsAt history m k → (0 < k) × (k ≤ length history)
begins-le {history} g = let e : length history ≡ length g.pre + suc (length g.post) = ap length g.split ∙ length-append g.pre (g.block ∷ g.post) in
    (omega (arith, g.place), omega (arith, g.place, e))

-- the blocks from a start on are these updates, with the indexes 1 and on
abbrev pub Stands : List LogBlock → ℕ → List Update → Type 0
Stands history start us = (i : ℕ) → i < length us → (get_or history (start + i - 1) no_block).kind ≡ update (i + 1) (get_or us i no_update)

-- the half group at a history's end
pub data HalfAt (P : ℕ) (history : List LogBlock) (m : ℕ) (t : View) : Type 0 where
  none : t.group ≡ [] → HalfAt P history m t
  some : 0 < length t.group → t.start + length t.group ≡ length history + 1 → BeginsAt history m t.start → last_keep history ≤ t.start
      → Legal 1024 t.group → Ups P t.group → Stands history t.start t.group → HalfAt P history m t

abbrev pub HalfEnd : ℕ → List LogBlock → ℕ → Type 0
HalfEnd P history m = HalfAt P history m (view history 0)

legal-one : (n : ℕ) (u : Update) → u.offset + length u.bytes ≤ n → Legal n (u ∷ [])
unfolding Legal
legal-one n u h = (h, tt)

pub legal-at : (n : ℕ) (us : List Update) (i : ℕ) → i < length us → Legal n us → (get_or us i no_update).offset + length (get_or us i no_update).bytes ≤ n
unfolding Legal
legal-at n [] i h a = absurd (omega arith)
legal-at n (u ∷ us) zero h a = a.0
legal-at n (u ∷ us) (suc i) h a = legal-at n us i (omega arith) a.1

abbrev update_with : ℕ → ℕ → ℕ → Update → LogBlock
update_with index keep ticket u = record { kind = update index u; keep_from = keep; ticket = ticket }

one-stands : (history : List LogBlock) (i kf t : ℕ) (u : Update) → i ≡ 1
    → Stands (history ++ (update_with i kf t u ∷ [])) (length history + 1) (u ∷ [])
one-stands history i kf t u q zero h =
    ap (λ (n : ℕ). (get_or (history ++ (update_with i kf t u ∷ [])) n no_block).kind) (omega arith)
    ∙ ap (λ (x : LogBlock). x.kind) (get_or-append_seam history (update_with i kf t u) [] no_block) ∙ ap (λ (n : ℕ). update n u) q
one-stands history i kf t u q (suc j) h = absurd (omega arith)

more-stand : (history : List LogBlock) (start : ℕ) (us : List Update) (i kf t : ℕ) (u : Update) → 0 < start → start + length us ≡ length history + 1 → i ≡ length us + 1
    → Stands history start us → Stands (history ++ (update_with i kf t u ∷ [])) start (us ++ (u ∷ []))
more-stand history start us i kf t u z e q sd j h = by-eq j (length us)
    (λ f. ap (λ (n : ℕ). (get_or (history ++ (update_with i kf t u ∷ [])) n no_block).kind) (omega arith)
    ∙ ap (λ (x : LogBlock). x.kind) (get_or-append_seam history (update_with i kf t u) [] no_block)
    ∙ ap (λ (n : ℕ). update n u) (omega arith) ∙ ap (update (j + 1)) (sym (ap (λ (n : ℕ). get_or (us ++ (u ∷ [])) n no_update) f ∙ get_or-append_seam us u [] no_update)))
    (λ d. let l : j < length us = omega (arith, length-append us (u ∷ [])) in
    ap (λ (x : LogBlock). x.kind) (get_or-append history (update_with i kf t u ∷ []) no_block (start + j - 1) (omega arith))
    ∙ sd j l ∙ ap (update (j + 1)) (sym (get_or-append us (u ∷ []) no_update j l)))

-- an update is added
pub half-end-update : (P m kf i : ℕ) (history : List LogBlock) (t : ℕ) (u : Update) → HalfEnd P history m
    → (i ≡ 1) ⊎ ((0 < length (view history 0).group) × (i ≡ length (view history 0).group + 1)) → t ≡ m → u.page < P → u.offset + length u.bytes ≤ 1024
    → kf ≤ cond (eqb i 1) (length history + 1) (view history 0).start
    → HalfEnd P (history ++ (update_with i kf t u ∷ [])) m
unfolding view_block
half-end-update P m kf i history t u hf ix e inside lg le =
    let x : LogBlock = update_with i kf t u in
    let ln : length (history ++ (x ∷ [])) ≡ length history + 1 = length-append history (x ∷ []) in
    let lk : last_keep (history ++ (x ∷ [])) ≡ kf = last_keep-snoc history x in
    subst (HalfAt P (history ++ (x ∷ [])) m) (sym (view-snoc history x 0))
    (by-eq i 1
    (λ q. simp (eq-eqb _ _ q) (some (omega arith) (omega (arith, ln)) (begins-last history m x (rw q first) (omega arith)) (omega (arith, lk, simp (eq-eqb _ _ q) at le)) (legal-one 1024 u lg) (inside, tt) (λ j h. one-stands history i kf t u q j h)))
    (λ d. simp (ne_eqb _ _ d) (go (⊎_elim (λ (q : i ≡ 1). absurd (d q)) (λ (q : (0 < length (view history 0).group) × (i ≡ length (view history 0).group + 1)). q) ix) hf (omega (arith, lk, simp (ne_eqb _ _ d) at le)) ln)))
  where
    go : (0 < length (view history 0).group) × (i ≡ length (view history 0).group + 1) → HalfEnd P history m → last_keep (history ++ (update_with i kf t u ∷ [])) ≤ (view history 0).start
        → length (history ++ (update_with i kf t u ∷ [])) ≡ length history + 1
        → HalfAt P (history ++ (update_with i kf t u ∷ [])) m (record { group = (view history 0).group ++ (u ∷ []); start = (view history 0).start; page = (view history 0).page })
    go h (none y) l ln = let z : length (view history 0).group ≡ 0 = ap length y in absurd (omega arith)
    go h (some y s bg lk lg' us sd) l ln =
        some (omega (arith, length-append (view history 0).group (u ∷ []))) (omega (arith, length-append (view history 0).group (u ∷ []), s, ln))
        (subst (λ (c : ℕ). BeginsAt (history ++ (update_with i kf t u ∷ [])) c (view history 0).start) (omega arith) (begins-append _ bg)) l
        (legal-append 1024 (view history 0).group (u ∷ []) lg' (legal-one 1024 u lg)) (updates-snoc P (view history 0).group u us inside) (more-stand history (view history 0).start (view history 0).group i kf t u (begins-le bg).0 s h.1 sd)

-- a commit or a clean is added
pub half-end-commit : (P m kf t n : ℕ) (history : List LogBlock) → HalfEnd P (history ++ (record { kind = commit n; keep_from = kf; ticket = t } ∷ [])) m
unfolding view_block
half-end-commit P m kf t n history = subst (HalfAt P _ m) (sym (view-snoc history (record { kind = commit n; keep_from = kf; ticket = t }) 0)) (none refl)

pub half-end-clean : (P m kf t q : ℕ) (history : List LogBlock) → HalfEnd P (history ++ (record { kind = clean q; keep_from = kf; ticket = t } ∷ [])) m
unfolding view_block
half-end-clean P m kf t q history = subst (HalfAt P _ m) (sym (view-snoc history (record { kind = clean q; keep_from = kf; ticket = t }) 0)) (none refl)
