-- The slots hold the newest N blocks of the history; Open finds what it needs.
use mathlib.Core.Path.{◌≡◌, refl, sym, ap, ◌∙◌}
use Prim.Native.Nat.{ℕ, zero, suc, ◌+◌, ◌-◌, ◌/◌, ◌%◌, ◌≤◌, ◌<◌}
use native.Mathlib.Omega.{arith}
use native.Mathlib.Nat.{mod-lt, div-add-mod', mul-le-mul_right, suc-mul, add-mod_right}
use native.Mathlib.Decide.{dec_le}
use mathlib.Core.Bool.{true, false}
use mathlib.Core.List.{List, [], ◌∷◌, ◌++◌}
use lib.ListN.{length, get_or, drop, length-append, length-set, get_or-append}
use lib.Seq.{get_or-set_same, get_or-set_other, get_or-append_seam, drop-cons, drop-length}
use borrow.Author.Tests.{eq-eqb}
use Rattle.area.proofs.Laws.{either}
use Rattle.promises.specs.Blocks.{LogBlock, no_block, Slot, unused, damaged, valid}
use Rattle.promises.proofs.History.Stored.{store}
use Rattle.promises.specs.Newest.{sequence_in, newest, blocks, gather, keep_in, keep_of, all_unused, is_damaged, end_tested, gathered}
use Rattle.promises.proofs.Gathered.{gathered-fresh, gathered-from, end_whole}
use Rattle.promises.proofs.History.Sees.{by-eq}

-- two different sequences less than N apart have different slots
pub apart : (N a b : ℕ) → a < b → b < a + N → a % N ≡ b % N → ⊥
apart N a b l h e = elim (dec_le (b / N) (a / N)) [
  | yes y ↦ omega (arith, div-add-mod' a N, div-add-mod' b N, mul-le-mul_right N y)
  | no n ↦ let y : suc (a / N) ≤ b / N = omega arith in omega (arith, div-add-mod' a N, div-add-mod' b N, mul-le-mul_right N y, suc-mul (a / N) N)
]

-- what a slot of a log holds: nothing, or one of the newest N blocks, from base on, in its own slot; no slot is damaged
abbrev pub Past : (N base n i : ℕ) → Slot → Type 0
Past N base n i unused = Unit {0}
Past N base n i damaged = ⊥
Past N base n i (valid s b) = (base ≤ s) × (s ≤ n) × (s % N ≡ i) × (n < s + N)

-- base: the first block that was stored in this log
pub record Holds (N base : ℕ) (log : List Slot) (history : List LogBlock) : Type 0 where
  pub size : length log ≡ N
  pub begun : 0 < base
  pub recent : (j : ℕ) → base ≤ j → j ≤ length history → length history < j + N → get_or log (j % N) unused ≡ valid j (get_or history (j - 1) no_block)
  pub past : (i : ℕ) → Past N base (length history) i (get_or log i unused)

past_up : (N base n i : ℕ) (x : Slot) → (i ≡ (n + 1) % N → ⊥) → Past N base n i x → Past N base (n + 1) i x
past_up N base n i unused d p = tt
past_up N base n i damaged d p = p
past_up N base n i (valid s b) d p = (
  p.0,
  omega (arith, p.1),
  p.2,
  by-eq (n + 1) (s + N)
      (λ e. absurd (d (sym p.2 ∙ sym (add-mod_right s N) ∙ ap (λ (j : ℕ). j % N) (sym e))))
      (λ e. omega (arith, p.3)),
)

pub past-le : (N base n i : ℕ) (x : Slot) → Past N base n i x → sequence_in x ≤ n
past-le N base n i unused p = omega arith
past-le N base n i damaged p = absurd p
past-le N base n i (valid s b) p = p.1

pub past-none : (N base n i : ℕ) (x : Slot) → n < base → Past N base n i x → x ≡ unused
past-none N base n i unused z p = refl
past-none N base n i damaged z p = absurd p
past-none N base n i (valid s b) z p = absurd (omega (arith, p.0, p.1))

past-whole : (N base n i : ℕ) (x : Slot) → Past N base n i x → is_damaged x ≡ false
past-whole N base n i unused p = refl
past-whole N base n i damaged p = absurd p
past-whole N base n i (valid s b) p = refl

pub holds-store : (N base : ℕ) (log : List Slot) (history : List LogBlock) (b : LogBlock) → 0 < N → base ≤ length history + 1 → Holds N base log history
    → Holds N base (store N (length history + 1) b log) (history ++ (b ∷ []))
unfolding store
holds-store N base log history b z from h =
    let s : ℕ = length history + 1 in
    let ln : length (history ++ (b ∷ [])) ≡ length history + 1 = length-append history (b ∷ []) in
    let inn : s % N < length log = rw h.size (mod-lt s z) in
    record {
      size = length-set log (s % N) (valid s b) ∙ h.size;
      begun = h.begun;
      recent = λ j j0 j2 j3. by-eq j s
          (λ e. rw e (get_or-set_same log (s % N) (valid s b) unused inn ∙ ap (valid s) (sym (ap (λ (n : ℕ). get_or (history ++ (b ∷ [])) n no_block) (omega arith) ∙ get_or-append_seam history b [] no_block))))
          (λ n. get_or-set_other log (s % N) (j % N) (valid s b) unused (λ q. apart N j s (omega arith) (omega arith) q)
          ∙ h.recent j j0 (omega arith) (omega arith)
          ∙ ap (valid j) (sym (get_or-append history (b ∷ []) no_block (j - 1) (omega (arith, h.begun)))));
      past = λ i. by-eq i (s % N)
          (λ e. rw (e, get_or-set_same log (s % N) (valid s b) unused inn) (from, omega arith, refl, omega arith))
          (λ n. rw (get_or-set_other log (s % N) i (valid s b) unused n, ln) (past_up N base (length history) i (get_or log i unused) n (h.past i)));
    }

-- Open gathers the history from k on
pub gather-history : (N base : ℕ) (log : List Slot) (history : List LogBlock) → Holds N base log history → (n j : ℕ) → base ≤ j → j + n ≡ length history + 1 → length history < j + N
    → gather N log n j ≡ blocks (drop (j - 1) history)
unfolding gather
gather-history N base log history h zero j hb e l =
    let q : j - 1 ≡ length history = omega arith in
    ap blocks (sym (ap (λ (n : ℕ). drop n history) q ∙ drop-length history))
gather-history N base log history h (suc n) j hb e l =
    let z : 0 < j = omega (arith, h.begun) in
    let q : suc (j - 1) ≡ suc j - 1 = omega arith in
    rw (h.recent j hb (omega arith) l, gather-history N base log history h n (suc j) (omega arith) (omega arith) (omega arith))
    (simp (eq-eqb j j refl) (ap blocks (sym (drop-cons history (j - 1) no_block (omega arith) ∙ ap (λ (n : ℕ). get_or history (j - 1) no_block ∷ drop n history) q))))

pub newest-le : (n : ℕ) (log : List Slot) → ((i : ℕ) → sequence_in (get_or log i unused) ≤ n) → newest log ≤ n
unfolding newest
newest-le n [] h = omega arith
newest-le n (x ∷ log) h = omega (arith, newest-le n log (λ i. h (suc i)), h 0)

pub newest-ge : (log : List Slot) (i : ℕ) → sequence_in (get_or log i unused) ≤ newest log
unfolding newest
newest-ge [] i = omega arith
newest-ge (x ∷ log) zero = omega arith
newest-ge (x ∷ log) (suc i) = omega (arith, newest-ge log i)

pub newest-at : (log : List Slot) → (newest log ≡ 0 → ⊥) → (i : ℕ) × (sequence_in (get_or log i unused) ≡ newest log)
unfolding newest
newest-at [] n = absurd (n refl)
newest-at (x ∷ log) n = either (sequence_in x) (newest log)
    (λ l. let r = newest-at log (λ z. absurd (omega arith)) in (suc r.0, omega (arith, r.1)))
    (λ l. (0, omega arith))

pub all_unused-none : (log : List Slot) → ((i : ℕ) → get_or log i unused ≡ unused) → all_unused log ≡ true
unfolding all_unused
all_unused-none [] h = refl
all_unused-none (x ∷ log) h = rw (h 0) (all_unused-none log (λ i. h (suc i)))

-- OPEN READS THE HISTORY FROM KEEP-FROM ON
pub gathered_none : (N base : ℕ) (log : List Slot) → Holds N base log [] → gathered N log ≡ blocks []
gathered_none N base log h = gathered-fresh N log (all_unused-none log (λ i. past-none N base 0 i (get_or log i unused) h.begun (h.past i)))

pub newest-history : (N base : ℕ) (log : List Slot) (history : List LogBlock) → Holds N base log history → base ≤ length history → 0 < N → newest log ≡ length history
newest-history N base log history h from z =
    let m : ℕ = length history in
    omega (
      arith,
      newest-le m log (λ i. past-le N base m i (get_or log i unused) (h.past i)),
      rw (h.recent m from (omega arith) (omega arith)) at (newest-ge log (m % N)),
    )

pub gathered-history : (N base : ℕ) (log : List Slot) (history : List LogBlock) (k : ℕ) → Holds N base log history → base ≤ k → (get_or history (length history - 1) no_block).keep_from ≡ k
    → k ≤ length history → length history < k + N → gathered N log ≡ blocks (drop (k - 1) history)
gathered-history N base log history k h hb e k2 k3 =
    let m : ℕ = length history in
    let z : 0 < m = omega (arith, h.begun) in
    let r : get_or log (m % N) unused ≡ valid m (get_or history (m - 1) no_block) = h.recent m (omega arith) (omega arith) (omega arith) in
    let nw : newest log ≡ m = newest-history N base log history h (omega arith) (omega arith) in
    let i : ℕ = (newest log + 1) % N in
    let kp : keep_of N log ≡ k = ap (λ (s : ℕ). keep_in (get_or log (s % N) unused)) nw ∙ ap keep_in r ∙ e in
    gathered-from N log m k nw kp (λ y. omega arith)
    ∙ ap (end_tested N log) (gather-history N base log history h (m + 1 - k) k hb (omega arith) k3)
    ∙ end_whole N log _ (past-whole N base m i (get_or log i unused) (h.past i))
