-- A log of which some slots went bad: Open finds a block missing, or what it found before; never an older end.
use mathlib.Core.Path.{◌≡◌, refl, sym, ap, ◌∙◌}
use mathlib.Core.Logic.{◌⊎◌, inl, inr}
use Prim.Native.Nat.{ℕ, zero, suc, ◌+◌, ◌-◌, ◌%◌, ◌≤◌, ◌<◌}
use native.Mathlib.Omega.{arith}
use mathlib.Core.Bool.{Bool, true, false, cond, and-false}
use mathlib.Core.List.{List, [], ◌∷◌}
use lib.ListN.{length, get_or}
use lib.Dec.{eqb}
use Rattle.area.proofs.Laws.{by_cases, either}
use Rattle.promises.specs.Blocks.{LogBlock, Slot, unused, damaged, valid}
use Rattle.promises.specs.Newest.{sequence_in, newest, keep_in, keep_of, Gathered, missing, blocks, block_in, gather, is_unused, all_unused, is_damaged, end_damaged, end_tested, gathered}
use Rattle.promises.proofs.Gathered.{unused-newest, gathered-fresh, gathered-damaged, gathered-from, end-missing}
use Rattle.promises.proofs.History.Sees.{by-eq}
use Rattle.promises.proofs.History.Ring.{Past, Holds, past-le, past-none, newest-le, newest-ge, newest-at, newest-history, all_unused-none}

-- each slot is as it was, or damaged
abbrev pub WentBad : List Slot → List Slot → Type 0
WentBad log log' = (i : ℕ) → (get_or log' i unused ≡ get_or log i unused) ⊎ (get_or log' i unused ≡ damaged)

abbrev pub Missing : ℕ → List Slot → Type 0
Missing N log = (s : ℕ) × (gathered N log ≡ missing s)

pub record Same (N : ℕ) (log log' : List Slot) : Type 0 where
  pub gathers : gathered N log' ≡ gathered N log
  pub newest_is : newest log' ≡ newest log
  pub keep_is : keep_of N log' ≡ keep_of N log

all_unused-some : (log : List Slot) (i : ℕ) → is_unused (get_or log i unused) ≡ false → all_unused log ≡ false
unfolding all_unused
all_unused-some [] i e = cc
all_unused-some (x ∷ log) zero e = rw e refl
all_unused-some (x ∷ log) (suc i) e = rw (all_unused-some log i e) (and-false (is_unused x))

-- consecutive blocks of a log that went bad: the same, or one is missing
gather-bad : (N : ℕ) (log log' : List Slot) → WentBad log log' → (n j : ℕ) → (gather N log' n j ≡ gather N log n j) ⊎ ((s : ℕ) × (gather N log' n j ≡ missing s))
unfolding gather
gather-bad N log log' d zero j = inl refl
gather-bad N log log' d (suc n) j = elim (d (j % N)) [
  | inl e ↦ rw e (elim (gather-bad N log log' d n (suc j)) [
    | inl r ↦ inl (ap (block_in j (get_or log (j % N) unused)) r)
    | inr r ↦ inr (lacks (get_or log (j % N) unused) (gather N log' n (suc j)) r.0 r.1)
  ])
  | inr e ↦ rw e (inr (j, refl))
]
  where
    lacks : (x : Slot) (g : Gathered) (s : ℕ) → g ≡ missing s → (t : ℕ) × (block_in j x g ≡ missing t)
    lacks unused g s e = (j, refl)
    lacks damaged g s e = (j, refl)
    lacks (valid f b) g s e = rw e (by_cases (eqb f j) (λ q. (s, simp q)) (λ q. (j, simp q)))

-- the end of a log with the same newest block
end_same : (N : ℕ) (log log' : List Slot) → newest log' ≡ newest log → end_damaged N log' ≡ end_damaged N log → (g : Gathered) → end_tested N log' g ≡ end_tested N log g
end_same N log log' m e (missing s) = refl
end_same N log log' m e (blocks list) =
    ap (λ (b : Bool). cond b (missing (newest log' + 1)) (blocks list)) e ∙ ap (λ (n : ℕ). cond (end_damaged N log) (missing (n + 1)) (blocks list)) m

module _ (N base : ℕ) (log log' : List Slot) (history : List LogBlock) (big : 0 < N) (h : Holds N base log history) (d : WentBad log log') where
  abbrev m : ℕ
  m = length history

  sequence-le : (i : ℕ) → sequence_in (get_or log' i unused) ≤ m
  sequence-le i = elim (d i) [ inl e ↦ rw e (past-le N base m i (get_or log i unused) (h.past i)) | inr e ↦ rw e (omega arith) ]

  tested : end_damaged N log' ≡ true → (g : Gathered) → (s : ℕ) × (end_tested N log' g ≡ missing s)
  tested e (missing s) = (s, refl)
  tested e (blocks list) = (newest log' + 1, end-missing N log' list e)

  -- a block that is one of the newest N but newer than all that are left is damaged
  bad-slot : (s : ℕ) → base ≤ s → s ≤ m → m < s + N → newest log' < s → get_or log' (s % N) unused ≡ damaged
  bad-slot s b l n lt = elim (d (s % N)) [
    | inl e ↦ absurd (omega (arith, ap sequence_in (e ∙ h.recent s b l n), newest-ge log' (s % N)))
    | inr e ↦ e
  ]

  -- a block that is left stands in its slot as it did
  left : (i s : ℕ) → 0 < s → sequence_in (get_or log' i unused) ≡ s → (get_or log' i unused ≡ get_or log i unused) × (base ≤ s) × (s % N ≡ i) × (m < s + N)
  left i s z q = elim (d i) [
    | inl e ↦ let r = was (get_or log i unused) (h.past i) (sym (ap sequence_in e) ∙ q) in (e, r.0, r.1, r.2)
    | inr e ↦ absurd (omega (arith, ap sequence_in e))
  ]
    where
      was : (x : Slot) → Past N base m i x → sequence_in x ≡ s → (base ≤ s) × (s % N ≡ i) × (m < s + N)
      was unused p q = absurd (omega arith)
      was damaged p q = absurd p
      was (valid t b) p q = (omega (arith, p.0), ap (λ (n : ℕ). n % N) (sym q) ∙ p.2, omega (arith, p.3))

  -- THE NEWEST BLOCK IS GONE: one is missing
  missed : base ≤ m → newest log' < m → Missing N log'
  missed some lt = by-eq (newest log') 0
      (λ z. (0, gathered-damaged N log' (all_unused-some log' (m % N) (ap is_unused (bad-slot m some (omega arith) (omega arith) lt))) z))
      (λ n.
      let a = newest-at log' n in
      let r = left a.0 (newest log') (omega arith) a.1 in
      let e : end_damaged N log' ≡ true = ap is_damaged (bad-slot (newest log' + 1) (omega (arith, r.1)) (omega arith) (omega (arith, r.3)) (omega arith)) in
      let t = tested e (gather N log' (newest log' + 1 - keep_of N log') (keep_of N log')) in
      (t.0, gathered-from N log' (newest log') (keep_of N log') refl refl n ∙ t.1))

  -- THE NEWEST BLOCK IS LEFT: one is missing, or all is found as before
  found_left : base ≤ m → newest log' ≡ m → Missing N log' ⊎ Same N log log'
  found_left some e =
      let nz : newest log' ≡ 0 → ⊥ = λ z. omega (arith, h.begun) in
      let a = newest-at log' nz in
      let r = left a.0 (newest log') (omega (arith, h.begun)) a.1 in
      let nw : newest log ≡ m = newest-history N base log history h some big in
      let ne : newest log' ≡ newest log = e ∙ sym nw in
      let same : get_or log' (newest log' % N) unused ≡ get_or log (newest log' % N) unused = ap (λ (i : ℕ). get_or log' i unused) r.2 ∙ r.0 ∙ ap (λ (i : ℕ). get_or log i unused) (sym r.2) in
      let kp : keep_of N log' ≡ keep_of N log = ap keep_in same ∙ ap (λ (s : ℕ). keep_in (get_or log (s % N) unused)) ne in
      ends ne kp nz (gather-bad N log log' d (newest log' + 1 - keep_of N log') (keep_of N log')) (d ((newest log' + 1) % N))
    where
      ends : newest log' ≡ newest log → keep_of N log' ≡ keep_of N log → (newest log' ≡ 0 → ⊥)
          → (gather N log' (newest log' + 1 - keep_of N log') (keep_of N log') ≡ gather N log (newest log' + 1 - keep_of N log') (keep_of N log'))
          ⊎ ((s : ℕ) × (gather N log' (newest log' + 1 - keep_of N log') (keep_of N log') ≡ missing s))
          → (get_or log' ((newest log' + 1) % N) unused ≡ get_or log ((newest log' + 1) % N) unused) ⊎ (get_or log' ((newest log' + 1) % N) unused ≡ damaged)
          → Missing N log' ⊎ Same N log log'
      ends ne kp nz (inr g) x = inl (g.0, gathered-from N log' (newest log') (keep_of N log') refl refl nz ∙ ap (end_tested N log') g.1)
      ends ne kp nz (inl g) (inr x) =
          let t = tested (ap is_damaged x) (gather N log' (newest log' + 1 - keep_of N log') (keep_of N log')) in
          inl (t.0, gathered-from N log' (newest log') (keep_of N log') refl refl nz ∙ t.1)
      ends ne kp nz (inl g) (inl x) =
          let en : end_damaged N log' ≡ end_damaged N log = ap is_damaged x ∙ ap (λ (s : ℕ). is_damaged (get_or log ((s + 1) % N) unused)) ne in
          inr (record {
            gathers = gathered-from N log' (newest log') (keep_of N log') refl refl nz ∙ ap (end_tested N log') g
                ∙ end_same N log log' ne en (gather N log (newest log' + 1 - keep_of N log') (keep_of N log'))
                ∙ sym (gathered-from N log (newest log') (keep_of N log') (sym ne) (sym kp) nz);
            newest_is = ne;
            keep_is = kp;
          })

  -- no block was stored
  found_none : m < base → Missing N log' ⊎ Same N log log'
  found_none l =
      let none : (i : ℕ) → get_or log i unused ≡ unused = λ i. past-none N base m i (get_or log i unused) l (h.past i) in
      let fresh : all_unused log ≡ true = all_unused-none log none in
      let nw : newest log ≡ 0 = unused-newest log fresh in
      let nw' : newest log' ≡ 0 = omega (arith, newest-le 0 log' (λ i. elim (d i) [ inl e ↦ rw (e, none i) (omega arith) | inr e ↦ rw e (omega arith) ])) in
      let keep : (i : ℕ) → keep_in (get_or log' i unused) ≡ 0 = λ i. elim (d i) [ inl e ↦ rw (e, none i) refl | inr e ↦ rw e refl ] in
      by_cases (all_unused log')
      (λ u. inr (record {
        gathers = gathered-fresh N log' u ∙ sym (gathered-fresh N log fresh);
        newest_is = nw' ∙ sym nw;
        keep_is = keep (newest log' % N) ∙ sym (ap keep_in (none (newest log % N)));
      }))
      (λ u. inl (0, gathered-damaged N log' u nw'))

  -- WHATEVER WENT BAD: a block is missing, or all is found as before
  pub found-bad : Missing N log' ⊎ Same N log log'
  found-bad = either m base found_none (λ some. either (newest log') m
      (λ lt. inl (missed some lt))
      (λ ge. found_left some (omega (arith, newest-le m log' sequence-le))))

  -- and missing it is where the newest block went bad
  pub newest-bad : base ≤ m → get_or log' (m % N) unused ≡ damaged → Missing N log'
  newest-bad some e = missed some (either (newest log') m (λ lt. lt) (λ ge.
      let a = newest-at log' (λ z. omega (arith, h.begun)) in
      let r = left a.0 (newest log') (omega (arith, h.begun)) a.1 in
      let nm : newest log' ≡ m = omega (arith, newest-le m log' sequence-le) in
      let at : get_or log' a.0 unused ≡ damaged = ap (λ (i : ℕ). get_or log' i unused) (sym r.2 ∙ ap (λ (s : ℕ). s % N) nm) ∙ e in
      absurd (omega (arith, ap sequence_in at, a.1, h.begun))))
