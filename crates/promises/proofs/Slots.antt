-- A block that is written is read back from its slot, and the other slots stay.
-- Assumes nothing.
use mathlib.Core.Path.{◌≡◌, refl, sym, ap, ◌∙◌}
use mathlib.Core.Bool.{true}
use Prim.Native.Nat.{ℕ, zero, suc, ◌+◌, ◌*◌, ◌-◌, ◌%◌, ◌≤◌, ◌<◌}
use mathlib.Core.List.{List, [], ◌∷◌}
use native.Mathlib.Omega.{arith}
use native.Mathlib.Nat.{mod-lt}
use lib.ListN.{length, take, drop, get_or, set, replicate, length-set}
use lib.Seq.{ext_get_or, get_or-set_same, get_or-set_other}
use Rattle.area.proofs.Laws.{by-eq, either}
use Rattle.area.specs.Part.{part}
use Rattle.area.proofs.Parts.{length-splice, part_same, area-other}
use Rattle.block.specs.Kind.{length_of}
use Rattle.block.specs.Layout.{layout}
use Rattle.block.specs.Legal.{legal}
use Rattle.block.specs.Slot.{judged}
use Rattle.block.specs.declared.Judged.{Judged}
use Rattle.block.proofs.Lengths.{length-layout}
use Rattle.block.proofs.Facts.{NumberFacts, UpdateFacts, CommitFacts, update-legal, commit-legal, clean-legal}
use Rattle.block.proofs.ReadBack.{read_back, new-back, zero-unused}
use Rattle.promises.specs.Areas.{slot_bytes, with_slot}
use Rattle.promises.specs.Blocks.{Kind, update, commit, clean, LogBlock, fields_of, carried, written, stored, Slot, unused, valid, kind_in, slot_in, slot_at, slots_from, slots_of}
use Rattle.promises.proofs.History.Stored.{store}

-- what the layout asks of a block of this kind
abbrev pub KindFits : ℕ → ℕ → Kind → Type 0
KindFits pages ticket (update index change) = UpdateFacts pages index change.page change.offset (length change.bytes)
KindFits pages ticket (commit updates) = CommitFacts updates ticket
KindFits pages ticket (clean page) = page < pages

legal-right : (N P s k t : ℕ) (b : Kind) → NumberFacts N s k t → KindFits P t b → legal N P (fields_of s k t b) ≡ true
legal-right N P s k t (update i u) c f = update-legal N P s k i u.page u.offset (length u.bytes) t c f
legal-right N P s k t (commit n) c f = commit-legal N P s k n t c f
legal-right N P s k t (clean q) c f = clean-legal N P s k q t c f

carried-long : (s k t : ℕ) (b : Kind) → length (carried b) ≡ length_of (fields_of s k t b).kind
carried-long s k t (update i u) = refl
carried-long s k t (commit n) = refl
carried-long s k t (clean q) = refl

pub carried-few : (P t : ℕ) (b : Kind) → KindFits P t b → length (carried b) ≤ 472
carried-few P t (update i u) f = f.length_most
carried-few P t (commit n) f = omega arith
carried-few P t (clean q) f = omega arith

pub length-written : (P s : ℕ) (b : LogBlock) → KindFits P b.ticket b.kind → length (written s b) ≡ 512
unfolding written
length-written P s b f = length-layout _ _ (carried-few P b.ticket b.kind f)

-- a log with a block stored has its length
pub length-stored : (N s : ℕ) (log : List ℕ) (b : LogBlock) → 0 < N → length log ≡ N * 512 → length (carried b.kind) ≤ 472 → length (stored N log s b) ≡ N * 512
unfolding written
length-stored N s log b big long few =
    let m : s % N < N = mod-lt s big in
    length-splice log (s % N * 512) 512 (written s b) (omega arith) (length-layout _ _ few) ∙ long

-- the bytes of a written block tell its kind
kind-back : (s k t : ℕ) (b : Kind) → kind_in (fields_of s k t b).kind (layout (fields_of s k t b) (carried b)) ≡ b
kind-back s k t (update i u) =
    ap (λ (x : List ℕ). update i (record { page = u.page; offset = u.offset; bytes = x }))
    (new-back (fields_of s k t (update i u)) u.bytes (length u.bytes) refl)
kind-back s k t (commit n) = refl
kind-back s k t (clean q) = refl

sequence-back : (s k t : ℕ) (b : Kind) → (fields_of s k t b).sequence ≡ s
sequence-back s k t (update i u) = refl
sequence-back s k t (commit n) = refl
sequence-back s k t (clean q) = refl

keep-back : (s k t : ℕ) (b : Kind) → (fields_of s k t b).keep_from ≡ k
keep-back s k t (update i u) = refl
keep-back s k t (commit n) = refl
keep-back s k t (clean q) = refl

ticket-back : (s k t : ℕ) (b : Kind) → (fields_of s k t b).ticket ≡ t
ticket-back s k t (update i u) = refl
ticket-back s k t (commit n) = refl
ticket-back s k t (clean q) = refl

-- what is written is read back
pub written_back : (N P s : ℕ) (b : LogBlock) → P ≤ 65536 → NumberFacts N s b.keep_from b.ticket → KindFits P b.ticket b.kind
    → slot_in (judged N P (s % N) (written s b)) (written s b) ≡ valid s b
unfolding written
written_back N P s b p c f =
    let k = b.keep_from in
    let t = b.ticket in
    let x = b.kind in
    let r = read_back N P (fields_of s k t x) (carried x) p (legal-right N P s k t x c f) (carried-long s k t x) in
    rw (rw (sequence-back s k t x) at r, kind-back s k t x, sequence-back s k t x, keep-back s k t x, ticket-back s k t x)

-- ---- the list of slots
length-slots : (N P : ℕ) (log : List ℕ) (i n : ℕ) → length (slots_from N P log i n) ≡ n
unfolding slots_from
length-slots N P log i zero = refl
length-slots N P log i (suc n) = ap suc (length-slots N P log (suc i) n)

get-slots : (N P : ℕ) (log : List ℕ) (i n j : ℕ) → j < n → get_or (slots_from N P log i n) j unused ≡ slot_at N P log (i + j)
unfolding slots_from
get-slots N P log i zero j h = absurd (omega arith)
get-slots N P log i (suc n) zero h = ap (slot_at N P log) (omega arith)
get-slots N P log i (suc n) (suc j) h = get-slots N P log (suc i) n j (omega arith) ∙ ap (slot_at N P log) (omega arith)

pub get-slot : (N P : ℕ) (log : List ℕ) (j : ℕ) → j < N → get_or (slots_of N P log) j unused ≡ slot_at N P log j
get-slot N P log j h = get-slots N P log 0 N j h ∙ ap (slot_at N P log) (omega arith)

pub size-slots : (N P : ℕ) (log : List ℕ) → length (slots_of N P log) ≡ N
size-slots N P log = length-slots N P log 0 N

slot_is_lem : (N P : ℕ) (log : List ℕ) (i : ℕ) (x : List ℕ) → slot_bytes log i ≡ x → slot_at N P log i ≡ slot_in (judged N P i x) x
unfolding slot_at
slot_is_lem N P log i x e = ap (λ (y : List ℕ). slot_in (judged N P i y) y) e

pub same-slot : (N P : ℕ) (log log' : List ℕ) (i : ℕ) → slot_bytes log' i ≡ slot_bytes log i → slot_at N P log' i ≡ slot_at N P log i
same-slot N P log log' i e = slot_is_lem N P log' i (slot_bytes log i) e ∙ sym (slot_is_lem N P log i (slot_bytes log i) refl)

-- BYTES THAT ARE PUT INTO A SLOT set it to what they are judged as, and no other
pub slots_with : (N P i : ℕ) (log bytes : List ℕ) → i < N → length log ≡ N * 512 → length bytes ≡ 512
    → slots_of N P (with_slot log i bytes) ≡ set (slots_of N P log) i (slot_in (judged N P i bytes) bytes)
slots_with N P i log bytes inside e long =
    ext_get_or unused (slots_of N P log') (set (slots_of N P log) i x) (size-slots N P log' ∙ sym (size-slots N P log) ∙ sym (length-set (slots_of N P log) i x))
    (λ j h. let h' : j < N = omega (arith, size-slots N P log') in get-slot N P log' j h' ∙ at_slot j h')
  where
    x : Slot
    x = slot_in (judged N P i bytes) bytes

    room : i * 512 + 512 ≤ length log
    room = omega (arith, e)

    log' : List ℕ
    log' = with_slot log i bytes

    other : (j : ℕ) → (j ≡ i → ⊥) → slot_at N P log' j ≡ slot_at N P log j
    other j n = same-slot N P log log' j (area-other 512 log i j bytes room long (λ e. n (sym e)))

    at_slot : (j : ℕ) → j < N → slot_at N P log' j ≡ get_or (set (slots_of N P log) i x) j unused
    at_slot j h = by-eq j i
        (λ q. rw q (slot_is_lem N P log' i bytes (part_same log (i * 512) 512 bytes room long) ∙ sym (get_or-set_same (slots_of N P log) i x unused (omega (arith, size-slots N P log)))))
        (λ n. other j n ∙ sym (get-slot N P log j h) ∙ sym (get_or-set_other (slots_of N P log) i j x unused n))

-- A STORE SETS ITS SLOT
pub slots-store : (N P s : ℕ) (log : List ℕ) (b : LogBlock) → 0 < N → P ≤ 65536 → length log ≡ N * 512 → NumberFacts N s b.keep_from b.ticket → KindFits P b.ticket b.kind
    → slots_of N P (with_slot log (s % N) (written s b)) ≡ store N s b (slots_of N P log)
unfolding store
slots-store N P s log b big p e c f =
    slots_with N P (s % N) log (written s b) (mod-lt s big) e (length-written P s b f) ∙ ap (set (slots_of N P log) (s % N)) (written_back N P s b p c f)

-- ---- a log of zeros
drop-zeros : (n m : ℕ) → drop {A = ℕ} n (replicate m 0) ≡ replicate (m - n) 0
drop-zeros zero m = ap (λ (k : ℕ). replicate {A = ℕ} k 0) (sym (sub-zero m))
  where
    sub-zero : (m : ℕ) → m - 0 ≡ m
    sub-zero m = omega arith
drop-zeros (suc n) zero = ap (λ (k : ℕ). replicate {A = ℕ} k 0) (sym (zero-sub n))
  where
    zero-sub : (n : ℕ) → 0 - suc n ≡ 0
    zero-sub n = omega arith
drop-zeros (suc n) (suc m) = drop-zeros n m ∙ ap (λ (k : ℕ). replicate {A = ℕ} k 0) (less n m)
  where
    less : (n m : ℕ) → m - n ≡ suc m - suc n
    less n m = omega arith

take-zeros : (n m : ℕ) → n ≤ m → take {A = ℕ} n (replicate m 0) ≡ replicate n 0
take-zeros zero m h = refl
take-zeros (suc n) zero h = absurd (omega arith)
take-zeros (suc n) (suc m) h = ap (λ (x : List ℕ). 0 ∷ x) (take-zeros n m (omega arith))

pub blank-slot : (N P n i : ℕ) → i * 512 + 512 ≤ n → slot_at N P (replicate n 0) i ≡ unused
unfolding part
blank-slot N P n i h =
    let e : slot_bytes (replicate n 0) i ≡ replicate 512 0 = ap (take 512) (drop-zeros (i * 512) n) ∙ take-zeros 512 (n - i * 512) (omega arith) in
    slot_is_lem N P (replicate n 0) i (replicate 512 0) e ∙ ap (λ (j : Judged). slot_in j (replicate 512 0)) (zero-unused N P i)

out_of : (xs : List Slot) (i : ℕ) → length xs ≤ i → get_or xs i unused ≡ unused
out_of [] i h = refl
out_of (x ∷ xs) zero h = absurd (omega arith)
out_of (x ∷ xs) (suc i) h = out_of xs i (omega arith)

pub no_slot : (N P : ℕ) (log : List ℕ) (i : ℕ) → N ≤ i → get_or (slots_of N P log) i unused ≡ unused
no_slot N P log i h = out_of (slots_of N P log) i (omega (arith, size-slots N P log))

pub blank-slots : (N P i : ℕ) → get_or (slots_of N P (replicate (N * 512) 0)) i unused ≡ unused
blank-slots N P i = either i N
    (λ h. get-slot N P (replicate (N * 512) 0) i h ∙ blank-slot N P (N * 512) i (omega arith))
    (λ h. no_slot N P (replicate (N * 512) 0) i h)

-- all slots of a log of zeros, from a slot on
pub blank-from : (N P len slot count : ℕ) → (slot + count) * 512 ≤ len → slots_from N P (replicate len 0) slot count ≡ replicate count unused
unfolding slots_from
blank-from N P len slot zero h = refl
blank-from N P len slot (suc count) h =
    ap (λ (x : Slot). x ∷ slots_from N P (replicate len 0) (suc slot) count) (blank-slot N P len slot (omega arith))
    ∙ ap (λ (l : List Slot). unused ∷ l) (blank-from N P len (suc slot) count (omega arith))
