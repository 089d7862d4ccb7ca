-- The two sums from lanes: a row added lane by lane, and what the lanes then tell of all bytes read.
-- Assumes nothing.
use Rattle.std.proofs.Common.{◌≡◌, ℕ, zero, suc, ◌+◌, ◌-◌, ◌*◌, ◌%◌, ◌<◌, ◌≤◌, List, [], ◌∷◌, ◌++◌, length, get_or, take, drop, set, replicate, sym, refl, ap, ◌∙◌, append_assoc, append-nil, suc-mul, mul-add, arith, get_or-set_other, get_or-set_same, take-add}
use Rattle.std.specs.List.{concat}
use Rattle.std.specs.Simd.{first_chunks}
use native.Mathlib.Nat.{add-mod, mod-mod}
use lib.ListN.{get_or-replicate}
use Rattle.area.proofs.Laws.{either}
use Rattle.block.specs.Check.{plain, weighted}
use Rattle.block.specs.Lanes.{sum_below, lower_of, lower_sum, lane_sum, lower_total, lane_total, RowAdded, plain_of, weighted_of, uppers_of, Summed}
use Rattle.block.specs.declared.check.Lanes.{Lanes}
use Rattle.block.proofs.Sums.{plain-append, weighted-append}
use Rattle.block.proofs.Indexed.{plain-indexed, weighted-indexed, sum_same, sum-plus, sum-times, sum-pairs}

-- ---- the lower bytes' sum

-- it is what 256 times the upper bytes' sum brings back to the pairs' sum, and nothing else that a lane holds is
lower-back : (pairs uppers : ℕ) → (lower_of pairs uppers + 256 * uppers) % 65536 ≡ pairs % 65536
unfolding lower_of
lower-back pairs uppers = omega arith

lower_only : (pairs uppers lower : ℕ) → lower < 65536 → (lower + 256 * uppers) % 65536 ≡ pairs % 65536 → lower ≡ lower_of pairs uppers
unfolding lower_of
lower_only pairs uppers lower h e = omega (arith, e)

-- sums of pairs and of upper bytes added, the lower ones' sum adds up, as long as it is no more than a lane holds
lower-add : (p u p' u' : ℕ) → lower_of p u + lower_of p' u' < 65536 → lower_of ((p + p') % 65536) (u + u') ≡ lower_of p u + lower_of p' u'
lower-add p u p' u' h =
    let x = lower_of p u in
    let x' = lower_of p' u' in
    let e : x + x' + 256 * (u + u') ≡ x + 256 * u + (x' + 256 * u') = omega arith in
    sym (lower_only ((p + p') % 65536) (u + u') (x + x') h
    (rw (e, add-mod (x + 256 * u) (x' + 256 * u') 65536, lower-back p u, lower-back p' u', ← add-mod p p' 65536) (sym (mod-mod (p + p') 65536))))

-- of one pair it is the lower byte
lower-pair : (x y : ℕ) → x < 256 → y < 256 → lower_of (x + 256 * y) y ≡ x
unfolding lower_of
lower-pair x y h k = omega arith

-- ---- a row added lane by lane

-- the lanes below l hold what f tells, the others what they held before
pub record SetBelow (l : ℕ) (before : List ℕ) (f : ℕ → ℕ) (after : List ℕ) : Type 0 where
  pub passed : (k : ℕ) → k < l → get_or after k 0 ≡ f k
  pub left : (k : ℕ) → l ≤ k → get_or after k 0 ≡ get_or before k 0

pub lane-set : (l : ℕ) (before : List ℕ) (f : ℕ → ℕ) (after : List ℕ) (v : ℕ) → l < length after → v ≡ f l
    → SetBelow l before f after → SetBelow (l + 1) before f (set after l v)
lane-set l before f after v h e a =
    record {
      passed =
          λ k below.
          either k l
          (λ less. get_or-set_other after l k v 0 (λ same. omega arith) ∙ a.passed k less)
          (λ more. let same : k ≡ l = omega arith in rw same (get_or-set_same after l v 0 h ∙ e));
      left = λ k above. get_or-set_other after l k v 0 (λ same. omega arith) ∙ a.left k (omega arith);
    }

-- ---- a row added to the sums

-- what a row adds to lane l
pub record LaneAdded (before : Lanes) (bytes : List ℕ) (after : Lanes) (l : ℕ) : Type 0 where
  pub lower : lower_sum after l ≡ lower_sum before l + get_or bytes (2 * l) 0
  pub upper : get_or after.uppers l 0 ≡ get_or before.uppers l 0 + get_or bytes (2 * l + 1) 0
  pub lowers : lower_total after l ≡ lower_total before l + lower_sum before l
  pub uppers : get_or after.uppertotals l 0 ≡ get_or before.uppertotals l 0 + get_or before.uppers l 0

pub lane-added : (before : Lanes) (bytes : List ℕ) (after : Lanes) → RowAdded before bytes after → (l : ℕ) → l < 16
    → get_or bytes (2 * l) 0 < 256 → get_or bytes (2 * l + 1) 0 < 256 → lower_sum before l ≤ 3825 → lower_total before l ≤ 57375
    → LaneAdded before bytes after l
lane-added before bytes after added l h small small' most most' =
    let x = get_or bytes (2 * l) 0 in
    let y = get_or bytes (2 * l + 1) 0 in
    let p = get_or before.pairs l 0 in
    let u = get_or before.uppers l 0 in
    let pt = get_or before.pairtotals l 0 in
    let ut = get_or before.uppertotals l 0 in
    let one : lower_of (x + 256 * y) y ≡ x = lower-pair x y small small' in
    let sum : lower_of ((p + (x + 256 * y)) % 65536) (u + y) ≡ lower_of p u + lower_of (x + 256 * y) y =
    lower-add p u (x + 256 * y) y (omega (arith, one)) in
    record {
      lower = rw (added.pairs_are l h, added.uppers_are l h, sum, one) refl;
      upper = added.uppers_are l h;
      lowers = rw (added.pair_totals_are l h, added.upper_totals_are l h) (lower-add pt ut p u (omega arith));
      uppers = added.upper_totals_are l h;
    }

-- the sums of 32 bytes by pairs: the lower byte of pair l counts 32 - 2 l times, the upper once less
row_plain : (bytes : List ℕ) → length bytes ≡ 32 → plain bytes ≡ sum_below 16 (λ l. get_or bytes (2 * l) 0 + get_or bytes (2 * l + 1) 0)
row_plain bytes h =
    plain-indexed bytes ∙ ap (λ (n : ℕ). sum_below n (λ i. get_or bytes i 0)) h ∙ sum-pairs 16 (λ i. get_or bytes i 0)

row-weighted : (bytes : List ℕ) → length bytes ≡ 32
    → weighted bytes + sum_below 16 (λ l. get_or bytes (2 * l + 1) 0)
    ≡ sum_below 16 (λ l. (32 - 2 * l) * (get_or bytes (2 * l) 0 + get_or bytes (2 * l + 1) 0))
row-weighted bytes h =
    let f : ℕ → ℕ = λ i. (32 - i) * get_or bytes i 0 in
    let w : weighted bytes ≡ sum_below 16 (λ l. f (2 * l) + f (2 * l + 1)) =
    weighted-indexed bytes ∙ ap (λ (n : ℕ). sum_below n (λ i. (n - i) * get_or bytes i 0)) h ∙ sum-pairs 16 f in
    ap (λ (n : ℕ). n + sum_below 16 (λ l. get_or bytes (2 * l + 1) 0)) w
    ∙ sym (sum-plus 16 (λ l. f (2 * l) + f (2 * l + 1)) (λ l. get_or bytes (2 * l + 1) 0))
    ∙ sum_same 16 (λ l. f (2 * l) + f (2 * l + 1) + get_or bytes (2 * l + 1) 0) (λ l. (32 - 2 * l) * (get_or bytes (2 * l) 0 + get_or bytes (2 * l + 1) 0))
    (λ l below. pair l (get_or bytes (2 * l) 0) (get_or bytes (2 * l + 1) 0) below)
  where
    pair : (l x y : ℕ) → l < 16 → (32 - 2 * l) * x + (32 - (2 * l + 1)) * y + y ≡ (32 - 2 * l) * (x + y)
    pair l x y below =
        let e : 32 - 2 * l ≡ suc (32 - (2 * l + 1)) = omega arith in
        rw e (omega (arith, mul-add (suc (32 - (2 * l + 1))) x y, suc-mul (32 - (2 * l + 1)) y))

-- the lanes of the rows before, then those of one row more
pub row-summed : (before : Lanes) (xs row : List ℕ) (after : Lanes) → length row ≡ 32
    → ((l : ℕ) → l < 16 → LaneAdded before row after l) → Summed before xs → Summed after (xs ++ row)
unfolding plain_of weighted_of uppers_of
row-summed before xs row after long added told =
    let z : ℕ → ℕ = λ l. get_or row (2 * l) 0 + get_or row (2 * l + 1) 0 in
    let y : ℕ → ℕ = λ l. get_or row (2 * l + 1) 0 in
    let old : ℕ → ℕ = λ l. 32 * lane_total before l + (32 - 2 * l) * lane_sum before l in
    let more : ℕ → ℕ = λ l. 32 * lane_sum before l + (32 - 2 * l) * z l in
    let p : plain_of after ≡ plain_of before + sum_below 16 z =
    sum_same 16 (lane_sum after) (λ l. lane_sum before l + z l) (λ l h. omega (arith, (added l h).lower, (added l h).upper)) ∙ sum-plus 16 (lane_sum before) z in
    let u : uppers_of after ≡ uppers_of before + sum_below 16 y =
    sum_same 16 (λ l. get_or after.uppers l 0) (λ l. get_or before.uppers l 0 + y l) (λ l h. (added l h).upper)
    ∙ sum-plus 16 (λ l. get_or before.uppers l 0) y in
    let w : weighted_of after ≡ weighted_of before + (32 * plain_of before + sum_below 16 (λ l. (32 - 2 * l) * z l)) =
    sum_same 16 (λ l. 32 * lane_total after l + (32 - 2 * l) * lane_sum after l) (λ l. old l + more l)
    (λ l h.
    let sum : lane_sum after l ≡ lane_sum before l + z l = omega (arith, (added l h).lower, (added l h).upper) in
    let total : lane_total after l ≡ lane_total before l + lane_sum before l = omega (arith, (added l h).lowers, (added l h).uppers) in
    rw (sum, total) (omega (arith, mul-add (32 - 2 * l) (lane_sum before l) (z l))))
    ∙ sum-plus 16 old more
    ∙ ap (λ (n : ℕ). weighted_of before + n)
    (sum-plus 16 (λ l. 32 * lane_sum before l) (λ l. (32 - 2 * l) * z l)
    ∙ ap (λ (n : ℕ). n + sum_below 16 (λ l. (32 - 2 * l) * z l)) (sum-times 16 32 (lane_sum before))) in
    let many : length row * plain xs ≡ 32 * plain xs = ap (λ (n : ℕ). n * plain xs) long in
    record {
      plainly = omega (arith, plain-append xs row, row_plain row long, p, told.plainly);
      weightedly = omega (arith, weighted-append xs row, row-weighted row long, many, p, u, w, told.plainly, told.weightedly);
    }

-- ---- rows one after the other

-- before the first row
abbrev none : Lanes
none = record { pairs = replicate 16 0; uppers = replicate 16 0; pairtotals = replicate 16 0; uppertotals = replicate 16 0 }

none-lane : (l : ℕ) → l < 16 → get_or {A = ℕ} (replicate 16 0) l 0 ≡ 0
none-lane l h = get_or-replicate {A = ℕ} 16 l 0 0 h

none-lower : (l : ℕ) → l < 16 → lower_of (get_or {A = ℕ} (replicate 16 0) l 0) (get_or {A = ℕ} (replicate 16 0) l 0) ≡ 0
unfolding lower_of
none-lower l h = rw (none-lane l h) refl

none-summed : Summed none []
unfolding plain_of weighted_of uppers_of sum_below lower_of plain weighted
none-summed = record { plainly = refl; weightedly = refl }

-- the lanes once so many bytes are read, with what they can be at most
pub record Read (lanes : Lanes) (bytes : List ℕ) (count : ℕ) : Type 0 where
  pub summed : Summed lanes bytes
  pub lower : (l : ℕ) → l < 16 → 32 * lower_sum lanes l ≤ 255 * count
  pub upper : (l : ℕ) → l < 16 → 32 * get_or lanes.uppers l 0 ≤ 255 * count
  pub lowers : (l : ℕ) → l < 16 → 32 * lower_total lanes l ≤ 3825 * count
  pub uppers : (l : ℕ) → l < 16 → 32 * get_or lanes.uppertotals l 0 ≤ 3825 * count

pub none_read : Read none [] 0
none_read =
    record {
      summed = none-summed;
      lower = λ l h. omega (arith, none-lower l h);
      upper = λ l h. omega (arith, none-lane l h);
      lowers = λ l h. omega (arith, none-lower l h);
      uppers = λ l h. omega (arith, none-lane l h);
    }

pub row_read : (lanes : Lanes) (xs row : List ℕ) (count : ℕ) (after : Lanes) → count ≤ 480 → length row ≡ 32
    → ((i : ℕ) → i < 32 → get_or row i 0 < 256) → RowAdded lanes row after → Read lanes xs count → Read after (xs ++ row) (count + 32)
row_read lanes xs row count after few long small added read =
    record {
      summed = row-summed lanes xs row after long lane read.summed;
      lower = λ l h. omega (arith, (lane l h).lower, read.lower l h, small (2 * l) (omega arith));
      upper = λ l h. omega (arith, (lane l h).upper, read.upper l h, small (2 * l + 1) (omega arith));
      lowers = λ l h. omega (arith, (lane l h).lowers, read.lower l h, read.lowers l h);
      uppers = λ l h. omega (arith, (lane l h).uppers, read.upper l h, read.uppers l h);
    }
  where
    lane : (l : ℕ) → l < 16 → LaneAdded lanes row after l
    lane l h =
        lane-added lanes row after added l h (small (2 * l) (omega arith)) (small (2 * l + 1) (omega arith)) (omega (arith, read.lower l h))
        (omega (arith, read.lowers l h))

-- ---- the rows of a list

-- one row more
pub rows-next : (rows : List (List ℕ)) (i : ℕ) → i < length rows → concat (take (i + 1) rows) ≡ concat (take i rows) ++ get_or rows i []
rows-next [] i h = absurd (omega arith)
rows-next (row ∷ rows) zero h = append-nil row
rows-next (row ∷ rows) (suc i) h =
    let e : suc i + 1 ≡ suc (i + 1) = omega arith in
    rw e (ap (λ (l : List ℕ). row ++ l) (rows-next rows i (omega arith)) ∙ sym (append_assoc row (concat (take i rows)) (get_or rows i [])))

-- the rows into which bytes are cut are the bytes
pub rows-cut : (count : ℕ) (bytes : List ℕ) → concat (first_chunks 32 count bytes) ≡ take (32 * count) bytes
rows-cut zero bytes = refl
rows-cut (suc count) bytes =
    let e : 32 * suc count ≡ 32 + 32 * count = omega arith in
    rw e (ap (λ (l : List ℕ). take 32 bytes ++ l) (rows-cut count (drop 32 bytes)) ∙ sym (take-add 32 (32 * count) bytes))
