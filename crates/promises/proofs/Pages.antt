-- Pages of home when one half of a page is stored.
-- Assumes nothing.
use mathlib.Core.Path.{◌≡◌, refl, sym, ap, ◌∙◌}
use mathlib.Core.List.{List, ◌++◌}
use Prim.Native.Nat.{ℕ, ◌+◌, ◌*◌, ◌≤◌}
use native.Mathlib.Omega.{arith}
use lib.ListN.{length, take, drop}
use lib.Seq.{take_at, drop_at}
use Rattle.area.proofs.Laws.{either}
use Rattle.area.specs.Part.{part}
use Rattle.area.proofs.Parts.{length_part, part-append, part_same, part-before, part-after}
use Rattle.promises.specs.Areas.{page_at, with_first_half, with_second_half}

module _ (home : List ℕ) (q : ℕ) (fits : q * 1024 + 1024 ≤ length home) where
  page-halves : page_at home q ≡ part home (q * 1024) 512 ++ part home (q * 1024 + 512) 512
  page-halves = sym (part-append home (q * 1024) 512 512)

  front-is : take 512 (page_at home q) ≡ part home (q * 1024) 512
  front-is =
      ap (take 512) page-halves
      ∙ take_at (part home (q * 1024) 512) (part home (q * 1024 + 512) 512) 512 (length_part home (q * 1024) 512 (omega arith))

  back_is : drop 512 (page_at home q) ≡ part home (q * 1024 + 512) 512
  back_is =
      ap (drop 512) page-halves
      ∙ drop_at (part home (q * 1024) 512) (part home (q * 1024 + 512) 512) 512 (length_part home (q * 1024) 512 (omega arith))

  module _ (ys : List ℕ) (long : length ys ≡ 512) where
    pub first-half : page_at (with_first_half home q ys) q ≡ ys ++ drop 512 (page_at home q)
    first-half =
        sym (part-append (with_first_half home q ys) (q * 1024) 512 512)
        ∙ rw (
          part_same home (q * 1024) 512 ys (omega arith) long,
          part-after home (q * 1024) 512 ys (omega arith) long (q * 1024 + 512) 512 (omega arith),
          back_is,
        ) refl

    pub second-half : page_at (with_second_half home q ys) q ≡ take 512 (page_at home q) ++ ys
    second-half =
        sym (part-append (with_second_half home q ys) (q * 1024) 512 512)
        ∙ rw (
          part-before home (q * 1024 + 512) 512 ys (omega arith) long (q * 1024) 512 (omega arith),
          part_same home (q * 1024 + 512) 512 ys (omega arith) long,
          front-is,
        ) refl

    pub first-other : (p : ℕ) → (p ≡ q → ⊥) → page_at (with_first_half home q ys) p ≡ page_at home p
    first-other p ne =
        either p q
        (λ l. part-before home (q * 1024) 512 ys (omega arith) long (p * 1024) 1024 (omega arith))
        (λ l. part-after home (q * 1024) 512 ys (omega arith) long (p * 1024) 1024 (omega arith))

    pub second-other : (p : ℕ) → (p ≡ q → ⊥) → page_at (with_second_half home q ys) p ≡ page_at home p
    second-other p ne =
        either p q
        (λ l. part-before home (q * 1024 + 512) 512 ys (omega arith) long (p * 1024) 1024 (omega arith))
        (λ l. part-after home (q * 1024 + 512) 512 ys (omega arith) long (p * 1024) 1024 (omega arith))
