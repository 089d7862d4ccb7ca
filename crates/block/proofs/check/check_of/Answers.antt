-- `check::check_of` meets its contract: the rows are four zeros and all 508 bytes.
-- Assumes nothing.
use Rattle.std.proofs.Common.{◌≡◌, ℕ, ◌/◌, ◌%◌, List, [], ◌∷◌, ◌++◌, length, take, drop, sym, ap, ◌∙◌, append-nil, arith, length-drop, take-append-drop, length-take-le, take_all}
use Rattle.std.specs.List.{concat}
use Rattle.std.specs.Simd.{first_chunks}
use Rattle.block.specs.Sizes.{body_size}
use Rattle.block.specs.Check.{plain, weighted, check_a, check_b, modulus}
use Rattle.block.proofs.Sums.{plain-front, weighted-front}
use Rattle.block.proofs.Lanes.{rows-cut}
use Rattle.block.proofs.check.check_of.Goals as goal

-- the first 28 bytes and the rows of the others are all
whole : (body front : List ℕ) (rows : List (List ℕ)) → length body ≡ body_size → front ≡ take 28 body
    → rows ≡ first_chunks 32 (length (take 480 (drop 28 body)) / 32) (take 480 (drop 28 body)) → front ++ [] ++ concat rows ≡ body
whole body front rows long e r =
    let few : length (drop 28 body) ≡ 480 = simp length-drop (omega arith) in
    let all : take 480 (drop 28 body) ≡ drop 28 body = take_all 480 (drop 28 body) (omega (arith, few)) in
    rw (append-nil front, e, r, all, few) (ap (λ (l : List ℕ). take 28 body ++ l) (rows-cut 15 (drop 28 body) ∙ all) ∙ take-append-drop 28 body)

pub slice_bounds-copy_from_slice-end : goal.slice_bounds-copy_from_slice-end
slice_bounds-copy_from_slice-end c = sym (length-take-le 28 c.args.body.now (omega arith))

pub returns : goal.returns
unfolding check_a check_b
returns c =
    let body = c.args.body.now in
    let rows = c.rows.ensures.0 in
    let joined = c.joined-sums in
    let bytes = c.copy_from_slice.new.self ++ [] ++ concat c.as_chunks.result.0.now in
    let all : bytes ≡ body = whole body c.copy_from_slice.new.self c.as_chunks.result.0.now c.requires c.copy_from_slice.ensures.after c.as_chunks.ensures.front in
    let b : joined.result.b ≡ weighted (0 ∷ 0 ∷ 0 ∷ 0 ∷ bytes) = omega (arith, joined.ensures.1, rows.weightedly) in (
      c.from.ensures ∙ ap (λ (n : ℕ). n % modulus) (joined.ensures.0 ∙ sym rows.plainly ∙ plain-front bytes ∙ ap plain all),
      c.from-2.ensures ∙ ap (λ (n : ℕ). n % modulus) (b ∙ weighted-front bytes ∙ ap weighted all),
    )
