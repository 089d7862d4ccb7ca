-- `writing::store` meets its contract: zeros, the header, the new bytes copied behind it, all this copied to the slot, and the check over
-- the last four zeros of both.
-- Assumes nothing.
use Rattle.std.proofs.Common.{◌≡◌, ℕ, ◌+◌, ◌-◌, ◌≤◌, List, ◌++◌, length, take, replicate, sym, ap, ◌∙◌, arith, length-append, length-take-le, take_at}
use lib.Seq.{sets}
use borrow.Rule.Slice.PartMut.{put_mid}
use Rattle.area.specs.Part.{part, splice}
use Rattle.area.proofs.Parts.{lent}
use Rattle.block.specs.Sizes.{block_size, header_size, body_size, new_bytes_most}
use Rattle.block.specs.Number.{to_bytes}
use Rattle.block.specs.Check.{check_a, check_b, modulus}
use Rattle.block.specs.Layout.{header, body, layout}
use Rattle.block.specs.declared.Block.{Block}
use Rattle.block.proofs.Lengths.{length-body, length-layout}
use Rattle.block.proofs.Stores.{body-stored, layout-stored, check-copied}
use Rattle.block.proofs.writing.store.Goals as goal

-- bytes 0 to 507, and four zeros: what the array holds once the new bytes are copied
abbrev unchecked : Block → List ℕ → List ℕ
unchecked block new = body block new ++ replicate 4 0

-- the array, whose part behind the header was lent to the copy
abbrev built : List ℕ → List ℕ → List ℕ → List ℕ
built new head copied = put_mid header_size (header_size + length new - header_size) head copied

abbrev Headed : Block → List ℕ → Type 0
Headed block head = head ≡ sets (replicate block_size 0) 0 (header block)

built-is : (block : Block) (new head copied : List ℕ) → length new ≤ new_bytes_most → Headed block head → copied ≡ new → built new head copied ≡ unchecked block new
built-is block new head copied few h p =
    lent head header_size (length new) copied new p
    ∙ ap (λ (l : List ℕ). splice l header_size (length new) new) h
    ∙ body-stored block new few

built-long : (block : Block) (new head copied : List ℕ) → length new ≤ new_bytes_most → Headed block head → copied ≡ new → length (built new head copied) ≡ block_size
built-long block new head copied few h p =
    let long : length (body block new) ≡ body_size = length-body block new few in
    ap length (built-is block new head copied few h p) ∙ simp (length-append, long)

pub slice_bounds-b-end : goal.slice_bounds-b-end
slice_bounds-b-end c = omega (arith, c.put_header.array_long)

long-at-b : (c : goal.After-b-4-1) → length (built c.args.new.now c.put_header.new.b c.copy_from_slice.new.self) ≡ block_size
long-at-b c = built-long c.args.block c.args.new.now c.put_header.new.b c.copy_from_slice.new.self c.requires.1 c.put_header.ensures c.copy_from_slice.ensures.after

pub slice_bounds-copy_from_slice-end : goal.slice_bounds-copy_from_slice-end
slice_bounds-copy_from_slice-end c = sym (long-at-b c)

pub copy_from_slice-requires-2 : goal.copy_from_slice-requires-2
copy_from_slice-requires-2 c = c.requires.0 ∙ sym (long-at-b c)

-- and the slot is as long
slot-long : (c : goal.After-slice_known-2-1) → length c.copy_from_slice-2.new.self ≡ block_size
slot-long c =
    ap length c.copy_from_slice-2.ensures.after
    ∙ built-long c.args.block c.args.new.now c.put_header.new.b c.copy_from_slice.new.self c.requires.1 c.put_header.ensures c.copy_from_slice.ensures.after

pub slice_bounds-check_of-end : goal.slice_bounds-check_of-end
slice_bounds-check_of-end c = omega (arith, slot-long c)

pub slice_bounds-check_of-end-2 : goal.slice_bounds-check_of-end-2
slice_bounds-check_of-end-2 c = sym (length-take-le body_size c.copy_from_slice-2.new.self (omega (arith, slot-long c)))

pub check_of-sums-requires : goal.check_of-sums-requires
check_of-sums-requires c = length-take-le body_size c.copy_from_slice-2.new.self (omega (arith, slot-long c))

pub slice_bounds-copy_part-end : goal.slice_bounds-copy_part-end
slice_bounds-copy_part-end c = sym c.put-2.array_long

pub copy_part-requires : goal.copy_part-requires
copy_part-requires c =
    let long : length c.copy_from_slice-2.new.self ≡ block_size =
    ap length c.copy_from_slice-2.ensures.after
    ∙ built-long c.args.block c.args.new.now c.put_header.new.b c.copy_from_slice.new.self c.requires.1 c.put_header.ensures c.copy_from_slice.ensures.after in
    (omega arith, omega (arith, c.put-2.array_long))

-- the array is the block's layout, once the sums of the slot are stored
laid : (block : Block) (new slot first second : List ℕ) (a b : ℕ) → length new ≤ new_bytes_most → slot ≡ unchecked block new
    → a ≡ check_a modulus (take body_size slot) → b ≡ check_b modulus (take body_size slot)
    → first ≡ sets (unchecked block new) 508 (to_bytes 2 a) → second ≡ sets first 510 (to_bytes 2 b) → second ≡ layout block new
laid block new slot first second a b few s is_a is_b p q =
    let bytes : take body_size slot ≡ body block new =
    ap (take body_size) s ∙ take_at (body block new) (replicate 4 0) body_size (length-body block new few) in
    q
    ∙ ap (λ (l : List ℕ). sets l 510 (to_bytes 2 b)) p
    ∙ layout-stored block new a b few (is_a ∙ ap (check_a modulus) bytes) (is_b ∙ ap (check_b modulus) bytes)

-- and so is the slot, once the check is copied
stored_is : (c : goal.After-slice_known-3-1) → c.copy_part.new.destination ≡ layout c.args.block c.args.new.now
stored_is c =
    let block = c.args.block in
    let new = c.args.new.now in
    let few = c.requires.1 in
    let sums = c.check_of-sums in
    let array : built new c.put_header.new.b c.copy_from_slice.new.self ≡ unchecked block new =
    built-is block new c.put_header.new.b c.copy_from_slice.new.self few c.put_header.ensures c.copy_from_slice.ensures.after in
    let slot : c.copy_from_slice-2.new.self ≡ unchecked block new = c.copy_from_slice-2.ensures.after ∙ array in
    let checked : c.put-2.new.block ≡ layout block new =
    laid block new c.copy_from_slice-2.new.self c.put.new.block c.put-2.new.block sums.result.a sums.result.b few slot sums.ensures.0 sums.ensures.1
    (c.put.ensures ∙ ap (λ (l : List ℕ). sets l 508 (to_bytes 2 sums.result.a)) array) c.put-2.ensures in
    c.copy_part.ensures
    ∙ ap (λ (l : List ℕ). splice l body_size 4 (part c.put-2.new.block body_size 4)) slot
    ∙ ap (λ (l : List ℕ). splice (unchecked block new) body_size 4 (part l body_size 4)) checked
    ∙ check-copied block new few

pub shape_of-slot : goal.shape_of-slot
shape_of-slot c = ap length (stored_is c) ∙ length-layout c.args.block c.args.new.now c.requires.1 ∙ sym c.requires.0

pub returns : goal.returns
returns c = stored_is c
