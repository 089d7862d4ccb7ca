-- `replica::feed_clean` meets its contract: by the stores made of the page, if a frame holds it.
-- Assumes nothing.
use mathlib.Core.Path.{◌≡◌, refl, sym, ap, ◌∙◌}
use mathlib.Core.List.{List}
use Prim.Native.Nat.{ℕ}
use Rattle.block.specs.declared.Kind.TheVariants.{Clean}
use Rattle.block.specs.declared.Kind as format
use Rattle.block.specs.declared.Block.{Block}
use Rattle.promises.specs.declared.State.{State}
use Rattle.promises.specs.Blocks.{clean, kind_in}
use Rattle.promises.specs.Feed.{store_of, feeding}
use Rattle.promises.proofs.CopyFacts.{readable-copy}
use Rattle.table.proofs.Scans.{length-mapped}
use Rattle.feeding.specs.Tests.{block_in}
use Rattle.cleaning.specs.Cleans.{made_before}
use Rattle.replica.proofs.Taking.{take-needs}
use Rattle.replica.proofs.Cleaning.{Fits, fits, page-fits, takes-gone, feeds-gone, fitting, takes-third, feeds-third, feeds-half-one, feeds-half-two}
use native.Mathlib.Omega.{arith}
use borrow.Author.Rules.{rules}
use Rattle.replica.proofs.feed_clean.Goals as goal

-- the block's kind
kind_at : (bytes : List ℕ) (k : format.Kind) (page : ℕ) → k ≡ Clean page → kind_in k bytes ≡ clean page
kind_at bytes k page h = ap (λ (q : format.Kind). kind_in q bytes) h

-- what it passed
fits-at : (s : State) (log home frames bytes : List ℕ) (fed : Block) (page : ℕ) → fed.kind ≡ Clean page
    → feeding s log home frames bytes ≡ store_of s frames (clean page) (block_in fed bytes) → Fits s log home frames bytes page
fits-at s log home frames bytes fed page k e = fits s log home frames bytes page (block_in fed bytes) (kind_at bytes fed.kind page k) e

pub overflow_cast-page : goal.overflow_cast-page
overflow_cast-page c =
    let a = c.args in
    let h = page-fits a.state a.log.now a.home.now a.frames.now a.bytes.now a.page (block_in a.fed a.bytes.now) (kind_at a.bytes.now a.fed.kind a.page c.requires.0) c.requires.1 in
    omega arith

pub frame_of-requires : goal.frame_of-requires
frame_of-requires c =
    let a = c.args in
    readable-copy a.state (fits-at a.state a.log.now a.home.now a.frames.now a.bytes.now a.fed a.page c.requires.0 c.requires.1).is_sound

pub take-requires : goal.take-requires
take-requires c =
    let a = c.args in
    let x = block_in a.fed a.bytes.now in
    let k = kind_at a.bytes.now a.fed.kind a.page c.requires.0 in
    take-needs a.state a.log.now a.home.now a.frames.now a.bytes.now x
    (takes-gone a.state a.log.now a.home.now a.frames.now a.bytes.now a.page x k c.requires.1 c.in_default.ensures.held)

pub returns-in_default : goal.returns-in_default
returns-in_default c =
    let a = c.args in
    let x = block_in a.fed a.bytes.now in
    let k = kind_at a.bytes.now a.fed.kind a.page c.requires.0 in
    feeds-gone a.state a.log.now a.home.now a.frames.now a.bytes.now a.page x k c.requires.1 c.in_default.ensures.held
    _ _ c.take.ensures.0 c.take.ensures.1

pub offset_bounds-dirty-frame : goal.offset_bounds-dirty-frame
offset_bounds-dirty-frame c =
    let a = c.args in
    let h = (fits-at a.state a.log.now a.home.now a.frames.now a.bytes.now a.fed a.page c.requires.0 c.requires.1).frame_few in
    omega (arith, c.in-Some.ensures.below)

pub bounds-dirty-frame : goal.bounds-dirty-frame
bounds-dirty-frame c =
    let a = c.args in
    let h = (fits-at a.state a.log.now a.home.now a.frames.now a.bytes.now a.fed a.page c.requires.0 c.requires.1).frame_few in
    omega (arith, c.in-Some.ensures.below)

pub offset_bounds-dirty-frame-in-Block : goal.offset_bounds-dirty-frame-in-Block
offset_bounds-dirty-frame-in-Block c =
    let a = c.args in
    let h = (fits-at a.state a.log.now a.home.now a.frames.now a.bytes.now a.fed a.page c.requires.0 c.requires.1).frame_few in
    omega (arith, c.in-Some.ensures.below)

pub bounds-dirty-frame-in-Block : goal.bounds-dirty-frame-in-Block
bounds-dirty-frame-in-Block c =
    let a = c.args in
    let h = (fits-at a.state a.log.now a.home.now a.frames.now a.bytes.now a.fed a.page c.requires.0 c.requires.1).frame_few in
    omega (arith, c.in-Some.ensures.below)

pub take-requires-in-Block : goal.take-requires-in-Block
take-requires-in-Block c =
    let a = c.args in
    let x = block_in a.fed a.bytes.now in
    let k = kind_at a.bytes.now a.fed.kind a.page c.requires.0 in
    take-needs a.state a.log.now a.home.now a.frames.now a.bytes.now x
    (takes-third a.state a.log.now a.home.now a.frames.now a.bytes.now a.page x k c.requires.1 _ c.in-Some.ensures.held c.in-Some.ensures.below
    _ refl (sym c.next_store.ensures ∙ ap made_before c.in-Block.is))

pub returns-in-Block : goal.returns-in-Block
returns-in-Block c =
    let a = c.args in
    let x = block_in a.fed a.bytes.now in
    let k = kind_at a.bytes.now a.fed.kind a.page c.requires.0 in
    feeds-third a.state a.log.now a.home.now a.frames.now a.bytes.now a.page x k c.requires.1 _ c.in-Some.ensures.held c.in-Some.ensures.below
    _ refl (sym c.next_store.ensures ∙ ap made_before c.in-Block.is) (search (rules, length-mapped)) _ _ c.take-in-Block.ensures.0 c.take-in-Block.ensures.1

pub store_second-requires : goal.store_second-requires
store_second-requires c =
    let a = c.args in
    let x = block_in a.fed a.bytes.now in
    let k = kind_at a.bytes.now a.fed.kind a.page c.requires.0 in
    fitting a.state a.log.now a.home.now a.frames.now a.bytes.now a.page x k c.requires.1 _ c.in-Some.ensures.held c.in-Some.ensures.below _ refl

pub returns-in-SecondHalf : goal.returns-in-SecondHalf
returns-in-SecondHalf c =
    let a = c.args in
    let x = block_in a.fed a.bytes.now in
    let k = kind_at a.bytes.now a.fed.kind a.page c.requires.0 in
    feeds-half-two a.state a.log.now a.home.now a.frames.now a.bytes.now a.page x k c.requires.1 _ c.in-Some.ensures.held c.in-Some.ensures.below
    _ refl (sym c.next_store.ensures ∙ ap made_before c.in-SecondHalf.is) _ _ refl c.with_cleaning.ensures c.store_second.ensures

pub store_first-requires : goal.store_first-requires
store_first-requires c =
    let a = c.args in
    let x = block_in a.fed a.bytes.now in
    let k = kind_at a.bytes.now a.fed.kind a.page c.requires.0 in
    fitting a.state a.log.now a.home.now a.frames.now a.bytes.now a.page x k c.requires.1 _ c.in-Some.ensures.held c.in-Some.ensures.below _ refl

pub returns-in-FirstHalf : goal.returns-in-FirstHalf
returns-in-FirstHalf c =
    let none = sym c.next_store.ensures ∙ ap made_before c.in-FirstHalf.is in
    let a = c.args in
    let x = block_in a.fed a.bytes.now in
    let k = kind_at a.bytes.now a.fed.kind a.page c.requires.0 in
    feeds-half-one a.state a.log.now a.home.now a.frames.now a.bytes.now a.page x k c.requires.1 _ c.in-Some.ensures.held c.in-Some.ensures.below
    _ refl (λ e. omega (arith, none, e)) (λ e. omega (arith, none, e)) _ _ refl c.with_cleaning-in-FirstHalf.ensures c.store_first.ensures
