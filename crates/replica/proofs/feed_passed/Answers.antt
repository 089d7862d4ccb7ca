-- `replica::feed_passed` meets its contract: by the block's kind.
-- Assumes nothing.
use mathlib.Core.Path.{◌≡◌, ap, ◌∙◌}
use mathlib.Core.List.{List}
use Prim.Native.Nat.{ℕ}
use Rattle.promises.specs.declared.State.{State}
use Rattle.block.specs.declared.Kind as format
use Rattle.promises.specs.Blocks.{LogBlock, kind_in}
use Rattle.promises.specs.Feed.{store_of, feeding}
use Rattle.table.proofs.Scans.{length-mapped}
use Rattle.feeding.specs.Tests.{block_in}
use Rattle.replica.proofs.Taking.{take-needs}
use Rattle.replica.proofs.Passing.{ticket-small, feeds-update, closing, feeds-commit}
use native.Mathlib.Omega.{arith}
use borrow.Author.Rules.{rules}
use Rattle.replica.proofs.feed_passed.Goals as goal

-- what comes of the block, by its kind
by_kind : (s : State) (log home frames bytes : List ℕ) (x : LogBlock) (k q : format.Kind) → feeding s log home frames bytes ≡ store_of s frames (kind_in k bytes) x
    → k ≡ q → feeding s log home frames bytes ≡ store_of s frames (kind_in q bytes) x
by_kind s log home frames bytes x k q e h = e ∙ ap (λ (y : format.Kind). store_of s frames (kind_in y bytes) x) h

pub take-requires : goal.take-requires
take-requires c =
    let a = c.args in
    let x = block_in a.fed a.bytes.now in
    let e = by_kind a.state a.log.now a.home.now a.frames.now a.bytes.now x a.fed.kind _ c.requires c.in-Update.is in
    take-needs a.state a.log.now a.home.now a.frames.now a.bytes.now x e

pub close_group-dirty-requires : goal.close_group-dirty-requires
close_group-dirty-requires c =
    let a = c.args in
    let x = block_in a.fed a.bytes.now in
    let e = by_kind a.state a.log.now a.home.now a.frames.now a.bytes.now x a.fed.kind _ c.requires c.in-Commit.is in
    closing a.state a.log.now a.home.now a.frames.now a.bytes.now x e _ (ap (λ (y : format.Kind). kind_in y a.bytes.now) c.in-Commit.is)

pub overflow_add-state : goal.overflow_add-state
overflow_add-state c =
    let a = c.args in
    let x = block_in a.fed a.bytes.now in
    let e = by_kind a.state a.log.now a.home.now a.frames.now a.bytes.now x a.fed.kind _ c.requires c.in-Commit.is in
    let h = ticket-small a.state a.log.now a.home.now a.frames.now a.bytes.now x e in
    omega arith

pub take-requires-in-Commit : goal.take-requires-in-Commit
take-requires-in-Commit c =
    let a = c.args in
    let x = block_in a.fed a.bytes.now in
    let e = by_kind a.state a.log.now a.home.now a.frames.now a.bytes.now x a.fed.kind _ c.requires c.in-Commit.is in
    take-needs a.state a.log.now a.home.now a.frames.now a.bytes.now x e

pub feed_clean-requires : goal.feed_clean-requires
feed_clean-requires c =
    let a = c.args in
    (c.in-Clean.is, by_kind a.state a.log.now a.home.now a.frames.now a.bytes.now (block_in a.fed a.bytes.now) a.fed.kind _ c.requires c.in-Clean.is)

pub returns-in-Update : goal.returns-in-Update
returns-in-Update c =
    let a = c.args in
    let x = block_in a.fed a.bytes.now in
    let e = by_kind a.state a.log.now a.home.now a.frames.now a.bytes.now x a.fed.kind _ c.requires c.in-Update.is in
    feeds-update a.state a.log.now a.home.now a.frames.now a.bytes.now x e _ _ (ap (λ (y : format.Kind). kind_in y a.bytes.now) c.in-Update.is)
    _ _ c.take.ensures.0 c.take.ensures.1

pub returns-in-Commit : goal.returns-in-Commit
returns-in-Commit c =
    let a = c.args in
    let x = block_in a.fed a.bytes.now in
    let e = by_kind a.state a.log.now a.home.now a.frames.now a.bytes.now x a.fed.kind _ c.requires c.in-Commit.is in
    feeds-commit a.state a.log.now a.home.now a.frames.now a.bytes.now x e _ (ap (λ (y : format.Kind). kind_in y a.bytes.now) c.in-Commit.is)
    (search (rules, length-mapped)) _ _ c.close_group-dirty.ensures _ _ c.take-in-Commit.ensures.0 c.take-in-Commit.ensures.1
