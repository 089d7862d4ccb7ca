-- `recovery::turn` meets its contract, kind by kind.
-- Assumes nothing.
use mathlib.Core.Path.{◌≡◌, refl, sym, ap, ◌∙◌}
use Rattle.std.specs.Prelude.{Ok}
use Rattle.block.specs.declared.Block.{Block}
use Rattle.block.specs.declared.Kind.{Kind}
use Rattle.recovery.specs.Log.{header_of}
use Rattle.recovery.specs.Walking.{walk_of, updated}
use Rattle.recovery.proofs.Scanning.{bytes-are, header_is}
use Rattle.recovery.proofs.Changing.{commits-as, cleans-as}
use Rattle.recovery.proofs.Turning.{turns-update, turns-clean, turns-commit}
use Rattle.recovery.proofs.turn.Goals as goal
use Rattle.recovery.proofs.turn.Goals.{After-header-block}

-- the header is that of the sequence
header : (c : After-header-block) → c.header-block.result ≡ header_of c.args.log.now c.args.s
header c = header_is c.args.log.now c.args.s _ _ (bytes-are c.args.log.now c.args.s c.args.slot _ c.slot_bytes-stored.ensures.0 c.requires.5) c.header-block.ensures

-- and so is its kind
told : (c : After-header-block) (kind : Kind) → c.header-block.result.kind ≡ kind → (header_of c.args.log.now c.args.s).kind ≡ kind
told c kind e = sym (ap (λ (b : Block). b.kind) (header c)) ∙ e

pub returns-in-Update : goal.returns-in-Update
returns-in-Update c =
    let a = c.args in
    let g = c.in-Update in
    let read = (goal.at.returns-in-Update c).After-header-block in
    turns-update a.log.now a.home.now a.s (walk_of (Ok a.stage) a.seats.now) a.frames.now c.requires.6 refl c.requires.7 g.index g.page g.offset g.length (told read _ g.is) _
    (c.walk_update.ensures a.seats.now ∙ ap (λ (b : Block). updated (walk_of (Ok a.stage) a.seats.now) a.s g.index b.ticket) (header read))

pub returns-in-Commit : goal.returns-in-Commit
returns-in-Commit c =
    let a = c.args in
    let read = (goal.at.returns-in-Commit c).After-header-block in
    turns-commit a.log.now a.home.now a.s (walk_of (Ok a.stage) a.seats.now) a.frames.now c.requires.6 refl c.requires.7 c.in-Commit.updates (told read _ c.in-Commit.is) _ _
    (commits-as a.log.now a.home.now (walk_of (Ok a.stage) a.seats.now) a.frames.now a.s _ _ _ _ _ (ap (λ (b : Block). b.ticket) (header read)) c.walk_commit.ensures)

pub returns-in-Clean : goal.returns-in-Clean
returns-in-Clean c =
    let a = c.args in
    let read = (goal.at.returns-in-Clean c).After-header-block in
    turns-clean a.log.now a.home.now a.s (walk_of (Ok a.stage) a.seats.now) a.frames.now c.requires.6 refl c.requires.7 c.in-Clean.page (told read _ c.in-Clean.is) _
    (cleans-as (walk_of (Ok a.stage) a.seats.now) a.s _ _ _ _ (ap (λ (b : Block). b.ticket) (header read)) c.walk_clean.ensures)
