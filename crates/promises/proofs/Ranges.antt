-- Sizes in range, as inequalities.
-- Assumes nothing.
use Prim.Native.Nat.{◌≤◌}
use lib.Dec.{leb}
use borrow.Author.Tests.{leb-true}
use Rattle.area.proofs.Laws.{and_both}
use Rattle.promises.specs.Events.{Sizes}
use Rattle.promises.specs.Claim.{InRange}

pub record Ranged (z : Sizes) : Type 0 where
  pub slots : (8 ≤ z.slots) × (z.slots ≤ 1024)
  pub pages : (1 ≤ z.pages) × (z.pages ≤ 4096)
  pub frames : (1 ≤ z.frames) × (z.frames ≤ 32)

pub ranged : (z : Sizes) → InRange z → Ranged z
ranged z r =
    let n = and_both (leb 8 z.slots) (leb z.slots 1024) r.slots in
    let p = and_both (leb 1 z.pages) (leb z.pages 4096) r.pages in
    let f = and_both (leb 1 z.frames) (leb z.frames 32) r.frames in
    record {
      slots = (leb-true _ _ n.0, leb-true _ _ n.1);
      pages = (leb-true _ _ p.0, leb-true _ _ p.1);
      frames = (leb-true _ _ f.0, leb-true _ _ f.1);
    }
