-- `cleaning::store_half` meets its contract: half of the frame goes to the same half of the page.
-- Assumes nothing.
use mathlib.Core.Path.{ap}
use Prim.Native.Nat.{ℕ, ◌+◌, ◌*◌}
use Rattle.cleaning.proofs.Storing.{half-stored}
use Rattle.cleaning.proofs.store_half.Goals as goal

pub returns : goal.returns
returns c =
    let a = c.args in
    half-stored a.home.now a.frames.now _ a.choice.entry.page a.choice.frame _ a.start c.requires.1 (ap (λ (n : ℕ). n * 1024 + a.start) c.from.ensures) c.store_half.ensures
