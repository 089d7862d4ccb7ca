-- Sizes and the first block that was stored in this log, and the machine after an End and after an Open.
use Prim.Native.Nat.{ℕ}
use mathlib.Core.List.{List, [], ◌∷◌, ◌++◌}
use Rattle.promises.specs.Updates.{Update}
use Rattle.promises.specs.Walk.{Walk}
use Rattle.promises.proofs.History.Machine.{Live, idle}

pub record Sizes : Type 0 where
  pub N : ℕ
  pub F : ℕ
  pub P : ℕ
  pub base : ℕ

abbrev pub enqueue : Live → List Update → Live
enqueue l g = record { ticket = l.ticket; queue = l.queue ++ (g ∷ []); count = l.count; dirty_pages = l.dirty_pages; cleaning = l.cleaning }

abbrev pub opened : Walk → Live
opened v = record { ticket = v.ticket; queue = []; count = 0; dirty_pages = v.dirty_pages; cleaning = idle }
