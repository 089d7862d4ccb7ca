-- The part of the book that the invariant speaks of.
use Prim.Native.Nat.{ℕ}
use mathlib.Core.List.{List, []}
use Rattle.promises.specs.Updates.{Update}

pub record Book : Type 0 where
  pub pages : ℕ → List ℕ
  pub m : ℕ
  pub queue : List (List Update)
  pub count : ℕ

abbrev pub gone : Book → Book
gone b = record { pages = b.pages; m = b.m; queue = []; count = 0 }
