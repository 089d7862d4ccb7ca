-- A part of a list of bytes, and a list with other bytes in the place of a part.
-- Assumes nothing.
use Rattle.std.specs.Prelude.{ℕ, List, ◌++◌, take, drop}

-- the count elements of a list from index start on
unfoldable pub part : List ℕ → ℕ → ℕ → List ℕ
part list start count = take count (drop start list)

-- a list with others in the place of its count elements from index start on
unfoldable pub splice : List ℕ → ℕ → ℕ → List ℕ → List ℕ
splice list start count others = take start list ++ (others ++ drop count (drop start list))
