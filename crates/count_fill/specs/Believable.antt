-- The computed test of believable cells. Assumes nothing: these are definitions.
use Rattle.std.specs.Prelude.{Bool, ℕ, ◌+◌, ◌*◌, leb}
use Rattle.cells.specs.Rule.{Cells}
use Rattle.cells.specs.Solve.{every}

-- the cell (i, j) is at most half its span's bases
unfoldable pub half_at : Cells ℕ → ℕ → ℕ → Bool
half_at c j i = leb (2 * c i j + i) (j + 1)

-- how full a cell is, i rows into the column at a place: above the column's number and 1 where it is not believable
unfoldable pub fullness : (ℕ → ℕ) → ℕ → ℕ → ℕ
fullness g to i = 2 * g (to + i) + i

-- so is each cell of column j
unfoldable pub column_half : Cells ℕ → ℕ → Bool
column_half c j = every (half_at c j) (j + 1)

-- so is each cell of the first n columns
unfoldable pub all_half : Cells ℕ → ℕ → Bool
all_half c n = every (column_half c) n
