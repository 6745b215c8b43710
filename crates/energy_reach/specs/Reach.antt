-- What reaches the value of a cell: v and c are tables of cells, b bases. Assumes nothing: these are definitions.
use Rattle.std.specs.Prelude.{Bool, ◌&&◌, List, ℕ, ◌+◌, ◌≤◌, ◌<◌, ℤ, length}
use Rattle.std.specs.Int.Signed.{le_z}
use Rattle.cells.specs.Tri.{tri}
use Rattle.cells.specs.Rule.{Bases}
use Rattle.ints.specs.Ints.{add_e, Small}
use Rattle.figures.specs.Figures.{longest}
use Rattle.energy_rule.specs.Rule.{Table, inner_at}
use Rattle.energy_rule.specs.Memory.{table}

-- two numbers are equal
unfoldable pub same : ℤ → ℤ → Bool
same a b = le_z a b && le_z b a

-- a split after k reaches the cell (i, j)
unfoldable pub split_at : Table → ℕ → ℕ → ℕ → Bool
split_at c i j k = same (add_e (c i k) (c (k + 1) j)) (c i j)

-- the inner pair (x, y) reaches the cell (i, j)
unfoldable pub reaches : Bases → Table → ℕ → ℕ → ℕ → ℕ → Bool
reaches b v i j x y = same (inner_at b v i j x y) (v i j)

-- one table: the cells up to column j can be read, and may stand in sums
pub record Ready (t : List ℤ) (j : ℕ) : Type 0 where
  pub short : j < longest + 2
  pub long : tri (j + 1) ≤ length t
  pub small : (k l : ℕ) → k ≤ l → l ≤ j → Small (table t k l)
