-- Lent memory: three tables side by side, and the room that a fold needs. Assumes nothing: these are definitions.
use Rattle.std.specs.Prelude.{List, ℕ, ◌+◌, ◌≤◌, ℤ, pos, length, get_or}
use Rattle.cells.specs.Tri.{tri, place}
use Rattle.cells.specs.Fill.{trio}
use Rattle.figures.specs.Figures.{longest}
use Rattle.energy_rule.specs.Rule.{Table, Cell}

-- the numbers of a lent list, by place
abbrev pub nums : List ℤ → ℕ → ℤ
nums t k = get_or t k (pos 0)

-- its cells
abbrev pub table : List ℤ → Table
table t i j = nums t (place i j)

-- three lists by place
abbrev pub three : List ℤ → List ℤ → List ℤ → ℕ → Cell
three v w m = trio (pos 0) v w m

-- there is room for n bases and their cells, and every loop of theirs has a figure
pub record Room (b : List ℕ) (v w m : List ℤ) (n : ℕ) : Type 0 where
  pub short : n ≤ longest + 2
  pub bases : n ≤ length b
  pub paired : tri n ≤ length v
  pub any : tri n ≤ length w
  pub arms : tri n ≤ length m
