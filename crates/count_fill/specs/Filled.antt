-- What a fold asks of lent memory, and what it leaves there. Assumes nothing: these are definitions.
use Rattle.std.specs.Prelude.{◌≡◌, List, ℕ, ◌≤◌, ◌<◌, length}
use Rattle.cells.specs.Tri.{tri}
use Rattle.cells.specs.Rule.{Right}
use Rattle.cells.specs.Fill.{at, Fine}
use Rattle.structure.specs.Table.{view}
use Rattle.count_rule.specs.Rule.{nussinov, Half}

-- there is room for n bases and their cells
pub record Room (b t : List ℕ) (n : ℕ) : Type 0 where
  pub short : n < 65535
  pub bases : n ≤ length b
  pub cells : tri n ≤ length t

-- the cells of the first n bases of b are right and believable, and what is past them is left
pub record Filled (gap : ℕ) (b t t' : List ℕ) (n : ℕ) : Type 0 where
  pub right : Right (nussinov gap) (view b) (at (view t')) n
  pub fine : Fine (Half (view b)) (at (view t')) n
  pub spare : (k : ℕ) → tri n ≤ k → view t' k ≡ view t k
  pub long : length t' ≡ length t
