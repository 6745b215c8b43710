-- What a fold leaves in lent memory. Assumes nothing: these are definitions.
use Rattle.std.specs.Prelude.{◌≡◌, List, ℕ, ◌≤◌, ℤ, length}
use Rattle.structure.specs.Table.{view}
use Rattle.cells.specs.Tri.{tri}
use Rattle.cells.specs.Rule.{Right}
use Rattle.cells.specs.Fill.{at, Fine}
use Rattle.energy_rule.specs.Rule.{energies}
use Rattle.energy_rule.specs.Bounds.{Ranged}
use Rattle.energy_rule.specs.Memory.{three}

-- the cells of the first n bases of b are right and in range, and what is past them is left
pub record Filled (b : List ℕ) (v w m v' w' m' : List ℤ) (n : ℕ) : Type 0 where
  pub right : Right energies (view b) (at (three v' w' m')) n
  pub fine : Fine (Ranged (view b)) (at (three v' w' m')) n
  pub spare : (k : ℕ) → tri n ≤ k → three v' w' m' k ≡ three v w m k
  pub paired : length v' ≡ length v
  pub any : length w' ≡ length w
  pub arms : length m' ≡ length m
