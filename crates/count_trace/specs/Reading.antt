-- What the traceback reads of a fold. Assumes nothing: these are definitions.
use Rattle.std.specs.Prelude.{Bool, ℕ, ◌+◌, ◌≤◌, ◌<◌, length}
use Rattle.cells.specs.Tri.{tri}
use Rattle.cells.specs.Rule.{Cells}
use Rattle.cells.specs.Fill.{at}
use Rattle.structure.specs.Table.{view}
use Rattle.count_rule.specs.Rule.{may_pair}
use Rattle.count_trace.specs.declared.Fold.{Fold}

-- its counts
abbrev pub counts : Fold → Cells ℕ
counts f = at (view f.cells.now)

-- which positions may pair
abbrev pub may : Fold → ℕ → ℕ → Bool
may f = may_pair (view f.bases.now) f.gap

-- it has a base at j, and the cells of every span up to there
pub record Covers (f : Fold) (j : ℕ) : Type 0 where
  pub short : j < 65535
  pub base : j < length f.bases.now
  pub cells : tri (j + 1) ≤ length f.cells.now
