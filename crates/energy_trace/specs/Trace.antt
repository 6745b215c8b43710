-- What the tracebacks write into a pair table o, and what they ask of lent memory. Assumes nothing: these are definitions.
use Rattle.std.specs.Prelude.{◌≡◌, List, ℕ, zero, suc, ◌-◌, ◌≤◌, ◌<◌, ℤ}
use Rattle.structure.specs.Table.{view}
use Rattle.tables.specs.Writing.{cleared, joined}
use Rattle.cells.specs.Fill.{at, Fine}
use Rattle.energy_rule.specs.Bounds.{Ranged}
use Rattle.energy_rule.specs.Memory.{table, three, Room}
use Rattle.energy_trace.specs.Choosing.{move_of}
use Rattle.energy_trace.specs.declared.choice.Job.{Job}
use Rattle.energy_trace.specs.declared.choice.Job.TheVariants.{Any, Arms, Closed}
use Rattle.energy_trace.specs.declared.choice.Move.{Move}
use Rattle.energy_trace.specs.declared.choice.Move.TheVariants.{Stop, Go, Close, Twice}

-- what a move writes, `go` writing the shorter spans
abbrev pub act : (Job → ℕ → ℕ → List ℕ → List ℕ) → Move → List ℕ → List ℕ
act go Stop o = o
act go (Go job lo hi) o = go job lo hi o
act go (Close i j) o = go Closed i j (joined o i j)
act go (Twice job lo k hi) o = go job k hi (go job lo k o)

-- the traceback of a span, at most f calls deep: one more than hi − lo are enough
unfoldable pub trace_of : ℕ → (Job → ℕ → ℕ → Move) → Job → ℕ → ℕ → List ℕ → List ℕ
trace_of zero move job lo hi o = o
trace_of (suc f) move job lo hi o = act (trace_of f move) (move job lo hi) o

-- o' is what the traceback of the span makes of o
abbrev pub Traced : (Job → ℕ → ℕ → Move) → Job → ℕ → ℕ → List ℕ → List ℕ → Type 0
Traced move job lo hi o o' = (f : ℕ) → hi - lo < f → o' ≡ trace_of f move job lo hi o

-- where a job may stand in n bases
abbrev pub Spot : Job → ℕ → ℕ → ℕ → Type 0
Spot Any lo hi n = (lo < hi) × (hi ≤ n)
Spot Arms lo hi n = (lo < hi) × (hi ≤ n)
Spot Closed i j n = (i < j) × (j < n)

-- what the tracebacks of n bases ask of bases and tables: room, and cells in range, be they right or wrong
pub record Traceable (b : List ℕ) (v w m : List ℤ) (n : ℕ) : Type 0 where
  pub room : Room b v w m n
  pub fine : Fine (Ranged (view b)) (at (three v w m)) n

-- what the traceback of n bases makes of o
unfoldable pub traced_of : List ℕ → List ℤ → List ℤ → List ℤ → ℕ → List ℕ → List ℕ
traced_of b v w m n o = trace_of (suc n) (move_of (view b) (table v) (table w) (table m)) Any 0 n (cleared n o)
