-- `queries::count` meets its contract. The loop's invariant: `n` is how many positions passed open a pair. Assumes nothing.
use mathlib.Core.Path.{◌≡◌}
use Prim.Native.Nat.{◌≤◌}
use Rattle.structure.specs.Table.{opened, view}
use Rattle.queries.proofs.count.Given as goal

abbrev pub invariant-loop-k : goal.invariant-loop-k
invariant-loop-k l = (l.n ≡ opened (view l.table) l.k) × (l.n ≤ l.k)
