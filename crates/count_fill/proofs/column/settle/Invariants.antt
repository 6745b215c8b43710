-- `count_fill::column::settle` meets its contract. The loop's invariant: each split at `k` or later was taken in, and `col` is where column `k` starts. Assumes nothing.
use mathlib.Core.Path.{◌≡◌}
use Prim.Native.Nat.{max}
use Rattle.cells.specs.Tri.{tri}
use Rattle.structure.specs.Table.{view}
use Rattle.cells.specs.Pass.{Settled}
use Rattle.count_fill.specs.Passes.{AnyHalf, both}
use Rattle.count_fill.proofs.column.settle.Given as goal

abbrev pub invariant-loop-k : goal.invariant-loop-k
invariant-loop-k l = (l.col ≡ tri l.k) × Settled max both AnyHalf (view l.cells) (view l.initial.cells) (view l.cells) l.j l.from l.k
