-- `structure::Named::walk` meets its contract. The loop's invariant: the span from `lo` to the place reached folds; a hop joins one more
-- position or one more folded pair to it, and a hop that can't be made shows a partner outside. Assumes nothing.
use Prim.Native.Nat.{◌≤◌, ◌-◌}
use Rattle.structure.specs.Table.{view, Fold}
use Rattle.structure.proofs.Named.walk.Given as goal

abbrev pub invariant-loop-x : goal.invariant-loop-x
invariant-loop-x l = (l.lo ≤ l.x) × (l.x ≤ l.hi) × Fold (view l.self.table.now) l.lo l.x

abbrev pub decreases-loop-x : goal.decreases-loop-x
decreases-loop-x l = l.hi - l.x
