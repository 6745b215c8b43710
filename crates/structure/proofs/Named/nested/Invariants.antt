-- `structure::Named::nested` meets its contract. The loop's invariant: each pair that opens at `i` or further right folds. Assumes nothing.
use Prim.Native.Nat.{◌≤◌}
use lib.ListN.{length}
use Rattle.structure.specs.Walking.{Shut}
use Rattle.structure.specs.Table.{view}
use Rattle.structure.proofs.Named.nested.Given as goal

abbrev pub invariant-loop-i : goal.invariant-loop-i
invariant-loop-i l = (l.i ≤ length l.self.table.now) × Shut (view l.self.table.now) (length l.self.table.now) l.i

abbrev pub decreases-loop-i : goal.decreases-loop-i
decreases-loop-i l = l.i
