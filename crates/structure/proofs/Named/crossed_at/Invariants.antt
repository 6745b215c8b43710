-- `structure::Named::crossed_at` meets its contract. The loop's invariant: no pair that opens before `b` crosses. Assumes nothing.
use Prim.Native.Nat.{ℕ, ◌<◌}
use lib.ListN.{length}
use Rattle.structure.specs.Walking.{Over}
use Rattle.structure.specs.Table.{view}
use Rattle.structure.proofs.Named.crossed_at.Given as goal

abbrev pub invariant-loop-b : goal.invariant-loop-b
invariant-loop-b l = (k : ℕ) → k < l.b → Over (view l.self.table.now) (length l.self.table.now) l.a k → ⊥
