-- `structure::Named::lowest_crossed` meets its contract. The loop's invariant: no pair passed is crossed by one further right. It ends
-- in the loop, for a crossing is known to exist. Assumes nothing.
use Prim.Native.Nat.{ℕ, ◌<◌}
use lib.ListN.{length}
use Rattle.structure.specs.Walking.{Crossed}
use Rattle.structure.specs.Table.{view}
use Rattle.structure.proofs.Named.lowest_crossed.Given as goal

abbrev pub invariant-loop-a : goal.invariant-loop-a
invariant-loop-a l = (j : ℕ) → j < l.a → Crossed (view l.self.table.now) (length l.self.table.now) j → ⊥
