use native.Mathlib.Omega.{arith}
use Rattle.cells.proofs.Passes.{settled_none, settled_next}
use Rattle.ints.specs.Ints.{minℤ}
use Rattle.energy_inner.specs.Search.{InRange}
use Rattle.energy_fill.specs.Passes.{link}
use Rattle.energy_fill.proofs.Passes.{range_step}
use Rattle.energy_fill.proofs.column.settle.Goals as goal

pub loop-k-init : goal.loop-k-init
loop-k-init c = settled_none minℤ link InRange range_step _ _ _ c.requires.3 (omega arith)

pub loop-k-preserved : goal.loop-k-preserved
loop-k-preserved c = settled_next minℤ link InRange range_step _ _ _ _ _ _ _ (omega arith) (omega arith) (omega arith) c.take.ensures c.loop-k.invariant
