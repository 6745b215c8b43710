-- `energy_fill::column::settle` meets its contract. The loop's invariant: each split at `k` or later was taken in. Assumes nothing.
use Rattle.cells.specs.Pass.{Settled}
use Rattle.ints.specs.Ints.{minℤ}
use Rattle.energy_rule.specs.Memory.{nums}
use Rattle.energy_inner.specs.Search.{InRange}
use Rattle.energy_fill.specs.Passes.{link}
use Rattle.energy_fill.proofs.column.settle.Given as goal

abbrev pub invariant-loop-k : goal.invariant-loop-k
invariant-loop-k l = Settled minℤ link InRange (nums l.cells) (nums l.initial.cells) (nums l.cells) l.j l.from l.k
