-- `energy_fill::columns` meets its contract. The loop's invariant: the columns before `j` are rewritten, and nothing else. Assumes nothing.
use Rattle.structure.specs.Table.{view}
use Rattle.cells.specs.Fill.{Columns}
use Rattle.energy_rule.specs.Memory.{three}
use Rattle.energy_rule.specs.Bounds.{Ranged}
use Rattle.energy_rule.specs.Rule.{energies}
use Rattle.energy_fill.proofs.columns.Given as goal

abbrev pub invariant-loop-j : goal.invariant-loop-j
invariant-loop-j l =
    Columns energies Ranged (view l.bases) (three l.initial.paired l.initial.any l.initial.arms) (three l.paired l.any l.arms) l.first l.top l.j
