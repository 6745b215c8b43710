-- `energy_fill::column::close_all` meets its contract. The loop's invariant: the rows before `i` are written, and nothing else. Assumes nothing.
use Rattle.structure.specs.Table.{view}
use Rattle.energy_rule.specs.Memory.{nums, table}
use Rattle.energy_fill.specs.Passes.{Started, closed}
use Rattle.energy_fill.proofs.column.close_all.Given as goal

abbrev pub invariant-loop-i : goal.invariant-loop-i
invariant-loop-i l = Started (closed (view l.bases) (table l.initial.paired) (table l.arms) l.j) (nums l.initial.paired) (nums l.paired) l.j l.i
