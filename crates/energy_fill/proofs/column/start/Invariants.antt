-- `energy_fill::column::start` meets its contract. The loop's invariant: the rows before `i` are started, and nothing else. Assumes nothing.
use Rattle.energy_rule.specs.Memory.{nums, table}
use Rattle.energy_fill.specs.Passes.{Started, begun}
use Rattle.energy_fill.proofs.column.start.Given as goal

abbrev pub invariant-loop-i : goal.invariant-loop-i
invariant-loop-i l = Started (begun l.charge l.limit (table l.paired) (table l.initial.cells) l.j) (nums l.initial.cells) (nums l.cells) l.j l.i
