-- `count_fill::column::start` meets its contract. The loop's invariant: the rows before `i` are started, and nothing else. Assumes nothing.
use Rattle.structure.specs.Table.{view}
use Rattle.count_fill.specs.Passes.{Started}
use Rattle.count_fill.proofs.column.start.Given as goal

abbrev pub invariant-loop-i : goal.invariant-loop-i
invariant-loop-i l = Started l.gap (view l.bases) (view l.initial.cells) (view l.cells) l.j l.i
