-- `count_fill::columns` meets its contract. The loop's invariant: the columns before `j` are rewritten, and nothing else. Assumes nothing.
use Rattle.cells.specs.Fill.{Columns}
use Rattle.structure.specs.Table.{view}
use Rattle.count_rule.specs.Rule.{nussinov, Half}
use Rattle.count_fill.proofs.columns.Given as goal

abbrev pub invariant-loop-j : goal.invariant-loop-j
invariant-loop-j l = Columns (nussinov l.gap) Half (view l.bases) (view l.initial.cells) (view l.cells) l.first l.top l.j
