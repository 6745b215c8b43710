-- `count_fill::column::fullest` meets its contract. The loop's invariant: the most is that of the rows passed. Assumes nothing.
use Rattle.count_fill.specs.Believable.{fullness}
use Rattle.count_rule.specs.Rule.{best}
use Rattle.structure.specs.Table.{view}
use mathlib.Core.Path.{◌≡◌}
use Rattle.count_fill.proofs.column.fullest.Given as goal

abbrev pub invariant-loop-i : goal.invariant-loop-i
invariant-loop-i l = l.most ≡ best (fullness (view l.cells) l.to) 0 l.i
