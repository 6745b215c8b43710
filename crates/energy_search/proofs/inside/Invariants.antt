-- `energy_search::inside` meets its contract. The loop's invariant: what is to be found is found in the rows from x on. Assumes nothing.
use mathlib.Core.Path.{◌≡◌}
use Prim.Native.Nat.{◌-◌}
use Rattle.structure.specs.Table.{view}
use Rattle.energy_rule.specs.Memory.{table}
use Rattle.energy_search.specs.Search.{first_row, inner_row, inside}
use Rattle.energy_search.proofs.inside.Given as goal

abbrev pub invariant-loop-x : goal.invariant-loop-x
invariant-loop-x l =
    inside (view l.tables.bases.now) (table l.tables.paired.cells.now) l.i l.j
    ≡ first_row (inner_row (view l.tables.bases.now) (table l.tables.paired.cells.now) l.i l.j) l.x (l.end - l.x)
