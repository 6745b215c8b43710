use mathlib.Core.Path.{◌≡◌, sym, ap, ◌∙◌}
use Prim.Native.Nat.{suc, ◌+◌, ◌-◌, min}
use native.Mathlib.Omega.{arith}
use Rattle.structure.specs.Table.{view}
use Rattle.figures.specs.Figures.{longest_side}
use Rattle.energy_rule.specs.Memory.{table}
use Rattle.energy_search.specs.Search.{first_row, inner_row, inside}
use Rattle.energy_search.proofs.Searching.{rows_end, rows_here, rows_next}
use Rattle.energy_search.proofs.inside.Goals as goal

pub loop-x-init : goal.loop-x-init
unfolding inside
loop-x-init c =
    let e : min (suc longest_side) (c.args.j - (c.args.i + 1)) ≡ (c.args.i + 1 + c.min.result) - (c.args.i + 1) = omega arith in
    ap (first_row (inner_row (view c.args.tables.now.bases.now) (table c.args.tables.now.paired.cells.now) c.args.i c.args.j) (c.args.i + 1)) e

pub returns-in-Some : goal.returns-in-Some
returns-in-Some c = sym (c.loop-x.invariant ∙ rows_here _ _ _ c.loop-x-test.true c.inner_row.ensures c.in-Some.is)

pub loop-x-preserved : goal.loop-x-preserved
loop-x-preserved c = c.loop-x.invariant ∙ rows_next _ _ _ c.loop-x-test.true c.inner_row.ensures c.in_default.is

pub returns : goal.returns
returns c = sym (c.loop-x.invariant ∙ rows_end _ _ _ c.loop-x-test.false)
