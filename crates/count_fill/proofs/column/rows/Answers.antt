-- `count_fill::column::rows` meets its contract: a column that is started and then settled obeys the rule. Assumes nothing.
use native.Mathlib.Omega.{arith}
use Rattle.count_fill.proofs.Passes.{started_all, settled_rows}
use Rattle.count_fill.proofs.column.rows.Goals as goal

pub settle-requires : goal.settle-requires
settle-requires c = (
  omega arith,
  omega arith,
  omega (arith, c.start.auto.cells),
  started_all _ _ _ _ _ _ (omega arith) c.requires.4 c.start.ensures,
)

pub returns : goal.returns
returns c = settled_rows _ _ _ _ _ _ (omega arith) c.requires.4 c.start.ensures _ c.settle.ensures
