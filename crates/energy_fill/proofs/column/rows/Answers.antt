-- `energy_fill::column::rows` meets its contract: a column whose paired cells are written, and whose other two are started and settled, obeys the rule. Assumes nothing.
use native.Mathlib.Omega.{arith}
use Rattle.structure.specs.Table.{view}
use Rattle.ints.proofs.Ints.{ints}
use Rattle.energy_rule.specs.Memory.{nums}
use Rattle.energy_fill.proofs.Ruled.{paired_smalls, arms_fine, any_fine, column_rows}
use Rattle.energy_fill.proofs.column.rows.Goals as goal

pub start-requires : goal.start-requires
start-requires c = (
  c.requires.from_le_j.0,
  omega arith,
  omega arith,
  omega arith,
  omega ints,
  paired_smalls (view c.args.bases.now) (nums c.args.paired.now) (nums c.args.any.now) (nums c.args.arms.now) _ _ c.requires.from_le_j.0 c.requires.fine_from (nums c.close_all.new.paired)
      c.close_all.ensures (omega arith),
)

pub settle-requires : goal.settle-requires
settle-requires c = (
  c.requires.from_le_j.0,
  omega arith,
  omega arith,
  arms_fine (view c.args.bases.now) (nums c.args.paired.now) (nums c.args.any.now) (nums c.args.arms.now) _ _ c.requires.from_le_j.0 c.requires.fine_from (nums c.close_all.new.paired)
      c.close_all.ensures (nums c.start.new.cells) c.start.ensures,
)

pub start-requires-2 : goal.start-requires-2
start-requires-2 c = (
  c.requires.from_le_j.0,
  omega arith,
  omega arith,
  omega arith,
  omega ints,
  paired_smalls (view c.args.bases.now) (nums c.args.paired.now) (nums c.args.any.now) (nums c.args.arms.now) _ _ c.requires.from_le_j.0 c.requires.fine_from (nums c.close_all.new.paired)
      c.close_all.ensures (omega arith),
)

pub settle-requires-2 : goal.settle-requires-2
settle-requires-2 c = (
  c.requires.from_le_j.0,
  omega arith,
  omega arith,
  any_fine (view c.args.bases.now) (nums c.args.paired.now) (nums c.args.any.now) (nums c.args.arms.now) _ _ c.requires.from_le_j.0 c.requires.fine_from (nums c.close_all.new.paired)
      c.close_all.ensures (nums c.start-2.new.cells) c.start-2.ensures,
)

pub returns : goal.returns
returns c =
    column_rows (view c.args.bases.now) (nums c.args.paired.now) (nums c.args.any.now) (nums c.args.arms.now) _ _ c.requires.from_le_j.0 c.requires.fine_from (nums c.close_all.new.paired)
    c.close_all.ensures (nums c.start-2.new.cells) (nums c.settle-2.new.cells) (nums c.start.new.cells) (nums c.settle.new.cells) c.start.ensures c.settle.ensures c.start-2.ensures c.settle-2.ensures
