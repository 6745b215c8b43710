use mathlib.Core.Path.{sym}
use native.Mathlib.Omega.{arith}
use Rattle.ints.proofs.Minima.{least_none}
use Rattle.ints.proofs.Ints.{plain}
use Rattle.energy_rule.specs.Memory.{nums}
use Rattle.energy_inner.proofs.Searching.{run_more}
use Rattle.energy_inner.proofs.run.Goals as goal

pub loop-l-init : goal.loop-l-init
loop-l-init c = (omega arith, sym (least_none _ _))

pub loop-l-preserved : goal.loop-l-preserved
loop-l-preserved c = (
  omega arith,
  cc (
    plain c.least-best.result c.least-best.type_inv,
    plain c.cell.result c.cell.type_inv,
    plain c.cell-in-loop-l.result c.cell-in-loop-l.type_inv,
    plain c.add-x.result c.add-x.type_inv,
    run_more (nums c.args.paired.now) (nums c.args.sides.now) c.args.from c.args.row c.args.lo c.loop-l.l (omega arith) (c.requires.by_index c.loop-l.l (omega arith) (omega arith)),
  ),
)
