use mathlib.Core.Path.{ap, ◌∙◌}
use native.Mathlib.Omega.{arith}
use Rattle.ints.specs.Ints.{min_from}
use Rattle.ints.proofs.Ints.{plain}
use Rattle.energy_rule.specs.Memory.{nums}
use Rattle.energy_inner.specs.Search.{side, near}
use Rattle.energy_inner.proofs.Searching.{near_more, side_run, ends_at, side_room, side_most, side_smalls, side_charges, col_back}
use Rattle.energy_inner.proofs.near.Goals as goal

pub run-x-requires : goal.run-x-requires
run-x-requires c =
    let e = ends_at c.args.i c.args.j c.loop-r.r c.min-count.result c.loop-r-test.true (omega arith) in
    let m = side_most _ _ _ _ _ e c.min-hi.ensures in
    let t = c.args.sides.now.right.long in record {
      hi_in_bounds = (side_room _ _ _ _ _ e c.min-hi.ensures _ _ c.loop-r.invariant.0 c.requires.2, omega arith, side_smalls _ _ _ _ _ e c.min-hi.ensures (nums c.args.paired.now) _ c.requires.1 c.loop-r.invariant.0 c.requires.3);
      by_index = λ l lo h. side_charges _ _ _ _ _ e c.min-hi.ensures c.args.sides.now.charges.now l c.args.sides.now.right (omega arith) h;
    }

pub overflow_sub-col : goal.overflow_sub-col
overflow_sub-col c = (col_back _ _ _ _ (ends_at c.args.i c.args.j c.loop-r.r c.min-count.result c.loop-r-test.true (omega arith)) c.loop-r.invariant.0).0

pub loop-r-preserved : goal.loop-r-preserved
loop-r-preserved c = (
  (col_back _ _ _ _ (ends_at c.args.i c.args.j c.loop-r.r c.min-count.result c.loop-r-test.true (omega arith)) c.loop-r.invariant.0).1,
  cc (
    plain c.least-best.result c.least-best.type_inv,
    plain c.run-x.result c.run-x.type_inv,
    side_run (nums c.args.paired.now) (nums c.args.sides.now.charges.now) c.args.i c.args.j c.loop-r.r c.loop-r.col c.saturating_sub-lo.result c.min-hi.result c.loop-r.invariant.0
        c.saturating_sub-lo.ensures c.min-hi.ensures,
    near_more (side (nums c.args.paired.now) (nums c.args.sides.now.charges.now) c.args.i c.args.j) c.loop-r.r,
  ),
)

pub returns : goal.returns
unfolding near
returns c = c.loop-r.invariant.1 ∙ ap (min_from (side (nums c.args.paired.now) (nums c.args.sides.now.charges.now) c.args.i c.args.j) 0) (omega arith)
