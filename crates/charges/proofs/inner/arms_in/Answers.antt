use native.Mathlib.Omega.{arith}
use Rattle.structure.specs.Table.{view}
use Rattle.charges.proofs.Openings.{step, arms_le}
use Rattle.charges.proofs.inner.arms_in.Goals as goal

pub overflow_add-arms : goal.overflow_add-arms
overflow_add-arms c =
    let s = step (view c.args.pairs.now) c.loop-k.invariant.2 (omega arith) in
    grind (arith, arms_le (view c.args.pairs.now) c.args.lo c.args.hi)

pub loop-k-preserved : goal.loop-k-preserved
loop-k-preserved c =
    let s = step (view c.args.pairs.now) c.loop-k.invariant.2 (omega arith) in
    grind arith
