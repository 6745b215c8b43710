use Prim.Native.Nat.{◌+◌}
use native.Mathlib.Omega.{arith}
use Rattle.structure.specs.Table.{view}
use Rattle.ints.proofs.Ints.{ints}
use Rattle.charges.proofs.Openings.{total_more, total_small, opens_is}
use Rattle.charges.proofs.Strand.energy_of.Goals as goal
use Rattle.charges.proofs.Strand.energy_of.Goals.{then-opens, else-opens}

pub overflow_add-sum : goal.overflow_add-sum
overflow_add-sum c =
    let e = total_more (view c.args.self.now.bases.now) (view c.args.self.now.pairs.now) c.loop-i.i in
    let q = opens_is _ c.loop-i.i _ c.opens.ensures in
    omega (ints, rw (← q, c.if-opens.true) at e, total_small c.args.self.now.bases.now c.args.self.now.pairs.now c.args.self.now.chargeable (c.loop-i.i + 1) (omega arith))

pub loop-i-preserved : goal.loop-i-preserved
loop-i-preserved c =
    let e = total_more (view c.args.self.now.bases.now) (view c.args.self.now.pairs.now) c.loop-i.i in
    let q = opens_is _ c.loop-i.i _ c.opens.ensures in
    let s = total_small c.args.self.now.bases.now c.args.self.now.pairs.now c.args.self.now.chargeable (c.loop-i.i + 1) (omega arith) in
    elim c.if-opens.branch [
      | then-opens w ↦ omega (ints, rw (← q, w.if-opens.true) at e)
      | else-opens w ↦ omega (ints, rw (← q, w.if-opens.false) at e)
    ]
