use native.Mathlib.Numerals.{add-one}
use native.Mathlib.Omega.{arith}
use Rattle.structure.specs.Table.{view}
use Rattle.charges.proofs.Openings.{opens_is}
use Rattle.charges.proofs.Walk.{first_next}
use Rattle.charges.proofs.inner.first_in.Goals as goal

pub loop-k-preserved : goal.loop-k-preserved
loop-k-preserved c =
    let e = first_next (view c.args.pairs.now) c.loop-k.k c.args.hi in
    grind (arith, opens_is, add-one, e)
