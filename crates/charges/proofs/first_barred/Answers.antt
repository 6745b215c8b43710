use native.Mathlib.Numerals.{add-one}
use native.Mathlib.Omega.{arith}
use Prim.Native.Nat.{◌+◌, ◌-◌}
use lib.ListN.{length}
use Rattle.structure.specs.Table.{view}
use Rattle.charges.proofs.Barred.{barred_next}
use Rattle.charges.proofs.first_barred.Goals as goal

pub loop-i-preserved : goal.loop-i-preserved
loop-i-preserved c =
    let n = length c.args.pairs.now in
    let e = barred_next (view c.args.bases.now) (view c.args.pairs.now) (n - c.loop-i.i) (n - (c.loop-i.i + 1)) c.loop-i.i (omega arith) in
    grind (arith, add-one, e)
