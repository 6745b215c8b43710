-- `charges::Strand::charge_at` meets its contract: the loop of a chargeable table has a figure.
use native.Mathlib.Omega.{arith}
use Rattle.charges.proofs.Openings.{figured_at, first_at}
use Rattle.charges.proofs.Strand.charge_at.Goals as goal

pub bounds-self-y : goal.bounds-self-y
bounds-self-y c =
    let q = first_at c.args.self.now.bases.now c.args.self.now.pairs.now c.args.self.now.chargeable c.args.i c.requires.0 c.requires.1 c.first_in-x.result (cc) in
    omega arith

pub charge-requires : goal.charge-requires
charge-requires c =
    figured_at c.args.self.now.bases.now c.args.self.now.pairs.now c.args.self.now.chargeable c.args.i c.requires.0 c.requires.1 c.kind_at-kind.result c.first_in-x.result _ _ _
    (cc) (cc) (cc) (cc) (cc)
