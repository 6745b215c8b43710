-- `charges::Strand::kind_at` meets its contract: the one inner pair lies inside, and may close a loop too.
use native.Mathlib.Omega.{arith}
use Rattle.closing.proofs.Closing.{close_pair}
use Rattle.charges.proofs.Openings.{inner_at_lem, closes}
use Rattle.charges.proofs.Strand.kind_at.Goals as goal

pub single-requires : goal.single-requires
single-requires c =
    let b = c.args.self.now.bases.now in
    let t = c.args.self.now.pairs.now in
    let k = closes b t c.args.self.now.chargeable c.args.i c.requires.0 c.requires.1 in
    let q = inner_at_lem b t c.args.self.now.chargeable c.args.i c.requires.0 c.requires.1 c.first_in-x.result c.arms_in.result (cc) (omega arith) (cc) in
    let e = close_pair _ _ _ k.may in
    let f = close_pair _ _ _ q.may in
    grind arith
