-- `energy::zuker_mfe` meets its contract: what was found to be due nothing has room for the cells and for the traceback.
use mathlib.Core.Path.{ap}
use native.Mathlib.Omega.{arith}
use lib.ListN.{length}
use Rattle.sequences.proofs.Spared.{letters_spared}
use Rattle.figures.proofs.Charges.{fold_reach}
use Rattle.energy.proofs.zuker_mfe.Goals as goal

-- the letters leave the bases as many as they were
pub fill-requires : goal.fill-requires
fill-requires c =
    let l = letters_spared c.args.seq.now c.args.bases.now (omega arith) in
    let e = ap length c.keep.ensures in
    record { short = omega (arith, fold_reach); bases = omega (arith, l.long); paired = omega arith; any = omega arith; arms = omega arith }

pub traceback-requires : goal.traceback-requires
traceback-requires c =
    let l = letters_spared c.args.seq.now c.args.bases.now (omega arith) in
    let e = ap length c.keep.ensures in (
      omega arith,
      omega arith,
      record {
        room = record { short = omega (arith, fold_reach); bases = omega (arith, l.long); paired = omega arith; any = omega arith; arms = omega arith };
        fine = c.fill.ensures.fine;
      },
    )
