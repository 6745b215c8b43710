use mathlib.Core.Path.{◌≡◌, subst}
use native.Mathlib.Omega.{arith}
use Prim.Native.Nat.{◌+◌}
use Rattle.cells.specs.Fill.{Columns}
use Rattle.cells.proofs.Fills.{columns_fine, columns_more}
use Rattle.cells.proofs.Places.{tri_mono}
use Rattle.energy_rule.specs.Bounds.{Ranged}
use Rattle.energy_rule.specs.Rule.{energies}
use Rattle.energy_rule.proofs.Ruling.{energies_local, energies_keeps}
use Rattle.energy_fill.proofs.columns.Goals as goal

pub rows-requires : goal.rows-requires
rows-requires c =
    let t = tri_mono (c.loop-j.j + 1) c.args.n (omega arith) in record {
      from_le_j = (
        omega arith,
        record { short = omega arith; bases = omega arith; paired = omega arith; any = omega arith; arms = omega arith },
      );
      fine_from = columns_fine energies energies_local Ranged energies_keeps _ _ _ _ _ c.args.n _ _ (omega arith) (omega arith) c.min.ensures c.requires.fine_else c.loop-j.invariant;
    }

pub loop-j-preserved : goal.loop-j-preserved
loop-j-preserved c = columns_more energies energies_local Ranged energies_keeps _ _ _ _ _ _ _ _ (omega arith) c.min.ensures c.loop-j.invariant c.rows.ensures

pub returns : goal.returns
returns c =
    let last : c.loop-j.j ≡ c.args.n = omega arith in
    subst (Columns _ _ _ _ _ _ _) last c.loop-j.invariant
