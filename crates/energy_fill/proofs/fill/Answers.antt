-- `energy_fill::fill` meets its contract: all columns from 0 on, up to their last rows, are all cells. Assumes nothing.
use native.Mathlib.Omega.{arith}
use Rattle.structure.specs.Table.{view}
use Rattle.cells.specs.Fill.{at}
use Rattle.cells.proofs.Fills.{else_filled, filled_right, columns_spare}
use Rattle.energy_rule.specs.Memory.{three}
use Rattle.energy_rule.specs.Bounds.{Ranged}
use Rattle.energy_rule.specs.Rule.{energies}
use Rattle.energy_rule.proofs.Ruling.{energies_local, energies_keeps}
use Rattle.energy_fill.proofs.fill.Goals as goal

pub columns-requires : goal.columns-requires
columns-requires c =
    record { first_le_n = (omega arith, c.requires); fine_else = else_filled (Ranged (view c.args.bases.now)) (at (three c.args.paired.now c.args.any.now c.args.arms.now)) _ }

pub returns : goal.returns
returns c =
    record {
      right = filled_right energies energies_local Ranged energies_keeps _ _ _ _ _ (omega arith) c.columns.ensures;
      fine = c.columns.ensures.fine;
      spare = columns_spare energies energies_local Ranged energies_keeps _ _ _ _ _ _ c.columns.ensures;
      paired = c.columns.auto.paired;
      any = c.columns.auto.any;
      arms = c.columns.auto.arms;
    }
