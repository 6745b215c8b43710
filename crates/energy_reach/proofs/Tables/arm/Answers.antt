-- `energy_reach::Tables::arm` meets its contract: the paired cell with the charge of an arm is compared. Assumes nothing.
use mathlib.Core.Path.{ap, ◌∙◌}
use Rattle.ints.specs.Ints.{add_e}
use Rattle.ints.proofs.Ints.{is}
use Rattle.energy_rule.specs.Rule.{arm_charge}
use Rattle.energy_reach.proofs.Equal.{same_bits}
use Rattle.energy_reach.proofs.Tables.arm.Goals as goal

pub returns : goal.returns
returns c =
    same_bits _ _ c.plus.type_inv c.cell-2.type_inv (c.plus.ensures ∙ ap (λ z. add_e z arm_charge) (is c.cell.result c.cell.type_inv c.cell.ensures.0)) c.cell-2.ensures.0
