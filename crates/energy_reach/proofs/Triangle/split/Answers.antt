-- `energy_reach::Triangle::split` meets its contract: the sum of the two parts is compared. Assumes nothing.
use mathlib.Core.Path.{ap₂, ◌∙◌}
use Rattle.ints.specs.Ints.{add_e}
use Rattle.ints.proofs.Ints.{is}
use Rattle.energy_reach.specs.Reach.{split_at}
use Rattle.energy_reach.proofs.Equal.{same_bits}
use Rattle.energy_reach.proofs.Triangle.split.Goals as goal

pub returns : goal.returns
unfolding split_at
returns c =
    same_bits _ _ c.plus.type_inv c.cell-3.type_inv
    (c.plus.ensures ∙ ap₂ add_e (is c.cell.result c.cell.type_inv c.cell.ensures.0) (is c.cell-2.result c.cell-2.type_inv c.cell-2.ensures.0))
    c.cell-3.ensures.0
