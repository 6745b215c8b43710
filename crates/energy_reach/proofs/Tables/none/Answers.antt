-- `energy_reach::Tables::none` meets its contract: a cell is compared with 0. Assumes nothing.
use mathlib.Core.Path.{refl}
use native.Mathlib.Omega.{arith}
use lib.IntN.{pos}
use Rattle.energy_reach.proofs.Equal.{same_bits}
use Rattle.energy_reach.proofs.Tables.none.Goals as goal

pub returns : goal.returns
returns c = same_bits c.cell.result (pos 0) c.cell.type_inv (omega arith) c.cell.ensures.0 refl
