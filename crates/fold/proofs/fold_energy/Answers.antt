-- `fold::fold_energy` is safe: the energy is small.
-- Assumes nothing.
use Rattle.std.proofs.Common.{refl, arith}
use Rattle.std.proofs.lemmas.Int.{to_z-of_z, ints}
use mir.Syntax.{w32}
use Rattle.energy.proofs.LeastEnergy.{energy_small}
use Rattle.fold.proofs.fold_energy.Goals as goal

pub energy-len-requires : goal.energy-len-requires
energy-len-requires g c =
    let small = energy_small _ _ _ _ _ _ _ _ _ _ _ _ c.in-Ok.z refl c.in-Ok.ensures in
    rw (to_z-of_z w32 c.in-Ok.z (omega (arith, ints))) small
