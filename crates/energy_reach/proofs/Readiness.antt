-- What a table that is ready offers: the place of a cell is in it, and the cell may stand in a sum. Assumes nothing.
use mathlib.Core.List.{List}
use Prim.Native.Nat.{ℕ, ◌+◌, ◌≤◌, ◌<◌}
use native.Mathlib.Omega.{arith}
use lib.IntN.{ℤ}
use lib.ListN.{length}
use Rattle.cells.specs.Tri.{place}
use Rattle.cells.proofs.Places.{place_below}
use Rattle.ints.specs.Ints.{Small}
use Rattle.figures.proofs.Charges.{longest_low}
use Rattle.energy_rule.specs.Memory.{table}
use Rattle.energy_reach.specs.Reach.{Ready}

-- `place` takes its column
pub ready_cell : (t : List ℤ) (i j : ℕ) → i ≤ j → Ready t j → (j < 65536) × (place i j < length t) × Small (table t i j)
ready_cell t i j h r =
    let s = r.short in
    let l = r.long in
    (omega (arith, longest_low), omega (arith, place_below i j (j + 1) h (omega arith)), r.small i j h (omega arith))
