-- `energy_inner::near` meets its contract. The loop's invariant: best is the least of the right sides before `r`, and `col` is the place of (i + 1, j − 1 − r).
use mathlib.Core.Path.{◌≡◌}
use Prim.Native.Nat.{◌+◌, ◌-◌}
use Rattle.cells.specs.Tri.{place}
use Rattle.ints.specs.Ints.{min_from}
use Rattle.energy_rule.specs.Memory.{nums}
use Rattle.energy_inner.specs.Search.{side}
use Rattle.energy_inner.proofs.near.Given as goal

abbrev pub invariant-loop-r : goal.invariant-loop-r
invariant-loop-r l = (l.col ≡ place (l.i + 1) (l.j - 1 - l.r)) × (l.best ≡ min_from (side (nums l.paired) (nums l.sides.charges.now) l.i l.j) 0 l.r)
