-- `energy_inner::run` meets its contract. The loop's invariant: best is the least of the candidates before `l`.
use mathlib.Core.Path.{◌≡◌}
use Prim.Native.Nat.{◌-◌, ◌≤◌, max}
use Rattle.ints.specs.Ints.{min_from}
use Rattle.energy_rule.specs.Memory.{nums}
use Rattle.energy_inner.specs.Search.{charged}
use Rattle.energy_inner.proofs.run.Given as goal

abbrev pub invariant-loop-l : goal.invariant-loop-l
invariant-loop-l l =
    (l.l ≤ max l.lo l.hi) × (l.best ≡ min_from (charged (nums l.paired) (nums l.sides) l.from l.row) l.lo (l.l - l.lo))
