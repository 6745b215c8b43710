-- `figures::sides` meets its contract. The loop's invariant: the entries before `k` are written.
use Rattle.std.proofs.Common.{◌≡◌, ℕ, suc, ◌<◌, ◌/◌, ◌%◌, pos, get_or}
use Rattle.figures.specs.Figures.{longest_side}
use Rattle.figures.specs.Sides.{side_charge}
use Rattle.figures.proofs.sides.Given as goal

abbrev pub invariant-loop-k : goal.invariant-loop-k
invariant-loop-k l = (n : ℕ) → n < l.k → get_or l.out n (pos 0) ≡ side_charge (n % suc longest_side) (n / suc longest_side)
