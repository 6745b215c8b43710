-- `figures::sided::by_size` meets its contract. The loop's invariant: the sizes before `k + 2` are written.
use Rattle.std.proofs.Common.{◌≡◌, ℕ, ◌+◌, ◌<◌, pos, get_or}
use Rattle.figures.specs.Charge.{internal, sized}
use Rattle.figures.proofs.sided.by_size.Given as goal

abbrev pub invariant-loop-k : goal.invariant-loop-k
invariant-loop-k l = (n : ℕ) → n < l.k → get_or l.figure-items n (pos 0) ≡ sized internal 2 (n + 2)
