-- `charges::inner::arms_in` meets its contract. The loop's invariant: the rest of the span folds, and its arms with those met are all of them.
use mathlib.Core.Path.{◌≡◌}
use Prim.Native.Nat.{◌+◌, ◌≤◌, ◌-◌}
use Rattle.structure.specs.Table.{view, Fold}
use Rattle.charges.specs.Loops.{arms_in}
use Rattle.charges.proofs.inner.arms_in.Given as goal

abbrev pub invariant-loop-k : goal.invariant-loop-k
invariant-loop-k l = (l.lo ≤ l.k) × (l.k ≤ l.hi) × Fold (view l.pairs) l.k l.hi × (l.arms + arms_in (view l.pairs) l.k l.hi ≡ arms_in (view l.pairs) l.lo l.hi)

abbrev pub decreases-loop-k : goal.decreases-loop-k
decreases-loop-k l = l.hi - l.k
