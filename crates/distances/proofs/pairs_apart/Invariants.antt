-- `distances::pairs_apart` meets its contract. The loop's invariant: the count is `apart` of the positions passed.
-- Each position adds at most 2, so the count fits. Assumes nothing.
use mathlib.Core.Path.{◌≡◌}
use Rattle.structure.specs.Table.{view}
use Rattle.distances.specs.Distance.{apart}
use Rattle.distances.proofs.pairs_apart.Given as goal

abbrev pub invariant-loop-k : goal.invariant-loop-k
invariant-loop-k l = (l.n ≡ apart (view l.a) (view l.b) l.k)
