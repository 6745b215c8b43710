-- `distances::climb` meets its contract. The loop's invariant: both heights and the sum are those before position `i`.
-- In a sound table nothing closes that didn't open, so no height falls below 0. Assumes nothing.
use Rattle.structure.specs.Table.{view}
use Rattle.distances.proofs.Distances.{Climbing}
use Rattle.distances.proofs.climb.Given as goal

abbrev pub invariant-loop-k : goal.invariant-loop-k
invariant-loop-k l = Climbing (view l.a) (view l.b) l.k l.x l.y l.sum
