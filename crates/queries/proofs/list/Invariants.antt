-- `queries::list` meets its contract. The loop's invariant: the pairs that open before `i` stand at the front of the memory as
-- it came, up to `end` (Listing). Assumes nothing.
use Rattle.structure.specs.Table.{view}
use Rattle.queries.proofs.Listing.{Listing}
use Rattle.queries.proofs.list.Given as goal

abbrev pub invariant-loop-k : goal.invariant-loop-k
invariant-loop-k l = Listing (view l.table) l.initial.out l.out l.end l.k
