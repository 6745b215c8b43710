-- `charges::inner::first_in` meets its contract. The loop's invariant: the first opening of the rest is the first of the whole.
use mathlib.Core.Path.{◌≡◌}
use Rattle.structure.specs.Table.{view}
use Rattle.charges.specs.Loops.{first_in}
use Rattle.charges.proofs.inner.first_in.Given as goal

abbrev pub invariant-loop-k : goal.invariant-loop-k
invariant-loop-k l = first_in (view l.pairs) l.k l.hi ≡ first_in (view l.pairs) l.lo l.hi
