-- `charges::Strand::energy_of` meets its contract. The loop's invariant: the sum is that of the loops that open before i, which stays small.
use mathlib.Core.Path.{◌≡◌}
use Rattle.structure.specs.Table.{view}
use Rattle.charges.specs.Loops.{total}
use Rattle.charges.proofs.Strand.energy_of.Given as goal

abbrev pub invariant-loop-i : goal.invariant-loop-i
invariant-loop-i l = l.sum ≡ total (view l.self.bases.now) (view l.self.pairs.now) l.i
