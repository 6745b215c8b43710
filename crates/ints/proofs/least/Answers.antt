-- `ints::least` meets its contract: std's smaller of two is the one of the definition.
use Rattle.ints.specs.Ints.{minℤ}
use Rattle.ints.proofs.Ints.{ints}
use Rattle.ints.proofs.least.Goals as goal

pub returns : goal.returns
unfolding minℤ
returns c = grind ints
