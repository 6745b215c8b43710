-- `figures::kinds::sized` meets its contract: a figure and a term are small.
use Prim.Native.Nat.{◌-◌}
use Rattle.ints.proofs.Ints.{ints}
use Rattle.figures.specs.Charge.{sized}
use Rattle.figures.proofs.Charges.{long_in, term_low}
use Rattle.figures.proofs.kinds.sized.Goals as goal

pub overflow_add-result : goal.overflow_add-result
overflow_add-result c = omega (ints, c.requires.by_index (30 - c.args.first), long_in (c.args.size - 31), term_low)

pub returns : goal.returns
unfolding sized
returns c = grind (ints, c.requires.by_index (30 - c.args.first), long_in (c.args.size - 31), term_low)
