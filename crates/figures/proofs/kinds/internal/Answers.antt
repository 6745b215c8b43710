-- `figures::kinds::internal` meets its contract: the figure of the size, and the slant is added.
use Prim.Native.Nat.{◌+◌}
use Rattle.ints.proofs.Ints.{ints}
use Rattle.figures.specs.Charge.{internal_of}
use Rattle.figures.proofs.Charges.{term_low, sized_internal, slant_le}
use Rattle.figures.proofs.kinds.internal.Goals as goal

pub overflow_add-result : goal.overflow_add-result
overflow_add-result c = omega (ints, sized_internal (c.args.left + c.args.right), slant_le c.args.left c.args.right, term_low)

pub returns : goal.returns
unfolding internal_of
returns c = omega (ints, sized_internal (c.args.left + c.args.right), slant_le c.args.left c.args.right, term_low)
