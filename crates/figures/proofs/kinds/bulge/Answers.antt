-- `figures::kinds::bulge` meets its contract: the table lent to `sized` is the list of figures, and only size 1 has the stack.
use native.Mathlib.Omega.{arith}
use Rattle.ints.proofs.Ints.{ints}
use Rattle.figures.specs.Figures as fig
use Rattle.figures.specs.Charge.{bulge}
use Rattle.figures.proofs.Charges.{term_low, bulge_small, sized_bulge, stack_at_in, bulge_one, bulge_other}
use Rattle.figures.proofs.kinds.bulge.Goals as goal

pub sized-own-requires-clause-by_index : goal.sized-own-requires-clause-by_index
unfolding bulge fig.bulge
sized-own-requires-clause-by_index c = bulge_small

pub overflow_add-result : goal.overflow_add-result
unfolding bulge fig.bulge
overflow_add-result c = omega (ints, sized_bulge c.args.size, stack_at_in c.args.outer c.args.inner, term_low)

pub returns-then-size-eq1 : goal.returns-then-size-eq1
unfolding bulge fig.bulge
returns-then-size-eq1 c =
    omega (
      ints,
      sized_bulge c.args.size,
      stack_at_in c.args.outer c.args.inner,
      term_low,
      bulge_one c.args.size c.args.outer c.args.inner (omega arith),
    )

pub returns : goal.returns
unfolding bulge fig.bulge
returns c = omega (ints, sized_bulge c.args.size, term_low, bulge_other c.args.size c.args.outer c.args.inner (λ e. omega arith))
