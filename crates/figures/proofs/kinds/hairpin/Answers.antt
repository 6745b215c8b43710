-- `figures::kinds::hairpin` meets its contract: the table lent to `sized` is the list of figures, and only the smallest goes without the mismatch.
use native.Mathlib.Omega.{arith}
use Rattle.ints.proofs.Ints.{ints}
use Rattle.figures.specs.Figures as fig
use Rattle.figures.specs.Charge.{hairpin}
use Rattle.figures.proofs.Charges.{term_low, hairpin_small, sized_hairpin, mismatch_in, hairpin_smallest, hairpin_other}
use Rattle.figures.proofs.kinds.hairpin.Goals as goal

pub sized-own-requires-clause-by_index : goal.sized-own-requires-clause-by_index
unfolding hairpin fig.hairpin
sized-own-requires-clause-by_index c = hairpin_small

pub returns-then-size-eq-SMALLEST_HAIRPIN : goal.returns-then-size-eq-SMALLEST_HAIRPIN
unfolding hairpin fig.hairpin
returns-then-size-eq-SMALLEST_HAIRPIN c =
    omega (ints, sized_hairpin c.args.size, term_low, hairpin_smallest c.args.size c.args.purines (omega arith))

pub overflow_add-result : goal.overflow_add-result
unfolding hairpin fig.hairpin
overflow_add-result c = omega (ints, sized_hairpin c.args.size, mismatch_in c.args.purines, term_low)

pub returns : goal.returns
unfolding hairpin fig.hairpin
returns c =
    omega (
      ints,
      sized_hairpin c.args.size,
      mismatch_in c.args.purines,
      term_low,
      hairpin_other c.args.size c.args.purines (λ e. omega arith),
    )
