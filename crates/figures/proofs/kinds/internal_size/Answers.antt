-- `figures::kinds::internal_size` meets its contract: the table lent to `sized` is the list of figures.
use Rattle.figures.specs.Figures as fig
use Rattle.figures.specs.Charge.{internal}
use Rattle.figures.proofs.Charges.{internal_small}
use Rattle.figures.proofs.kinds.internal_size.Goals as goal

pub sized-requires-clause-by_index : goal.sized-requires-clause-by_index
unfolding internal fig.internal
sized-requires-clause-by_index c = internal_small
