-- `long_terms::hairpin` is safe: a fold's hairpins have figures, and these are small.
use Rattle.ints.proofs.Ints.{ints}
use Rattle.figures.proofs.Charges.{figure_low, hairpin_of_in}
use Rattle.long_terms.proofs.hairpin.Goals as goal

pub magnitude-requires : goal.magnitude-requires
magnitude-requires c = omega (ints, hairpin_of_in c.args.size 0, figure_low)

pub returns : goal.returns
returns c = omega (ints, hairpin_of_in c.args.size 0, figure_low)
