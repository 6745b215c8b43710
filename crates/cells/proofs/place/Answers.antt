-- `cells::place` meets its contract: the product fits, and the sum is `place` as it is defined. Assumes nothing.
use native.Mathlib.Omega.{arith}
use Rattle.cells.specs.Tri.{tri}
use Rattle.cells.proofs.Places.{product_fits}
use Rattle.cells.proofs.place.Goals as goal

pub overflow_mul-result : goal.overflow_mul-result
overflow_mul-result c = omega (arith, product_fits c.args.j (omega arith))

pub overflow_add-result-2 : goal.overflow_add-result-2
overflow_add-result-2 c = omega (arith, product_fits c.args.j (omega arith))

pub returns : goal.returns
unfolding tri
returns c = omega arith
