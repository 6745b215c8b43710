-- `count_fill::column::raise` meets its contract: one pass of sums, the larger of two. Assumes nothing.
use Rattle.std.proofs.Common.{◌+◌, max, arith, rules}
use Rattle.std.proofs.lemmas.Option.{get_or_from_slice_get}
use Rattle.cells.proofs.Passes.{joined_raised}
use Rattle.count_fill.proofs.column.raise.Goals as goal

pub pass-requires-clause-callable : goal.pass-requires-clause-callable
pass-requires-clause-callable c = λ i x y h p q.
    omega (arith, c.requires.2 i h, get_or_from_slice_get c.args.cells.now (c.args.col + i) y 0 q)

pub returns : goal.returns
returns c = joined_raised 0 _ _ max (λ x. x + c.args.v) _ _ _ _ (omega arith) (omega arith) (λ x y z e. search rules) c.pass.ensures
