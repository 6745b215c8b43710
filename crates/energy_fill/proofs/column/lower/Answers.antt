-- `energy_fill::column::lower` meets its contract: one pass of sums, the lesser of two. Assumes nothing.
use Rattle.std.proofs.Common.{◌+◌, pos, arith, rules, subst}
use Rattle.std.proofs.lemmas.Option.{get_or_from_slice_get}
use Rattle.cells.proofs.Passes.{joined_raised}
use Rattle.ints.specs.Ints.{minℤ, add_e, Small}
use Rattle.ints.proofs.Ints.{plain}
use Rattle.energy_fill.proofs.column.lower.Goals as goal

pub pass-requires-clause-callable : goal.pass-requires-clause-callable
pass-requires-clause-callable c = λ i x y h p q.
    (subst Small (get_or_from_slice_get c.args.cells.now (c.args.col + i) y (pos 0) q) (c.requires.3 i h), rw (plain c.args.v c.ranges.v.sfits) c.requires.2)

pub returns : goal.returns
returns c = joined_raised (pos 0) _ _ minℤ (λ x. add_e x c.args.v) _ _ _ _ (omega arith) (omega arith) (λ x y z e. search rules) c.pass.ensures
