use Rattle.std.proofs.Common.{arith, refl, ◌∙◌}
use Rattle.std.proofs.lemmas.Grind.{common_steps}
use Rattle.structure.specs.Table.{view}
use Rattle.count_rule.specs.Rule.{best}
use Rattle.count_fill.proofs.Halves.{full_more}
use Rattle.count_fill.proofs.column.fullest.Goals as goal

pub loop-i-init : goal.loop-i-init
unfolding best
loop-i-init c = refl

pub loop-i-preserved : goal.loop-i-preserved
loop-i-preserved c = c.max-most.ensures ∙ full_more (view c.args.cells.now) _ _ _ _ c.loop-i.invariant (grind (arith, common_steps, c.from.ensures, c.loop-i-test.true))
