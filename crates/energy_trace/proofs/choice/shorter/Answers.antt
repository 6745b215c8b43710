-- `energy_trace::choice::shorter` meets its contract: the split lies inside the span. Assumes nothing.
use mathlib.Core.Path.{sym, ◌∙◌}
use native.Mathlib.Omega.{arith}
use Rattle.energy_rule.specs.Memory.{table}
use Rattle.energy_search.proofs.Searching.{splitting_in}
use Rattle.energy_trace.proofs.choice.shorter.Goals as goal

pub overflow_add-result : goal.overflow_add-result
overflow_add-result c =
    let b = splitting_in (table c.args.cells.now.cells.now) _ _ (sym c.splitting.ensures ∙ c.in-Some.is) in omega arith
