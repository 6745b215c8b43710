-- `energy_search::splitting` meets its contract: the first place that passes. Assumes nothing.
use Rattle.std.proofs.Common.{◌≡◌, true, false, ◌+◌, rules, tests}
use Rattle.std.proofs.lemmas.Iterator.{first_from_Range}
use Rattle.searches.proofs.First.{first_of_range}
use Rattle.energy_rule.specs.Memory.{table}
use Rattle.energy_reach.specs.Reach.{split_at}
use Rattle.energy_search.specs.Search.{splitting}
use Rattle.energy_search.proofs.splitting.Goals as goal

pub returns : goal.returns
unfolding splitting
returns c =
    let test = split_at (table c.args.cells.now.cells.now) c.args.i c.args.j in
    first_of_range test (c.args.i + 1) c.args.j _
    (first_from_Range _ _ _ _ (λ k. test k ≡ true) (λ k. test k ≡ false) c.find.ensures.ran
    (λ k q h. search (rules, tests)) (λ k q h. (search rules, search (rules, tests))))
