-- `energy_search::inner_row` meets its contract: the first place that passes. Assumes nothing.
use Rattle.std.proofs.Common.{◌≡◌, true, false, suc, ◌-◌, ◌≤◌, rules, tests, arith}
use Rattle.std.proofs.lemmas.Iterator.{first_from_Range, serves_from_Range}
use Rattle.structure.specs.Table.{view}
use Rattle.searches.proofs.First.{first_of_range}
use Rattle.figures.specs.Figures.{longest_side}
use Rattle.energy_rule.specs.Memory.{table}
use Rattle.energy_rule.proofs.Parts.{lowest_is}
use Rattle.energy_reach.specs.Reach.{reaches}
use Rattle.energy_search.specs.Search.{inner_row}
use Rattle.energy_search.proofs.inner_row.Goals as goal

pub find-requires-clause-callable : goal.find-requires-clause-callable
find-requires-clause-callable c = serves_from_Range (λ y q k. search (rules, tests)) (λ y low high.
    let w = lowest_is c.args.j c.args.x in
    let a : c.args.x ≤ y = omega arith in
    let b : c.args.j - suc y ≤ longest_side = omega arith in
    search rules)

pub returns : goal.returns
unfolding inner_row
returns c =
    let test = reaches (view c.args.tables.now.bases.now) (table c.args.tables.now.paired.cells.now) c.args.i c.args.j c.args.x in
    rw c.lowest.ensures at (first_of_range test c.lowest.result c.args.j _
    (first_from_Range _ _ _ _ (λ k. test k ≡ true) (λ k. test k ≡ false) c.find.ensures.ran
    (λ k q h. search (rules, tests)) (λ k q h. (search rules, search (rules, tests)))))
