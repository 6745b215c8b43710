-- `count_trace::Fold::split` meets its contract: the first place that passes. Assumes nothing.
use Rattle.std.proofs.Common.{◌≡◌, true, false, ◌+◌, ◌<◌, length, rules, tests, arith}
use Rattle.std.proofs.lemmas.Iterator.{first_from_Range, serves_from_Range}
use Rattle.cells.specs.Tri.{place}
use Rattle.cells.proofs.Places.{place_below}
use Rattle.count_trace.specs.Reading.{counts}
use Rattle.count_trace.specs.Choosing.{split_at, split_of}
use Rattle.searches.proofs.First.{first_of_range}
use Rattle.count_trace.proofs.Fold.split.Goals as goal

pub find-requires-clause-callable : goal.find-requires-clause-callable
find-requires-clause-callable c = serves_from_Range (λ x q k. search (rules, tests)) (λ x low high.
    let a : place c.args.i x < length c.args.self.now.cells.now = omega (arith, place_below c.args.i x (c.args.j + 1) (omega arith) (omega arith)) in
    let b : place (x + 1) c.args.j < length c.args.self.now.cells.now = omega (arith, place_below (x + 1) c.args.j (c.args.j + 1) (omega arith) (omega arith)) in
    search rules)

pub returns : goal.returns
unfolding split_of split_at
returns c =
    let test = split_at (counts c.args.self.now) c.args.i c.args.j c.args.count in
    first_of_range test (c.args.i + 1) c.args.j _
    (first_from_Range _ _ _ _ (λ k. test k ≡ true) (λ k. test k ≡ false) c.find.ensures.ran
    (λ k q h. search (rules, tests)) (λ k q h. (search rules, search (rules, tests))))
