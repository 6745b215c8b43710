-- `count_fill::believable` meets its contract: it asks each column. Assumes nothing.
use Rattle.std.proofs.Common.{rules, tests, arith, refl, ◌≡◌, true, false}
use Rattle.std.proofs.lemmas.Iterator.{cases_from_all, serves_from_Range, YieldsList-from_range}
use Rattle.cells.proofs.Places.{tri_mono}
use Rattle.cells.specs.Fill.{at}
use Rattle.structure.specs.Table.{view}
use Rattle.count_fill.specs.Believable.{column_half}
use Rattle.count_fill.proofs.Halves.{all_columns}
use Rattle.count_fill.proofs.believable.Goals as goal

pub all-requires-clause-callable : goal.all-requires-clause-callable
all-requires-clause-callable c = serves_from_Range (λ x q k. search (rules, tests)) (λ x low high. search (rules, arith, tri_mono))

pub returns : goal.returns
returns c =
    let f = column_half (at (view c.args.cells.now)) in
    all_columns (at (view c.args.cells.now)) c.args.n _
    (cases_from_all _ _ _ (λ j. f j ≡ true) (λ j. f j ≡ false) c.all.ensures.ran (YieldsList-from_range 0 c.args.n c.args.n refl (omega arith))
    (λ x q k. search (rules, tests)) (λ x q k. search (rules, tests)))
