-- `count_kept::all_kept` meets its contract: it asks each byte. Assumes nothing.
use Rattle.std.proofs.Common.{rules, tests, arith, ap, ◌≡◌, true, false, take, length-take-le, get_or-take}
use Rattle.std.proofs.lemmas.Iterator.{cases_from_all, YieldsList-from_slice}
use Rattle.bases.specs.Bases.{is_kept}
use Rattle.count_fill.proofs.Halves.{every_item}
use Rattle.structure.specs.Table.{view}
use Rattle.count_kept.specs.Checks.{all_kept}
use Rattle.count_kept.proofs.all_kept.Goals as goal

pub returns : goal.returns
unfolding all_kept
returns c =
    let front = take c.args.n c.args.bases.now in
    every_item (λ k. is_kept (view c.args.bases.now k)) is_kept c.args.n front _ (length-take-le _ _ (omega arith))
    (λ k h. ap is_kept (get_or-take _ _ _ _ h))
    (cases_from_all _ _ _ (λ x. is_kept x ≡ true) (λ x. is_kept x ≡ false) c.all.ensures.ran (YieldsList-from_slice front cc)
    (λ x q k. search (rules, tests)) (λ x q k. search (rules, tests)))
