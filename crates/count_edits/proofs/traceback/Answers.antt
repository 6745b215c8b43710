-- `count_edits::traceback` meets its contract: what the row of checks leaves is what the walk asks. Assumes nothing.
use Rattle.std.proofs.Common.{arith, sym}
use Rattle.count_kept.proofs.Believable.{believable}
use Rattle.count_edits.proofs.traceback.Goals as goal

pub traceback-requires : goal.traceback-requires
traceback-requires c =
    let e = believable _ _ _ (sym c.in_ok-kept_checks.ensures) in
    record { order = omega arith; short = omega (arith, e.short); bases = e.bases; cells = e.cells; out = c.if-pairs-n.false }

pub count-requires : goal.count-requires
count-requires c =
    let e = believable _ _ _ (sym c.in_ok-kept_checks.ensures) in
    omega (arith, e.some, e.short, e.cells)
