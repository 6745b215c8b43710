-- `count_edits::erased` meets its contract: the count of the bases that are left is read where it stands. Assumes nothing.
use Rattle.std.proofs.Common.{◌-◌, arith, sym}
use Rattle.cells.proofs.Places.{tri_mono}
use Rattle.count_kept.proofs.Believable.{believable}
use Rattle.count_edits.proofs.erased.Goals as goal

pub overflow_sub-shorter : goal.overflow_sub-shorter
overflow_sub-shorter c =
    let e = believable _ _ _ (sym c.in_ok-kept_checks.ensures) in
    omega (arith, e.some)

pub count-requires : goal.count-requires
count-requires c =
    let e = believable _ _ _ (sym c.in_ok-kept_checks.ensures) in
    omega (arith, e.some, e.short, e.cells, tri_mono (c.args.held.length - 1) c.args.held.length (omega arith))
