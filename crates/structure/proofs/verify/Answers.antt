-- `structure::verify` meets its contract: 3, then what `unsound` finds. Assumes nothing.
use lib.ListN.{length}
use borrow.Author.Tests.{lt-ltb, le-ltb}
use Rattle.refusals.specs.Refusals.{structure_limit}
use Rattle.structure.specs.Soundness.{table_due}
use Rattle.structure.proofs.verify.Goals as goal

pub returns-then-table-gt-STRUCTURE_LIMIT : goal.returns-then-table-gt-STRUCTURE_LIMIT
unfolding table_due
returns-then-table-gt-STRUCTURE_LIMIT c = rw (lt-ltb structure_limit (length c.args.table.now) c.if-table-gt-STRUCTURE_LIMIT.true)

pub returns : goal.returns
unfolding table_due
returns c =
    rw (le-ltb structure_limit (length c.args.table.now) c.if-table-gt-STRUCTURE_LIMIT.false) c.unsound.ensures
