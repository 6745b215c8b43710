use native.Mathlib.Omega.{arith}
use lib.ListN.{length}
use borrow.Author.Count.{below_more}
use Rattle.structure.specs.Table.{view}
use Rattle.structure.proofs.Checking.{crossed_first, not_all_clear}
use Rattle.structure.proofs.Named.lowest_crossed.Goals as goal

pub returns-then-crossed_at : goal.returns-then-crossed_at
returns-then-crossed_at c =
    crossed_first (view c.args.self.now.table.now) (length c.args.self.now.table.now) c.loop-a.a c.loop-a.invariant (c.crossed_at.ensures.holds c.if-crossed_at.true)

pub loop-a-preserved : goal.loop-a-preserved
loop-a-preserved c =
    below_more _ _ c.loop-a.invariant (c.crossed_at.ensures.fails c.if-crossed_at.false)

pub unreachable-requires : goal.unreachable-requires
unreachable-requires c =
    not_all_clear (view c.args.self.now.table.now) (length c.args.self.now.table.now) c.requires.crossing (λ j h. c.loop-a.invariant j (omega arith))
