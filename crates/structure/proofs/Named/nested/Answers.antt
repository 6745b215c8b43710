use native.Mathlib.Omega.{arith}
use lib.ListN.{length}
use Rattle.structure.specs.Table.{view}
use Rattle.structure.proofs.Checking.{tells_false, tells_map, no_escape}
use Rattle.structure.proofs.Named.nested.Goals as goal

pub loop-i-init : goal.loop-i-init
loop-i-init c = (omega arith, λ x l o h. absurd (omega arith))

pub level-requires : goal.level-requires
level-requires c =
    record { i_in_bounds = omega arith; shut = λ x h. c.loop-i.invariant.1 x (omega arith) }

pub returns-then-not-level : goal.returns-then-not-level
returns-then-not-level c = tells_false (c.level.ensures.fails c.if-not-level.true)

pub loop-i-preserved : goal.loop-i-preserved
loop-i-preserved c = (omega arith, c.level.ensures.holds c.if-not-level.false)

pub walk-requires : goal.walk-requires
walk-requires c =
    record { lo_le_hi = (omega arith, omega arith); shut = λ x h. c.loop-i.invariant.1 x (omega arith) }

pub returns : goal.returns
returns c =
    tells_map (λ f. f) (λ e. absurd (no_escape (view c.args.self.now.table.now) (length c.args.self.now.table.now) (omega arith) c.args.self.now.named e)) c.walk.ensures
