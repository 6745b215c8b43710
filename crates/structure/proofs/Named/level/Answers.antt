-- `structure::Named::level` meets its contract: the walk inside the pair that opens at `i` folds, and so does the pair; or its escape is a
-- crossing. Assumes nothing.
use mathlib.Core.Logic.{◌≢◌}
use Prim.Native.Nat.{◌+◌}
use native.Mathlib.Omega.{arith}
use lib.ListN.{length}
use Rattle.structure.specs.Table.{view, opens}
use Rattle.structure.proofs.Checking.{tells_true, tells_map, shut_bare, shut_open, opens_in, crosses}
use Rattle.structure.proofs.Counts.{opens_true, opens_false, opens_before}
use Rattle.structure.proofs.Named.level.Goals as goal

pub returns-then-not-opens : goal.returns-then-not-opens
returns-then-not-opens c =
    tells_true (shut_bare (view c.args.self.now.table.now) (length c.args.self.now.table.now) (omega arith) c.args.self.now.named c.args.i c.requires.i_in_bounds (opens_false (c.args.i + 1) (view c.args.self.now.table.now c.args.i) c.opens.ensures c.if-not-opens.true) c.requires.shut)

pub walk-requires : goal.walk-requires
walk-requires c =
    let o = opens_true (c.args.i + 1) (view c.args.self.now.table.now c.args.i) c.opens.ensures c.if-not-opens.false in
    let w = opens_in (view c.args.self.now.table.now) (length c.args.self.now.table.now) (omega arith) c.args.self.now.named c.args.i c.requires.i_in_bounds (opens_before c.args.i (view c.args.self.now.table.now c.args.i) (λ z. omega (arith, z, o))) in record { lo_le_hi = (omega (arith, w.0), omega (arith, w.1)); shut = c.requires.shut }

pub returns : goal.returns
returns c =
    let o = opens_true (c.args.i + 1) (view c.args.self.now.table.now c.args.i) c.opens.ensures c.if-not-opens.false in
    let opens-here : opens c.args.i (view c.args.self.now.table.now c.args.i) ≢ 0 = opens_before c.args.i (view c.args.self.now.table.now c.args.i) (λ z. omega (arith, z, o)) in
    tells_map
    (shut_open (view c.args.self.now.table.now) (length c.args.self.now.table.now) (omega arith) c.args.self.now.named c.args.i c.requires.i_in_bounds opens-here c.requires.shut)
    (crosses (view c.args.self.now.table.now) (length c.args.self.now.table.now) (omega arith) c.args.self.now.named c.args.i c.requires.i_in_bounds opens-here)
    (rw c.from.ensures at c.walk.ensures)
