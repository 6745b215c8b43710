use mathlib.Core.Path.{◌≡◌, sym, ◌∙◌}
use native.Mathlib.Omega.{arith}
use lib.ListN.{length}
use Rattle.structure.specs.Table.{view}
use Rattle.structure.proofs.Checking.{tells_true, tells_false, hop_on, hop_out}
use Rattle.structure.proofs.Folds.{empty}
use Rattle.structure.proofs.Named.walk.Goals as goal

pub loop-x-init : goal.loop-x-init
loop-x-init c = (omega arith, omega arith, empty _ _ (omega arith))

pub returns-in_default : goal.returns-in_default
returns-in_default c =
    tells_false (hop_out (view c.args.self.now.table.now) (length c.args.self.now.table.now) (omega arith) c.args.self.now.named c.args.lo c.args.hi c.loop-x.x
    c.requires.shut c.loop-x.invariant.0 (omega arith) c.requires.lo_le_hi.1 c.loop-x.invariant.2 (sym c.hop.ensures ∙ c.in_default.is))

pub loop-x-smaller : goal.loop-x-smaller
loop-x-smaller c =
    let w = hop_on (view c.args.self.now.table.now) (length c.args.self.now.table.now) (omega arith) c.args.self.now.named c.args.lo c.args.hi c.loop-x.x
    c.requires.shut c.loop-x.invariant.0 (omega arith) c.requires.lo_le_hi.1 c.loop-x.invariant.2 c.in-Some.y (sym c.hop.ensures ∙ c.in-Some.is) in
    omega (arith, w.0, w.1)

pub loop-x-preserved : goal.loop-x-preserved
loop-x-preserved c =
    let w = hop_on (view c.args.self.now.table.now) (length c.args.self.now.table.now) (omega arith) c.args.self.now.named c.args.lo c.args.hi c.loop-x.x
    c.requires.shut c.loop-x.invariant.0 (omega arith) c.requires.lo_le_hi.1 c.loop-x.invariant.2 c.in-Some.y (sym c.hop.ensures ∙ c.in-Some.is) in
    (omega (arith, w.0), w.1, w.2)

pub returns : goal.returns
returns c =
    let e : c.loop-x.x ≡ c.args.hi = omega arith in
    tells_true (rw e at c.loop-x.invariant.2)
