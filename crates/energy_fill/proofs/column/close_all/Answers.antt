use mathlib.Core.Path.{◌≡◌, subst}
use Prim.Native.Nat.{◌+◌}
use native.Mathlib.Omega.{arith}
use lib.IntN.{pos}
use Rattle.structure.specs.Table.{view}
use Rattle.cells.proofs.Places.{tri_step}
use Rattle.cells.proofs.Fills.{put_set}
use Rattle.ints.proofs.Ints.{is}
use Rattle.energy_rule.specs.Memory.{nums}
use Rattle.energy_inner.specs.Search.{InPaired}
use Rattle.energy_fill.specs.Passes.{Started}
use Rattle.energy_fill.proofs.Passes.{started_fine, closed_more}
use Rattle.energy_fill.proofs.column.close_all.Goals as goal

pub close-requires : goal.close-requires
close-requires c = (
  omega arith,
  record {
    short = c.requires.2.short;
    base = c.requires.2.base;
    room = omega (arith, tri_step c.args.j);
    fine = started_fine _ _ _ (InPaired (view c.args.bases.now)) (nums c.loop-i.paired) _ c.loop-i.invariant c.requires.2.fine;
  },
  c.requires.3,
  c.requires.4,
)

pub loop-i-preserved : goal.loop-i-preserved
loop-i-preserved c =
    closed_more _ _ _ _ _ _ c.loop-i.i _ _ (omega arith) (put_set (pos 0) c.loop-i.paired (c.place-to.result + c.loop-i.i) _ (omega (arith, tri_step c.args.j)))
    (is c.close.result c.close.type_inv c.close.ensures) c.loop-i.invariant

pub returns : goal.returns
returns c =
    let last : c.loop-i.i ≡ c.args.from + 1 = omega arith in
    subst (Started _ _ _ _) last c.loop-i.invariant
