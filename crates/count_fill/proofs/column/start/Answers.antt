use Rattle.std.proofs.Common.{◌≡◌, ◌+◌, ◌<◌, length, subst, arith}
use Rattle.cells.proofs.Fills.{put_set}
use Rattle.cells.proofs.Places.{place_below}
use Rattle.count_fill.specs.Passes.{Started}
use Rattle.count_fill.proofs.Passes.{started_more, started_fine}
use Rattle.count_fill.proofs.column.start.Goals as goal

pub opening-requires : goal.opening-requires
opening-requires c = (
  omega arith,
  record { short = omega arith; base = omega arith; room = omega arith; fine = started_fine _ _ _ _ _ _ c.loop-i.invariant c.requires.1.fine },
)

pub loop-i-preserved : goal.loop-i-preserved
loop-i-preserved c =
    let within : c.place-to.result + c.loop-i.i < length c.loop-i.cells = omega (arith, place_below c.loop-i.i c.args.j (c.args.j + 1) (omega arith) (omega arith)) in
    started_more _ _ _ _ _ _ c.loop-i.i _ _ (omega arith) (omega arith) (put_set 0 c.loop-i.cells _ _ within) c.opening.ensures c.loop-i.invariant

pub returns : goal.returns
returns c =
    let last : c.loop-i.i ≡ c.args.from + 1 = omega arith in
    subst (Started _ _ _ _ _) last c.loop-i.invariant
