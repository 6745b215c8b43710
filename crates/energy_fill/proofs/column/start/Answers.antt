use mathlib.Core.Path.{◌≡◌, ap, ap₂, refl, ◌∙◌}
use Prim.Native.Nat.{◌+◌}
use native.Mathlib.Omega.{arith}
use lib.IntN.{ℤ, pos}
use Rattle.cells.proofs.Fills.{put_set}
use Rattle.cells.proofs.Places.{tri_step}
use Rattle.ints.specs.Ints.{minℤ, add_e}
use Rattle.ints.proofs.Ints.{bk, plain, is}
use Rattle.energy_rule.specs.Memory.{nums}
use Rattle.energy_fill.proofs.Passes.{started_more, begun_by, begun_next, begun_one}
use Rattle.energy_fill.proofs.column.start.Goals as goal

pub loop-i-preserved : goal.loop-i-preserved
loop-i-preserved c =
    started_more _ _ _ _ _ c.loop-i.i _ _ (omega arith) (put_set (pos 0) c.loop-i.cells (c.place-to.result + c.loop-i.i) _ (omega (arith, tri_step c.args.j)))
    (is c.least-in-loop-i.result c.least-in-loop-i.type_inv c.least-in-loop-i.ensures
    ∙ ap₂ minℤ
    (is c.least.result c.least.type_inv c.least.ensures
    ∙ ap (minℤ (bk c.args.limit)) (is c.plus-closed.result c.plus-closed.type_inv c.plus-closed.ensures ∙ ap (λ (v : ℤ). add_e v (bk c.args.charge)) (is c.cell.result c.cell.type_inv c.cell.ensures)))
    (is c.cell-open.result c.cell-open.type_inv c.cell-open.ensures)
    ∙ begun_next (bk c.args.charge) (bk c.args.limit) (nums c.args.paired.now) _ (nums c.args.cells.now) (nums c.loop-i.cells) c.loop-i.i c.args.j c.place-to.result (omega arith) (omega arith) c.loop-i.invariant)
    c.loop-i.invariant

pub returns-then-from-j : goal.returns-then-from-j
returns-then-from-j c =
    let rows : c.loop-i.i ≡ c.args.j = omega arith in
    let last : c.args.j + 1 ≡ c.args.from + 1 = omega arith in
    rw c.store.ensures
    (begun_by _ _ _ _ _ (plain c.args.charge c.ranges.charge.sfits) (plain c.args.limit c.ranges.limit.sfits) last
    (started_more _ _ _ _ _ c.args.j _ _ (omega arith)
    (put_set (pos 0) c.loop-i.cells (c.place-to.result + c.args.j) _ (omega (arith, tri_step c.args.j))) (begun_one _ _ _ _ c.args.j c.args.j (omega arith)) (begun_by _ _ _ _ _ refl refl rows c.loop-i.invariant)))
