use mathlib.Core.Path.{◌≡◌, sym, ap, subst, ◌∙◌}
use mathlib.Core.List.{List}
use Prim.Native.Nat.{ℕ, ◌+◌, ◌^◌, ◌<◌}
use native.Mathlib.Omega.{arith}
use lib.IntN.{ℤ, pos}
use lib.Signed.{mag}
use Rattle.cells.specs.Tri.{tri, place}
use Rattle.cells.specs.Fill.{at}
use Rattle.cells.proofs.Fills.{put_set}
use Rattle.cells.proofs.Places.{tri_step, tri_below}
use Rattle.ints.specs.Ints.{minℤ, Small}
use Rattle.ints.proofs.Ints.{bk, is}
use Rattle.energy_rule.specs.Memory.{nums}
use Rattle.energy_inner.proofs.Searching.{range_small}
use Rattle.energy_fill.proofs.Passes.{taken_far, taken_near}
use Rattle.energy_fill.proofs.column.take.Goals as goal

-- what is read at the place of a cell
read : (t : List ℤ) (i j p : ℕ) (z : ℤ) → mag z < 2 ^ 31 → z ≡ nums t p → p ≡ place i j → bk z ≡ at (nums t) i j
read t i j p z h q e = is z h (q ∙ ap (nums t) e)

pub lower-requires : goal.lower-requires
lower-requires c = (
  omega (arith, tri_below c.args.k c.args.j (omega arith)),
  omega (arith, tri_step c.args.j),
  subst Small (sym (read _ (c.args.k + 1) c.args.j _ _ c.cell-v.type_inv c.cell-v.ensures (omega arith)))
      (range_small (c.args.k + 1) c.args.j _ (omega arith) (c.requires.4 (c.args.k + 1) c.args.j (omega arith) (omega arith))),
  λ i h.
      let p : tri c.args.k ≡ c.place.result = omega arith in
      subst (λ (y : ℕ). Small (nums c.args.cells.now (y + i))) p
      (range_small i c.args.k _ (omega arith) (c.requires.4 i c.args.k (omega arith) (omega arith))),
)

pub returns-then-k-from : goal.returns-then-k-from
returns-then-k-from c =
    taken_near (nums c.args.cells.now) (nums c.lower.new.cells) c.args.j c.args.from c.args.k c.place.result c.place-to.result c.min.result _ (omega arith) (omega arith) c.min.ensures
    (read _ (c.args.k + 1) c.args.j _ _ c.cell-v.type_inv c.cell-v.ensures (omega arith)) c.lower.ensures _ (c.place-to.result + c.args.k) _ (omega arith) (omega arith)
    (put_set (pos 0) c.lower.new.cells (c.place-to.result + c.args.k) _ (omega (arith, tri_step c.args.j)))
    (is c.least.result c.least.type_inv c.least.ensures ∙ ap (λ z. minℤ z (bk c.cell-v.result)) (is c.cell.result c.cell.type_inv c.cell.ensures))

pub returns-else-k-from : goal.returns-else-k-from
returns-else-k-from c =
    taken_far (nums c.args.cells.now) (nums c.lower.new.cells) c.args.j c.args.from c.args.k c.place.result c.place-to.result c.min.result _ (omega arith) (omega arith) c.min.ensures
    (read _ (c.args.k + 1) c.args.j _ _ c.cell-v.type_inv c.cell-v.ensures (omega arith)) c.lower.ensures (omega arith)
