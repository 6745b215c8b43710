use Rattle.std.proofs.Common.{◌≡◌, ◌+◌, ◌-◌, max, ap, arith}
use Rattle.cells.specs.Tri.{place}
use Rattle.cells.proofs.Places.{tri_mono, tri_step}
use Rattle.structure.specs.Table.{view}
use Rattle.cells.proofs.Passes.{settled_none, settled_next, raised_taken, tri_back}
use Rattle.count_fill.specs.Passes.{AnyHalf, both}
use Rattle.count_fill.proofs.Passes.{half_step, fit}
use Rattle.count_fill.proofs.column.settle.Goals as goal

pub loop-k-init : goal.loop-k-init
loop-k-init c = (omega (arith, c.place-col.ensures), settled_none max both AnyHalf half_step _ _ _ c.requires.3 (omega arith))

pub overflow_sub-col : goal.overflow_sub-col
overflow_sub-col c = omega (arith, tri_back c.loop-k.k (omega arith))

pub raise-requires : goal.raise-requires
raise-requires c =
    let here : c.place-col.result + (c.loop-k.k - 1) + 1 ≡ place c.loop-k.k c.args.j = omega (arith, c.place-col.ensures) in (
      omega (arith, tri_back c.loop-k.k (omega arith), tri_mono c.loop-k.k c.args.j (omega arith)),
      omega (arith, tri_step c.args.j),
      fit (view c.loop-k.cells) c.args.j c.loop-k.k (c.loop-k.k - 1) _ _ _ (omega arith) (omega arith) (omega arith) (omega (arith, tri_back c.loop-k.k (omega arith))) (omega arith)
          (ap (view c.loop-k.cells) here) c.loop-k.invariant.1.fine,
    )

pub loop-k-preserved : goal.loop-k-preserved
loop-k-preserved c =
    let here : c.place-col.result + (c.loop-k.k - 1) + 1 ≡ place (c.loop-k.k - 1 + 1) c.args.j = omega (arith, c.place-col.ensures) in (
      omega (arith, tri_back c.loop-k.k (omega arith)),
      settled_next max both AnyHalf half_step _ _ _ _ _ c.loop-k.k (c.loop-k.k - 1) (omega arith) (omega arith) (omega arith)
          (raised_taken max (λ x. x + view c.loop-k.cells (c.place-col.result + (c.loop-k.k - 1) + 1)) both _ _ _ _ _ (c.loop-k.k - 1) c.loop-k.k _ _ _ (omega arith) (omega (arith, tri_back c.loop-k.k (omega arith))) (omega (arith, c.place-col.ensures))
          (omega (arith, c.min.ensures))
          (λ i h. omega (arith, ap (view c.loop-k.cells) here)) c.raise.ensures) c.loop-k.invariant.1,
    )
