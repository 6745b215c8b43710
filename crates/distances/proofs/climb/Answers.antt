use mathlib.Core.Path.{◌≡◌, refl, ◌∙◌, ap}
use Prim.Native.Nat.{◌+◌}
use native.Mathlib.Omega.{arith}
use lib.ListN.{length}
use Rattle.structure.specs.Table.{view}
use Rattle.structure.proofs.Counts.{opened_le}
use Rattle.distances.specs.Distance.{climbs}
use Rattle.distances.proofs.Distances.{height_step, climbing_step, climbs_le}
use Rattle.distances.proofs.climb.Goals as goal

pub loop-k-init : goal.loop-k-init
loop-k-init c = record { left = refl; right = refl; total = refl }

pub raised-x-requires : goal.raised-x-requires
raised-x-requires c =
    let p = view c.args.a.now in record { h_le_structure_limit = omega (arith, opened_le p c.loop-k.k); v_bound = (height_step p c.loop-k.k _ c.requires.sound (omega arith) c.loop-k.invariant.left).0 }

pub raised-y-requires : goal.raised-y-requires
raised-y-requires c =
    let q = view c.args.b.now in record { h_le_structure_limit = omega (arith, opened_le q c.loop-k.k); v_bound = (height_step q c.loop-k.k _ c.requires.sound_2 (omega arith) c.loop-k.invariant.right).0 }

pub loop-k-preserved : goal.loop-k-preserved
loop-k-preserved c =
    let p = view c.args.a.now in
    let q = view c.args.b.now in
    climbing_step p q c.loop-k.k _ _ _ c.loop-k.invariant
    (c.raised-x.ensures ∙ (height_step p c.loop-k.k _ c.requires.sound (omega arith) c.loop-k.invariant.left).1)
    (c.raised-y.ensures ∙ (height_step q c.loop-k.k _ c.requires.sound_2 (omega arith) c.loop-k.invariant.right).1)
    c.abs_diff-sum.ensures

pub overflow_add-sum : goal.overflow_add-sum
overflow_add-sum c =
    let p = view c.args.a.now in
    let q = view c.args.b.now in
    let step = climbing_step p q c.loop-k.k _ _ _ c.loop-k.invariant
    (c.raised-x.ensures ∙ (height_step p c.loop-k.k _ c.requires.sound (omega arith) c.loop-k.invariant.left).1)
    (c.raised-y.ensures ∙ (height_step q c.loop-k.k _ c.requires.sound_2 (omega arith) c.loop-k.invariant.right).1)
    c.abs_diff-sum.ensures in
    let e = step.total in
    omega (arith, climbs_le p q (c.loop-k.k + 1) (omega arith))

pub returns : goal.returns
returns c =
    let e : c.loop-k.k ≡ length c.args.a.now = omega arith in
    c.loop-k.invariant.total ∙ ap (climbs (view c.args.a.now) (view c.args.b.now)) e
