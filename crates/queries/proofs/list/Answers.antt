use mathlib.Core.Path.{◌≡◌}
use native.Mathlib.Omega.{arith}
use lib.ListN.{length}
use Rattle.queries.proofs.Listing.{listing_start, listing_room, listing_step, listing_end}
use Rattle.queries.proofs.list.Goals as goal

pub loop-k-init : goal.loop-k-init
loop-k-init c = listing_start _ _

pub enter-end-requires : goal.enter-end-requires
enter-end-requires c =
    record { k_bound = omega arith; v_in_bounds = omega (arith, listing_room _ _ _ _ _ _ c.loop-k.invariant c.loop-k-test.true c.requires.table_in_bounds) }

pub loop-k-preserved : goal.loop-k-preserved
loop-k-preserved c =
    let room = listing_room _ _ _ _ _ _ c.loop-k.invariant c.loop-k-test.true c.requires.table_in_bounds in
    listing_step _ _ _ _ _ _ _ c.loop-k.invariant room c.enter-end.ensures.value c.enter-end.ensures.out_after

pub shape_of-out : goal.shape_of-out
shape_of-out c = c.loop-k.invariant.long

pub returns : goal.returns
returns c =
    let e : c.loop-k.k ≡ length c.args.table.now = omega arith in
    rw e at (listing_end _ _ _ _ _ c.loop-k.invariant)
