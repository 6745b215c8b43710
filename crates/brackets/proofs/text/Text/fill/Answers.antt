use mathlib.Core.Path.{◌≡◌}
use native.Mathlib.Omega.{arith}
use lib.ListN.{length}
use Rattle.brackets.proofs.Stack.{writing_start, writing_step, writing_below, writing_end, top_small}
use Rattle.brackets.proofs.text.Text.fill.Goals as goal

pub loop-k-init : goal.loop-k-init
loop-k-init c = writing_start _ _

pub put-top-requires : goal.put-top-requires
put-top-requires c =
    record { i_in_bounds = omega arith; i_lt_structure_limit = omega arith; top_le_unpaired = top_small _ c.loop-k.invariant.stack (omega arith); top_lt_i = writing_below _ _ _ _ _ c.loop-k.invariant (c.requires.clean c.loop-k.k (omega arith)) }

pub loop-k-preserved : goal.loop-k-preserved
loop-k-preserved c =
    writing_step _ _ _ _ _ c.loop-k.invariant _ _ (omega arith) (omega arith) (c.requires.clean c.loop-k.k (omega arith)) c.put-top.ensures.pairs_after c.put-top.ensures.value

pub shape_of-pairs : goal.shape_of-pairs
shape_of-pairs c = c.loop-k.invariant.long

pub returns : goal.returns
returns c =
    let e : c.loop-k.k ≡ length c.args.self.now.bytes.now = omega arith in
    writing_end _ _ _ c.loop-k.top (rw e at c.loop-k.invariant) c.requires.text_value (omega arith)
