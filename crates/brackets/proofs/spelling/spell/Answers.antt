use mathlib.Core.Path.{◌≡◌, sym, ◌∙◌}
use native.Mathlib.Omega.{arith}
use lib.ListN.{length}
use Rattle.structure.proofs.Fronts.{front_start, front_step, front_end}
use Rattle.brackets.specs.Brackets.{brackets}
use Rattle.brackets.proofs.Glyphs.{brackets_at, brackets_long}
use Rattle.brackets.proofs.spelling.spell.Goals as goal

pub loop-k-init : goal.loop-k-init
loop-k-init c = front_start _ _

pub loop-k-preserved : goal.loop-k-preserved
loop-k-preserved c =
    let long = brackets_long c.args.table.now in
    front_step _ _ _ _ _ c.loop-k.invariant (omega arith) (omega arith) (c.bracket.ensures ∙ sym (brackets_at c.args.table.now c.loop-k.k (omega arith)))

pub shape_of-text : goal.shape_of-text
shape_of-text c = c.loop-k.invariant.long

pub returns : goal.returns
returns c =
    let long = brackets_long c.args.table.now in
    let e : c.loop-k.k ≡ length (brackets c.args.table.now) = omega arith in
    rw (← long) (front_end _ _ _ (rw e at c.loop-k.invariant))
