use Rattle.sequences.proofs.Letters.{letter_at}
use lib.ListN.{length, length-map}
use Rattle.structure.proofs.Fronts.{front_start, front_step, front_end}
use Rattle.bases.specs.Bases.{normal}
use native.Mathlib.Omega.{arith}
use mathlib.Core.List.{map}
use mathlib.Core.Path.{◌≡◌, sym, ◌∙◌}
use Rattle.sequences.proofs.keep.Goals as goal

pub loop-k-init : goal.loop-k-init
loop-k-init c = front_start _ _

pub bounds-letters-k : goal.bounds-letters-k
bounds-letters-k c = omega arith

pub loop-k-preserved : goal.loop-k-preserved
loop-k-preserved c =
    let long = length-map c.args.sequence.now normal in
    front_step _ _ _ _ _ c.loop-k.invariant (omega arith) (omega arith) (c.letter_of.ensures ∙ sym (letter_at c.args.sequence.now c.loop-k.k))

pub shape_of-letters : goal.shape_of-letters
shape_of-letters c = c.loop-k.invariant.long

pub returns : goal.returns
returns c =
    let long = length-map c.args.sequence.now normal in
    let e : c.loop-k.k ≡ length (map normal c.args.sequence.now) = omega arith in
    rw (← long) (front_end _ _ _ (rw e at c.loop-k.invariant))
