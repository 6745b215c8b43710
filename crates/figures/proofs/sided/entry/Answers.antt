-- `figures::sided::entry` meets its contract: a side without bases, or both with some.
use Prim.Native.Nat.{◌+◌}
use native.Mathlib.Omega.{arith}
use Rattle.ints.proofs.Ints.{ints, is}
use Rattle.figures.specs.Charge.{internal_of}
use Rattle.figures.specs.Sides.{side_charge}
use Rattle.figures.proofs.Charges.{term_low, sized_internal, slant_le}
use Rattle.figures.proofs.Flanks.{between_figured, side_both}
use Rattle.figures.proofs.sided.entry.Goals as goal

pub charge-requires : goal.charge-requires
charge-requires c = rw c.between.ensures (between_figured c.args.left c.args.right 0 0 0 c.requires.0 c.requires.1 (omega arith) (omega arith))

pub returns-then-left-eq0 : goal.returns-then-left-eq0
unfolding side_charge
returns-then-left-eq0 c = is c.charge.result c.charge.type_inv (rw c.between.ensures at c.charge.ensures)

pub overflow_add-result-2 : goal.overflow_add-result-2
overflow_add-result-2 c =
    let both = c.args.left + c.args.right in
    omega (ints, c.requires.2.each both (omega arith) (omega arith), sized_internal both, slant_le c.args.left c.args.right, term_low)

pub returns : goal.returns
unfolding internal_of
returns c =
    let both = c.args.left + c.args.right in
    let e = side_both c.args.left c.args.right (λ e. omega arith) (λ e. omega arith) in
    omega (ints, c.requires.2.each both (omega arith) (omega arith), sized_internal both, slant_le c.args.left c.args.right, term_low)
