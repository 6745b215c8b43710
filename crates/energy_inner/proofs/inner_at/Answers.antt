-- `energy_inner::inner_at` meets its contract: each way is a law of `inner_at`.
use mathlib.Core.Path.{◌≡◌, sym, ap, ◌∙◌}
use native.Mathlib.Omega.{arith}
use Rattle.structure.specs.Table.{view}
use Rattle.ints.proofs.Ints.{ints, plain, back}
use Rattle.figures.proofs.Charges.{figure_low}
use Rattle.closing.proofs.Closing.{close_pair, close_far, own_in}
use Rattle.energy_rule.specs.Memory.{nums, table}
use Rattle.energy_inner.proofs.Searching.{inner_none, inner_some}
use Rattle.energy_inner.proofs.inner_at.Goals as goal

pub own-requires : goal.own-requires
own-requires c =
    let b = view c.args.bases.now in
    let e = sym c.may_close.ensures ∙ c.if-may_close.true in
    let f = close_far b c.args.x c.args.y e in record {
      i_lt_x = (omega arith, omega arith, omega arith, omega arith, omega arith, omega arith);
      j_value = (close_pair b c.args.i c.args.j c.requires.closes.1, close_pair b c.args.x c.args.y e);
    }

pub plus-requires : goal.plus-requires
plus-requires c =
    let e : c.cell.result ≡ table c.args.paired.now c.args.x c.args.y = c.cell.ensures ∙ ap (nums c.args.paired.now) c.place.ensures in
    omega (
      ints,
      back c.cell.result c.cell.type_inv,
      back c.own.result c.own.type_inv,
      c.requires.readable.2,
      own_in (view c.args.bases.now) c.args.i c.args.j c.args.x c.args.y,
      figure_low,
    )

pub returns-then-may_close : goal.returns-then-may_close
returns-then-may_close c =
    cc (
      plain c.plus.result c.plus.type_inv,
      plain c.cell.result c.cell.type_inv,
      plain c.own.result c.own.type_inv,
      inner_some (view c.args.bases.now) (table c.args.paired.now) c.args.i c.args.j c.args.x c.args.y (sym c.may_close.ensures ∙ c.if-may_close.true),
    )

pub returns-else-may_close : goal.returns-else-may_close
returns-else-may_close c = sym (inner_none _ _ _ _ _ _ (sym c.may_close.ensures ∙ c.if-may_close.false))
