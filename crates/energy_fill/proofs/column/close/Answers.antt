-- `energy_fill::column::close` meets its contract: each way is a law of `paired`. Assumes nothing.
use mathlib.Core.Path.{◌≡◌, sym, ap, ap₂, ◌∙◌}
use Prim.Native.Nat.{◌+◌, ◌-◌}
use native.Mathlib.Omega.{arith}
use Rattle.structure.specs.Table.{view}
use Rattle.ints.specs.Ints.{minℤ, add_e}
use Rattle.ints.proofs.Ints.{ints, back, is}
use Rattle.energy_rule.specs.Memory.{nums, table}
use Rattle.energy_rule.specs.Rule.{closing_charge}
use Rattle.energy_rule.proofs.Ruling.{paired_none}
use Rattle.energy_rule.proofs.Parts.{may_far}
use Rattle.energy_inner.proofs.Searching.{range_small}
use Rattle.energy_fill.proofs.Passes.{paired_some}
use Rattle.energy_fill.proofs.column.close.Goals as goal

pub returns-then-not-may_close : goal.returns-then-not-may_close
returns-then-not-may_close c = sym (paired_none _ _ _ _ _ (sym c.may_close.ensures ∙ c.if-not-may_close.true))

pub plus-many-requires : goal.plus-many-requires
plus-many-requires c =
    let w = may_far (view c.args.bases.now) c.args.i c.args.j (sym c.may_close.ensures ∙ c.if-not-may_close.false) in
    let e : c.cell.result ≡ table c.args.arms.now (c.args.i + 1) (c.args.j - 1) = c.cell.ensures ∙ ap (nums c.args.arms.now) c.place-at.ensures in
    let r = range_small (c.args.i + 1) (c.args.j - 1) _ (omega arith) (c.requires.3 (c.args.i + 1) (c.args.j - 1) (omega arith) (omega arith)) in
    omega (ints, back c.cell.result c.cell.type_inv)

pub returns : goal.returns
returns c =
    is c.least-2.result c.least-2.type_inv c.least-2.ensures
    ∙ ap₂ minℤ (is c.least.result c.least.type_inv c.least.ensures ∙ ap₂ minℤ (is c.hairpin_at-hairpin.result c.hairpin_at-hairpin.type_inv c.hairpin_at-hairpin.ensures) (is c.interior-interior.result c.interior-interior.type_inv c.interior-interior.ensures))
    (is c.plus-many.result c.plus-many.type_inv c.plus-many.ensures ∙ ap (λ z. add_e z closing_charge) (is c.cell.result c.cell.type_inv c.cell.ensures ∙ ap (nums c.args.arms.now) c.place-at.ensures))
    ∙ paired_some (view c.args.bases.now) (table c.args.paired.now) (table c.args.arms.now) c.args.i c.args.j (sym c.may_close.ensures ∙ c.if-not-may_close.false)
