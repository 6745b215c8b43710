-- `energy_inner::interior` meets its contract: the four candidates together are the rule (`search_is`).
use mathlib.Core.Path.{ap₂, ◌∙◌}
use native.Mathlib.Omega.{arith}
use Rattle.structure.specs.Table.{view}
use Rattle.ints.specs.Ints.{minℤ}
use Rattle.ints.proofs.Ints.{is}
use Rattle.energy_rule.specs.Memory.{nums}
use Rattle.energy_rule.proofs.Parts.{may_far}
use Rattle.energy_inner.proofs.Searching.{readable, search_is}
use Rattle.energy_inner.proofs.interior.Goals as goal

pub inner_at-stack-requires-clause-readable : goal.inner_at-stack-requires-clause-readable
inner_at-stack-requires-clause-readable c =
    let w = may_far (view c.args.bases.now) c.args.i c.args.j c.requires.1 in readable _ _ _ _ _ c.requires.0 (omega arith) (omega arith)

pub inner_at-left-requires-clause-readable : goal.inner_at-left-requires-clause-readable
inner_at-left-requires-clause-readable c =
    let w = may_far (view c.args.bases.now) c.args.i c.args.j c.requires.1 in readable _ _ _ _ _ c.requires.0 (omega arith) (omega arith)

pub inner_at-right-requires-clause-readable : goal.inner_at-right-requires-clause-readable
inner_at-right-requires-clause-readable c =
    let w = may_far (view c.args.bases.now) c.args.i c.args.j c.requires.1 in readable _ _ _ _ _ c.requires.0 (omega arith) (omega arith)

pub returns : goal.returns
returns c =
    is c.least-3.result c.least-3.type_inv c.least-3.ensures
    ∙ ap₂ minℤ
    (is c.least.result c.least.type_inv c.least.ensures ∙ ap₂ minℤ (is c.near-other.result c.near-other.type_inv c.near-other.ensures) (is c.inner_at-stack.result c.inner_at-stack.type_inv c.inner_at-stack.ensures))
    (is c.least-2.result c.least-2.type_inv c.least-2.ensures ∙ ap₂ minℤ (is c.inner_at-left.result c.inner_at-left.type_inv c.inner_at-left.ensures) (is c.inner_at-right.result c.inner_at-right.type_inv c.inner_at-right.ensures))
    ∙ search_is (view c.args.bases.now) (nums c.args.paired.now) (nums c.args.sides.now.charges.now) c.args.i c.args.j c.args.sides.now.right.each c.requires.0.fine
    (may_far (view c.args.bases.now) c.args.i c.args.j c.requires.1)
