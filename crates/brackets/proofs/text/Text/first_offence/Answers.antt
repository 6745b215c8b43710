use mathlib.Core.Path.{◌≡◌, refl, sym, ap, ◌∙◌}
use native.Mathlib.Omega.{arith}
use lib.ListN.{length}
use Rattle.refusals.specs.Refusals.{each}
use Rattle.refusals.proofs.Laws.{each_step}
use Rattle.structure.specs.Table.{view}
use Rattle.brackets.specs.Text.{offence}
use Rattle.brackets.proofs.Scan.{offence_found, depth_le, depth_step, judged}
use Rattle.brackets.proofs.text.Text.first_offence.Goals as goal

pub loop-k-init : goal.loop-k-init
loop-k-init c = (refl, refl)

pub after-d-requires : goal.after-d-requires
after-d-requires c = omega (arith, depth_le (view c.args.self.now.bytes.now) c.loop-k.k)

pub loop-k-preserved : goal.loop-k-preserved
loop-k-preserved c =
    let b = view c.args.self.now.bytes.now in
    let fine = c.in_ok-offence_at.ensures in
    (c.after-d.ensures ∙ depth_step b _ _ c.loop-k.invariant.0, each_step (offence b) c.loop-k.k c.loop-k.invariant.1 (judged b _ _ _ c.loop-k.invariant.0 fine))

pub returns : goal.returns
returns c =
    let e : c.loop-k.k ≡ length c.args.self.now.bytes.now = omega arith in
    sym (ap (each (offence (view c.args.self.now.bytes.now))) (sym e) ∙ c.loop-k.invariant.1)

pub returns-in_err-offence_at : goal.returns-in_err-offence_at
returns-in_err-offence_at c =
    let f = offence_found (view c.args.self.now.bytes.now) c.loop-k.k (length c.args.self.now.bytes.now) c.loop-k.d c.in_err-offence_at.field-0.0 c.loop-k-test.true c.loop-k.invariant.1 c.loop-k.invariant.0 c.in_err-offence_at.ensures in
    grind arith
