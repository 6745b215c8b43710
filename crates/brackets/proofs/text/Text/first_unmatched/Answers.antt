use mathlib.Core.Path.{◌≡◌, refl, sym, ap, ◌∙◌}
use native.Mathlib.Omega.{arith}
use lib.ListN.{length}
use Rattle.structure.specs.Table.{view}
use Rattle.brackets.specs.Text.{depth}
use Rattle.brackets.proofs.Scan.{depth_le, depth_step, since_none, since_here, since_more, leftmost, shut_row}
use Rattle.brackets.proofs.text.Text.first_unmatched.Goals as goal
use Rattle.brackets.proofs.text.Text.first_unmatched.Goals.{then-d-eq0, else-d-eq0}

pub loop-k-init : goal.loop-k-init
loop-k-init c = (refl, since_none _)

pub after-d-requires : goal.after-d-requires
after-d-requires c = omega (arith, depth_le (view c.args.self.now.bytes.now) c.loop-k.k)

pub loop-k-preserved : goal.loop-k-preserved
loop-k-preserved c =
    let b = view c.args.self.now.bytes.now in (
      c.after-d.ensures ∙ depth_step b _ _ c.loop-k.invariant.0,
      elim c.if-d-eq0.branch [
        | then-d-eq0 w ↦ rw w.first-is (since_here b c.loop-k.k (sym c.loop-k.invariant.0 ∙ w.if-d-eq0.true))
        | else-d-eq0 w ↦ rw w.first-is (since_more b c.loop-k.first c.loop-k.k c.loop-k.invariant.1 (λ q. w.if-d-eq0.false (c.loop-k.invariant.0 ∙ q)))
      ],
    )

pub returns-then-d-eq0-2 : goal.returns-then-d-eq0-2
returns-then-d-eq0-2 c =
    let e : c.loop-k.k ≡ length c.args.self.now.bytes.now = omega arith in
    sym (shut_row (view c.args.self.now.bytes.now) (length c.args.self.now.bytes.now) (ap (depth (view c.args.self.now.bytes.now)) (sym e) ∙ sym c.loop-k.invariant.0 ∙ c.if-d-eq0-2.true))

pub returns : goal.returns
returns c =
    let e : c.loop-k.k ≡ length c.args.self.now.bytes.now = omega arith in
    sym (leftmost (view c.args.self.now.bytes.now) c.loop-k.first (length c.args.self.now.bytes.now) (rw e at c.loop-k.invariant.1) (λ q. c.if-d-eq0-2.false (c.loop-k.invariant.0 ∙ ap (depth (view c.args.self.now.bytes.now)) e ∙ q)))
