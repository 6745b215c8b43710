-- `count_fill::column::with_pair` meets its contract: each way is a law of `paired`, with that of the span inside. Assumes nothing.
use mathlib.Core.Path.{ap, ◌∙◌, sym}
use Prim.Native.Nat.{◌+◌, ◌-◌}
use Rattle.cells.proofs.Passes.{cell_at}
use Rattle.cells.proofs.Spans.{span_some}
use Rattle.count_rule.specs.Rule.{may_pair}
use Rattle.count_rule.proofs.Laws.{paired_some}
use Rattle.count_fill.proofs.column.with_pair.Goals as goal

pub returns-then-i-j : goal.returns-then-i-j
unfolding may_pair
returns-then-i-j c =
    ap (λ x. x + 1) (cell_at 0 _ (c.args.i + 1) (c.args.j - 1) _ c.cell.ensures ∙ sym (span_some _ _ _ c.if-i-j.true))
    ∙ sym (paired_some _ _ _ _ _ (sym c.may_pair.ensures ∙ c.if-not-may_pair.false))
