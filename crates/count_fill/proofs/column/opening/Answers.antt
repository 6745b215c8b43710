-- `count_fill::column::opening` meets its contract: each return is a law of `begun`. Assumes nothing.
use mathlib.Core.Path.{◌∙◌, sym, ap₂}
use Prim.Native.Nat.{◌-◌, max}
use native.Mathlib.Omega.{arith}
use Rattle.cells.proofs.Passes.{cell_at}
use Rattle.count_fill.proofs.Passes.{begun_more}
use Rattle.count_fill.proofs.column.opening.Goals as goal

pub returns : goal.returns
returns c =
    c.max.ensures
    ∙ ap₂ max (cell_at 0 _ c.args.i (c.args.j - 1) _ c.cell.ensures) c.with_pair.ensures
    ∙ sym (begun_more _ _ _ _ _ (omega arith))
