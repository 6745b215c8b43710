-- `count_fill::column::column_half` meets its contract: a column is believable where its fullest cell is. Assumes nothing.
use Rattle.count_fill.proofs.Halves.{full_half}
use Rattle.count_fill.specs.Believable.{fullness}
use Rattle.count_rule.specs.Rule.{best}
use Rattle.structure.specs.Table.{view}
use Rattle.cells.proofs.Places.{tri_step}
use Rattle.cells.specs.Tri.{tri}
use lib.Dec.{leb}
use native.Mathlib.Omega.{arith}
use Prim.Native.Nat.{ℕ, ◌+◌}
use mathlib.Core.Path.{◌≡◌, ap, ◌∙◌}
use Rattle.count_fill.proofs.column.column_half.Goals as goal

pub fullest-requires : goal.fullest-requires
fullest-requires c = omega (arith, tri_step)

pub returns : goal.returns
returns c =
    let v = view c.args.cells.now in
    let to : c.place-column.result ≡ tri c.args.j = omega (arith, c.place-column.ensures) in
    ap (λ (x : ℕ). leb x (c.args.j + 1)) (c.fullest.ensures ∙ ap (λ (x : ℕ). best (fullness v x) 0 (c.args.j + 1)) to) ∙ full_half v c.args.j
