use Rattle.std.proofs.Common.{◌≡◌, ◌+◌, subst, arith}
use Rattle.cells.specs.Fill.{Columns}
use Rattle.cells.proofs.Places.{tri_mono}
use Rattle.cells.proofs.Fills.{columns_fine, columns_more}
use Rattle.count_rule.specs.Rule.{nussinov}
use Rattle.count_rule.proofs.Laws.{nussinov_local, nussinov_keeps}
use Rattle.count_fill.proofs.columns.Goals as goal

pub rows-requires : goal.rows-requires
rows-requires c = (
  omega arith,
  omega arith,
  omega arith,
  omega (arith, tri_mono (c.loop-j.j + 1) c.args.n (omega arith)),
  columns_fine (nussinov _) (nussinov_local _) _ (nussinov_keeps _) _ _ _ _ _ c.args.n _ _ (omega arith) (omega arith) c.smaller.ensures c.requires.4
      c.loop-j.invariant,
)

pub loop-j-preserved : goal.loop-j-preserved
loop-j-preserved c =
    columns_more (nussinov _) (nussinov_local _) _ (nussinov_keeps _) _ _ _ _ _ _ _ _ (omega arith) c.smaller.ensures c.loop-j.invariant c.rows.ensures

pub returns : goal.returns
returns c =
    let last : c.loop-j.j ≡ c.args.n = omega arith in
    subst (Columns _ _ _ _ _ _ _) last c.loop-j.invariant
