-- `count_fill::fill` meets its contract: all columns from 0 on, up to their last rows, are all cells. Assumes nothing.
use native.Mathlib.Omega.{arith}
use Rattle.cells.proofs.Fills.{filled_right, columns_spare}
use Rattle.count_rule.specs.Rule.{nussinov, Half}
use Rattle.count_rule.proofs.Laws.{nussinov_local, nussinov_keeps}
use Rattle.count_fill.proofs.fill.Goals as goal

pub returns : goal.returns
returns c =
    record {
      right = filled_right (nussinov _) (nussinov_local _) Half (nussinov_keeps _) _ _ _ _ _ (omega arith) c.columns.ensures;
      fine = c.columns.ensures.fine;
      spare = columns_spare (nussinov _) (nussinov_local _) Half (nussinov_keeps _) _ _ _ _ _ _ c.columns.ensures;
      long = c.columns.auto.cells;
    }
