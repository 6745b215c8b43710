-- Tables that can be traced are ready. Assumes nothing.
use mathlib.Core.List.{List}
use Prim.Native.Nat.{ℕ, ◌+◌, ◌≤◌, ◌<◌}
use native.Mathlib.Nat.{le_trans}
use native.Mathlib.Omega.{arith}
use lib.IntN.{ℤ}
use Rattle.structure.specs.Table.{view}
use Rattle.cells.specs.Tri.{tri}
use Rattle.cells.proofs.Places.{tri_mono}
use Rattle.figures.specs.Figures.{longest}
use Rattle.energy_rule.proofs.Ruling.{ranged_small}
use Rattle.energy_reach.specs.Reach.{Ready}
use Rattle.energy_trace.specs.Trace.{Traceable}

-- each of the three tables
module _ (b : List ℕ) (v w m : List ℤ) (n j : ℕ) (h : j < n) (t : Traceable b v w m n) where
  long_in : {x : ℕ} → tri n ≤ x → tri (j + 1) ≤ x
  long_in l = le_trans (tri_mono (j + 1) n (omega arith)) l

  short_in : j < longest + 2
  short_in = let s = t.room.short in omega arith

  pub ready_paired : Ready v j
  ready_paired =
      record {
        short = short_in;
        long = long_in t.room.paired;
        small = λ k l a c. (ranged_small (view b) k l _ (let s = short_in in omega arith) (t.fine k l a (omega arith))).0;
      }

  pub ready_any : Ready w j
  ready_any =
      record {
        short = short_in;
        long = long_in t.room.any;
        small = λ k l a c. (ranged_small (view b) k l _ (let s = short_in in omega arith) (t.fine k l a (omega arith))).1;
      }

  pub ready_arms : Ready m j
  ready_arms =
      record {
        short = short_in;
        long = long_in t.room.arms;
        small = λ k l a c. (ranged_small (view b) k l _ (let s = short_in in omega arith) (t.fine k l a (omega arith))).2;
      }
