-- The surplus of every lent buffer is left, and so is its length, whatever the fold answers. Assumes nothing.
use mathlib.Core.Path.{◌≡◌, ap}
use mathlib.Core.List.{List}
use Prim.Native.Nat.{ℕ, ◌≤◌}
use lib.IntN.{ℤ}
use lib.ListN.{length}
use Rattle.sequences.proofs.Spared.{Spared, untouched, letters_spared}
use Rattle.cells.specs.Tri.{tri}
use Rattle.energy_rule.specs.Rule.{Cell}
use Rattle.energy_rule.specs.Memory.{nums}
use Rattle.energy_trace.proofs.Kept.{traced_long, traced_outside}
use Rattle.std.proofs.Common.{Result, Ok, Err}
use Rattle.refusals.specs.declared.Refusal.{Refusal}
use Rattle.energy.specs.Calls.{Folds}
use Rattle.energy.proofs.Accepted.{foldable}

-- from t to t', the length and all cells from the place n on are left
pub record SparedCells (n : ℕ) (t t' : List ℤ) : Type 0 where
  pub long : length t' ≡ length t
  pub spare : (k : ℕ) → n ≤ k → nums t' k ≡ nums t k

same_cells : (n : ℕ) (t t' : List ℤ) → t' ≡ t → SparedCells n t t'
same_cells n t t' e = record { long = ap length e; spare = λ k h. ap (λ (x : List ℤ). nums x k) e }

pub fold_spare :
    (s b b' : List ℕ) (v w m v' w' m' : List ℤ) (o o' : List ℕ) (a : Result ℤ Refusal) → Folds s b b' v w m v' w' m' o o' a →
    Spared (length s) b b' × SparedCells (tri (length s)) v v' × SparedCells (tri (length s)) w w' × SparedCells (tri (length s)) m m'
    × Spared (length s) o o'
fold_spare s b b' v w m v' w' m' o o' (Ok z) f =
    let n = length s in
    let u = foldable s b v w m o f.0 in
    let d = f.1 in
    let c = d.cells in (
      rw d.bases (letters_spared s b u.bases),
      record { long = c.paired; spare = λ k h. ap (λ (x : Cell). x.0) (c.spare k h) },
      record { long = c.any; spare = λ k h. ap (λ (x : Cell). x.1) (c.spare k h) },
      record { long = c.arms; spare = λ k h. ap (λ (x : Cell). x.2) (c.spare k h) },
      rw d.pairs (record { long = traced_long b' v' w' m' n o u.some u.pairs; spare = traced_outside b' v' w' m' n o u.some }),
    )
fold_spare s b b' v w m v' w' m' o o' (Err q) f =
    let n = length s in
    (untouched n b b' f.1, same_cells (tri n) v v' f.2, same_cells (tri n) w w' f.3, same_cells (tri n) m m' f.4, untouched n o o' f.5)
