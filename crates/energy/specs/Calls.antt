-- What the energy fold answers and leaves in lent memory: b, v, w, m, o as they came, b', v', w', m', o' as they are left.
-- Assumes nothing: these are definitions.
use Rattle.std.specs.Prelude.{◌≡◌, List, map, ◌++◌, ℕ, ◌-◌, ℤ, length, drop, Result, Ok, Err}
use Rattle.refusals.specs.Refusals.{clear, due_of}
use Rattle.refusals.specs.declared.Refusal.{Refusal}
use Rattle.bases.specs.Bases.{normal}
use Rattle.energy_rule.specs.Memory.{table}
use Rattle.energy_fill.specs.Filled.{Filled}
use Rattle.energy_trace.specs.Trace.{traced_of}
use Rattle.energy.specs.Checks.{fold_due}

-- the energy of n bases: the cell of any structure of the whole span
unfoldable pub energy_at : List ℤ → ℕ → ℤ
energy_at w n = table w 0 (n - 1)

-- the letters, the cells and the traced pairs of s stand at the front of the lent memory, and the rest is as it was
pub record Made (s b b' : List ℕ) (v w m v' w' m' : List ℤ) (o o' : List ℕ) : Type 0 where
  pub bases : b' ≡ map normal s ++ drop (length s) b
  pub cells : Filled b' v w m v' w' m' (length s)
  pub pairs : o' ≡ traced_of b' v' w' m' (length s) o

-- `zuker_mfe` of the sequence s
abbrev pub Folds : List ℕ → (b b' : List ℕ) (v w m v' w' m' : List ℤ) (o o' : List ℕ) → Result ℤ Refusal → Type 0
Folds s b b' v w m v' w' m' o o' (Ok z) =
    (fold_due s b v w m o ≡ clear) × Made s b b' v w m v' w' m' o o' × (z ≡ energy_at w' (length s))
Folds s b b' v w m v' w' m' o o' (Err q) = (fold_due s b v w m o ≡ due_of q) × (b' ≡ b) × (v' ≡ v) × (w' ≡ w) × (m' ≡ m) × (o' ≡ o)
