-- A column of the tables rewritten by passes: first what each cell holds before any split, and then, from the last split to the first, one
-- earlier column at a time. Tables are read by place. Assumes nothing: these are definitions.
use Rattle.std.specs.Prelude.{◌≡◌, cond, ℕ, ◌+◌, ◌-◌, ◌≤◌, ◌<◌, eqb, ltb, ℤ}
use Rattle.cells.specs.Tri.{tri}
use Rattle.cells.specs.Rule.{Bases}
use Rattle.cells.specs.Fill.{at}
use Rattle.ints.specs.Ints.{minℤ, add_e}
use Rattle.energy_rule.specs.Rule.{Table, paired}

-- n rows of column j hold f, and nothing else was written
pub record Started (f : ℕ → ℤ) (g₀ g : ℕ → ℤ) (j n : ℕ) : Type 0 where
  pub left : (k : ℕ) → k < tri j → g k ≡ g₀ k
  pub right : (k : ℕ) → tri j + n ≤ k → g k ≡ g₀ k
  pub each : (i : ℕ) → i < n → at g i j ≡ f i

-- the paired cells of column j, which have no splits
abbrev pub closed : Bases → Table → Table → ℕ → ℕ → ℤ
closed b v m j i = paired b v m i j

-- the rules of the other two without splits and without i unpaired: i with j for a charge, or j unpaired, and no more than a limit
unfoldable pub begun : ℤ → ℤ → Table → Table → ℕ → ℕ → ℤ
begun charge limit v c j i = cond (ltb i j) (minℤ (minℤ limit (add_e (v i j) charge)) (c i (j - 1))) limit

-- what a split is worth: one after i leaves i unpaired, any other has both its parts
unfoldable pub link : ℕ → ℕ → ℤ → ℤ → ℤ
link i k x y = cond (eqb i k) y (add_e x y)
