-- A column rewritten by passes: first what each cell holds before any split, and then, from the last split to the first, one earlier
-- column at a time. Tables are read by place. Assumes nothing: these are definitions.
use Rattle.std.specs.Prelude.{◌≡◌, cond, List, ℕ, ◌+◌, ◌-◌, ◌<◌, ◌≤◌, max, ltb, length}
use Rattle.cells.specs.Tri.{tri}
use Rattle.cells.specs.Rule.{Bases, Cells}
use Rattle.cells.specs.Fill.{at, Fine}
use Rattle.structure.specs.Table.{view}
use Rattle.count_rule.specs.Rule.{paired, Half}

-- a believable cell of any bases: `Half` does not look at them
abbrev pub AnyHalf : ℕ → ℕ → ℕ → Type 0
AnyHalf = Half (λ k. 0)

-- column j is in the list, and the columns before it are believable
pub record Before (b t : List ℕ) (j : ℕ) : Type 0 where
  pub short : j < 65535
  pub base : j < length b
  pub room : tri (j + 1) ≤ length t
  pub fine : Fine AnyHalf (at (view t)) j

-- the rule without splits and without i unpaired: j unpaired, or i with j
unfoldable pub begun : ℕ → Bases → Cells ℕ → ℕ → ℕ → ℕ
begun gap b c i j = cond (ltb i j) (max (c i (j - 1)) (paired gap b c i j)) 0

-- n rows of column j were started, and nothing else was written
pub record Started (gap : ℕ) (b : Bases) (g₀ g : ℕ → ℕ) (j n : ℕ) : Type 0 where
  pub left : (k : ℕ) → k < tri j → g k ≡ g₀ k
  pub right : (k : ℕ) → tri j + n ≤ k → g k ≡ g₀ k
  pub each : (i : ℕ) → i < n → at g i j ≡ begun gap b (at g₀) i j

-- v more than each of n rows of the column at `col` fits 16 bits
abbrev pub Fit : (ℕ → ℕ) → ℕ → ℕ → ℕ → Type 0
Fit g col n v = (i : ℕ) → i < n → g (col + i) + v < 65536

-- what a split is worth: k = i, whose first part is one base, stands for i unpaired
abbrev pub both : ℕ → ℕ → ℕ → ℕ → ℕ
both i k x y = x + y
