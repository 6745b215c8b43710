-- Counts of pairs against cells. `can i j` says that i and j may pair. Assumes nothing: these are definitions.
use Rattle.std.specs.Prelude.{◌≡◌, ℕ, ◌+◌, ◌-◌, ◌<◌, ◌≤◌}
use Rattle.cells.specs.Rule.{Cells, span}
use Rattle.structure.specs.Table.{opened}
use Rattle.count_rule.specs.Allowed.{Allowed}

-- what gives a cell its value: i unpaired, i with j, a split after k, or j unpaired
pub data Step (can : ℕ → ℕ → Type 0) (c : Cells ℕ) (i j : ℕ) : Type 0 where
  first : c i j ≡ c (i + 1) j → Step can c i j
  both : can i j → c i j ≡ span c (i + 1) j + 1 → Step can c i j
  split : (k : ℕ) → i < k → k < j → c i j ≡ c i k + c (k + 1) j → Step can c i j
  last : c i j ≡ c i (j - 1) → Step can c i j

-- the cell rule by its parts: 0 for one base; otherwise no candidate is above the cell, and one reaches it
pub record Ruled (can : ℕ → ℕ → Type 0) (n : ℕ) (c : Cells ℕ) : Type 0 where
  pub alone : (i : ℕ) → i < n → c i i ≡ 0
  pub left : (i j : ℕ) → i < j → j < n → c (i + 1) j ≤ c i j
  pub right : (i j : ℕ) → i < j → j < n → c i (j - 1) ≤ c i j
  pub pair : (i j : ℕ) → i < j → j < n → can i j → span c (i + 1) j + 1 ≤ c i j
  pub cut : (i k j : ℕ) → i < k → k < j → j < n → c i k + c (k + 1) j ≤ c i j
  pub reached : (i j : ℕ) → i < j → j < n → Step can c i j

-- the structure on the span from lo up to, but not including, hi is allowed, and has as many pairs as the cell says
pub record Filled (can : ℕ → ℕ → Type 0) (c : Cells ℕ) (p : ℕ → ℕ) (lo hi : ℕ) : Type 0 where
  pub allowed : Allowed can p lo hi
  pub count : opened p hi ≡ opened p lo + span c lo hi
