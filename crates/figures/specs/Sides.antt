-- The charges of loops with one inner pair by their two sides, as a list that a search reads. Assumes nothing: these are definitions.
use Rattle.std.specs.Prelude.{◌≡◌, List, ℕ, suc, ◌+◌, ◌*◌, ◌≤◌, ◌<◌, ℤ, pos, length, get_or}
use Rattle.figures.specs.Figures.{longest_side}
use Rattle.figures.specs.Charge.{internal, sized, between, charge_of}

-- how many pairs of sides there are
abbrev pub side_count : ℕ
side_count = suc longest_side * suc longest_side

-- the charge by the sides: that of any two pairs, where the sides have two bases or more
unfoldable pub side_charge : ℕ → ℕ → ℤ
side_charge l r = charge_of (between l r) 0 0 0

-- the list has the charge of each left side for each right side
pub record Sides (t : List ℤ) : Type 0 where
  pub long : length t ≡ side_count
  pub each : (l r : ℕ) → l ≤ longest_side → r ≤ longest_side → get_or t (suc longest_side * r + l) (pos 0) ≡ side_charge l r

-- one more than the largest size of an internal loop
abbrev pub size_count : ℕ
size_count = suc (longest_side + longest_side)

-- the list has the figure of each size of internal loops
pub record Sizes (t : List ℤ) : Type 0 where
  pub long : length t ≡ size_count
  pub each : (n : ℕ) → 2 ≤ n → n < size_count → get_or t n (pos 0) ≡ sized internal 2 n
