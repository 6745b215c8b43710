-- What the cells mean. A structure of a span is any p, read place by place; spans are from lo up to, but not including, hi.
-- Assumes nothing: these are definitions.
use Rattle.std.specs.Prelude.{◌≡◌, ◌⊎◌, ℕ, suc, ◌*◌, ◌≤◌, ℤ, pos, ◌+ℤ◌, ◌-ℤ◌, ◌≤ℤ◌}
use Rattle.cells.specs.Rule.{Bases}
use Rattle.ints.specs.Ints.{mark}
use Rattle.figures.specs.Figures.{arm}
use Rattle.charges.specs.Loops.{Candidate, arms_in, total}
use Rattle.energy_rule.specs.Rule.{Cell}

-- the loops that open on the span cost together
abbrev pub energy_in : Bases → (ℕ → ℕ) → ℕ → ℕ → ℤ
energy_in b p lo hi = total b p hi -ℤ total b p lo

-- with the charge of each arm of a many-armed loop
abbrev pub armed_in : Bases → (ℕ → ℕ) → ℕ → ℕ → ℤ
armed_in b p lo hi = energy_in b p lo hi +ℤ pos (100 * arm * arms_in p lo hi)

-- z is the least cost of the candidates of a kind, or the mark exactly where there is none
pub record Least (b : Bases) (lo hi : ℕ) (Kind : (ℕ → ℕ) → Type 0) (cost : (ℕ → ℕ) → ℤ) (z : ℤ) : Type 0 where
  pub least : (p : ℕ → ℕ) → Candidate b p lo hi → Kind p → z ≤ℤ cost p
  pub reached :
      ((z ≡ mark) × ((p : ℕ → ℕ) → Candidate b p lo hi → Kind p → ⊥)) ⊎ ((p : ℕ → ℕ) × Candidate b p lo hi × Kind p × (cost p ≡ z))

-- a cell holds the least energy with i and j paired, of any structure, and as one or more arms
pub record Meant (b : Bases) (i j : ℕ) (c : Cell) : Type 0 where
  pub paired : Least b i (suc j) (λ p. p i ≡ j) (λ p. energy_in b p i (suc j)) c.0
  pub any : Least b i (suc j) (λ p. Unit {0}) (λ p. energy_in b p i (suc j)) c.1
  pub arms : Least b i (suc j) (λ p. 1 ≤ arms_in p i (suc j)) (λ p. armed_in b p i (suc j)) c.2
