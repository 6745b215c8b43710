-- What a traceback leaves behind, for each kind of cell: t is the pair table before, t' after. Assumes nothing: these are definitions.
use Rattle.std.specs.Prelude.{◌≡◌, List, ℕ, suc, ◌*◌, ◌<◌, ◌≤◌, ℤ, pos, ◌+ℤ◌, length, ◌≤ℤ◌}
use Rattle.structure.specs.Table.{view}
use Rattle.cells.specs.Rule.{Bases}
use Rattle.figures.specs.Figures.{arm}
use Rattle.charges.specs.Loops.{Candidate, arms_in, total}

-- a candidate was written into the span, and nothing else
pub record Placed (b : Bases) (t t' : List ℕ) (lo hi : ℕ) : Type 0 where
  pub long : length t' ≡ length t
  pub below : (k : ℕ) → k < lo → view t' k ≡ view t k
  pub above : (k : ℕ) → hi ≤ k → view t' k ≡ view t k
  pub fits : Candidate b (view t') lo hi

-- one that costs at most z
pub record AnyFilled (b : Bases) (t t' : List ℕ) (lo hi : ℕ) (z : ℤ) : Type 0 where
  pub placed : Placed b t t' lo hi
  pub energy : total b (view t') hi ≤ℤ (total b (view t') lo +ℤ z)

-- one with at least one arm that costs at most z with the charge of each arm
pub record ArmsFilled (b : Bases) (t t' : List ℕ) (lo hi : ℕ) (z : ℤ) : Type 0 where
  pub placed : Placed b t t' lo hi
  pub some : 1 ≤ arms_in (view t') lo hi
  pub energy : (total b (view t') hi +ℤ pos (100 * arm * arms_in (view t') lo hi)) ≤ℤ (total b (view t') lo +ℤ z)

-- one with i and j paired that costs at most z
pub record PairFilled (b : Bases) (t t' : List ℕ) (i j : ℕ) (z : ℤ) : Type 0 where
  pub placed : Placed b t t' i (suc j)
  pub pair : view t' i ≡ j
  pub energy : total b (view t') (suc j) ≤ℤ (total b (view t') i +ℤ z)
