-- The first candidate that reaches the value of a cell. Assumes nothing: these are definitions.
use Rattle.std.specs.Prelude.{ℕ, zero, suc, ◌+◌, ◌-◌, min, Option, None, Some}
use Rattle.searches.specs.First.{first_passing}
use Rattle.cells.specs.Rule.{Bases}
use Rattle.figures.specs.Figures.{longest_side}
use Rattle.energy_rule.specs.Rule.{Table, lowest}
use Rattle.energy_reach.specs.Reach.{split_at, reaches}

-- a pair of places
abbrev pub Places : Type 0
Places = ℕ × ℕ

-- what was found from x, or what is found later
abbrev pub or_else : ℕ → Option ℕ → Option Places → Option Places
or_else x (Some y) later = Some (x, y)
or_else x None later = later

-- the first of n numbers from k on whose row finds something, with what it finds
unfoldable pub first_row : (ℕ → Option ℕ) → ℕ → ℕ → Option Places
first_row row k zero = None
first_row row k (suc n) = or_else k (row k) (first_row row (k + 1) n)

-- the smallest k from i + 1 to j − 1 after which one does
unfoldable pub splitting : Table → ℕ → ℕ → Option ℕ
splitting c i j = first_passing (split_at c i j) (i + 1) (j - (i + 1))

-- the first closing place of an inner pair from x that does
unfoldable pub inner_row : Bases → Table → ℕ → ℕ → ℕ → Option ℕ
inner_row b v i j x = first_passing (reaches b v i j x) (lowest j x) (j - lowest j x)

-- the first inner pair that does, by its opening and then by its closing place
unfoldable pub inside : Bases → Table → ℕ → ℕ → Option Places
inside b v i j = first_row (inner_row b v i j) (i + 1) (min (suc longest_side) (j - (i + 1)))
