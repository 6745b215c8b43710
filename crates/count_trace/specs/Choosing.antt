-- The traceback's choice at the span from i to j, over any counts c and any p that says which positions may pair.
-- Assumes nothing: these are definitions.
use Rattle.std.specs.Prelude.{Bool, cond, ◌&&◌, ℕ, ◌+◌, ◌-◌, eqb, Option, None, Some}
use Rattle.searches.specs.First.{first_passing}
use Rattle.cells.specs.Rule.{Cells, span}
use Rattle.count_trace.specs.declared.choice.Choice.{Choice}
use Rattle.count_trace.specs.declared.choice.Choice.TheVariants.{FirstUnpaired, Paired, Split, LastUnpaired}

-- i with j reaches v
unfoldable pub closes_of : Cells ℕ → (ℕ → ℕ → Bool) → ℕ → ℕ → ℕ → Bool
closes_of c p i j v = p i j && eqb (span c (i + 1) j + 1) v

-- a split after k reaches v
unfoldable pub split_at : Cells ℕ → ℕ → ℕ → ℕ → ℕ → Bool
split_at c i j v k = eqb (c i k + c (k + 1) j) v

-- the smallest k from i + 1 to j − 1 after which a split reaches v
unfoldable pub split_of : Cells ℕ → ℕ → ℕ → ℕ → Option ℕ
split_of c i j v = first_passing (split_at c i j v) (i + 1) (j - (i + 1))

-- j unpaired where there is no such split
abbrev pub or_last : Option ℕ → Choice
or_last (Some k) = Split k
or_last None = LastUnpaired

-- the first that reaches the cell's value: i unpaired; i with j; the smallest k; else j unpaired
unfoldable pub choice : Cells ℕ → (ℕ → ℕ → Bool) → ℕ → ℕ → Choice
choice c p i j =
    cond (eqb (c (i + 1) j) (c i j)) FirstUnpaired
    (cond (closes_of c p i j (c i j)) Paired
    (or_last (split_of c i j (c i j))))
