-- Signed numbers and energies: the smaller of two, the mark, a sum that a mark absorbs, the least of a run.
-- Assumes nothing: these are definitions.
use Rattle.std.specs.Prelude.{cond, ℕ, zero, suc, ◌+◌, ℤ, pos, neg_ℤ, ◌+ℤ◌, ◌≤ℤ◌}
use Rattle.std.specs.Int.Signed.{lt_z, le_z}

-- the smaller of two
unfoldable pub minℤ : ℤ → ℤ → ℤ
minℤ a b = cond (le_z a b) a b

-- what a cell holds that has no structure
abbrev pub mark : ℤ
mark = pos 1000000000

-- the sum of two energies: the mark where either is one
unfoldable pub add_e : ℤ → ℤ → ℤ
add_e a b = cond (lt_z a mark) (cond (lt_z b mark) (a +ℤ b) mark) mark

-- the least of f i, .., f (i + n − 1), and the mark where none is below it
unfoldable pub min_from : (ℕ → ℤ) → ℕ → ℕ → ℤ
min_from f i zero = mark
min_from f i (suc n) = minℤ (min_from f i n) (f (i + n))

-- a number from lo to hi
pub record In (lo hi z : ℤ) : Type 0 where
  pub low : lo ≤ℤ z
  pub high : z ≤ℤ hi

-- a number that may stand in a sum: two such never overflow
pub record Small (z : ℤ) : Type 0 where
  pub low : neg_ℤ mark ≤ℤ z
  pub high : z ≤ℤ mark
