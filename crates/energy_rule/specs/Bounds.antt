-- Which numbers cells hold. Assumes nothing: these are definitions.
use Rattle.std.specs.Prelude.{◌≡◌, ◌⊎◌, true, false, ℕ, ◌+◌, ◌-◌, ◌*◌, ◌/◌, ℤ, pos, neg_ℤ}
use Rattle.cells.specs.Rule.{Bases}
use Rattle.ints.specs.Ints.{mark, In}
use Rattle.closing.specs.Closing.{may_close}
use Rattle.energy_rule.specs.Rule.{Cell}

-- no loop costs less than so much below 0
abbrev pub deepest : ℕ
deepest = 3400

-- no structure on the span costs less: at most every second base opens a pair
abbrev pub floor : ℕ → ℕ → ℤ
floor i j = neg_ℤ (pos (deepest * ((j + 1 - i) / 2)))

-- what keeps sums in range, and what the rule gives from cells that have it, be they right or wrong
pub record Ranged (b : Bases) (i j : ℕ) (c : Cell) : Type 0 where
  pub none : may_close b i j ≡ false → c.0 ≡ mark
  pub paired : In (floor i j) mark c.0
  pub any : In (floor i j) (pos 0) c.1
  pub arms : In (floor i j) mark c.2

-- no cell of a right table that has a structure is above
abbrev pub highest : ℕ
highest = 30000

-- a believable cell: the mark for none, or from the span's floor up to the highest; any structure at most 0;
-- paired the mark exactly where i and j can't pair
pub record Believable (b : Bases) (i j : ℕ) (c : Cell) : Type 0 where
  pub none : may_close b i j ≡ false → c.0 ≡ mark
  pub some : may_close b i j ≡ true → In (floor i j) (pos highest) c.0
  pub any : In (floor i j) (pos 0) c.1
  pub arms : (c.2 ≡ mark) ⊎ In (floor i j) (pos highest) c.2
