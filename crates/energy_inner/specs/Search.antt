-- The search for the one inner pair of a loop by runs over contiguous cells, and what it asks of the cells.
-- Assumes nothing: these are definitions.
use Rattle.std.specs.Prelude.{◌≡◌, false, List, ℕ, suc, ◌+◌, ◌-◌, ◌*◌, ◌≤◌, ◌<◌, min, ℤ, pos, length, ◌≤ℤ◌, ◌<ℤ◌}
use Rattle.structure.specs.Table.{view}
use Rattle.cells.specs.Tri.{tri, place}
use Rattle.cells.specs.Rule.{Bases}
use Rattle.cells.specs.Fill.{at, Fine}
use Rattle.ints.specs.Ints.{mark, add_e, min_from, In, Small}
use Rattle.figures.specs.Figures.{smallest_hairpin, longest_side, longest}
use Rattle.closing.specs.Closing.{may_close}
use Rattle.energy_rule.specs.Bounds.{floor}
use Rattle.energy_rule.specs.Memory.{nums}

-- a cell of any of the tables is in range
abbrev pub InRange : ℕ → ℕ → ℤ → Type 0
InRange i j z = In (floor i j) mark z

-- and a paired cell is the mark where i and j may not close a loop: a search needs no test of the bases then
pub record InPaired (b : Bases) (i j : ℕ) (z : ℤ) : Type 0 where
  pub none : may_close b i j ≡ false → z ≡ mark
  pub range : InRange i j z

-- n numbers from `col` on may stand in sums
abbrev pub Smalls : (ℕ → ℤ) → ℕ → ℕ → Type 0
Smalls g col n = (i : ℕ) → i < n → Small (g (col + i))

-- a charge that is no mark, and not below 0: a mark with it is no less than the mark
pub record Charge (z : ℤ) : Type 0 where
  pub low : pos 0 ≤ℤ z
  pub high : z <ℤ mark

-- the cell `from + l`, with the charge `row + l`
abbrev pub charged : (ℕ → ℤ) → (ℕ → ℤ) → ℕ → ℕ → ℕ → ℤ
charged v s from row l = add_e (v (from + l)) (s (row + l))

-- the lowest place where an inner pair of a pair that opens at i may end
abbrev pub low_end : ℕ → ℕ
low_end i = i + 2 + smallest_hairpin

-- the inner pairs that end at q and leave the right side r: no stack and no bulge of one base
unfoldable pub side_to : (ℕ → ℤ) → (ℕ → ℤ) → ℕ → ℕ → ℕ → ℤ
side_to v s i r q =
    min_from (charged v s (place (i + 1) q) (suc longest_side * r)) (2 - r) (min (suc longest_side) (q + 1 - low_end i) - (2 - r))

-- those of (i, j) with the right side r
unfoldable pub side : (ℕ → ℤ) → (ℕ → ℤ) → ℕ → ℕ → ℕ → ℤ
side v s i j r = side_to v s i r (j - 1 - r)

-- those with any right side
unfoldable pub near : (ℕ → ℤ) → (ℕ → ℤ) → ℕ → ℕ → ℤ
near v s i j = min_from (side v s i j) 0 (min (suc longest_side) (j - low_end i))

-- column j has its bases, and the paired cells of the columns before it are believable
pub record Before (b : List ℕ) (v : List ℤ) (j : ℕ) : Type 0 where
  pub short : j < longest + 2
  pub base : j < length b
  pub room : tri j ≤ length v
  pub fine : Fine (InPaired (view b)) (at (nums v)) j
