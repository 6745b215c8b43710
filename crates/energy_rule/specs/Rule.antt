-- The cell rules of the least-energy fold, in thousandths.
-- A cell is a triple: the least with i and j paired, the least of any structure on the
-- span, the least of the span as one or more arms. Assumes nothing: these are definitions.
use Rattle.std.specs.Prelude.{cond, ℕ, suc, ◌+◌, ◌-◌, ◌*◌, min, max, ltb, ℤ, pos}
use Rattle.cells.specs.Rule.{Bases, Cells, Rule}
use Rattle.ints.specs.Ints.{minℤ, mark, add_e, min_from}
use Rattle.figures.specs.Figures.{smallest_hairpin, longest_side, closing, arm}
use Rattle.closing.specs.Closing.{may_close, own, hairpin_at}

-- one table's cells
abbrev pub Table : Type 0
Table = Cells ℤ

-- what closing a many-armed loop costs, and each of its arms
abbrev pub closing_charge : ℤ
closing_charge = pos (100 * closing)

abbrev pub arm_charge : ℤ
arm_charge = pos (100 * arm)

-- ---- i and j paired
-- their loop has the one inner pair (x, y)
unfoldable pub inner_at : Bases → Table → ℕ → ℕ → ℕ → ℕ → ℤ
inner_at b v i j x y = cond (may_close b x y) (add_e (v x y) (own b i j x y)) mark

-- the lowest place where an inner pair from x may end: it has room for a hairpin, and leaves no side that is too long
unfoldable pub lowest : ℕ → ℕ → ℕ
lowest j x = max (x + suc smallest_hairpin) (j - suc longest_side)

-- the least with an inner pair from x
unfoldable pub inner_from : Bases → Table → ℕ → ℕ → ℕ → ℤ
inner_from b v i j x = min_from (inner_at b v i j x) (lowest j x) (j - lowest j x)

-- the least with one inner pair: stack, bulge or internal loop
unfoldable pub interior : Bases → Table → ℕ → ℕ → ℤ
interior b v i j = min_from (inner_from b v i j) (i + 1) (min (suc longest_side) (j - (i + 1)))

-- the least of a hairpin, one inner pair, or arms; the mark where i and j may not close a loop
unfoldable pub paired : Bases → Table → Table → ℕ → ℕ → ℤ
paired b v m i j =
    cond (may_close b i j) (minℤ (minℤ (hairpin_at b i j) (interior b v i j)) (add_e (m (i + 1) (j - 1)) closing_charge)) mark

-- ---- the other two
-- the least of the splits after k, from i + 1 to j − 1
unfoldable pub splits : Table → ℕ → ℕ → ℤ
splits c i j = min_from (λ k. add_e (c i k) (c (k + 1) j)) (i + 1) (j - (i + 1))

-- any structure, z being the paired cell: none, i with j, i unpaired, j unpaired, or a split
unfoldable pub any : ℤ → Table → ℕ → ℕ → ℤ
any z w i j = minℤ (minℤ (minℤ (pos 0) z) (minℤ (w (i + 1) j) (w i (j - 1)))) (splits w i j)

-- one or more arms: i with j as one, i unpaired, j unpaired, or a split
unfoldable pub armed : ℤ → Table → ℕ → ℕ → ℤ
armed z m i j = minℤ (minℤ (add_e z arm_charge) (minℤ (m (i + 1) j) (m i (j - 1)))) (splits m i j)

-- ---- the three together
abbrev pub Cell : Type 0
Cell = ℤ × ℤ × ℤ

abbrev pub paired_of : Cells Cell → Table
paired_of c i j = (c i j).0

abbrev pub any_of : Cells Cell → Table
any_of c i j = (c i j).1

abbrev pub arms_of : Cells Cell → Table
arms_of c i j = (c i j).2

-- the cell rule: one base has no pair and no arm, and costs nothing
unfoldable pub energies : Rule Cell
energies b c i j =
    cond (ltb i j) (
      paired b (paired_of c) (arms_of c) i j,
      any (paired b (paired_of c) (arms_of c) i j) (any_of c) i j,
      armed (paired b (paired_of c) (arms_of c) i j) (arms_of c) i j,
    )
    (mark, pos 0, mark)
