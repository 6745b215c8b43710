-- The cell rule of pair counting. Assumes nothing: these are definitions.
use Rattle.std.specs.Prelude.{Bool, cond, ◌&&◌, ℕ, zero, suc, ◌+◌, ◌-◌, ◌*◌, ◌≤◌, max, ltb}
use Rattle.bases.specs.Bases.{can_pair}
use Rattle.cells.specs.Rule.{Bases, Cells, Rule, span}

-- positions i and j may pair: one of the six pairs, and more than the gap apart
unfoldable pub may_pair : Bases → ℕ → ℕ → ℕ → Bool
may_pair b gap i j = can_pair (b i) (b j) && ltb gap (j - i)

-- the largest of f lo, .., f (lo + m − 1); 0 where there is none
unfoldable pub best : (ℕ → ℕ) → ℕ → ℕ → ℕ
best f lo zero = 0
best f lo (suc m) = max (best f lo m) (f (lo + m))

-- i with j, and what is inside; 0 where they may not pair
unfoldable pub paired : ℕ → Bases → Cells ℕ → ℕ → ℕ → ℕ
paired gap b c i j = cond (may_pair b gap i j) (span c (i + 1) j + 1) 0

-- the best split after k, from i + 1 to j − 1
unfoldable pub split : Cells ℕ → ℕ → ℕ → ℕ
split c i j = best (λ k. c i k + c (k + 1) j) (i + 1) (j - (i + 1))

-- the cell rule: 0 for one base; otherwise the largest of i unpaired, j unpaired, i with j, and every split
unfoldable pub nussinov : ℕ → Rule ℕ
nussinov gap b c i j = cond (ltb i j) (max (max (max (c (i + 1) j) (c i (j - 1))) (paired gap b c i j)) (split c i j)) 0

-- a believable cell: at most half the span's bases open a pair
abbrev pub Half : Bases → ℕ → ℕ → ℕ → Type 0
Half b i j v = 2 * v + i ≤ j + 1
