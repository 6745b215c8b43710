-- What closing pairs cost by their bases b and places. Assumes nothing: these are definitions.
use Rattle.std.specs.Prelude.{Bool, cond, ◌&&◌, ℕ, suc, ◌+◌, ◌-◌, ltb, ℤ}
use Rattle.bases.specs.Bases.{can_pair, pair_index, is_purine}
use Rattle.figures.specs.Figures.{smallest_hairpin}
use Rattle.figures.specs.Charge.{hairpin_of, between, charge_of}

-- positions i and j may close a loop: one of the six pairs, and room for a hairpin between them
unfoldable pub may_close : (ℕ → ℕ) → ℕ → ℕ → Bool
may_close b i j = can_pair (b i) (b j) && ltb smallest_hairpin (j - i)

-- the own figure of a loop with one inner pair: (i, j) is the closing pair, (x, y) the inner one
unfoldable pub own : (ℕ → ℕ) → ℕ → ℕ → ℕ → ℕ → ℤ
own b i j x y = charge_of (between (x - suc i) (j - suc y)) (pair_index (b i) (b j)) (pair_index (b x) (b y)) 0

-- how many of two bases are purines
unfoldable pub purines : ℕ → ℕ → ℕ
purines x y = cond (is_purine x) 1 0 + cond (is_purine y) 1 0

-- the hairpin that (i, j) closes
unfoldable pub hairpin_at : (ℕ → ℕ) → ℕ → ℕ → ℤ
hairpin_at b i j = hairpin_of (j - suc i) (purines (b (i + 1)) (b (j - 1)))
