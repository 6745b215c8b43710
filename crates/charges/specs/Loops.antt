-- What a structure costs, by its pair table and its bases alone: p is the entries of a sound table, b the letters of the bases.
-- Assumes nothing: these are definitions.
use Rattle.std.specs.Prelude.{◌≡◌, ◌≢◌, Bool, true, not, cond, ◌&&◌, List, ℕ, zero, suc, ◌+◌, ◌-◌, ◌<◌, ◌≤◌, leb, eqb}
use Rattle.std.specs.Prelude.{ℤ, pos, ◌+ℤ◌, length}
use Rattle.std.specs.Int.Signed.{le_z}
use Rattle.bases.specs.Bases.{pair_index}
use Rattle.structure.specs.Table.{unpaired, view, opens, Fold}
use Rattle.figures.specs.Figures.{longest_side, longest}
use Rattle.figures.specs.Charge.{many_of, between, charge_of}
use Rattle.figures.specs.declared.Loop.{Loop}
use Rattle.figures.specs.declared.Loop.TheVariants.{Hairpin, Many}
use Rattle.closing.specs.Closing.{may_close, own, purines}

-- ---- candidates
-- the pairs of a span don't cross, and each may close a loop
pub record Candidate (b p : ℕ → ℕ) (lo hi : ℕ) : Type 0 where
  pub fold : Fold p lo hi
  pub each : (k : ℕ) → lo ≤ k → k < hi → k < p k → p k ≢ unpaired → may_close b k (p k) ≡ true

-- ---- the inner pairs of a loop
-- position k, whose entry is v, opens a pair
abbrev pub opening : ℕ → ℕ → Bool
opening k v = eqb (opens k v) 1

-- position k opens a pair that may not close a loop
unfoldable pub bars : (ℕ → ℕ) → (ℕ → ℕ) → ℕ → Bool
bars b p k = opening k (p k) && not (may_close b k (p k))

-- the first of the n positions from k on that does, or the position after them
unfoldable pub barred : (ℕ → ℕ) → (ℕ → ℕ) → ℕ → ℕ → ℕ
barred b p zero k = k
barred b p (suc n) k = cond (bars b p k) k (barred b p n (suc k))

-- the first of a table
abbrev pub first_barred : List ℕ → List ℕ → ℕ
first_barred b t = barred (view b) (view t) (length t) 0

-- how many pairs of the n positions from k on, the first s of them left out, lie in no other pair of these
unfoldable pub arms : (ℕ → ℕ) → ℕ → ℕ → ℕ → ℕ
arms p zero s k = 0
arms p (suc n) zero k = cond (opening k (p k)) (suc (arms p n (p k - k) (suc k))) (arms p n zero (suc k))
arms p (suc n) (suc s) k = arms p n s (suc k)

-- the arms of a span: from lo up to, but not including, hi
abbrev pub arms_in : (ℕ → ℕ) → ℕ → ℕ → ℕ
arms_in p lo hi = arms p (hi - lo) 0 lo

-- the first of the n positions from k on that opens a pair, or the position after them
unfoldable pub first : (ℕ → ℕ) → ℕ → ℕ → ℕ
first p zero k = k
first p (suc n) k = cond (opening k (p k)) k (first p n (suc k))

-- the first arm of a span
abbrev pub first_in : (ℕ → ℕ) → ℕ → ℕ → ℕ
first_in p lo hi = first p (hi - lo) lo

-- ---- the kind of a loop
-- the rule for one inner pair: its own kind where no side is too long and its own figure is at most the many-armed one,
-- otherwise many-armed
unfoldable pub single : (ℕ → ℕ) → ℕ → ℕ → ℕ → ℕ → Loop
single b i j x y =
    cond (leb (x - suc i) longest_side && leb (j - suc y) longest_side)
    (cond (le_z (own b i j x y) (many_of 1)) (between (x - suc i) (j - suc y)) (Many 1)) (Many 1)

-- with m inner pairs, the first of which is (x, y)
unfoldable pub kind_by : (ℕ → ℕ) → ℕ → ℕ → ℕ → ℕ → ℕ → Loop
kind_by b i j zero x y = Hairpin (j - suc i)
kind_by b i j (suc zero) x y = single b i j x y
kind_by b i j (suc (suc m)) x y = Many (suc (suc m))

-- the kind of the loop that opens at i
unfoldable pub kind : (ℕ → ℕ) → (ℕ → ℕ) → ℕ → Loop
kind b p i = kind_by b i (p i) (arms_in p (suc i) (p i)) (first_in p (suc i) (p i)) (p (first_in p (suc i) (p i)))

-- ---- what a structure costs
-- a loop of a kind, with the closing pair (i, j) and the first inner pair (x, y)
unfoldable pub charge_by : (ℕ → ℕ) → ℕ → ℕ → ℕ → ℕ → Loop → ℤ
charge_by b i j x y l = charge_of l (pair_index (b i) (b j)) (pair_index (b x) (b y)) (purines (b (i + 1)) (b (j - 1)))

-- the loop that opens at i
unfoldable pub charge_at : (ℕ → ℕ) → (ℕ → ℕ) → ℕ → ℤ
charge_at b p i = charge_by b i (p i) (first_in p (suc i) (p i)) (p (first_in p (suc i) (p i))) (kind b p i)

-- the loops that open below k together
unfoldable pub total : (ℕ → ℕ) → (ℕ → ℕ) → ℕ → ℤ
total b p zero = pos 0
total b p (suc k) = total b p k +ℤ cond (opening k (p k)) (charge_at b p k) (pos 0)

-- the energy of a structure: the sum over its opening places
abbrev pub energy_of : List ℕ → List ℕ → ℤ
energy_of b t = total (view b) (view t) (length t)

-- bases and a table of which every loop has a figure
pub record Chargeable (b t : List ℕ) : Type 0 where
  pub candidate : Candidate (view b) (view t) 0 (length t)
  pub bases : length t ≤ length b
  pub short : length t ≤ longest + 2
