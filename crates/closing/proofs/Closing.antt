-- Laws of closing pairs: what it says that one may close, and the bounds of its figures.
use mathlib.Core.Path.{◌≡◌}
use Prim.Native.Nat.{ℕ, suc, ◌+◌, ◌-◌, ◌<◌, ◌≤◌}
use mathlib.Core.Bool.{true}
use native.Mathlib.Omega.{arith}
use lib.IntN.{pos, negsuc}
use Rattle.bases.specs.Bases.{pair_index, can_pair}
use Rattle.ints.specs.Ints.{In}
use Rattle.ints.proofs.Ints.{ints}
use Rattle.figures.specs.Figures.{smallest_hairpin}
use Rattle.figures.specs.Charge.{between, figure_most}
use Rattle.figures.specs.Sides.{side_charge}
use Rattle.figures.proofs.Charges.{stack_at_in, bulge_of_in, internal_of_in, hairpin_of_in}
use Rattle.figures.proofs.Flanks.{side_any}
use Rattle.closing.specs.Closing.{own, purines, hairpin_at, may_close}

pub purines_le : (x y : ℕ) → purines x y ≤ 2
unfolding purines
purines_le x y = grind arith

-- ---- which pairs may close
module _ (b : ℕ → ℕ) (i j : ℕ) (e : may_close b i j ≡ true) where
  pub close_pair : can_pair (b i) (b j) ≡ true
  unfolding may_close
  close_pair = grind arith

  pub close_far : smallest_hairpin < j - i
  unfolding may_close
  close_far = grind arith

-- ---- figures
-- with two bases or more between the pairs, a loop's own figure is that of the sides
pub own_side : (b : ℕ → ℕ) (i j x y : ℕ) → 2 ≤ (x - suc i) + (j - suc y) → own b i j x y ≡ side_charge (x - suc i) (j - suc y)
unfolding own
own_side b i j x y h = side_any (x - suc i) (j - suc y) (pair_index (b i) (b j)) (pair_index (b x) (b y)) h

pub own_in : (b : ℕ → ℕ) (i j x y : ℕ) → In (negsuc 3399) (pos figure_most) (own b i j x y)
unfolding own between
own_in b i j x y =
    let o = pair_index (b i) (b j) in
    let n = pair_index (b x) (b y) in
    let l = x - suc i in
    let r = j - suc y in
    grind (ints, stack_at_in o n, bulge_of_in l o n, bulge_of_in r o n, internal_of_in l r)

pub hairpin_at_in : (b : ℕ → ℕ) (i j : ℕ) → In (negsuc 799) (pos figure_most) (hairpin_at b i j)
unfolding hairpin_at
hairpin_at_in b i j = hairpin_of_in (j - suc i) (purines (b (i + 1)) (b (j - 1)))
