-- The charges of loops with one inner pair by their sides: the pairs themselves count only in a stack and in a bulge of one base, and all others are at least 0.
use mathlib.Core.Path.{◌≡◌}
use Prim.Native.Nat.{ℕ, ◌+◌, ◌≤◌, ◌<◌}
use native.Mathlib.Omega.{arith}
use lib.IntN.{pos}
use Rattle.ints.specs.Ints.{In}
use Rattle.ints.proofs.Ints.{ints}
use Rattle.figures.specs.Figures.{longest_side}
use Rattle.figures.specs.Charge.{bulge_of, internal_of, between, charge_of, Figured, figure_most}
use Rattle.figures.specs.Sides.{side_charge}
use Rattle.figures.proofs.Charges.{sized_bulge, internal_of_in}

-- ---- by the sides
-- sides that are not too long have a figure
pub between_figured : (l r o i p : ℕ) → l ≤ longest_side → r ≤ longest_side → o < 6 → i < 6 → Figured (between l r) o i p
unfolding between
between_figured l r o i p a c d e = grind arith

-- its charge is that of its sides, whatever the pairs
pub side_any : (l r o i : ℕ) → 2 ≤ l + r → charge_of (between l r) o i 0 ≡ side_charge l r
unfolding side_charge between bulge_of
side_any l r o i h = grind arith

pub side_in : (l r : ℕ) → 2 ≤ l + r → In (pos 0) (pos figure_most) (side_charge l r)
unfolding side_charge between bulge_of figure_most
side_in l r h = grind (ints, sized_bulge l, sized_bulge r, internal_of_in l r)

-- ---- the parts of an internal loop, as the code finds them
pub side_both : (l r : ℕ) → (l ≡ 0 → ⊥) → (r ≡ 0 → ⊥) → internal_of l r ≡ side_charge l r
unfolding side_charge between
side_both l r n m = grind arith
