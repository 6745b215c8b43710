-- Mountains: a running height is the height; how far heights and sums go; and what two tables are due. Assumes nothing.
use mathlib.Core.Path.{◌≡◌, ap}
use mathlib.Core.Bool.{cond, not, ◌||◌}
use mathlib.Core.Logic.{by_cases}
use mathlib.Core.List.{List}
use Prim.Native.Nat.{ℕ, zero, suc, ◌+◌, ◌-◌, ◌*◌, ◌<◌, ◌≤◌}
use native.Mathlib.Omega.{arith}
use native.Mathlib.Numerals.{add-one}
use native.Mathlib.Decide.{ℕ_discrete}
use lib.Dec.{ltb, eqb}
use lib.ListN.{length}
use borrow.Author.Tests.{ltb-false, eq-eqb, ne_eqb, eqb-true, not-false}
use Rattle.refusals.specs.Refusals.{clear, check, then, structure_limit}
use Rattle.std.proofs.Common.{None}
use Rattle.refusals.proofs.Laws.{check_clear, then_clear, neither}
use Rattle.structure.specs.Table.{Fold, Sound, opens, opened, closes, closed}
use Rattle.structure.specs.Soundness.{unsound_due}
use Rattle.structure.proofs.Counts.{opens_le, opened_le}
use Rattle.structure.proofs.Levels.{closed_below}
use Rattle.structure.proofs.Checking.{sound}
use Rattle.distances.specs.Distance.{both_due, lacks, apart, height, between, climbs}

module _ (p : ℕ → ℕ) where
  -- one step of a running height: it never falls below the ground, and is the height at the position passed
  pub height_step : {n : ℕ} (i h : ℕ) → Fold p 0 n → i < n → h ≡ opened p i - closed p i
      → (closes i (p i) ≤ h + opens i (p i)) × ((h + opens i (p i)) - closes i (p i) ≡ height p i)
  height_step {n} i h s l e =
      let u = closed_below p {k = i} s (omega arith) (omega arith) in
      let v = closed_below p {k = suc i} s (omega arith) l in
      (omega arith, omega arith)

-- a pair opens at a position once in each table
pub lacking_le : (k v w : ℕ) → cond (eqb w v) 0 (opens k v) ≤ 1
lacking_le k v w = by_cases (ℕ_discrete w v) (λ e. rw (eq-eqb w v e) (omega arith)) (λ n. rw (ne_eqb w v n) (opens_le k v))

module _ (p q : ℕ → ℕ) where
  pub apart_step : (i n v : ℕ) → n ≡ apart p q i → v ≡ lacks p q i + lacks q p i → n + v ≡ apart p q (i + 1)
  apart_step i n v e o = rw (add-one i) (omega arith)

  pub apart_le : (k : ℕ) → apart p q k ≤ 2 * k
  apart_le zero = omega arith
  apart_le (suc k) = omega (arith, apart_le k, lacking_le k (p k) (q k), lacking_le k (q k) (p k))

  pub climbs_le : (k : ℕ) → k ≤ structure_limit → climbs p q k ≤ structure_limit * k
  climbs_le zero h = omega arith
  climbs_le (suc k) h = omega (arith, climbs_le k (omega arith), opened_le p (suc k), opened_le q (suc k))

  -- where a walk along both mountains stands before position i: the heights x and y, and the sum n so far
  pub record Climbing (i x y n : ℕ) : Type 0 where
    pub left : x ≡ opened p i - closed p i
    pub right : y ≡ opened q i - closed q i
    pub total : n ≡ climbs p q i

  pub climbing_step : {x y n : ℕ} (i x' y' d : ℕ) → Climbing i x y n → x' ≡ height p i → y' ≡ height q i → d ≡ between x' y'
      → Climbing (i + 1) x' y' (n + d)
  climbing_step i x' y' d c e f g =
      let t = c.total in
      record {
        left = rw (add-one i) e;
        right = rw (add-one i) f;
        total = rw (add-one i) (omega (arith, ap (λ (z : ℕ). between z y') e, ap (between (height p i)) f));
      }

-- ---- what two tables are due

-- tables that are due nothing are short enough, of one length, and sound
pub both_clear : (s t : List ℕ) → both_due s t ≡ clear → (length s ≡ length t) × (length s ≤ structure_limit) × Sound s × Sound t
unfolding both_due
both_clear s t e =
    let long = ltb structure_limit (length s) || ltb structure_limit (length t) in
    let other = not (eqb (length s) (length t)) in
    let unsound = then (unsound_due s) (unsound_due t) in
    let c = then_clear (check long 3 None) (then (check other 9 None) unsound) e in
    let d = then_clear (check other 9 None) unsound c.1 in
    let f = then_clear (unsound_due s) (unsound_due t) d.1 in
    let same = eqb-true (length s) (length t) (not-false _ (check_clear other 9 None d.0)) in
    let short = ltb-false structure_limit (length s) (neither (ltb structure_limit (length s)) (ltb structure_limit (length t)) (check_clear long 3 None c.0)).0 in
    (same, short, sound s (omega arith) f.0, sound t (omega arith) f.1)
