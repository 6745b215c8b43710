-- What the loop that opens at i costs: the only place that knows how a loop with one inner pair is charged.
use mathlib.Core.Path.{◌≡◌, refl, ◌∙◌, sym, ap}
use mathlib.Core.Logic.{◌⊎◌, ⊎_elim, by_cases}
use native.Mathlib.Decide.{ℕ_discrete}
use lib.IntN.{ℤ}
use Prim.Native.Nat.{ℕ, zero, suc, ◌-◌, ◌<◌, ◌≤◌}
use native.Mathlib.Omega.{arith}
use lib.Signed.{◌≤ℤ◌}
use Rattle.ints.proofs.Ints.{ints}
use Rattle.figures.specs.Figures.{longest_side}
use Rattle.figures.specs.Charge.{many_of, between, charge_of}
use Rattle.closing.specs.Closing.{own, hairpin_at}
use Rattle.charges.specs.Loops.{arms_in, first_in, single, kind_by, kind, charge_by, charge_at}

-- a loop with one inner pair asks for no bases of a hairpin
between_any : (l r o i p : ℕ) → charge_of (between l r) o i p ≡ charge_of (between l r) o i 0
unfolding between
between_any l r o i p = grind arith

-- ---- a loop with one inner pair (x, y)
module _ (b : ℕ → ℕ) (i j x y : ℕ) where
  abbrev cost : ℤ
  cost = charge_by b i j x y (single b i j x y)

  single_many : cost ≤ℤ many_of 1
  unfolding single charge_by own
  single_many = grind (ints, between_any)

  single_own : x - suc i ≤ longest_side → j - suc y ≤ longest_side → cost ≤ℤ own b i j x y
  unfolding single charge_by own
  single_own l r = grind (ints, between_any)

  single_one : (cost ≡ many_of 1) ⊎ ((x - suc i ≤ longest_side) × (j - suc y ≤ longest_side) × (cost ≡ own b i j x y))
  unfolding single charge_by own
  single_one = grind (ints, between_any)

-- ---- the loop that opens at i
module _ (b p : ℕ → ℕ) (i : ℕ) where
  -- its inner pairs, and the first of them
  abbrev pub inside : ℕ
  inside = arms_in p (suc i) (p i)

  abbrev pub head : ℕ
  head = first_in p (suc i) (p i)

  pub data Charged : Type 0 where
    by_hairpin : inside ≡ 0 → charge_at b p i ≡ hairpin_at b i (p i) → Charged
    by_inner : inside ≡ 1 → head - suc i ≤ longest_side → p i - suc (p head) ≤ longest_side → charge_at b p i ≡ own b i (p i) head (p head) → Charged
    by_arms : 1 ≤ inside → charge_at b p i ≡ many_of inside → Charged

  -- its charge, by their number
  pub none : inside ≡ 0 → charge_at b p i ≡ hairpin_at b i (p i)
  unfolding kind kind_by charge_at charge_by hairpin_at
  none e = rw e

  one : inside ≡ 1 → charge_at b p i ≡ cost b i (p i) head (p head)
  unfolding kind kind_by charge_at
  one e = rw e

  more : 1 < inside → charge_at b p i ≡ many_of inside
  unfolding kind kind_by charge_at charge_by
  more h = grind arith

  charged_by : (m : ℕ) → inside ≡ m → Charged
  charged_by zero e = by_hairpin e (none e)
  charged_by (suc zero) e =
      ⊎_elim (λ q. by_arms (omega arith) (one e ∙ (q ∙ ap many_of (sym e)))) (λ q. by_inner e q.0 q.1 (one e ∙ q.2)) (single_one b i (p i) head (p head))
  charged_by (suc (suc m)) e = by_arms (omega arith) (more (omega arith))

  pub charged : Charged
  charged = charged_by inside refl

  -- at most its own figure, and at most that of a many-armed loop
  pub inner_most : inside ≡ 1 → head - suc i ≤ longest_side → p i - suc (p head) ≤ longest_side → charge_at b p i ≤ℤ own b i (p i) head (p head)
  inner_most e l r = rw (one e) (single_own b i (p i) head (p head) l r)

  pub arms_most : 1 ≤ inside → charge_at b p i ≤ℤ many_of inside
  arms_most h =
      by_cases (ℕ_discrete inside 1)
      (λ e. rw (one e, e) (single_many b i (p i) head (p head)))
      (λ n. rw (more (omega arith)) (omega ints))
